use Rattle.std.proofs.Common.{arith}
use Rattle.record.proofs.Arms.{inside_more, inside_stop}
use Rattle.record.proofs.fields.quoted_length.Goals as goal

pub loop-more-preserved : goal.loop-more-preserved
loop-more-preserved c = inside_more _ _ _ _ c.loop-more.invariant.0 c.loop-more.invariant.1 c.in-Some.ensures.0 c.in-Some.ensures.1

pub returns-clause-is : goal.returns-clause-is
returns-clause-is c = omega (arith, c.loop-more.invariant.0, inside_stop c.loop-more.rest.now c.in_default.ensures)
