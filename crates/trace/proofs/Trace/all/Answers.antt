use Rattle.std.proofs.lemmas.List.{take_more}
use Rattle.trace.proofs.Appending.{then}
use Rattle.trace.proofs.Trace.all.Goals as goal

pub loop-b-preserved : goal.loop-b-preserved
loop-b-preserved c = rw (take_more c.args.bytes.now c.loop-b.b-index 0 c.loop-b-test.true) (then _ _ _ _ _ c.loop-b.invariant c.byte.ensures)
