use Rattle.std.proofs.Common.{rules}
use Rattle.script.proofs.Numerals.{reads_as}
use Rattle.script.proofs.numbers.number.Goals as goal

pub returns-then-is_shaped-clause-reads : goal.returns-then-is_shaped-clause-reads
returns-then-is_shaped-clause-reads c = reads_as _ _ (search rules)

pub returns-else-is_shaped-clause-reads : goal.returns-else-is_shaped-clause-reads
returns-else-is_shaped-clause-reads c = reads_as _ _ (search rules)
