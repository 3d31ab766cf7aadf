use Rattle.trace.proofs.Appending.{then}
use Rattle.trace.proofs.Trace.field.Goals as goal

pub returns-in-Some : goal.returns-in-Some
returns-in-Some c = rw c.in-Some.is (then _ _ _ _ _ c.byte.ensures c.decimal.ensures)
