use Rattle.std.proofs.Common.{take}
use Rattle.trace.specs.Appending.{Adds}
use Rattle.trace.proofs.Trace.all.Given as goal

abbrev pub invariant-loop-b : goal.invariant-loop-b
invariant-loop-b l = Adds l.initial.self (take l.b-index l.bytes) l.self
