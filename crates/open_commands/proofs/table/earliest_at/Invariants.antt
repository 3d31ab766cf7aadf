use Rattle.open_commands.specs.Places.{BestTo}
use Rattle.open_commands.proofs.table.earliest_at.Given as goal

abbrev pub invariant-loop-place : goal.invariant-loop-place
invariant-loop-place g l = BestTo g.M.Machine.kind l.member l.commands l.place l.best
