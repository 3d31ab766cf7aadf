use Rattle.open_commands.specs.Views.{view_open}
use Rattle.open_commands.proofs.Destinations.{SoFar}
use Rattle.open_commands.proofs.parts.OpenCommand.final_timestamp.Given as goal

abbrev pub invariant-loop-q : goal.invariant-loop-q
invariant-loop-q l = SoFar (view_open l.self) l.q l.greatest
