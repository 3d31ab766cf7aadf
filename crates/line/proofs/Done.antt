-- A call that is done: it answers what the model answers, and the tables are then what the model has and sound.
use Rattle.std.proofs.Common.{◌≡◌, Ok}
use Rattle.line.specs.declared.parts.Tables.{Tables}
use Rattle.line.specs.Tables.{Good, view_tables}
use Rattle.machine.specs.declared.command.Command.{Command}
use Rattle.ordering.specs.Lines.{Book}
use Rattle.ordering.specs.Searches.{Pair}
use Rattle.ordering.specs.Steps.{Outcome, Ran}

abbrev pub Done : {A : Type 0} → Outcome (A × Book) → A → Tables → Type 0
Done x a b = (x ≡ Ok (a, view_tables b)) × Good b

abbrev pub RunDone : Outcome Ran → Pair → Command → Tables → Type 0
RunDone x p c b = (x ≡ Ok (record { pair = p; command = c; book = view_tables b })) × Good b
