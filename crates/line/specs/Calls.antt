-- What a call does to the tables, by the model's step.
use Rattle.std.specs.Prelude.{◌≡◌, ℕ, ◌-◌, Bool, true, false, [], length, Some, Ok, Err, Result, slice_index_or}
use Rattle.line.specs.declared.book.Book.{Book as Opened}
use Rattle.line.specs.declared.book.calls.Taken.{Taken}
use Rattle.line.specs.declared.parts.Tables.{Tables}
use Rattle.open_commands.specs.declared.parts.OpenCommand.{OpenCommand as Place}
use Rattle.std.specs.List.{slice_get}
use Rattle.line.specs.Books.{view_book}
use Rattle.line.specs.Tables.{live, removed_at}
use Rattle.open_commands.specs.Views.{view_open}
use Rattle.line.specs.Views.{new_seat}
use Rattle.ordering.specs.declared.calls.Refusal.{Refusal}
use Rattle.ordering.specs.Lines.{Book, everywhere, is_run}
use Rattle.ordering.specs.Steps.{Outcome, Ran, open_closed}

-- Tables in which nothing is open.
pub record EmptyTables (n last : ℕ) (b : Tables) : Type 0 where
  pub members : b.members ≡ n
  pub lasts : b.last ≡ last
  pub issued : b.issued ≡ 0
  pub commands : live b ≡ []
  pub seats : length b.roll ≡ 16
  pub roll : (m : ℕ) → slice_index_or b.roll m new_seat ≡ new_seat

-- The newly opened line, or why it does not open.
abbrev pub Opens : ℕ → ℕ → Result Opened Refusal → Type 0
Opens n last (Ok b) = open_closed n last ≡ Ok (view_book b)
Opens n last (Err e) = open_closed n last ≡ Err e

-- The call answers what the model answers, and the line is then what the model has; a refusal leaves it.
abbrev pub Does : {A : Type 0} → Outcome (A × Book) → Opened → Result A Refusal → Opened → Type 0
Does x b (Ok a) b' = x ≡ Ok (a, view_book b')
Does x b (Err e) b' = (x ≡ Err e) × (b' ≡ b)

-- The same of a run, with the command that the machine is to run.
abbrev pub Runs : Outcome Ran → Opened → Result Taken Refusal → Opened → Type 0
Runs x b (Ok t) b' = x ≡ Ok (record { pair = t.pair; command = t.command; book = view_book b' })
Runs x b (Err e) b' = (x ≡ Err e) × (b' ≡ b)

-- The command at place i leaves if it has run everywhere, and the last one takes its place.
abbrev pub released_by : Bool → Tables → ℕ → Tables → Type 0
released_by true b i b' = (p : Place) → slice_get (live b) (length (live b) - 1) ≡ Some p → b' ≡ removed_at b i p
released_by false b i b' = b' ≡ b

abbrev pub Releases : Tables → ℕ → Tables → Type 0
Releases b i b' = (p : Place) → slice_get (live b) i ≡ Some p → released_by (everywhere is_run (view_open p)) b i b'
