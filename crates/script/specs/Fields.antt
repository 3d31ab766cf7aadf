-- What one field says to a step.
use Rattle.std.specs.Prelude.{ℕ, cond, length, Some, None, Ok, Err, Option, Result, ◌==◌, nat_le, ok_or, option_and_then}
use Rattle.record.specs.Bytes.{Piece}
use Rattle.script.specs.declared.faults.Cause.{Cause}
use Rattle.script.specs.declared.faults.Cause.TheVariants.{BadNumber, NotEmpty}
use Rattle.script.specs.declared.steps.StepFault.{StepFault}
use Rattle.script.specs.declared.steps.MachineKind.{MachineKind}
use Rattle.script.specs.declared.steps.MachineKind.TheVariants.{AxisBank, Recorder, Tally}
use Rattle.script.specs.declared.steps.CommandKind.{CommandKind}
use Rattle.script.specs.declared.steps.CommandKind.TheVariants.{Set, Shift, Couple, Mark}
use Rattle.script.specs.Numbers.{numeral}

abbrev pub fault : Cause → ℕ → StepFault
fault cause at = record { cause = cause; at = at }

-- What reading a field comes to.
abbrev pub Read : Type 0 → Type 0
Read A = Result A StepFault

-- A number that stands for something; any other text is a bad number.
abbrev pub number_as : {A : Type 0} → (ℕ → Option A) → Piece → Read A
number_as of p = ok_or (option_and_then of (numeral p.text)) (fault BadNumber p.at)

-- A number of at most fifteen digits.
abbrev pub any_number : Piece → Read ℕ
any_number p = number_as Some p

-- A number that is at most this.
abbrev pub at_most : ℕ → ℕ → Option ℕ
at_most most n = cond (nat_le n most) (Some n) None

abbrev pub up_to : ℕ → Piece → Read ℕ
up_to most p = number_as (at_most most) p

-- No byte at all.
abbrev pub empty : Piece → Read (Unit {0})
empty p = cond (length p.text == 0) (Ok tt) (Err (fault NotEmpty p.at))

-- The kind of the machines: 1, 2 or 3.
abbrev pub machine_kind : ℕ → Option MachineKind
machine_kind n = cond (n == 1) (Some AxisBank) (cond (n == 2) (Some Recorder) (cond (n == 3) (Some Tally) None))

abbrev pub kind_of : Piece → Read MachineKind
kind_of p = number_as machine_kind p

-- The kind of a command: 1, 2, 3 or 4.
abbrev pub command_kind : ℕ → Option CommandKind
command_kind n = cond (n == 1) (Some Set) (cond (n == 2) (Some Shift) (cond (n == 3) (Some Couple) (cond (n == 4) (Some Mark) None)))
