-- A whole script: the kind of its stations, and what it comes to.
use Rattle.std.specs.Prelude.{ℕ, zero, suc, cond, List, [], length, drop, Some, None, Ok, Err, Option, nat_le, nat_lt}
use Rattle.std.specs.Result.{is_ok}
use Rattle.machine.specs.AxisBanks.{axis_bank}
use Rattle.machine.specs.Kinds.{Kind}
use Rattle.machine.specs.Recorders.{recorder}
use Rattle.machine.specs.Tallies.{tally}
use Rattle.ordering.specs.Answering.{answer_of}
use Rattle.ordering.specs.Worlds.{closed_turn}
use Rattle.script.specs.declared.faults.Cause.TheVariants.{ScriptTooLong}
use Rattle.script.specs.declared.steps.MachineKind.{MachineKind}
use Rattle.script.specs.declared.steps.MachineKind.TheVariants.{AxisBank, Recorder, Tally}
use Rattle.script.specs.declared.steps.Step.{Step}
use Rattle.script.specs.declared.steps.StepRead.{StepRead}
use Rattle.script.specs.Fields.{Read}
use Rattle.script.specs.Steps.{step_at}
use Rattle.runner.specs.Runs.{Outcome, ended, fault_as, runs}

-- A script has at most this many bytes.
abbrev pub script_limit : ℕ
script_limit = 65536

abbrev pub made : MachineKind → Kind
made AxisBank = axis_bank
made Recorder = recorder
made Tally = tally

-- The kind that a step fixes on a closed line: that of an open that is accepted.
abbrev pub fixes : Step → Option MachineKind
fixes s = cond (is_ok (answer_of (closed_turn s.call).event)) s.kind None

-- The same of what is read of a record.
abbrev pub fixed_by : Read StepRead → Option MachineKind
fixed_by (Ok s) = fixes s.step
fixed_by (Err e) = None

-- The first kind that a step fixes. A line is closed until then, so this step is the first open that is accepted.
-- Where none is, no station is ever used or shown, and any kind will do.
abbrev pub or_else : Option MachineKind → MachineKind → MachineKind
or_else None more = more
or_else (Some k) more = k

abbrev pub kind_in : (ℕ → MachineKind) → Read StepRead → MachineKind
kind_in more (Err e) = Tally
kind_in more (Ok s) = or_else (fixes s.step) (more s.next)

abbrev pub kind_from : List ℕ → ℕ → ℕ → MachineKind
kind_from script zero at = Tally
kind_from script (suc fuel) at =
    cond (nat_le (length script) at) Tally (kind_in (kind_from script fuel) (step_at (drop at script) at))

unfoldable pub kind_of_script : List ℕ → MachineKind
kind_of_script script = kind_from script (suc (length script)) 0

-- What a script comes to, with so many bytes for the trace.
abbrev pub outcome : List ℕ → ℕ → Outcome
outcome script room =
    cond (nat_lt script_limit (length script)) (ended [] (Some (fault_as ScriptTooLong 0 0))) (runs (made (kind_of_script script)) script room)
