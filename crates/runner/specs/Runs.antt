-- What a script comes to: the calls that it makes, its trace, and its fault.
use Rattle.std.specs.Prelude.{ℕ, zero, suc, ◌-◌, cond, List, [], ◌∷◌, ◌++◌, length, drop, Some, None, Ok, Err, Option, Result, nat_le, nat_lt}
use Rattle.line.specs.Counts.{member_count}
use Rattle.machine.specs.Kinds.{Kind}
use Rattle.ordering.specs.Answering.{answer_of}
use Rattle.ordering.specs.declared.calls.Answer.{Answer}
use Rattle.ordering.specs.declared.calls.Call.{Call}
use Rattle.ordering.specs.Steps.{Outcome as Answered}
use Rattle.ordering.specs.Worlds.{after, step}
use Rattle.script.specs.declared.faults.Cause.{Cause}
use Rattle.script.specs.declared.faults.Cause.TheVariants.{TraceFull}
use Rattle.script.specs.declared.faults.Fault.{Fault}
use Rattle.script.specs.declared.steps.StepRead.{StepRead}
use Rattle.script.specs.Fields.{Read}
use Rattle.script.specs.Steps.{step_at}
use Rattle.trace.specs.Records.{step_record}
use Rattle.runner.specs.Cells.{cell_records}

-- The calls made, the latest first; the bytes of the trace; the fault that ended the script, if one did.
pub record Outcome : Type 0 where
  pub calls : List Call
  pub trace : List ℕ
  pub fault : Option Fault

abbrev pub fault_as : Cause → ℕ → ℕ → Fault
fault_as cause n at = record { cause = cause; «record» = n; at = at }

-- Nothing more is written.
abbrev pub ended : List Call → Option Fault → Outcome
ended cs f = record { calls = cs; trace = []; fault = f }

-- One record of the trace, and then the rest.
abbrev pub writes : List ℕ → Outcome → Outcome
writes r o = record { calls = o.calls; trace = r ++ o.trace; fault = o.fault }

-- Records one behind the other; before each, 48 bytes have to be left.
abbrev pub writes_all : List Call → Fault → ℕ → List (List ℕ) → Outcome
writes_all cs full room [] = ended cs None
writes_all cs full room (r ∷ rs) = cond (nat_lt room 48) (ended cs (Some full)) (writes r (writes_all cs full (room - length r) rs))

-- At the end of the script: the cells of the line's stations. A closed line has no member.
abbrev pub finish : Kind → List ℕ → ℕ → List Call → Outcome
finish K script room cs =
    writes_all cs (fault_as TraceFull 0 (length script)) room (cell_records (after K cs).cells 0 (member_count (after K cs).line))

-- The answer to a call that comes after others.
abbrev pub answer_to : Kind → List Call → Call → Answered Answer
answer_to K cs c = answer_of (step K (after K cs).line c).event

-- The step of record n, which begins at an offset: there is room for its record, and it is read.
abbrev pub in_record : ℕ → Read StepRead → Result StepRead Fault
in_record n (Ok s) = Ok s
in_record n (Err e) = Err (fault_as e.cause n e.at)

abbrev pub next_step : List ℕ → ℕ → ℕ → ℕ → Result StepRead Fault
next_step script room n at = cond (nat_lt room 48) (Err (fault_as TraceFull n at)) (in_record n (step_at (drop at script) at))

-- One step: the call is made and its record written, and then comes the next; or a fault ends the script.
abbrev pub steps : (ℕ → List Call → ℕ → ℕ → Outcome) → Kind → ℕ → List Call → ℕ → Result StepRead Fault → Outcome
steps more K room cs n (Err f) = ended cs (Some f)
steps more K room cs n (Ok s) =
    writes (step_record n s.step.call (answer_to K cs s.step.call))
    (more (room - length (step_record n s.step.call (answer_to K cs s.step.call))) (s.step.call ∷ cs) (suc n) s.next)

-- The script from an offset on, where record n begins, with so much room and after such calls. A record takes a byte at
-- least, so a script has fewer records than `runs` gives.
abbrev pub runs_from : Kind → List ℕ → ℕ → ℕ → List Call → ℕ → ℕ → Outcome
runs_from K script zero room cs n at = finish K script room cs
runs_from K script (suc fuel) room cs n at =
    cond (nat_le (length script) at) (finish K script room cs) (steps (runs_from K script fuel) K room cs n (next_step script room n at))

-- The whole script, with stations of one kind and so many bytes for the trace.
unfoldable pub runs : Kind → List ℕ → ℕ → Outcome
runs K script room = runs_from K script (suc (length script)) room [] 1 0
