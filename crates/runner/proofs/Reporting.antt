-- The call that runs a script: what is left and answered, and the ordering theorem of its calls.
use Rattle.std.proofs.Common.{ℕ, Bool, true, false, cond, ltb, List, [], length, Some}
use Rattle.machine.specs.Banks.{bank_laws}
use Rattle.machine.specs.Records.{recorder_laws}
use Rattle.machine.specs.TalliesLemmas.{tally_laws}
use Rattle.machine.specs.Kinds.{Laws}
use Rattle.ordering.proofs.Always.{ordered_always}
use Rattle.ordering.specs.declared.calls.Call.{Call}
use Rattle.ordering.specs.Ordering.{Ordered}
use Rattle.ordering.specs.Worlds.{after}
use Rattle.script.specs.declared.faults.Cause.TheVariants.{ScriptTooLong}
use Rattle.script.specs.declared.steps.MachineKind.{MachineKind}
use Rattle.script.specs.declared.steps.MachineKind.TheVariants.{AxisBank, Recorder, Tally}
use Rattle.runner.specs.Runs.{ended, fault_as, runs}
use Rattle.runner.specs.Scripts.{kind_of_script, made, outcome, script_limit}
use Rattle.runner.specs.Told.{Told}
use Rattle.runner.proofs.Telling.{told_nothing, told_runs}

made_laws : (k : MachineKind) → Laws (made k)
made_laws AxisBank = bank_laws
made_laws Recorder = recorder_laws
made_laws Tally = tally_laws

pub made_ordered : (k : MachineKind) (cs : List Call) → Ordered (made k) (after (made k) cs)
made_ordered k cs = ordered_always (made k) (made_laws k) cs

-- Whatever a script comes to, its trace tells the calls and the cells.
pub outcome_told : (script : List ℕ) (room : ℕ) → Told (made (kind_of_script script)) (outcome script room)
outcome_told script room = go (ltb script_limit (length script))
  where
    go : (t : Bool) → Told (made (kind_of_script script)) (cond t (ended [] (Some (fault_as ScriptTooLong 0 0))) (runs (made (kind_of_script script)) script room))
    go true = told_nothing (made (kind_of_script script)) (fault_as ScriptTooLong 0 0)
    go false = told_runs (made (kind_of_script script)) script room
