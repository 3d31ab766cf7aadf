-- What writing an outcome into a trace comes to.
use Rattle.std.specs.Prelude.{◌≡◌, ℕ, ◌-◌, ◌≤◌, List, ◌++◌, length, Some, Ok, Err, Result}
use Rattle.std.specs.Result.{result_err}
use Rattle.ordering.specs.declared.calls.Call.{Call}
use Rattle.script.specs.declared.faults.Fault.{Fault}
use Rattle.trace.specs.Appending.{Adds}
use Rattle.trace.specs.declared.Trace.{Trace}
use Rattle.runner.specs.Runs.{Outcome, ended, writes, writes_all}

-- How many bytes are left.
abbrev pub room_of : Trace → ℕ
room_of t = length t.bytes.now - t.used

-- The bytes of the outcome are added to the trace, which has room for them, and its fault is answered.
pub record Wrote (o : Outcome) (t t' : Trace) (r : Result (Unit {0}) Fault) : Type 0 where
  pub adds : Adds t o.trace t'
  pub fits : length o.trace ≤ room_of t
  pub fault : result_err r ≡ o.fault

-- Some bytes of the whole outcome are added to the trace, and this of it is left.
pub record Sofar (whole left : Outcome) (t t' : Trace) : Type 0 where
  pub done : List ℕ
  pub adds : Adds t done t'
  pub fits : length done ≤ room_of t
  pub same : whole ≡ writes done left

-- Records are written, whatever comes behind them; or one of them has no room.
abbrev pub WroteRecords : Fault → List (List ℕ) → Trace → Trace → Result (Unit {0}) Fault → Type 0
WroteRecords full rs t t' (Ok u) =
    (cs : List Call) (more : List (List ℕ)) → Sofar (writes_all cs full (room_of t) (rs ++ more)) (writes_all cs full (room_of t') more) t t'
WroteRecords full rs t t' (Err f) =
    (f ≡ full) × ((cs : List Call) (more : List (List ℕ)) → Sofar (writes_all cs full (room_of t) (rs ++ more)) (ended cs (Some full)) t t')
