-- What the call that runs a script leaves and answers.
use Rattle.std.specs.Prelude.{◌≡◌, ℕ, List, ◌++◌, length, drop}
use Rattle.runner.specs.declared.run.Report.{Report}
use Rattle.runner.specs.Runs.{Outcome}

-- The trace of the outcome stands at the front of the caller's bytes, and behind it they are as they were; the answer
-- says how many bytes it has, and the fault.
pub record Reported (o : Outcome) (before now : List ℕ) (r : Report) : Type 0 where
  pub trace : now ≡ o.trace ++ drop (length o.trace) before
  pub written : r.written ≡ length o.trace
  pub fault : r.fault ≡ o.fault
