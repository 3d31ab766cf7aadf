-- What a trace tells: the calls with their answers, the first first, and then cells.
use Rattle.std.specs.Prelude.{◌≡◌, ℕ, suc, List, [], ◌∷◌, ◌++◌, reverse, Some, None}
use Rattle.std.specs.List.{flat_map}
use Rattle.line.specs.Counts.{member_count}
use Rattle.machine.specs.Kinds.{Kind}
use Rattle.ordering.specs.declared.calls.Answer.{Answer}
use Rattle.ordering.specs.declared.calls.Call.{Call}
use Rattle.ordering.specs.Steps.{Outcome as Answered}
use Rattle.script.specs.declared.faults.Fault.{Fault}
use Rattle.stations.specs.Played.{played, answers_to}
use Rattle.trace.specs.Records.{step_record}
use Rattle.runner.specs.Cells.{cell_records}
use Rattle.runner.specs.Runs.{Outcome}

-- The records of calls with their answers, numbered from n on.
abbrev pub step_records : ℕ → List Call → List (Answered Answer) → List ℕ
step_records n [] answers = []
step_records n (c ∷ cs) [] = []
step_records n (c ∷ cs) (a ∷ answers) = step_record n c a ++ step_records (suc n) cs answers

-- The trace is the records of the calls with the answers that the line gives to them, numbered from 1, and then the
-- records of cells, from the first on: all of them if there was no fault, and none behind a fault in a record.
pub record Told (K : Kind) (o : Outcome) : Type 0 where
  pub steps : List Call
  pub calls : o.calls ≡ reverse steps
  pub shown : List (List ℕ)
  pub unshown : List (List ℕ)
  pub cells : shown ++ unshown ≡ cell_records (played K steps).cells 0 (member_count (played K steps).line)
  pub trace : o.trace ≡ step_records 1 steps (answers_to K steps) ++ flat_map (λ r. r) shown
  pub all : o.fault ≡ None → unshown ≡ []
  pub none : (f : Fault) (n : ℕ) → o.fault ≡ Some f → f.«record» ≡ suc n → shown ≡ []
