-- What a call of the line promises, by the model's step.
use Rattle.std.specs.Prelude.{◌≡◌, ℕ, List, Some, None, Ok, Err, Option, Result}
use Rattle.machine.specs.Kinds.{Kind}
use Rattle.ordering.specs.declared.calls.Call.{Call}
use Rattle.ordering.specs.declared.calls.Refusal.{Refusal}
use Rattle.ordering.specs.Histories.{Event}
use Rattle.ordering.specs.Lines.{Line}
use Rattle.ordering.specs.Worlds.{Move, step}

-- The call with its answer is what the step has, and the line is what the step leaves.
pub record Answers (K : Kind) (l : Line) (c : Call) (e : Event) (l' : Line) : Type 0 where
  pub event : (step K l c).event ≡ e
  pub line : (step K l c).line ≡ l'

-- A refusal leaves the value as it was.
abbrev pub KeptIf : {A X : Type 0} → Result A Refusal → X → X → Type 0
KeptIf (Ok a) x x' = Unit {0}
KeptIf (Err e) x x' = x' ≡ x

-- The cells of the station that a call concerns, when it is to move.
abbrev pub cells_after : Kind → Option Move → List ℕ → List ℕ
cells_after K None s = s
cells_after K (Some v) s = K.next s v.command
