-- A call on a line with all its stations.
use Rattle.std.specs.Prelude.{◌≡◌, ℕ, ◌<◌, List}
use Rattle.machine.specs.Kinds.{Kind}
use Rattle.ordering.specs.Answering.{answer_of}
use Rattle.ordering.specs.declared.calls.Answer.{Answer}
use Rattle.ordering.specs.declared.calls.Call.{Call}
use Rattle.ordering.specs.declared.calls.Call.TheVariants.{Open, Send, Hear, Gather, Settle, Run}
use Rattle.ordering.specs.Limits.{member_limit}
use Rattle.ordering.specs.Lines.{Line}
use Rattle.ordering.specs.Steps.{Outcome}
use Rattle.ordering.specs.Worlds.{moved, step}

-- The call answers r, leaves the line as the step has it, and moves the station that the step moves and no other.
pub record AskedAll (K : Kind) (l : Line) (c : Call) (held : ℕ → List ℕ) (r : Outcome Answer) (l' : Line) (held' : ℕ → List ℕ) : Type 0 where
  pub answer : answer_of (step K l c).event ≡ r
  pub line : (step K l c).line ≡ l'
  pub cells : (m : ℕ) → m < member_limit → moved K (step K l c).move held m ≡ held' m

-- The member that a run names, and 0 for any other call.
abbrev pub member_of : Call → ℕ
member_of (Open n last) = 0
member_of (Send sender set c) = 0
member_of (Hear q k) = 0
member_of (Gather q k) = 0
member_of (Settle q k) = 0
member_of (Run q) = q
