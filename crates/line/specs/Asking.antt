-- One call given as a value, and the ordering theorem of every list of calls that leads there.
use Rattle.std.specs.Prelude.{◌≡◌, ℕ, List, ◌∷◌}
use Rattle.line.specs.Promises.{cells_after}
use Rattle.machine.specs.Kinds.{Kind}
use Rattle.ordering.specs.Answering.{answer_of}
use Rattle.ordering.specs.declared.calls.Answer.{Answer}
use Rattle.ordering.specs.declared.calls.Call.{Call}
use Rattle.ordering.specs.declared.calls.Call.TheVariants.{Open, Send, Hear, Gather, Settle, Run}
use Rattle.ordering.specs.Lines.{Line}
use Rattle.ordering.specs.Ordering.{Ordered}
use Rattle.ordering.specs.Steps.{Outcome}
use Rattle.ordering.specs.Worlds.{after, step}

-- A run is for the station that is given, whose member is m.
abbrev pub call_at : Call → ℕ → Call
call_at (Open n last) m = Open n last
call_at (Send sender set c) m = Send sender set c
call_at (Hear q k) m = Hear q k
call_at (Gather q k) m = Gather q k
call_at (Settle q k) m = Settle q k
call_at (Run q) m = Run m

-- The call answers r, and leaves the line and the cells of the station as the step has them.
pub record Asked (K : Kind) (l : Line) (c : Call) (s : List ℕ) (r : Outcome Answer) (l' : Line) (s' : List ℕ) : Type 0 where
  pub answer : answer_of (step K l c).event ≡ r
  pub line : (step K l c).line ≡ l'
  pub cells : cells_after K (step K l c).move s ≡ s'

-- The list of calls, the latest first, leads a new line to l and the fresh station of member m to the cells s.
pub record Leads (K : Kind) (cs : List Call) (l : Line) (m : ℕ) (s : List ℕ) : Type 0 where
  pub line : (after K cs).line ≡ l
  pub cells : (after K cs).cells m ≡ s

-- One call more leads on, and the whole ordering theorem holds of the calls and their answers.
pub record LeadsOn (K : Kind) (c : Call) (cs : List Call) (l : Line) (m : ℕ) (s : List ℕ) (r : Outcome Answer) : Type 0 where
  pub leads : Leads K (c ∷ cs) l m s
  pub answer : answer_of (step K (after K cs).line c).event ≡ r
  pub ordered : Ordered K (after K (c ∷ cs))
