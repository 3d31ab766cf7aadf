-- A whole list of calls on a new line with fresh stations.
use Rattle.std.specs.Prelude.{◌≡◌, ℕ, ◌<◌, List, ◌++◌, map, reverse, length, take, drop}
use Rattle.machine.specs.Kinds.{Kind}
use Rattle.ordering.specs.Answering.{answer_of}
use Rattle.ordering.specs.declared.calls.Answer.{Answer}
use Rattle.ordering.specs.declared.calls.Call.{Call}
use Rattle.ordering.specs.Limits.{member_limit}
use Rattle.ordering.specs.Lines.{Line}
use Rattle.ordering.specs.Ordering.{Ordered}
use Rattle.ordering.specs.Steps.{Outcome}
use Rattle.ordering.specs.Worlds.{World, after}

-- Where the calls, the first call first, lead a new line and fresh stations.
abbrev pub played : Kind → List Call → World
played K cs = after K (reverse cs)

-- The answers to the calls, the first first.
abbrev pub answers_to : Kind → List Call → List (Outcome Answer)
answers_to K cs = map answer_of (reverse (played K cs).history)

-- The ordering theorem holds of the calls and their answers; the line and the stations are where the calls lead; and
-- the first places of the answers hold the answers to the first calls, as many as there is room for.
pub record Played (K : Kind) (cs : List Call) (before now : List (Outcome Answer)) (l : Line) (held : ℕ → List ℕ) : Type 0 where
  pub ordered : Ordered K (played K cs)
  pub line : (played K cs).line ≡ l
  pub cells : (m : ℕ) → m < member_limit → (played K cs).cells m ≡ held m
  pub answers : now ≡ take (length before) (answers_to K cs) ++ drop (length cs) before
