-- One call on a line with its stations, and what a list of calls leads to.
use Rattle.std.specs.Prelude.{ℕ, List, [], ◌∷◌, Some, None, Ok, Err, Option}
use Rattle.machine.specs.declared.command.Command.{Command}
use Rattle.machine.specs.Kinds.{Kind}
use Rattle.ordering.specs.declared.calls.Call.{Call}
use Rattle.ordering.specs.declared.calls.Call.TheVariants.{Open, Send, Hear, Gather, Settle, Run}
use Rattle.ordering.specs.declared.calls.Refusal.TheVariants.{AlreadyOpen, Closed}
use Rattle.ordering.specs.Histories.{Event, opening, sending, hearing, gathering, settling, running}
use Rattle.ordering.specs.Lines.{Book, Line, closed, opened}
use Rattle.ordering.specs.Searches.{put}
use Rattle.ordering.specs.Steps.{Outcome, Ran, open_closed, send, hear, gather, settle, run}

-- A station that moves, and the command that it runs.
pub record Move : Type 0 where
  pub member : ℕ
  pub command : Command

-- What one call comes to: the call with its answer, the line afterwards, and the station that moves, if one does.
pub record Turn : Type 0 where
  pub event : Event
  pub line : Line
  pub move : Option Move

-- A call that moves no station.
abbrev pub still : Event → Line → Turn
still e l = record { event = e; line = l; move = None }

abbrev pub open_turn : ℕ → ℕ → Outcome Book → Turn
open_turn n last (Ok b) = still (opening n last (Ok tt)) (opened b)
open_turn n last (Err e) = still (opening n last (Err e)) closed

-- The call's answer, with the line afterwards or, after a refusal, as it was.
abbrev pub book_turn : {A : Type 0} → (Outcome A → Event) → Book → Outcome (A × Book) → Turn
book_turn event b (Ok r) = still (event (Ok r.0)) (opened r.1)
book_turn event b (Err e) = still (event (Err e)) (opened b)

abbrev pub run_turn : ℕ → Book → Outcome Ran → Turn
run_turn m b (Ok r) =
    record { event = running m (Ok r.pair); line = opened r.book; move = Some (record { member = m; command = r.command }) }
run_turn m b (Err e) = still (running m (Err e)) (opened b)

abbrev pub closed_turn : Call → Turn
closed_turn (Open n last) = open_turn n last (open_closed n last)
closed_turn (Send sender set c) = still (sending sender set c (Err Closed)) closed
closed_turn (Hear m k) = still (hearing m k (Err Closed)) closed
closed_turn (Gather m k) = still (gathering m k (Err Closed)) closed
closed_turn (Settle m k) = still (settling m k (Err Closed)) closed
closed_turn (Run m) = still (running m (Err Closed)) closed

abbrev pub opened_turn : Kind → Book → Call → Turn
opened_turn K b (Open n last) = still (opening n last (Err AlreadyOpen)) (opened b)
opened_turn K b (Send sender set c) = book_turn (sending sender set c) b (send b sender set c)
opened_turn K b (Hear m k) = book_turn (hearing m k) b (hear K b m k)
opened_turn K b (Gather m k) = book_turn (gathering m k) b (gather b m k)
opened_turn K b (Settle m k) = book_turn (settling m k) b (settle b m k)
opened_turn K b (Run m) = run_turn m b (run K b m)

-- The step of a line.
abbrev pub step : Kind → Line → Call → Turn
step K closed c = closed_turn c
step K (opened b) c = opened_turn K b c

-- The cells of the stations, by member, when one moves.
abbrev pub moved : Kind → Option Move → (ℕ → List ℕ) → ℕ → List ℕ
moved K None cells = cells
moved K (Some v) cells = put v.member (K.next (cells v.member) v.command) cells

-- A line, the cells of its stations by member, and the calls with their answers so far, the latest first.
pub record World : Type 0 where
  pub line : Line
  pub cells : ℕ → List ℕ
  pub history : List Event

-- A new line and freshly started stations.
abbrev pub new_world : Kind → World
new_world K = record { line = closed; cells = λ m. K.starting; history = [] }

abbrev pub turned : Kind → World → Turn → World
turned K w t = record { line = t.line; cells = moved K t.move w.cells; history = t.event ∷ w.history }

-- Where a list of calls, the latest first, leads a new line and fresh stations.
abbrev pub after : Kind → List Call → World
after K [] = new_world K
after K (c ∷ cs) = turned K (after K cs) (step K (after K cs).line c)
