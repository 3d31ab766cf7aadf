-- The ordering theorem, read from the calls, their answers and the stations' cells alone.
use Rattle.std.specs.Prelude.{◌≡◌, ℕ, ◌*◌, ◌<◌, ◌≤◌, Bool, true, false, ◌||◌, ◌⊎◌, ◌↔◌, List, [], ◌∷◌, Some, None, Ok, Err, Option, ◌==◌}
use Rattle.machine.specs.declared.command.Command.{Command}
use Rattle.machine.specs.Kinds.{Kind}
use Rattle.ordering.specs.declared.calls.Call.{Call}
use Rattle.ordering.specs.Histories.{Event, opening, sending, hearing, gathering, settling, running, Account, Issue, read}
use Rattle.ordering.specs.Limits.{member_limit}
use Rattle.ordering.specs.Lines.{Line}
use Rattle.ordering.specs.Searches.{Pair, names, count_below, greatest_below}
use Rattle.ordering.specs.Worlds.{World, after, step}

-- The pair (t, i) is earlier than (u, j): t < u, or t = u and i < j.
abbrev pub Earlier : Pair → Pair → Type 0
Earlier p q = (p.0 < q.0) ⊎ ((p.0 ≡ q.0) × (p.1 < q.1))

-- Member m is a destination of an accepted send.
abbrev pub To : Issue → ℕ → Type 0
To d m = names d.set m ≡ true

-- The list has the number k.
abbrev pub has : ℕ → List ℕ → Bool
has k [] = false
has k (j ∷ js) = j == k || has k js

-- The number k ran at member m.
abbrev pub RanAt : Account → ℕ → ℕ → Type 0
RanAt a m k = has k (a.runs_at m) ≡ true

-- In a list with the latest first, k stands behind j: k came before j.
abbrev pub Before : ℕ → ℕ → List ℕ → Type 0
Before k j [] = ⊥
Before k j (x ∷ xs) = ((x ≡ j) × (has k xs ≡ true)) ⊎ Before k j xs

-- No number stands twice in the list.
abbrev pub Once : List ℕ → Type 0
Once [] = Unit {0}
Once (x ∷ xs) = (has x xs ≡ false) × Once xs

abbrev pub answer : Option ℕ → ℕ
answer None = 0
answer (Some t) = t

-- The greatest answer of the accepted hears of k.
abbrev pub greatest_answer : Account → ℕ → ℕ
greatest_answer a k = greatest_below member_limit (λ q. answer (a.heard_at k q))

-- The number k was sent as d, and its final timestamp is f: every destination has gathered it, and f is the greatest
-- answer of its hears.
pub record Final (a : Account) (k : ℕ) (d : Issue) (f : ℕ) : Type 0 where
  pub sent : a.sent_as k ≡ Some d
  pub fixed : (q : ℕ) → To d q → a.gathered_at k q ≡ true
  pub value : f ≡ greatest_answer a k

-- Cells

-- A command with its issue number and final timestamp.
pub record Entry : Type 0 where
  pub final : ℕ
  pub number : ℕ
  pub command : Command

abbrev pub pair_of : Entry → Pair
pair_of e = (e.final, e.number)

-- The list has an entry with the number k.
abbrev pub Listed : ℕ → List Entry → Type 0
Listed k [] = ⊥
Listed k (e ∷ es) = (e.number ≡ k) ⊎ Listed k es

-- Every entry of the list has the property.
abbrev pub Each : (Entry → Type 0) → List Entry → Type 0
Each P [] = Unit {0}
Each P (e ∷ es) = P e × Each P es

-- Each entry is later than all behind it: in the order of pairs, the latest first, and so each once.
abbrev pub Rising : List Entry → Type 0
Rising [] = Unit {0}
Rising (e ∷ es) = Each (λ x. Earlier (pair_of x) (pair_of e)) es × Rising es

-- The entry is a command that ran at m, with its own command and final timestamp.
pub record Right (a : Account) (m : ℕ) (e : Entry) : Type 0 where
  pub ran : RanAt a m e.number
  pub issue : Issue
  pub final : Final a e.number issue e.final
  pub own : issue.command ≡ e.command

-- A plain machine fed with the entries, the earliest first.
abbrev pub plain : Kind → List Entry → List ℕ
plain K [] = K.starting
plain K (e ∷ es) = K.next (plain K es) e.command

-- There is a list of the commands that ran at m, each once, none missing, rising in (final timestamp, issue number),
-- and the cells are those of a plain machine fed with it.
pub record Fed (K : Kind) (a : Account) (m : ℕ) (cells : List ℕ) : Type 0 where
  pub entries : List Entry
  pub right : Each (Right a m) entries
  pub complete : (k : ℕ) → RanAt a m k → Listed k entries
  pub rising : Rising entries
  pub same : cells ≡ plain K entries

-- Order

-- Of two conflicting commands with fixed final timestamps and a common destination m, the earlier has run at m, and
-- before the later, if the later has run there.
abbrev pub InOrder : Kind → Account → Type 0
InOrder K a =
    (m k j f g : ℕ) (d e : Issue) →
    Final a k d f → Final a j e g → To d m → To e m → K.conflict d.command e.command ≡ true →
    Earlier (f, k) (g, j) → RanAt a m j → RanAt a m k × Before k j (a.runs_at m)

-- Progress and cost

-- The event is an accepted hear, gather, settle or run.
abbrev pub is_step : Event → Bool
is_step (opening n last r) = false
is_step (sending sender set c r) = false
is_step (hearing m k (Ok t)) = true
is_step (hearing m k (Err e)) = false
is_step (gathering m k (Ok f)) = true
is_step (gathering m k (Err e)) = false
is_step (settling m k (Ok t)) = true
is_step (settling m k (Err e)) = false
is_step (running m (Ok p)) = true
is_step (running m (Err e)) = false

-- A call that the line would accept now as a hear, gather, settle or run, and the answer.
pub record NextStep (K : Kind) (l : Line) : Type 0 where
  pub call : Call
  pub event : Event
  pub answers : (step K l call).event ≡ event
  pub accepted : is_step event ≡ true

abbrev pub destination_count : Issue → ℕ
destination_count d = count_below member_limit (names d.set)

-- Four steps for each destination and no more, and all of them exactly when the command ran at each.
pub record Cost (a : Account) (k : ℕ) (d : Issue) : Type 0 where
  pub most : a.steps_of k ≤ 4 * destination_count d
  pub all : (a.steps_of k ≡ 4 * destination_count d) ↔ ((m : ℕ) → To d m → RanAt a m k)

-- The theorem

pub record Ordered (K : Kind) (w : World) : Type 0 where
  pub cells : (m : ℕ) → Fed K (read w.history) m (w.cells m)
  pub order : InOrder K (read w.history)
  pub once : (m : ℕ) → Once ((read w.history).runs_at m)
  pub progress : (k m : ℕ) (d : Issue) → (read w.history).sent_as k ≡ Some d → To d m → (RanAt (read w.history) m k → ⊥) → NextStep K w.line
  pub cost : (k : ℕ) (d : Issue) → (read w.history).sent_as k ≡ Some d → Cost (read w.history) k d

-- For every list of calls.
abbrev pub OrderedAlways : Kind → Type 0
OrderedAlways K = (cs : List Call) → Ordered K (after K cs)
