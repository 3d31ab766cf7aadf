-- What every open line keeps.
use Rattle.std.specs.Prelude.{◌≡◌, ℕ, suc, ◌+◌, ◌*◌, ◌^◌, ◌<◌, ◌≤◌, Bool, true, false, cond, Some, None, Option}
use Rattle.machine.specs.declared.command.Command.{Command}
use Rattle.ordering.specs.declared.calls.Phase.{Phase}
use Rattle.ordering.specs.declared.calls.Phase.TheVariants.{Sent, Heard, Gathered, Settled, Run}
use Rattle.ordering.specs.Limits.{member_limit}
use Rattle.ordering.specs.Lines.{OpenCommand, Book, Line, closed, opened, is_gathered, is_run, everywhere}
use Rattle.ordering.specs.Searches.{names, present, sum_below}

-- An open command has a destination that has not run; no remembered number is above the count issued; no clock
-- exceeds 32, twice the member limit, times the count issued.
pub record Keeps (b : Book) : Type 0 where
  pub unrun : (k : ℕ) (o : OpenCommand) → b.table k ≡ Some o → everywhere is_run o ≡ false
  pub known : (m k : ℕ) (c : Command) → (b.member m).remembers k ≡ Some c → k ≤ b.issued
  pub bounded : (m : ℕ) → (b.member m).clock ≤ 2 * member_limit * b.issued

-- How many hears and settles are still to come at a destination.
abbrev pub owed_by : Phase → ℕ
owed_by Sent = 2
owed_by (Heard t) = 1
owed_by (Gathered t) = 1
owed_by Settled = 0
owed_by Run = 0

abbrev pub owed_of : OpenCommand → ℕ
owed_of o = sum_below member_limit (λ q. cond (names o.set q) (owed_by (o.phase q)) 0)

abbrev pub owed_in : Option OpenCommand → ℕ
owed_in None = 0
owed_in (Some o) = owed_of o

-- The hears and settles still to come of the open commands. Each raises the greatest clock by at most one.
abbrev pub owed : Book → ℕ
owed b = sum_below (suc b.issued) (λ k. owed_in (b.table k))

-- A timestamp that leaves room for all that is still to come.
abbrev pub Roomy : Book → ℕ → Type 0
Roomy b t = t + owed b ≤ 2 * member_limit * b.issued

-- The destination has been gathered.
abbrev pub is_past : Phase → Bool
is_past Sent = false
is_past (Heard t) = false
is_past (Gathered t) = true
is_past Settled = true
is_past Run = true

-- The final timestamp has reached the destination.
abbrev pub is_settled : Phase → Bool
is_settled Sent = false
is_settled (Heard t) = false
is_settled (Gathered t) = false
is_settled Settled = true
is_settled Run = true

abbrev pub Proposes : Phase → (ℕ → Type 0) → Type 0
Proposes Sent P = Unit {0}
Proposes (Heard t) P = P t
Proposes (Gathered t) P = P t
Proposes Settled P = Unit {0}
Proposes Run P = Unit {0}

-- An open command by itself: its set is of members; the final timestamp is fixed exactly once every destination is
-- gathered, and nothing is settled before; some destination has not run.
pub record SoundCommand (members : ℕ) (o : OpenCommand) : Type 0 where
  pub some : 0 < o.set
  pub below : o.set < 2 ^ members
  pub gathered : (f q : ℕ) → o.fixed ≡ Some f → names o.set q ≡ true → is_past (o.phase q) ≡ true
  pub waiting : o.fixed ≡ None → everywhere is_gathered o ≡ false
  pub settled : (q : ℕ) → names o.set q ≡ true → is_settled (o.phase q) ≡ true → present o.fixed ≡ true
  pub unrun : everywhere is_run o ≡ false

-- The whole of what an open line keeps, which makes each step possible and keeps itself: the sizes are lawful, the
-- numbers of open and of remembered commands are issued, a command still to be heard is not remembered, and every
-- clock, proposal and final timestamp leaves room.
pub record Sound (b : Book) : Type 0 where
  pub some : 1 ≤ b.members
  pub few : b.members ≤ member_limit
  pub numbered : (k : ℕ) (o : OpenCommand) → b.table k ≡ Some o → (1 ≤ k) × (k ≤ b.issued)
  pub command : (k : ℕ) (o : OpenCommand) → b.table k ≡ Some o → SoundCommand b.members o
  pub known : (m k : ℕ) (c : Command) → (b.member m).remembers k ≡ Some c → k ≤ b.issued
  pub unheard : (m k : ℕ) (o : OpenCommand) → b.table k ≡ Some o → names o.set m ≡ true → o.phase m ≡ Sent → present ((b.member m).remembers k) ≡ false
  pub clocks : (m : ℕ) → Roomy b (b.member m).clock
  pub proposals : (k q : ℕ) (o : OpenCommand) → b.table k ≡ Some o → names o.set q ≡ true → Proposes (o.phase q) (Roomy b)
  pub finals : (k f : ℕ) (o : OpenCommand) → b.table k ≡ Some o → o.fixed ≡ Some f → Roomy b f

-- A closed line keeps nothing.
abbrev pub SoundLine : Line → Type 0
SoundLine closed = Unit {0}
SoundLine (opened b) = Sound b

abbrev pub KeepsLine : Line → Type 0
KeepsLine closed = Unit {0}
KeepsLine (opened b) = Keeps b
