-- What holds at one member alone, over plain functions of the issue number: its memory, its past and its cells.
use Rattle.std.proofs.Common.{◌≡◌, ℕ, ◌≤◌, true, false, List, [], ◌∷◌, Some, None, Option}
use Rattle.machine.specs.declared.command.Command.{Command}
use Rattle.machine.specs.Kinds.{Kind}
use Rattle.ordering.specs.Lines.{Member}
use Rattle.ordering.specs.Ordering.{Earlier, has, Once, Entry, Listed, Each, Rising, plain}

-- Of two commands that conflict.
abbrev pub Clash : Kind → Option Command → Option Command → Type 0
Clash K None y = ⊥
Clash K (Some c) None = ⊥
Clash K (Some c) (Some d) = K.conflict c d ≡ true

-- Two conflicting commands that both ran, ran in rising order.
abbrev pub Ascending : Kind → (ℕ → Option Command) → (ℕ → Option ℕ) → List ℕ → Type 0
Ascending K cmd stand [] = Unit {0}
Ascending K cmd stand (j ∷ js) =
    ((k f t : ℕ) → has k js ≡ true → stand k ≡ Some f → stand j ≡ Some t → Clash K (cmd k) (cmd j) → Earlier (f, k) (t, j)) × Ascending K cmd stand js

-- The entry is of a command that ran and stands at its final timestamp.
abbrev pub EntryAt : (ℕ → Option Command) → (ℕ → Option ℕ) → List ℕ → Entry → Type 0
EntryAt cmd stand runs e = (has e.number runs ≡ true) × (stand e.number ≡ Some e.final) × (cmd e.number ≡ Some e.command)

-- cmd k is the command with number k, stand k where it stands once heard, also after it ran; runs has what ran, the
-- latest first.
pub record AtMember (K : Kind) (cmd : ℕ → Option Command) (stand : ℕ → Option ℕ) (runs : List ℕ) (p : Member) (cells : List ℕ) : Type 0 where
  -- no command stands above the clock, and one that stands at it is remembered
  pub memory : (k t : ℕ) → stand k ≡ Some t → (t ≤ p.clock) × (t ≡ p.clock → p.remembers k ≡ cmd k)
  -- what is remembered is the command with that number
  pub truly : (k : ℕ) (c : Command) → p.remembers k ≡ Some c → cmd k ≡ Some c
  -- what ran is earlier than every conflicting command that was heard and has not run
  pub past : (j k f t : ℕ) → has j runs ≡ true → stand j ≡ Some f → stand k ≡ Some t → has k runs ≡ false → Clash K (cmd k) (cmd j) → Earlier (f, j) (t, k)
  pub ascending : Ascending K cmd stand runs
  pub once : Once runs
  pub entries : List Entry
  pub right : Each (EntryAt cmd stand runs) entries
  pub complete : (k : ℕ) → has k runs ≡ true → Listed k entries
  pub rising : Rising entries
  pub same : cells ≡ plain K entries
