-- What a kind of machine is, and the laws that bind every kind.
use Rattle.std.specs.Prelude.{◌≡◌, ℕ, Bool, true, false, List, length}
use Rattle.machine.specs.declared.command.Command.{Command}

-- A kind gives how many cells its machines have, which cells are lawful, the starting cells, which commands
-- conflict, and the cells after a command.
pub record Kind : Type 0 where
  pub count : ℕ
  pub lawful : List ℕ → Bool
  pub starting : List ℕ
  pub conflict : Command → Command → Bool
  pub next : List ℕ → Command → List ℕ

-- Conflict is mutual; commands that do not conflict may change places, at all lawful cells; a machine starts with
-- lawful cells and keeps to them; lawful cells are as many as the kind says.
pub record Laws (K : Kind) : Type 0 where
  pub symmetric : (a b : Command) → K.conflict a b ≡ K.conflict b a
  pub commuting : (s : List ℕ) (a b : Command) → K.lawful s ≡ true → K.conflict a b ≡ false → K.next (K.next s a) b ≡ K.next (K.next s b) a
  pub starts : K.lawful K.starting ≡ true
  pub keeps : (s : List ℕ) (c : Command) → K.lawful s ≡ true → K.lawful (K.next s c) ≡ true
  pub counted : (s : List ℕ) → K.lawful s ≡ true → length s ≡ K.count
