-- The recorder: how many commands ran, and the latest eight.
use Rattle.std.specs.Prelude.{ℕ, zero, suc, ◌+◌, Bool, true, List, [], ◌∷◌, ◌++◌, map, take, drop, replicate, Some, None, Option, slice_index, slice_index_or}
use Rattle.machine.specs.declared.command.Command.{Command}
use Rattle.machine.specs.Kinds.{Kind}
use Rattle.machine.specs.Numbers.{numbers}
use Rattle.machine.specs.Words.{wrap, word_cells}

-- Every command conflicts with every other.
abbrev pub all_conflict : Command → Command → Bool
all_conflict a b = true

-- The count rises by one modulo 2^32, and the command's three numbers stand before those of the seven that ran last.
abbrev pub record_next : List ℕ → Command → List ℕ
record_next s c = wrap (slice_index s 0 + 1) ∷ (map wrap (numbers c) ++ take 21 (drop 1 s))

abbrev pub recorder : Kind
recorder =
    record {
      count = 25;
      lawful = word_cells 25;
      starting = replicate 25 0;
      conflict = all_conflict;
      next = record_next;
    }

-- One place of the record: a command's three numbers, or three zeros.
abbrev pub entry : Option Command → List ℕ
entry None = 0 ∷ 0 ∷ 0 ∷ []
entry (Some c) = numbers c

-- The places of the record, newest first.
abbrev pub entries : List (Option Command) → List ℕ
entries [] = []
entries (o ∷ os) = entry o ++ entries os

-- The places from i on, k of them, one by one.
abbrev pub places_from : List (Option Command) → ℕ → ℕ → List (Option Command)
places_from l i zero = []
places_from l i (suc k) = slice_index_or l i None ∷ places_from l (suc i) k
