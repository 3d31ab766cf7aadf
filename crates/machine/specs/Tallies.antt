-- The tally: how many commands of each class ran.
use Rattle.std.specs.Prelude.{ℕ, ◌+◌, Bool, false, List, replicate, slice_index, slice_set}
use Rattle.machine.specs.declared.command.Command.{Command}
use Rattle.machine.specs.declared.command.Command.TheVariants.{Set, Shift, Couple, Mark}
use Rattle.machine.specs.Kinds.{Kind}
use Rattle.machine.specs.Words.{wrap, word_cells}

-- No two commands conflict.
abbrev pub none_conflict : Command → Command → Bool
none_conflict a b = false

-- The cell that counts a command's class.
abbrev pub class_cell : Command → ℕ
class_cell (Set axis value) = 0
class_cell (Shift axis amount) = 1
class_cell (Couple from to) = 2
class_cell (Mark code) = 3

-- The class's count rises by one modulo 2^32.
abbrev pub tally_next : List ℕ → Command → List ℕ
tally_next s c = slice_set s (class_cell c) (wrap (slice_index s (class_cell c) + 1))

abbrev pub tally : Kind
tally =
    record {
      count = 4;
      lawful = word_cells 4;
      starting = replicate 4 0;
      conflict = none_conflict;
      next = tally_next;
    }
