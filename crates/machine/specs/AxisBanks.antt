-- The axis bank: eight positions, one for each axis.
use Rattle.std.specs.Prelude.{ℕ, ◌+◌, Bool, true, false, cond, not, ◌&&◌, ◌||◌, List, replicate, Some, None, Option, ◌==◌, nat_lt, slice_index, slice_set}
use Rattle.machine.specs.declared.command.Command.{Command}
use Rattle.machine.specs.declared.command.Command.TheVariants.{Set, Shift, Couple, Mark}
use Rattle.machine.specs.Kinds.{Kind}
use Rattle.machine.specs.Words.{wrap, word_cells}

-- How many axes there are.
abbrev pub axes : ℕ
axes = 8

-- The axis that a command writes.
abbrev pub writes : Command → Option ℕ
writes (Set axis value) = Some axis
writes (Shift axis amount) = Some axis
writes (Couple from to) = Some to
writes (Mark code) = None

-- Whether a command reads or writes an axis.
abbrev pub touches : Command → ℕ → Bool
touches (Set axis value) x = axis == x
touches (Shift axis amount) x = axis == x
touches (Couple from to) x = from == x || to == x
touches (Mark code) x = false

abbrev pub is_shift : Command → Bool
is_shift (Set axis value) = false
is_shift (Shift axis amount) = true
is_shift (Couple from to) = false
is_shift (Mark code) = false

-- Whether the axis, where there is one, is touched by a command.
abbrev pub touched_by : Command → Option ℕ → Bool
touched_by c None = false
touched_by c (Some x) = touches c x

-- One writes an axis that the other reads or writes, unless both are Shifts.
abbrev pub bank_conflict : Command → Command → Bool
bank_conflict a b = not (is_shift a && is_shift b) && (touched_by b (writes a) || touched_by a (writes b))

-- The positions after a command. One that names an axis above 7 changes nothing.
abbrev pub bank_next : List ℕ → Command → List ℕ
bank_next s (Set axis value) = cond (nat_lt axis axes) (slice_set s axis (wrap value)) s
bank_next s (Shift axis amount) = cond (nat_lt axis axes) (slice_set s axis (wrap (slice_index s axis + amount))) s
bank_next s (Couple from to) = cond (nat_lt from axes && nat_lt to axes) (slice_set s to (slice_index s from)) s
bank_next s (Mark code) = s

abbrev pub axis_bank : Kind
axis_bank =
    record {
      count = axes;
      lawful = word_cells axes;
      starting = replicate axes 0;
      conflict = bank_conflict;
      next = bank_next;
    }
