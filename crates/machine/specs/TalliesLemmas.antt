-- The tally keeps the laws of a kind: its commands are additions into cells, which commute.
use Rattle.std.specs.Prelude.{◌+◌, ◌<◌, slice_index, refl}
use Rattle.std.proofs.Common.{arith}
use Rattle.machine.specs.declared.command.Command.{Command}
use Rattle.machine.specs.declared.command.Command.TheVariants.{Set, Shift, Couple, Mark}
use Rattle.machine.specs.Kinds.{Laws}
use Rattle.machine.specs.Tallies.{tally, class_cell}
use Rattle.machine.specs.Words.{wrap}
use Rattle.machine.specs.Additions.{additions_commute}
use Rattle.machine.specs.WordsLemmas.{wrap_below, cells_length, cells_set}

class_below : (c : Command) → class_cell c < 4
class_below (Set axis value) = omega arith
class_below (Shift axis amount) = omega arith
class_below (Couple from to) = omega arith
class_below (Mark code) = omega arith

pub tally_laws : Laws tally
tally_laws =
    record {
      symmetric = λ a b. refl;
      commuting = λ s a b h _. additions_commute s (class_cell a) (class_cell b) 1 1 (omega (arith, cells_length 4 s h, class_below a));
      starts = refl;
      keeps = λ s c h. cells_set 4 s (class_cell c) (wrap (slice_index s (class_cell c) + 1)) (wrap_below (slice_index s (class_cell c) + 1)) h;
      counted = λ s h. cells_length 4 s h;
    }
