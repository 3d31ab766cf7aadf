-- A command as numbers.
use Rattle.std.specs.Prelude.{ℕ, List, [], ◌∷◌}
use Rattle.machine.specs.declared.command.Command.{Command}
use Rattle.machine.specs.declared.command.Command.TheVariants.{Set, Shift, Couple, Mark}

-- A command's class, its first and its second number.
abbrev pub numbers : Command → List ℕ
numbers (Set axis value) = 1 ∷ axis ∷ value ∷ []
numbers (Shift axis amount) = 2 ∷ axis ∷ amount ∷ []
numbers (Couple from to) = 3 ∷ from ∷ to ∷ []
numbers (Mark code) = 4 ∷ code ∷ 0 ∷ []
