-- Commands that stand side by side.
use Rattle.std.specs.Prelude.{ℕ, ◌+◌, Bool, cond, List, [], ◌∷◌}
use Rattle.machine.specs.declared.command.Command.{Command}

-- How many neighbouring pairs of the commands conflict.
abbrev pub neighbours : (Command → Command → Bool) → List Command → ℕ
neighbours conflict [] = 0
neighbours conflict (a ∷ []) = 0
neighbours conflict (a ∷ (b ∷ cs)) = cond (conflict a b) 1 0 + neighbours conflict (b ∷ cs)
