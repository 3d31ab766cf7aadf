-- The neighbouring pairs of a list that is not empty: its elements, each beside the next one.
use Rattle.std.proofs.Common.{◌≡◌, Bool, List, [], ◌∷◌, cond, count_by, refl}
use Rattle.std.proofs.lemmas.List.Sums.{sum_by-cons}
use Rattle.std.specs.List.{zip}
use Rattle.machine.specs.declared.command.Command.{Command}
use Rattle.cartoner.specs.Neighbours.{neighbours}

pub pairs_from : (conflict : Command → Command → Bool) (a : Command) (cs : List Command) → count_by (λ p. conflict p.0 p.1) (zip (a ∷ cs) cs) ≡ neighbours conflict (a ∷ cs)
pairs_from conflict a [] = refl
pairs_from conflict a (b ∷ cs) =
    let rest = pairs_from conflict b cs
    in let first = sum_by-cons (λ p. cond (conflict p.0 p.1) 1 0) (a, b) (zip (b ∷ cs) cs)
    in rw (first, rest)
