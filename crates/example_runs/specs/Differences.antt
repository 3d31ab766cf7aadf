-- Where two texts first differ.
use Rattle.std.specs.Prelude.{◌≡◌, ℕ, suc, List, take, Some, None, Option, ◌≢◌}

-- Nowhere, if they are equal; else behind the longest start that they share.
abbrev pub FirstDifference : List ℕ → List ℕ → Option ℕ → Type 0
FirstDifference xs ys None = xs ≡ ys
FirstDifference xs ys (Some i) = (take i xs ≡ take i ys) × (take (suc i) xs ≢ take (suc i) ys)
