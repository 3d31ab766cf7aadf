-- Searches through a list by a key.
use Rattle.std.specs.Prelude.{◌≡◌, ℕ, ◌<◌, Bool, true, cond, not, ◌&&◌, List, [], ◌∷◌, Some, None, Option, ◌==◌, ◌≢◌}
use Rattle.std.specs.List.{slice_get}
use Rattle.ordering.specs.Searches.{present}

-- The element with the key k, where one has it.
abbrev pub lookup_by : {X : Type 0} → (X → ℕ) → List X → ℕ → Option X
lookup_by key [] k = None
lookup_by key (x ∷ xs) k = cond (key x == k) (Some x) (lookup_by key xs k)

abbrev pub mapped : {X Y : Type 0} → (X → Y) → Option X → Option Y
mapped f None = None
mapped f (Some x) = Some (f x)

-- No two elements have one key.
abbrev pub apart : {X : Type 0} → (X → ℕ) → List X → Bool
apart key [] = true
apart key (x ∷ xs) = not (present (lookup_by key xs (key x))) && apart key xs

-- No element before place i has the key k.
abbrev pub MissTo : {X : Type 0} → (X → ℕ) → List X → ℕ → ℕ → Type 0
MissTo {X} key xs k i = (j : ℕ) (x : X) → j < i → slice_get xs j ≡ Some x → key x ≢ k
