-- A list in fixed memory: its elements, and what its places behind them hold.
use Rattle.std.specs.Prelude.{ℕ, ◌-◌, List, [], ◌∷◌, ◌++◌, length, take, drop, slice_set}

abbrev pub Listing : Type 0 → Type 0
Listing T = List T × List T

-- The places of a list with n elements.
abbrev pub listing : {T : Type 0} → ℕ → List T → Listing T
listing n places = (take n places, drop n places)

abbrev pub emptied : {T : Type 0} → Listing T → Listing T
emptied l = ([], l.0 ++ l.1)

-- An element more, in the first place behind the others.
abbrev pub pushed : {T : Type 0} → Listing T → T → Listing T
pushed l x = (l.0 ++ x ∷ [], drop 1 l.1)

abbrev pub written : {T : Type 0} → Listing T → ℕ → T → Listing T
written l i x = (slice_set l.0 i x, l.1)

-- The last element, x, written to place i, and one element fewer.
abbrev pub moved_last : {T : Type 0} → Listing T → ℕ → T → Listing T
moved_last l i x = (take (length l.0 - 1) (slice_set l.0 i x), drop (length l.0 - 1) (slice_set l.0 i x) ++ l.1)
