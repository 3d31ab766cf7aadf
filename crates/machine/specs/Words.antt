-- Cells of 32 bits.
use Rattle.std.specs.Prelude.{ℕ, ◌%◌, ◌^◌, Bool, true, ◌&&◌, List, [], ◌∷◌, length, ◌==◌, nat_lt}

-- A number brought below 2^32. It changes no number that a real command carries.
abbrev pub wrap : ℕ → ℕ
wrap x = x % 2 ^ 32

-- Every cell is below 2^32.
abbrev pub words : List ℕ → Bool
words [] = true
words (x ∷ xs) = nat_lt x (2 ^ 32) && words xs

-- The cells of a kind with n cells below 2^32.
abbrev pub word_cells : ℕ → List ℕ → Bool
word_cells n s = length s == n && words s
