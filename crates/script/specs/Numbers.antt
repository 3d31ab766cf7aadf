-- Numbers as a script writes them: decimal digits, at most fifteen, with no leading zero.
use Rattle.std.specs.Prelude.{◌≡◌, ℕ, ◌+◌, ◌-◌, ◌*◌, ◌^◌, ◌<◌, Bool, cond, not, ◌&&◌, ◌||◌, List, [], ◌∷◌, length, Some, None, decimal, Option, ◌==◌, nat_le, nat_lt, slice_index}
use Rattle.std.specs.Str.{all_ascii_digits}

-- The number n with more digits behind it.
abbrev pub read_digits : ℕ → List ℕ → ℕ
read_digits n [] = n
read_digits n (b ∷ bs) = read_digits (n * 10 + (b - 48)) bs

-- One to fifteen bytes, the first of them no zero unless it is the only one.
abbrev pub shaped : List ℕ → Bool
shaped bs = nat_lt 0 (length bs) && (nat_le (length bs) 15 && (not (slice_index bs 0 == 48) || length bs == 1))

-- The number that the bytes write, if they are such digits.
abbrev pub numeral : List ℕ → Option ℕ
numeral bs = cond (shaped bs && all_ascii_digits bs) (Some (read_digits 0 bs)) None

-- Said by what a number looks like: the answer is n just where the bytes are the decimal digits of n and n has at most fifteen.
pub record Reads (bs : List ℕ) (r : Option ℕ) : Type 0 where
  pub found : (n : ℕ) → n < 10 ^ 15 → bs ≡ decimal n → r ≡ Some n
  pub only : (n : ℕ) → r ≡ Some n → (bs ≡ decimal n) × (n < 10 ^ 15)
