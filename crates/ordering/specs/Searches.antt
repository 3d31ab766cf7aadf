-- Questions over the numbers below a bound, and functions changed at one place.
use Rattle.std.specs.Prelude.{ℕ, zero, suc, ◌+◌, ◌/◌, ◌%◌, ◌^◌, max, Bool, true, false, cond, ◌&&◌, ◌||◌, Some, None, Option, ◌==◌, nat_lt}

-- f, but x at i.
abbrev pub put : {X : Type 0} → ℕ → X → (ℕ → X) → ℕ → X
put i x f j = cond (i == j) x (f j)

-- Whether the set, a number, has the bit of weight 2^q.
unfoldable pub names : ℕ → ℕ → Bool
names set q = (set / 2 ^ q % 2) == 1

abbrev pub present : {X : Type 0} → Option X → Bool
present None = false
present (Some x) = true

-- Some number below n passes.
abbrev pub any_below : ℕ → (ℕ → Bool) → Bool
any_below zero f = false
any_below (suc n) f = f n || any_below n f

-- Every number below n passes.
abbrev pub all_below : ℕ → (ℕ → Bool) → Bool
all_below zero f = true
all_below (suc n) f = f n && all_below n f

-- How many numbers below n pass.
abbrev pub count_below : ℕ → (ℕ → Bool) → ℕ
count_below zero f = 0
count_below (suc n) f = cond (f n) 1 0 + count_below n f

-- The sum of f over the numbers below n.
abbrev pub sum_below : ℕ → (ℕ → ℕ) → ℕ
sum_below zero f = 0
sum_below (suc n) f = f n + sum_below n f

-- The greatest value of f at the numbers below n, 0 where there is none.
abbrev pub greatest_below : ℕ → (ℕ → ℕ) → ℕ
greatest_below zero f = 0
greatest_below (suc n) f = max (f n) (greatest_below n f)

-- A timestamp and an issue number.
abbrev pub Pair : Type 0
Pair = ℕ × ℕ

-- Whether the first pair is earlier: by timestamp, then by issue number.
abbrev pub earlier : Pair → Pair → Bool
earlier p q = nat_lt p.0 q.0 || (p.0 == q.0 && nat_lt p.1 q.1)

-- The earlier of two pairs, where both are there.
abbrev pub earliest : Option Pair → Option Pair → Option Pair
earliest None q = q
earliest (Some p) None = Some p
earliest (Some p) (Some q) = Some (cond (earlier p q) p q)

-- The pair of a timestamp, where there is one, and a number.
abbrev pub stamped : Option ℕ → ℕ → Option Pair
stamped None k = None
stamped (Some t) k = Some (t, k)

-- The earliest pair (f k, k) over the numbers k below n at which f answers.
abbrev pub earliest_below : ℕ → (ℕ → Option ℕ) → Option Pair
earliest_below zero f = None
earliest_below (suc n) f = earliest (earliest_below n f) (stamped (f n) n)
