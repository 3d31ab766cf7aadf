-- What a search, a sum or a greatest value over the numbers below a bound says of each of them: always by going one number up.
use Rattle.std.proofs.Common.{◌≡◌, ℕ, zero, suc, ◌+◌, ◌<◌, ◌≤◌, Bool, true, false, ◌&&◌, ◌||◌, sym, refl, ap, ◌∙◌, subst, ⊎_elim, arith}
use Rattle.std.proofs.lemmas.Bool.{and_parts, and_from, or_parts, cases_eq, false≢true}
use Rattle.ordering.specs.Searches.{any_below, all_below, sum_below, greatest_below}

-- What holds of n and of every number below n holds of every number below suc n.
pub below_more : (n : ℕ) (P : ℕ → Type 0) → P n → ((k : ℕ) → k < n → P k) → (k : ℕ) → k < suc n → P k
below_more n P here below k h = ⊎_elim (λ e. subst P e here) (λ ne. below k (omega arith)) (cases_eq n k)

-- Tests

pub any_found : (n : ℕ) (f : ℕ → Bool) → any_below n f ≡ true → (k : ℕ) × (k < n) × (f k ≡ true)
any_found zero f h = absurd (false≢true h)
any_found (suc n) f h = go (any_found n f) (f n) refl h
  where
    go : (any_below n f ≡ true → (k : ℕ) × (k < n) × (f k ≡ true)) → (t : Bool) → f n ≡ t → (t || any_below n f) ≡ true → (k : ℕ) × (k < suc n) × (f k ≡ true)
    go below true e h = (n, omega arith, e)
    go below false e h = let r = below h in let i : r.0 < n = r.1 in (r.0, omega arith, r.2)

pub any_none : (n : ℕ) (f : ℕ → Bool) → any_below n f ≡ false → (k : ℕ) → k < n → f k ≡ false
any_none zero f h k i = absurd (omega arith)
any_none (suc n) f h k i =
    let p = or_parts (f n) (any_below n f) h in
    below_more n (λ k. f k ≡ false) p.0 (any_none n f p.1) k i

pub all_each : (n : ℕ) (f : ℕ → Bool) → all_below n f ≡ true → (k : ℕ) → k < n → f k ≡ true
all_each zero f h k i = absurd (omega arith)
all_each (suc n) f h k i =
    let p = and_parts (f n) (all_below n f) h in
    below_more n (λ k. f k ≡ true) p.0 (all_each n f p.1) k i

pub all_from : (n : ℕ) (f : ℕ → Bool) → ((k : ℕ) → k < n → f k ≡ true) → all_below n f ≡ true
all_from zero f h = refl
all_from (suc n) f h = and_from (f n) (all_below n f) (h n (omega arith)) (all_from n f (λ k i. h k (omega arith)))

pub all_not : (n : ℕ) (f : ℕ → Bool) → all_below n f ≡ false → (k : ℕ) × (k < n) × (f k ≡ false)
all_not zero f h = absurd (false≢true (sym h))
all_not (suc n) f h = go (all_not n f) (f n) refl h
  where
    go : (all_below n f ≡ false → (k : ℕ) × (k < n) × (f k ≡ false)) → (t : Bool) → f n ≡ t → (t && all_below n f) ≡ false → (k : ℕ) × (k < suc n) × (f k ≡ false)
    go below false e h = (n, omega arith, e)
    go below true e h = let r = below h in let i : r.0 < n = r.1 in (r.0, omega arith, r.2)

-- One number that fails refuses them all.
pub all_fails : (n : ℕ) (f : ℕ → Bool) (k : ℕ) → k < n → f k ≡ false → all_below n f ≡ false
all_fails n f k i e = go (all_below n f) refl
  where
    go : (t : Bool) → all_below n f ≡ t → t ≡ false
    go false h = refl
    go true h = absurd (false≢true (sym e ∙ all_each n f h k i))

-- The greatest value

pub greatest_above : (n : ℕ) (f : ℕ → ℕ) (k : ℕ) → k < n → f k ≤ greatest_below n f
greatest_above zero f k i = absurd (omega arith)
greatest_above (suc n) f k i =
    below_more n (λ j. f j ≤ greatest_below (suc n) f) (omega arith) (λ j l. let h : f j ≤ greatest_below n f = greatest_above n f j l in omega arith) k i

pub greatest_least : (n : ℕ) (f : ℕ → ℕ) (x : ℕ) → ((k : ℕ) → k < n → f k ≤ x) → greatest_below n f ≤ x
greatest_least zero f x h = omega arith
greatest_least (suc n) f x h =
    let here : f n ≤ x = h n (omega arith) in
    let below : greatest_below n f ≤ x = greatest_least n f x (λ k i. h k (omega arith)) in
    omega arith

pub greatest_same : (n : ℕ) (f g : ℕ → ℕ) → ((k : ℕ) → k < n → f k ≡ g k) → greatest_below n f ≡ greatest_below n g
greatest_same zero f g h = refl
greatest_same (suc n) f g h =
    let here : f n ≡ g n = h n (omega arith) in
    let below : greatest_below n f ≡ greatest_below n g = greatest_same n f g (λ k i. h k (omega arith)) in
    cc

-- Sums

pub sum_same : (n : ℕ) (f g : ℕ → ℕ) → ((k : ℕ) → k < n → f k ≡ g k) → sum_below n f ≡ sum_below n g
sum_same zero f g h = refl
sum_same (suc n) f g h =
    let here : f n ≡ g n = h n (omega arith) in
    let below : sum_below n f ≡ sum_below n g = sum_same n f g (λ k i. h k (omega arith)) in
    cc

-- Two functions that differ at one place have sums that differ by as much.
pub sum_change : (n : ℕ) (f g : ℕ → ℕ) (i : ℕ) → i < n → ((k : ℕ) → (i ≡ k → ⊥) → f k ≡ g k) → sum_below n f + g i ≡ sum_below n g + f i
sum_change zero f g i l h = absurd (omega arith)
sum_change (suc n) f g i l h = ⊎_elim here (λ ne. away ne (sum_change n f g i (omega arith) h)) (cases_eq i n)
  where
    here : i ≡ n → sum_below (suc n) f + g i ≡ sum_below (suc n) g + f i
    here e =
        let below : sum_below n f ≡ sum_below n g = sum_same n f g (λ k j. h k (λ s. omega arith)) in
        let p : f i ≡ f n = ap f e in
        let q : g i ≡ g n = ap g e in
        omega arith

    away : (i ≡ n → ⊥) → sum_below n f + g i ≡ sum_below n g + f i → sum_below (suc n) f + g i ≡ sum_below (suc n) g + f i
    away ne below =
        let top : f n ≡ g n = h n ne in
        omega arith

pub sum_below_lem : (n : ℕ) (f : ℕ → ℕ) (x : ℕ) → ((k : ℕ) → k < n → f k ≤ x) → sum_below n f ≤ sum_below n (λ k. x)
sum_below_lem zero f x h = omega arith
sum_below_lem (suc n) f x h =
    let here : f n ≤ x = h n (omega arith) in
    let below : sum_below n f ≤ sum_below n (λ k. x) = sum_below_lem n f x (λ k i. h k (omega arith)) in
    omega arith
