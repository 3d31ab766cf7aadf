-- The order of pairs: the test says what the relation says, and of two pairs with different numbers one is earlier.
use Rattle.std.proofs.Common.{◌≡◌, ◌<◌, ◌≤◌, true, false, ◌&&◌, eqb, ltb, ◌⊎◌, sym, inl, inr, ⊎_elim, arith}
use Rattle.std.proofs.lemmas.Bool.{or_cases, or_parts, and_parts, and_cases, ltb-true, ltb-false, eqb-true, eqb-false, or_left, or_right, lt-ltb, eq-eqb, and_from, cases_lt}
use Rattle.ordering.specs.Ordering.{Earlier}
use Rattle.ordering.specs.Searches.{Pair, earlier}

-- The order in a form for arithmetic.
abbrev pub Prior : Pair → Pair → Type 0
Prior p q = (p.0 ≤ q.0) × (p.0 ≡ q.0 → p.1 < q.1)

pub prior_earlier : (p q : Pair) → Prior p q → Earlier p q
prior_earlier p q h =
    ⊎_elim (λ l. inl l) (λ g. let e : p.0 ≡ q.0 = omega (arith, h.0) in inr (e, h.1 e)) (cases_lt p.0 q.0)

pub earlier_prior : (p q : Pair) → Earlier p q → Prior p q
earlier_prior p q h = omega arith

pub earlier_true : (p q : Pair) → earlier p q ≡ true → Earlier p q
earlier_true p q h =
    ⊎_elim
    (λ l. inl (ltb-true _ _ l))
    (λ b. let c = and_parts (eqb p.0 q.0) (ltb p.1 q.1) b in inr (eqb-true _ _ c.0, ltb-true _ _ c.1))
    (or_cases (ltb p.0 q.0) (eqb p.0 q.0 && ltb p.1 q.1) h)

pub true_earlier : (p q : Pair) → Earlier p q → earlier p q ≡ true
true_earlier p q h =
    ⊎_elim
    (λ l. or_left _ (eqb p.0 q.0 && ltb p.1 q.1) (lt-ltb _ _ l))
    (λ b. or_right (ltb p.0 q.0) _ (and_from _ _ (eq-eqb _ _ b.0) (lt-ltb _ _ b.1)))
    h

pub earlier_false : (p q : Pair) → earlier p q ≡ false → (p.1 ≡ q.1 → ⊥) → Earlier q p
earlier_false p q h ne =
    let c = or_parts (ltb p.0 q.0) (eqb p.0 q.0 && ltb p.1 q.1) h in
    let g : q.0 ≤ p.0 = ltb-false _ _ c.0 in
    prior_earlier q p (g, λ e. after g e (and_cases (eqb p.0 q.0) (ltb p.1 q.1) c.1))
  where
    after : q.0 ≤ p.0 → q.0 ≡ p.0 → (eqb p.0 q.0 ≡ false) ⊎ (ltb p.1 q.1 ≡ false) → q.1 < p.1
    after g e (inl a) = absurd (eqb-false _ _ a (sym e))
    after g e (inr a) = let w : q.1 ≤ p.1 = ltb-false _ _ a in omega arith

pub earlier_trans : (p q r : Pair) → Earlier p q → Earlier q r → Earlier p r
earlier_trans p q r h k =
    let x = earlier_prior p q h in
    let y = earlier_prior q r k in
    prior_earlier p r (omega arith)

pub earlier_not : (p q : Pair) → Earlier p q → Earlier q p → ⊥
earlier_not p q h k = omega arith
