-- A set below 2^n has all its bits below n, and one of them if it is not 0: the highest.
use Rattle.std.proofs.Common.{◌≡◌, ℕ, zero, suc, ◌/◌, ◌%◌, ◌^◌, ◌<◌, ◌≤◌, true, sym, subst, ⊎_elim, one-mul, one-add, arith, pow_pos, pow_mono}
use native.Mathlib.Nat.{div-eq_of_lt}
use Rattle.std.proofs.lemmas.Nat.{shr_below, le-div}
use Rattle.std.proofs.lemmas.Bool.{cases_lt, eqb-true, eq-eqb}
use Rattle.ordering.specs.Searches.{names}

pub names_below : (n set q : ℕ) → set < 2 ^ n → names set q ≡ true → q < n
unfolding names
names_below n set q l h = ⊎_elim (λ i. i) (λ i. absurd (above i)) (cases_lt q n)
  where
    above : n ≤ q → ⊥
    above i =
        let p : 2 ^ n ≤ 2 ^ q = pow_mono i in
        let none : set / 2 ^ q ≡ 0 = div-eq_of_lt (omega arith) in
        let bit : set / 2 ^ q % 2 ≡ 1 = eqb-true (set / 2 ^ q % 2) 1 h in
        omega arith

names_top : (n set : ℕ) → 2 ^ n ≤ set → set < 2 ^ suc n → names set n ≡ true
unfolding names
names_top n set l h =
    let few : set / 2 ^ n < 2 = shr_below set 1 n (subst (λ x. set < 2 ^ x) (sym (one-add n)) h) in
    let some : 1 ≤ set / 2 ^ n = le-div 1 set (2 ^ n) (pow_pos n) (subst (λ x. x ≤ set) (sym (one-mul (2 ^ n))) l) in
    eq-eqb (set / 2 ^ n % 2) 1 (omega arith)

pub names_some : (n set : ℕ) → 0 < set → set < 2 ^ n → (q : ℕ) × (q < n) × (names set q ≡ true)
names_some zero set i l = absurd (omega arith)
names_some (suc n) set i l =
    ⊎_elim (λ low. let r = names_some n set i low in let j : r.0 < n = r.1 in (r.0, omega arith, r.2)) (λ high. (n, omega arith, names_top n set high l)) (cases_lt set (2 ^ n))
