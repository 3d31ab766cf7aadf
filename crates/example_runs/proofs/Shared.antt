-- The start that two texts share: it is the same in both, and no longer one is where they are not equal.
use Rattle.std.proofs.Common.{◌≡◌, ℕ, ◌+◌, suc, Bool, true, false, List, [], ◌∷◌, nat_eq, cond, take, refl, arith}
use Rattle.std.proofs.lemmas.Bool.{eqb-true, eqb-false}
use Rattle.std.specs.List.{prefix_len, zip}

-- One byte more, where t says whether the two are equal.
pub same_with_heads : (x y : ℕ) (xs ys : List ℕ) (n : ℕ) (t : Bool) → nat_eq x y ≡ t → take n xs ≡ take n ys → take (cond t (1 + n) 0) (x ∷ xs) ≡ take (cond t (1 + n) 0) (y ∷ ys)
same_with_heads x y xs ys n false e h = refl
same_with_heads x y xs ys n true e h =
    let heads = eqb-true x y e
    in grind arith

pub ends_with_heads : (x y : ℕ) (xs ys : List ℕ) (n : ℕ) (t : Bool) → nat_eq x y ≡ t → ((xs ≡ ys → ⊥) → take (suc n) xs ≡ take (suc n) ys → ⊥) → (x ∷ xs ≡ y ∷ ys → ⊥) → take (suc (cond t (1 + n) 0)) (x ∷ xs) ≡ take (suc (cond t (1 + n) 0)) (y ∷ ys) → ⊥
ends_with_heads x y xs ys n false e h differ same =
    let heads = eqb-false x y e
    in grind arith
ends_with_heads x y xs ys n true e h differ same =
    let heads = eqb-true x y e
    in let tails : take (suc n) xs ≡ take (suc n) ys = grind arith
    in h (λ q. differ (rw (heads, q))) tails

pub shared_same : (xs ys : List ℕ) → take (prefix_len (λ p. nat_eq p.0 p.1) (zip xs ys)) xs ≡ take (prefix_len (λ p. nat_eq p.0 p.1) (zip xs ys)) ys
shared_same [] ys = grind arith
shared_same (x ∷ xs) [] = refl
shared_same (x ∷ xs) (y ∷ ys) = same_with_heads x y xs ys _ (nat_eq x y) refl (shared_same xs ys)

pub shared_ends : (xs ys : List ℕ) → (xs ≡ ys → ⊥) → take (suc (prefix_len (λ p. nat_eq p.0 p.1) (zip xs ys))) xs ≡ take (suc (prefix_len (λ p. nat_eq p.0 p.1) (zip xs ys))) ys → ⊥
shared_ends [] ys differ same = grind arith
shared_ends (x ∷ xs) [] differ same = grind arith
shared_ends (x ∷ xs) (y ∷ ys) differ same = ends_with_heads x y xs ys _ (nat_eq x y) refl (shared_ends xs ys) differ same
