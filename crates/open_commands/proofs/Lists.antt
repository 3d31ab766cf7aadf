-- A test over a list, by its places.
use Rattle.std.proofs.lemmas.Option.{none-some, same_Some}
use Rattle.std.proofs.Common.{◌≡◌, ℕ, zero, suc, ◌<◌, ◌≤◌, Bool, true, List, [], ◌∷◌, length, Some, sym, refl, ap, ◌∙◌, ⊎_elim, arith}
use Rattle.std.proofs.lemmas.Bool.{or_left, or_right, or_cases, and_from, and_parts, false≢true}
use Rattle.std.specs.List.{slice_get, list_any, list_all}

-- Every element before place i passes.
abbrev pub AllTo : {X : Type 0} → (X → Bool) → List X → ℕ → Type 0
AllTo {X} f xs i = (j : ℕ) (x : X) → j < i → slice_get xs j ≡ Some x → f x ≡ true

pub all_of_lem : {X : Type 0} (f : X → Bool) (xs : List X) (n : ℕ) → length xs ≤ n → AllTo f xs n → list_all f xs ≡ true
all_of_lem f [] n l h = refl
all_of_lem f (x ∷ xs) n l h =
    and_from (f x) (list_all f xs) (h 0 x (omega arith) refl) (all_of_lem f xs (length xs) (omega arith) (λ j y m. h (suc j) y (omega arith)))

pub each_of : {X : Type 0} (f : X → Bool) (xs : List X) → list_all f xs ≡ true → (i : ℕ) (x : X) → slice_get xs i ≡ Some x → f x ≡ true
each_of f [] h i x at = absurd (none-some _ at)
each_of f (y ∷ ys) h zero x at = sym (ap f (same_Some _ _ at)) ∙ (and_parts (f y) (list_all f ys) h).0
each_of f (y ∷ ys) h (suc i) x at = each_of f ys (and_parts (f y) (list_all f ys) h).1 i x at

pub some_of : {X : Type 0} (f : X → Bool) (xs : List X) → list_any f xs ≡ true → (i : ℕ) × (x : X) × (slice_get xs i ≡ Some x) × (f x ≡ true)
some_of f [] h = absurd (false≢true h)
some_of f (y ∷ ys) h = ⊎_elim (λ e. (0, y, refl, e)) (λ e. let r = some_of f ys e in (suc r.0, r.1, r.2, r.3)) (or_cases (f y) (list_any f ys) h)

pub any_at : {X : Type 0} (f : X → Bool) (xs : List X) (i : ℕ) (x : X) → slice_get xs i ≡ Some x → f x ≡ true → list_any f xs ≡ true
any_at f [] i x at h = absurd (none-some _ at)
any_at f (y ∷ ys) zero x at h = or_left (f y) (list_any f ys) (ap f (same_Some _ _ at) ∙ h)
any_at f (y ∷ ys) (suc i) x at h = or_right (f y) (list_any f ys) (any_at f ys i x at h)
