-- Lists with keys: what a look-up answers, and what it answers after a change at one place.
use Rattle.std.proofs.Common.{◌≡◌, ℕ, zero, suc, ◌+◌, ◌<◌, ◌≤◌, Bool, true, false, cond, not, ◌&&◌, eqb, List, [], ◌∷◌, ◌++◌, length, take, set, get_or, Some, None, Option, sym, refl, ap, ◌∙◌, subst, ⊎_elim, ◌⊎◌, ◌≢◌, arith}
use lib.Seq.{take-set-le, take-set-lt}
use Rattle.std.proofs.lemmas.Bool.{cases_eq, eq-eqb, ne_eqb, eqb-true, cond-true, cond-false, and_parts, and_from, false≢true}
use Rattle.std.proofs.lemmas.Option.{get_or_from_slice_get, slice_get_cases, none-some, same_Some}
use Rattle.std.specs.List.{slice_get, AllWithin, HoldsAt}
use Rattle.std.specs.Option.{IfSome, MatchOption}
use Rattle.open_commands.specs.Lists.{lookup_by, apart, MissTo}
use Rattle.ordering.proofs.Basics.{put_other}
use Rattle.ordering.proofs.Bounded.{sum_change}
use Rattle.ordering.specs.Searches.{put, present, count_below, sum_below}

pub lookup_none : {X : Type 0} (key : X → ℕ) (xs : List X) (k n : ℕ) → length xs ≤ n → MissTo key xs k n → lookup_by key xs k ≡ None
lookup_none key [] k n l h = refl
lookup_none key (x ∷ xs) k n l h =
    cond-false (eqb (key x) k) (Some x) (lookup_by key xs k) (ne_eqb (key x) k (h 0 x (omega arith) refl)) ∙ lookup_none key xs k (length xs) (omega arith) (λ j y m. h (suc j) y (omega arith))

pub lookup_first : {X : Type 0} (key : X → ℕ) (xs : List X) (k i : ℕ) (x : X) → slice_get xs i ≡ Some x → key x ≡ k → MissTo key xs k i → lookup_by key xs k ≡ slice_get xs i
lookup_first key [] k i x at e h = absurd (none-some _ at)
lookup_first key (y ∷ ys) k zero x at e h =
    cond-true (eqb (key y) k) (Some y) (lookup_by key ys k) (eq-eqb (key y) k (ap key (same_Some _ _ at) ∙ e))
lookup_first key (y ∷ ys) k (suc i) x at e h =
    cond-false (eqb (key y) k) (Some y) (lookup_by key ys k) (ne_eqb (key y) k (h 0 y (omega arith) refl)) ∙ lookup_first key ys k i x at e (λ j z l. h (suc j) z (omega arith))

-- The place that a search from the front answers.
module _ {X : Type 0} (key : X → ℕ) (xs : List X) (k : ℕ) where
  abbrev pub IsFirstWith : Option ℕ → Type 0
  IsFirstWith r = MatchOption r (AllWithin (λ x. key x ≢ k) xs 0 (length xs)) (λ i. (i < length xs) × HoldsAt (λ x. key x ≡ k) xs i × AllWithin (λ x. key x ≢ k) xs 0 i)

  miss_all : (i : ℕ) → AllWithin (λ x. key x ≢ k) xs 0 i → MissTo key xs k i
  miss_all i h j x l e = subst (λ y. key y ≢ k) (get_or_from_slice_get xs j x x e) (h j x (omega arith) l)

  pub first_missed : (r : Option ℕ) → IsFirstWith r → IfSome r (λ i. MissTo key xs k i)
  first_missed None h = tt
  first_missed (Some i) h = miss_all i h.2

  pub first_found : (r : Option ℕ) → IsFirstWith r → MatchOption r (lookup_by key xs k ≡ None) (λ i. (i < length xs) × (lookup_by key xs k ≡ slice_get xs i))
  first_found None h = lookup_none key xs k (length xs) (omega arith) (miss_all (length xs) h)
  first_found (Some i) h = go (slice_get_cases xs i).1
    where
      go : ((x : X) × (i < length xs) × (slice_get xs i ≡ Some x) × (get_or xs i x ≡ x)) ⊎ ((length xs ≤ i) × (slice_get xs i ≡ None)) → (i < length xs) × (lookup_by key xs k ≡ slice_get xs i)
      go u =
          ⊎_elim
          (λ w. (h.0, lookup_first key xs k i w.0 w.2 (subst (λ y. key y ≡ k) w.3 (h.1 w.0)) (miss_all i h.2)))
          (λ w. absurd (omega (arith, h.0, w.0)))
          u

absent : {X : Type 0} (o : Option X) → not (present o) ≡ true → o ≡ None
absent None h = refl
absent (Some x) h = absurd (false≢true h)

pub present_none : {X : Type 0} (o : Option X) → o ≡ None → not (present o) ≡ true
present_none o e = ap (λ y. not (present y)) e

-- One of two ways for a test on a key.
module _ {X : Type 0} (key : X → ℕ) where
  pub fresh : (x : X) (xs : List X) → apart key (x ∷ xs) ≡ true → lookup_by key xs (key x) ≡ None
  fresh x xs h = absent (lookup_by key xs (key x)) (and_parts (not (present (lookup_by key xs (key x)))) (apart key xs) h).0

  pub rest_apart : (x : X) (xs : List X) → apart key (x ∷ xs) ≡ true → apart key xs ≡ true
  rest_apart x xs h = (and_parts (not (present (lookup_by key xs (key x)))) (apart key xs) h).1

  lookup_head : (x : X) (xs : List X) (k : ℕ) → key x ≡ k → lookup_by key (x ∷ xs) k ≡ Some x
  lookup_head x xs k e = cond-true (eqb (key x) k) (Some x) (lookup_by key xs k) (eq-eqb (key x) k e)

  lookup_tail : (x : X) (xs : List X) (k : ℕ) → (key x ≡ k → ⊥) → lookup_by key (x ∷ xs) k ≡ lookup_by key xs k
  lookup_tail x xs k n = cond-false (eqb (key x) k) (Some x) (lookup_by key xs k) (ne_eqb (key x) k n)

  -- What a look-up finds stands somewhere and has the key.
  pub lookup_place : (xs : List X) (k : ℕ) (x : X) → lookup_by key xs k ≡ Some x → (i : ℕ) × (slice_get xs i ≡ Some x) × (key x ≡ k) × (i < length xs)
  lookup_place [] k x h = absurd (none-some _ h)
  lookup_place (y ∷ ys) k x h =
      ⊎_elim
      (λ e. let w : y ≡ x = same_Some _ _ (sym (lookup_head y ys k e) ∙ h) in (0, ap Some w, sym (ap key w) ∙ e, omega arith))
      (λ n. let r = lookup_place ys k x (sym (lookup_tail y ys k n) ∙ h) in (suc r.0, r.1, r.2, omega (arith, r.3)))
      (cases_eq (key y) k)

  -- What stands somewhere is found under its key.
  pub lookup_own : (xs : List X) (i : ℕ) (x : X) → apart key xs ≡ true → slice_get xs i ≡ Some x → lookup_by key xs (key x) ≡ Some x
  lookup_own [] i x h at = absurd (none-some _ at)
  lookup_own (y ∷ ys) zero x h at = subst (λ z. lookup_by key (y ∷ ys) (key z) ≡ Some z) (same_Some _ _ at) (lookup_head y ys (key y) refl)
  lookup_own (y ∷ ys) (suc i) x h at =
      let r = lookup_own ys i x (rest_apart y ys h) at in
      lookup_tail y ys (key x) (λ e. none-some _ (sym (fresh y ys h) ∙ (ap (lookup_by key ys) e ∙ r))) ∙ r

  -- A key that is not found at an element's place is not its key.
  pub other_key : (xs : List X) (i : ℕ) (x : X) (k : ℕ) → apart key xs ≡ true → slice_get xs i ≡ Some x → lookup_by key xs k ≡ None → key x ≡ k → ⊥
  other_key xs i x k h at none e = none-some _ (sym none ∙ (ap (lookup_by key xs) (sym e) ∙ lookup_own xs i x h at))

  -- An element replaced by one with the same key.
  pub lookup_set : (xs : List X) (i : ℕ) (x x' : X) → apart key xs ≡ true → slice_get xs i ≡ Some x → key x' ≡ key x → (k : ℕ) → lookup_by key (set xs i x') k ≡ put (key x) (Some x') (lookup_by key xs) k
  lookup_set [] i x x' h at e k = absurd (none-some _ at)
  lookup_set (y ∷ ys) zero x x' h at e k = ⊎_elim here away (cases_eq (key x) k)
    where
      same : y ≡ x
      same = same_Some _ _ at

      here : key x ≡ k → lookup_by key (x' ∷ ys) k ≡ put (key x) (Some x') (lookup_by key (y ∷ ys)) k
      here q = lookup_head x' ys k (e ∙ q) ∙ sym (cond-true (eqb (key x) k) (Some x') (lookup_by key (y ∷ ys) k) (eq-eqb (key x) k q))

      away : (key x ≡ k → ⊥) → lookup_by key (x' ∷ ys) k ≡ put (key x) (Some x') (lookup_by key (y ∷ ys)) k
      away n =
          lookup_tail x' ys k (λ q. n (sym e ∙ q)) ∙ (sym (lookup_tail y ys k (λ q. n (sym (ap key same) ∙ q))) ∙ sym (put_other (key x) k (Some x') (lookup_by key (y ∷ ys)) n))
  lookup_set (y ∷ ys) (suc i) x x' h at e k = ⊎_elim (here (lookup_set ys i x x' (rest_apart y ys h) at e k)) (away (lookup_set ys i x x' (rest_apart y ys h) at e k)) (cases_eq (key y) k)
    where
      here : lookup_by key (set ys i x') k ≡ put (key x) (Some x') (lookup_by key ys) k → key y ≡ k → lookup_by key (y ∷ set ys i x') k ≡ put (key x) (Some x') (lookup_by key (y ∷ ys)) k
      here r q =
          lookup_head y (set ys i x') k q ∙ sym (put_other (key x) k (Some x') (lookup_by key (y ∷ ys)) (λ w. other_key ys i x (key y) (rest_apart y ys h) at (fresh y ys h) (w ∙ sym q)) ∙ lookup_head y ys k q)

      away : lookup_by key (set ys i x') k ≡ put (key x) (Some x') (lookup_by key ys) k → (key y ≡ k → ⊥) → lookup_by key (y ∷ set ys i x') k ≡ put (key x) (Some x') (lookup_by key (y ∷ ys)) k
      away r n =
          lookup_tail y (set ys i x') k n ∙ (r ∙ ap (λ z. cond (eqb (key x) k) (Some x') z) (sym (lookup_tail y ys k n)))

  pub apart_set : (xs : List X) (i : ℕ) (x x' : X) → apart key xs ≡ true → slice_get xs i ≡ Some x → key x' ≡ key x → apart key (set xs i x') ≡ true
  apart_set [] i x x' h at e = absurd (none-some _ at)
  apart_set (y ∷ ys) zero x x' h at e =
      subst (λ k. (not (present (lookup_by key ys k)) && apart key ys) ≡ true) (ap key (same_Some _ _ at) ∙ sym e) h
  apart_set (y ∷ ys) (suc i) x x' h at e =
      and_from (not (present (lookup_by key (set ys i x') (key y)))) (apart key (set ys i x'))
      (present_none (lookup_by key (set ys i x') (key y)) (lookup_set ys i x x' (rest_apart y ys h) at e (key y) ∙ (put_other (key x) (key y) (Some x') (lookup_by key ys) (other_key ys i x (key y) (rest_apart y ys h) at (fresh y ys h)) ∙ fresh y ys h)))
      (apart_set ys i x x' (rest_apart y ys h) at e)

  -- An element put behind.
  pub lookup_push : (xs : List X) (x : X) → lookup_by key xs (key x) ≡ None → (k : ℕ) → lookup_by key (xs ++ x ∷ []) k ≡ put (key x) (Some x) (lookup_by key xs) k
  lookup_push [] x h k = refl
  lookup_push (y ∷ ys) x h k = ⊎_elim here (away (lookup_push ys x (sym (lookup_tail y ys (key x) apart_from) ∙ h) k)) (cases_eq (key y) k)
    where
      apart_from : key y ≡ key x → ⊥
      apart_from e = none-some _ (sym h ∙ lookup_head y ys (key x) e)

      here : key y ≡ k → lookup_by key (y ∷ (ys ++ x ∷ [])) k ≡ put (key x) (Some x) (lookup_by key (y ∷ ys)) k
      here q =
          lookup_head y (ys ++ x ∷ []) k q ∙ sym (put_other (key x) k (Some x) (lookup_by key (y ∷ ys)) (λ w. apart_from (q ∙ sym w)) ∙ lookup_head y ys k q)

      away : lookup_by key (ys ++ x ∷ []) k ≡ put (key x) (Some x) (lookup_by key ys) k → (key y ≡ k → ⊥) → lookup_by key (y ∷ (ys ++ x ∷ [])) k ≡ put (key x) (Some x) (lookup_by key (y ∷ ys)) k
      away r n =
          lookup_tail y (ys ++ x ∷ []) k n ∙ (r ∙ ap (λ z. cond (eqb (key x) k) (Some x) z) (sym (lookup_tail y ys k n)))

  pub apart_push : (xs : List X) (x : X) → apart key xs ≡ true → lookup_by key xs (key x) ≡ None → apart key (xs ++ x ∷ []) ≡ true
  apart_push [] x h none = refl
  apart_push (y ∷ ys) x h none =
      and_from (not (present (lookup_by key (ys ++ x ∷ []) (key y)))) (apart key (ys ++ x ∷ []))
      (present_none (lookup_by key (ys ++ x ∷ []) (key y)) (lookup_push ys x (sym (lookup_tail y ys (key x) apart_from) ∙ none) (key y) ∙ (put_other (key x) (key y) (Some x) (lookup_by key ys) (λ e. apart_from (sym e)) ∙ fresh y ys h)))
      (apart_push ys x (rest_apart y ys h) (sym (lookup_tail y ys (key x) apart_from) ∙ none))
    where
      apart_from : key y ≡ key x → ⊥
      apart_from e = none-some _ (sym none ∙ lookup_head y ys (key x) e)

  -- The front of a list with an element behind: its last key is not in front.
  pub apart_front : (xs : List X) (x : X) → apart key (xs ++ x ∷ []) ≡ true → (apart key xs ≡ true) × (lookup_by key xs (key x) ≡ None)
  apart_front [] x h = (refl, refl)
  apart_front (y ∷ ys) x h =
      let r = apart_front ys x (rest_apart y (ys ++ x ∷ []) h) in
      let none : lookup_by key (ys ++ x ∷ []) (key y) ≡ None = fresh y (ys ++ x ∷ []) h in
      let away : key x ≡ key y → ⊥ = λ e. none-some _ (sym none ∙ (lookup_push ys x r.1 (key y) ∙ (ap (λ t. cond t (Some x) (lookup_by key ys (key y))) (eq-eqb (key x) (key y) e)))) in (
        and_from (not (present (lookup_by key ys (key y)))) (apart key ys) (present_none (lookup_by key ys (key y)) (sym (put_other (key x) (key y) (Some x) (lookup_by key ys) away) ∙ (sym (lookup_push ys x r.1 (key y)) ∙ none))) r.0,
        lookup_tail y ys (key x) (λ e. away (sym e)) ∙ r.1,
      )

  -- An element replaced by one with a new key.
  pub lookup_replace : (xs : List X) (i : ℕ) (x l : X) → apart key xs ≡ true → slice_get xs i ≡ Some x → lookup_by key xs (key l) ≡ None → (k : ℕ) → lookup_by key (set xs i l) k ≡ put (key l) (Some l) (put (key x) None (lookup_by key xs)) k
  lookup_replace [] i x l h at none k = absurd (none-some _ at)
  lookup_replace (y ∷ ys) zero x l h at none k = ap (λ z. cond (eqb (key l) k) (Some l) z) (⊎_elim here away (cases_eq (key x) k))
    where
      same : y ≡ x
      same = same_Some _ _ at

      here : key x ≡ k → lookup_by key ys k ≡ put (key x) None (lookup_by key (y ∷ ys)) k
      here q =
          ap (lookup_by key ys) (sym q ∙ sym (ap key same)) ∙ (fresh y ys h ∙ sym (cond-true (eqb (key x) k) None (lookup_by key (y ∷ ys) k) (eq-eqb (key x) k q)))

      away : (key x ≡ k → ⊥) → lookup_by key ys k ≡ put (key x) None (lookup_by key (y ∷ ys)) k
      away n = sym (lookup_tail y ys k (λ q. n (sym (ap key same) ∙ q))) ∙ sym (put_other (key x) k None (lookup_by key (y ∷ ys)) n)
  lookup_replace (y ∷ ys) (suc i) x l h at none k = ⊎_elim here (away (lookup_replace ys i x l (rest_apart y ys h) at (sym (lookup_tail y ys (key l) apart_from) ∙ none) k)) (cases_eq (key y) k)
    where
      apart_from : key y ≡ key l → ⊥
      apart_from e = none-some _ (sym none ∙ lookup_head y ys (key l) e)

      here : key y ≡ k → lookup_by key (y ∷ set ys i l) k ≡ put (key l) (Some l) (put (key x) None (lookup_by key (y ∷ ys))) k
      here q =
          lookup_head y (set ys i l) k q ∙ sym (put_other (key l) k (Some l) (put (key x) None (lookup_by key (y ∷ ys))) (λ w. apart_from (q ∙ sym w)) ∙ (put_other (key x) k None (lookup_by key (y ∷ ys)) (λ w. other_key ys i x (key y) (rest_apart y ys h) at (fresh y ys h) (w ∙ sym q)) ∙ lookup_head y ys k q))

      away : lookup_by key (set ys i l) k ≡ put (key l) (Some l) (put (key x) None (lookup_by key ys)) k → (key y ≡ k → ⊥) → lookup_by key (y ∷ set ys i l) k ≡ put (key l) (Some l) (put (key x) None (lookup_by key (y ∷ ys))) k
      away r n =
          lookup_tail y (set ys i l) k n ∙ (r ∙ ap (λ z. cond (eqb (key l) k) (Some l) (cond (eqb (key x) k) None z)) (sym (lookup_tail y ys k n)))

  pub apart_replace : (xs : List X) (i : ℕ) (x l : X) → apart key xs ≡ true → slice_get xs i ≡ Some x → lookup_by key xs (key l) ≡ None → apart key (set xs i l) ≡ true
  apart_replace [] i x l h at none = absurd (none-some _ at)
  apart_replace (y ∷ ys) zero x l h at none =
      and_from (not (present (lookup_by key ys (key l)))) (apart key ys) (present_none (lookup_by key ys (key l)) (sym (lookup_tail y ys (key l) (λ e. none-some _ (sym none ∙ lookup_head y ys (key l) e))) ∙ none)) (rest_apart y ys h)
  apart_replace (y ∷ ys) (suc i) x l h at none =
      and_from (not (present (lookup_by key (set ys i l) (key y)))) (apart key (set ys i l))
      (present_none (lookup_by key (set ys i l) (key y)) (lookup_replace ys i x l (rest_apart y ys h) at (sym (lookup_tail y ys (key l) apart_from) ∙ none) (key y) ∙ (put_other (key l) (key y) (Some l) (put (key x) None (lookup_by key ys)) (λ e. apart_from (sym e)) ∙ (put_other (key x) (key y) None (lookup_by key ys) (other_key ys i x (key y) (rest_apart y ys h) at (fresh y ys h)) ∙ fresh y ys h))))
      (apart_replace ys i x l (rest_apart y ys h) at (sym (lookup_tail y ys (key l) apart_from) ∙ none))
    where
      apart_from : key y ≡ key l → ⊥
      apart_from e = none-some _ (sym none ∙ lookup_head y ys (key l) e)

  -- As many keys are found as there are elements.
  pub count_keys : (n : ℕ) (xs : List X) → apart key xs ≡ true → ((i : ℕ) (x : X) → slice_get xs i ≡ Some x → key x < n) → count_below n (λ k. present (lookup_by key xs k)) ≡ length xs
  count_keys n [] h known = none n
    where
      none : (n : ℕ) → count_below n (λ k. false) ≡ 0
      none zero = refl
      none (suc n) = let r = none n in omega arith
  count_keys n (x ∷ xs) h known = more (count_keys n xs (rest_apart x xs h) (λ i y. known (suc i) y))
    where
      before : ℕ → Bool
      before k = present (lookup_by key xs k)

      after : ℕ → Bool
      after k = present (lookup_by key (x ∷ xs) k)

      as_sum : (f : ℕ → Bool) (n : ℕ) → count_below n f ≡ sum_below n (λ k. cond (f k) 1 0)
      as_sum f zero = refl
      as_sum f (suc n) = ap (λ z. cond (f n) 1 0 + z) (as_sum f n)

      others : (k : ℕ) → (key x ≡ k → ⊥) → ◌≡◌ {A = ℕ} (cond (before k) 1 0) (cond (after k) 1 0)
      others k n = ap (λ o. cond (present o) 1 0) (sym (lookup_tail x xs k n))

      more : count_below n before ≡ length xs → count_below n after ≡ suc (length xs)
      more r =
          let change = sum_change n (λ k. cond (before k) 1 0) (λ k. cond (after k) 1 0) (key x) (known 0 x refl) others in
          let old : ◌≡◌ {A = ℕ} (cond (before (key x)) 1 0) 0 = ap (λ o. cond (present o) 1 0) (fresh x xs h) in
          let new : ◌≡◌ {A = ℕ} (cond (after (key x)) 1 0) 1 = ap (λ o. cond (present o) 1 0) (lookup_head x xs (key x) refl) in
          let s = as_sum before n in
          let t = as_sum after n in
          omega arith

-- The front of a list and the element behind it.
pub take_last : {X : Type 0} (xs : List X) (n : ℕ) (x : X) → slice_get xs n ≡ Some x → take (suc n) xs ≡ take n xs ++ x ∷ []
take_last [] n x h = absurd (none-some _ h)
take_last (y ∷ ys) zero x h = ap (λ z. z ∷ []) (same_Some _ _ h)
take_last (y ∷ ys) (suc n) x h = ap (λ zs. y ∷ zs) (take_last ys n x h)

slice_get_front : {X : Type 0} (xs : List X) (n i : ℕ) (x : X) → i < n → slice_get (take (suc n) xs) i ≡ Some x → slice_get (take n xs) i ≡ Some x
slice_get_front xs zero i x l h = absurd (omega arith)
slice_get_front [] (suc n) i x l h = absurd (none-some _ h)
slice_get_front (y ∷ ys) (suc n) zero x l h = h
slice_get_front (y ∷ ys) (suc n) (suc i) x l h = slice_get_front ys n i x (omega arith) h

pub slice_get-take : {X : Type 0} (xs : List X) (n i : ℕ) (x : X) → slice_get (take n xs) i ≡ Some x → slice_get xs i ≡ Some x
slice_get-take xs zero i x h = absurd (none-some _ h)
slice_get-take [] (suc n) i x h = absurd (none-some _ h)
slice_get-take (y ∷ ys) (suc n) zero x h = h
slice_get-take (y ∷ ys) (suc n) (suc i) x h = slice_get-take ys n i x h

-- An element removed: the last in use takes its place.
module _ {X : Type 0} (key : X → ℕ) (cs : List X) (n i : ℕ) (x l : X) (h : apart key (take (suc n) cs) ≡ true) (at : slice_get (take (suc n) cs) i ≡ Some x) (last : slice_get cs n ≡ Some l) (le : i ≤ n) where
  front : (apart key (take n cs) ≡ true) × (lookup_by key (take n cs) (key l) ≡ None)
  front = apart_front key (take n cs) l (subst (λ ys. apart key ys ≡ true) (take_last cs n l last) h)

  whole : (j : ℕ) → lookup_by key (take (suc n) cs) j ≡ put (key l) (Some l) (lookup_by key (take n cs)) j
  whole j = ap (λ ys. lookup_by key ys j) (take_last cs n l last) ∙ lookup_push key (take n cs) l front.1 j

  is_last : i ≡ n → x ≡ l
  is_last e = same_Some _ _ (sym (slice_get-take cs (suc n) i x at) ∙ (ap (slice_get cs) e ∙ last))

  pub lookup_removed : (j : ℕ) → lookup_by key (take n (set cs i l)) j ≡ put (key x) None (lookup_by key (take (suc n) cs)) j
  lookup_removed j = ⊎_elim at_last (λ ne. inner (less ne)) (cases_eq i n)
    where
      less : (i ≡ n → ⊥) → i < n
      less ne = omega (arith, ne, le)

      at_last : i ≡ n → lookup_by key (take n (set cs i l)) j ≡ put (key x) None (lookup_by key (take (suc n) cs)) j
      at_last e =
          ap (λ ys. lookup_by key ys j) (take-set-le n cs i l (omega arith)) ∙ subst (λ y. lookup_by key (take n cs) j ≡ put (key y) None (lookup_by key (take (suc n) cs)) j) (sym (is_last e)) (⊎_elim here away (cases_eq (key l) j))
        where
          here : key l ≡ j → lookup_by key (take n cs) j ≡ put (key l) None (lookup_by key (take (suc n) cs)) j
          here q =
              ap (lookup_by key (take n cs)) (sym q) ∙ (front.1 ∙ sym (cond-true (eqb (key l) j) None (lookup_by key (take (suc n) cs) j) (eq-eqb (key l) j q)))

          away : (key l ≡ j → ⊥) → lookup_by key (take n cs) j ≡ put (key l) None (lookup_by key (take (suc n) cs)) j
          away q =
              sym (put_other (key l) j None (lookup_by key (take (suc n) cs)) q ∙ (whole j ∙ put_other (key l) j (Some l) (lookup_by key (take n cs)) q))

      inner : i < n → lookup_by key (take n (set cs i l)) j ≡ put (key x) None (lookup_by key (take (suc n) cs)) j
      inner w =
          ap (λ ys. lookup_by key ys j) (take-set-lt n cs i l w) ∙ (lookup_replace key (take n cs) i x l front.0 (slice_get_front cs n i x w at) front.1 j ∙ (swap (eqb (key l) j) refl (eqb (key x) j) refl ∙ ap (λ z. cond (eqb (key x) j) None z) (sym (whole j))))
        where
          differ : key x ≡ key l → ⊥
          differ = other_key key (take n cs) i x (key l) front.0 (slice_get_front cs n i x w at) front.1

          swap : (s : Bool) → eqb (key l) j ≡ s → (t : Bool) → eqb (key x) j ≡ t → cond s (Some l) (cond t None (lookup_by key (take n cs) j)) ≡ cond t None (cond s (Some l) (lookup_by key (take n cs) j))
          swap true a true b = absurd (differ (eqb-true (key x) j b ∙ sym (eqb-true (key l) j a)))
          swap true a false b = refl
          swap false a true b = refl
          swap false a false b = refl

  pub apart_removed : apart key (take n (set cs i l)) ≡ true
  apart_removed = ⊎_elim at_last (λ ne. inner (less ne)) (cases_eq i n)
    where
      less : (i ≡ n → ⊥) → i < n
      less ne = omega (arith, ne, le)

      at_last : i ≡ n → apart key (take n (set cs i l)) ≡ true
      at_last e = subst (λ ys. apart key ys ≡ true) (sym (take-set-le n cs i l (omega arith))) front.0

      inner : i < n → apart key (take n (set cs i l)) ≡ true
      inner w =
          subst (λ ys. apart key ys ≡ true) (sym (take-set-lt n cs i l w)) (apart_replace key (take n cs) i x l front.0 (slice_get_front cs n i x w at) front.1)
