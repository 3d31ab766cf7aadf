-- A list in the first n of its places: what is lent of it, and what it is when its places have changed.
use Rattle.std.proofs.Common.{◌≡◌, ℕ, ◌-◌, ◌<◌, ◌≤◌, List, ◌++◌, length, take, drop, set, get_or, Some, sym, ap, ◌∙◌, arith, length-take, length-set, get_or-take}
use Rattle.std.proofs.lemmas.List.{take_at, drop_at, take-append-drop, take-append-le, drop-append-le, set-append_left}
use Rattle.std.proofs.lemmas.Option.{get_or_from_slice_get}
use Rattle.std.specs.List.{slice_get}
use Rattle.line.specs.Listings.{Listing, listing, written, moved_last}

both : {X : Type 0} (xs xs' ys ys' : List X) → xs ≡ xs' → ys ≡ ys' → ◌≡◌ {A = Listing X} (xs, ys) (xs', ys')
both xs xs' ys ys' p q = λ i. (p i, q i)

module _ {X : Type 0} (places : List X) (n : ℕ) (xs : Listing X) (is : listing n places ≡ xs) where
  front : take n places ≡ xs.0
  front = ap (λ l. l.0) is

  spare : drop n places ≡ xs.1
  spare = ap (λ l. l.1) is

  all : places ≡ xs.0 ++ xs.1
  all = sym (take-append-drop n places) ∙ ap (λ l. l.0 ++ l.1) is

  pub lent : (i : ℕ) (x d : X) → slice_get xs.0 i ≡ Some x → get_or (take n places) i d ≡ x
  lent i x d at = ap (λ l. get_or l i d) front ∙ get_or_from_slice_get xs.0 i x d at

  pub count : n ≤ length places → length xs.0 ≡ n
  count fits = let w = ap length front in let v = length-take n places in omega arith

  pub given_back : n ≤ length places → (i : ℕ) (y : X) → listing n (set (take n places) i y ++ drop n places) ≡ written xs i y
  given_back fits i y =
      let w : length (set (take n places) i y) ≡ n = (let u = length-set (take n places) i y in let v = length-take n places in omega arith) in
      both _ _ _ _ (take_at (set (take n places) i y) (drop n places) n w ∙ ap (λ l. set l i y) front) (drop_at (set (take n places) i y) (drop n places) n w ∙ spare)

  -- The last element taken to place i.
  pub last_moved : n ≤ length places → (i : ℕ) (x d : X) → i < n → slice_get xs.0 (length xs.0 - 1) ≡ Some x → listing (n - 1) (set places i (get_or places (n - 1) d)) ≡ moved_last xs i x
  last_moved fits i x d l at =
      let many : length xs.0 ≡ n = count fits in
      let moved : get_or places (n - 1) d ≡ x = sym (get_or-take n places (n - 1) d (omega arith)) ∙ (ap (λ k. get_or (take n places) (k - 1) d) (sym many) ∙ lent (length xs.0 - 1) x d at) in
      let now : set places i (get_or places (n - 1) d) ≡ set xs.0 i x ++ xs.1 = ap (set places i) moved ∙ (ap (λ l. set l i x) all ∙ set-append_left xs.0 xs.1 i x (omega arith)) in
      let w = length-set xs.0 i x in
      ap (listing (n - 1)) now
      ∙ (ap (λ k. listing (k - 1) (set xs.0 i x ++ xs.1)) (sym many)
      ∙ both _ _ _ _ (take-append-le (length xs.0 - 1) (set xs.0 i x) xs.1 (omega arith)) (drop-append-le (length xs.0 - 1) (set xs.0 i x) xs.1 (omega arith)))
