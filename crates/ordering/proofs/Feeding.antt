-- A command that runs late is fed at its place: it commutes back past the later ones, none of which conflicts with it.
use Rattle.std.proofs.Common.{◌≡◌, ℕ, Bool, true, false, cond, ◌⊎◌, List, [], ◌∷◌, refl, ap, ◌∙◌, inl, inr, ⊎_elim}
use Rattle.machine.specs.Kinds.{Kind, Laws}
use Rattle.ordering.specs.Ordering.{Earlier, Entry, pair_of, Listed, Each, Rising, plain}
use Rattle.ordering.specs.Searches.{earlier}
use Rattle.ordering.proofs.Pairs.{earlier_true, earlier_false, earlier_trans}

-- The entry at its place.
abbrev pub insert : Entry → List Entry → List Entry
insert x [] = x ∷ []
insert x (y ∷ ys) = cond (earlier (pair_of x) (pair_of y)) (y ∷ insert x ys) (x ∷ y ∷ ys)

pub each_map : (P Q : Entry → Type 0) (es : List Entry) → ((e : Entry) → P e → Q e) → Each P es → Each Q es
each_map P Q [] f h = tt
each_map P Q (e ∷ es) f h = (f e h.0, each_map P Q es f h.1)

pub each_insert : (P : Entry → Type 0) (x : Entry) (es : List Entry) → P x → Each P es → Each P (insert x es)
each_insert P x [] p h = (p, tt)
each_insert P x (y ∷ ys) p h = go (earlier (pair_of x) (pair_of y)) (each_insert P x ys p h.1)
  where
    go : (t : Bool) → Each P (insert x ys) → Each P (cond t (y ∷ insert x ys) (x ∷ y ∷ ys))
    go true r = (h.0, r)
    go false r = (p, h)

pub listed_new : (x : Entry) (es : List Entry) → Listed x.number (insert x es)
listed_new x [] = inl refl
listed_new x (y ∷ ys) = go (earlier (pair_of x) (pair_of y)) (listed_new x ys)
  where
    go : (t : Bool) → Listed x.number (insert x ys) → Listed x.number (cond t (y ∷ insert x ys) (x ∷ y ∷ ys))
    go true r = inr r
    go false r = inl refl

pub listed_old : (x : Entry) (k : ℕ) (es : List Entry) → Listed k es → Listed k (insert x es)
listed_old x k [] h = absurd h
listed_old x k (y ∷ ys) h = go (earlier (pair_of x) (pair_of y)) (⊎_elim (λ e. inl e) (λ r. inr (listed_old x k ys r)) h)
  where
    go : (t : Bool) → (y.number ≡ k) ⊎ Listed k (insert x ys) → Listed k (cond t (y ∷ insert x ys) (x ∷ y ∷ ys))
    go true r = r
    go false r = inr h

pub rising_insert : (x : Entry) (es : List Entry) → Each (λ y. x.number ≡ y.number → ⊥) es → Rising es → Rising (insert x es)
rising_insert x [] ne h = (tt, tt)
rising_insert x (y ∷ ys) ne h = go (earlier (pair_of x) (pair_of y)) refl (rising_insert x ys ne.1 h.1)
  where
    go : (t : Bool) → earlier (pair_of x) (pair_of y) ≡ t → Rising (insert x ys) → Rising (cond t (y ∷ insert x ys) (x ∷ y ∷ ys))
    go true e r =
        (each_insert (λ z. Earlier (pair_of z) (pair_of y)) x ys (earlier_true (pair_of x) (pair_of y) e) h.0, r)
    go false e r =
        let before : Earlier (pair_of y) (pair_of x) = earlier_false (pair_of x) (pair_of y) e ne.0 in
        ((before, each_map (λ z. Earlier (pair_of z) (pair_of y)) (λ z. Earlier (pair_of z) (pair_of x)) ys (λ z q. earlier_trans (pair_of z) (pair_of y) (pair_of x) q before) h.0), h)

pub plain_lawful : (K : Kind) → Laws K → (es : List Entry) → K.lawful (plain K es) ≡ true
plain_lawful K L [] = L.starts
plain_lawful K L (e ∷ es) = L.keeps (plain K es) e.command (plain_lawful K L es)

-- What stands later than x does not conflict with it.
abbrev pub Passable : Kind → Entry → Entry → Type 0
Passable K x y = Earlier (pair_of x) (pair_of y) → K.conflict y.command x.command ≡ false

pub plain_insert : (K : Kind) → Laws K → (x : Entry) (es : List Entry) → Each (Passable K x) es → K.next (plain K es) x.command ≡ plain K (insert x es)
plain_insert K L x [] h = refl
plain_insert K L x (y ∷ ys) h = go (earlier (pair_of x) (pair_of y)) refl (plain_insert K L x ys h.1)
  where
    go : (t : Bool) → earlier (pair_of x) (pair_of y) ≡ t → K.next (plain K ys) x.command ≡ plain K (insert x ys) → K.next (K.next (plain K ys) y.command) x.command ≡ plain K (cond t (y ∷ insert x ys) (x ∷ y ∷ ys))
    go true e r =
        L.commuting (plain K ys) y.command x.command (plain_lawful K L ys) (h.0 (earlier_true (pair_of x) (pair_of y) e)) ∙ ap (λ s. K.next s y.command) r
    go false e r = refl
