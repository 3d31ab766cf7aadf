-- Tests, options and functions changed at one place.
use Rattle.std.proofs.Common.{◌≡◌, ℕ, Bool, true, false, cond, eqb, Some, None, Ok, Err, Option, Result, sym, refl, arith}
use Rattle.std.proofs.lemmas.Bool.{cond-true, cond-false, eq-eqb, ne_eqb, eqb-true, eqb-false, false≢true}
use Rattle.ordering.specs.Searches.{put, present}

pub some_inj : {A : Type 0} {x y : A} → ◌≡◌ {A = Option A} (Some x) (Some y) → x ≡ y
some_inj h = cc

pub ok_inj : {A E : Type 0} {x y : A} → ◌≡◌ {A = Result A E} (Ok x) (Ok y) → x ≡ y
ok_inj h = cc

pub err_ok : {A E : Type 0} {x : A} {e : E} → ◌≡◌ {A = Result A E} (Err e) (Ok x) → ⊥
err_ok h = let z : ◌≡◌ {A = ℕ} 0 1 = cc in omega arith

pub put_same : {X : Type 0} (i : ℕ) (x : X) (f : ℕ → X) → put i x f i ≡ x
put_same i x f = cond-true (eqb i i) x (f i) (eq-eqb i i refl)

pub put_other : {X : Type 0} (i j : ℕ) (x : X) (f : ℕ → X) → (i ≡ j → ⊥) → put i x f j ≡ f j
put_other i j x f ne = cond-false (eqb i j) x (f j) (ne_eqb i j ne)

-- A fact of a changed function at j: at the place of the change, or elsewhere.
pub put_cases : {X : Type 0} (i j : ℕ) (x : X) (f : ℕ → X) (P : X → Type 0) → (i ≡ j → P x) → ((i ≡ j → ⊥) → P (f j)) → P (put i x f j)
put_cases i j x f P here away = go (eqb i j) refl
  where
    go : (t : Bool) → eqb i j ≡ t → P (cond t x (f j))
    go true e = here (eqb-true i j e)
    go false e = away (eqb-false i j e)

pub absent_none : {A : Type 0} (o : Option A) → present o ≡ false → o ≡ None
absent_none None h = refl
absent_none (Some x) h = absurd (false≢true (sym h))
