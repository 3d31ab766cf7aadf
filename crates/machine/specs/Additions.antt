-- Two additions modulo 2^32 into cells commute, whether they go into one cell or into two.
use Rattle.std.specs.Prelude.{◌≡◌, ℕ, ◌+◌, ◌<◌, ◌≢◌, List, length, slice_index, slice_set}
use Rattle.std.proofs.Common.{⊎_elim, sym, arith}
use Rattle.std.proofs.lemmas.List.{set-set, set_comm, get_or-set_same, get_or-set_other}
use Rattle.std.proofs.lemmas.Bool.{cases_eq}
use Rattle.machine.specs.Words.{wrap}

-- The cells with x added at i.
abbrev pub added : List ℕ → ℕ → ℕ → List ℕ
added s i x = slice_set s i (wrap (slice_index s i + x))

twice : (s : List ℕ) (i x y : ℕ) → i < length s → added (added s i x) i y ≡ slice_set s i (wrap (slice_index s i + (x + y)))
twice s i x y l = rw (set-set, get_or-set_same) (let e : wrap (wrap (slice_index s i + x) + y) ≡ wrap (slice_index s i + (x + y)) = omega arith in rw e)

one_cell : (s : List ℕ) (i x y : ℕ) → i < length s → added (added s i x) i y ≡ added (added s i y) i x
one_cell s i x y l = rw (twice s i x y l, twice s i y x l) (let e : x + y ≡ y + x = omega arith in rw e)

two_cells : (s : List ℕ) (i j x y : ℕ) → (i ≢ j) → added (added s i x) j y ≡ added (added s j y) i x
two_cells s i j x y n = let m : j ≢ i = λ e. n (sym e) in rw (get_or-set_other s i j _ 0 m, get_or-set_other s j i _ 0 n) (set_comm s i j _ _ n)

pub additions_commute : (s : List ℕ) (i j x y : ℕ) → i < length s → added (added s i x) j y ≡ added (added s j y) i x
additions_commute s i j x y l =
    ⊎_elim (λ (e : i ≡ j). rw (← e) (one_cell s i x y l)) (λ n. two_cells s i j x y n) (cases_eq i j)
