-- Cells below 2^32 stay so through every way in which a kind makes new cells: set, take, drop, append and wrap.
use Rattle.std.specs.Prelude.{◌≡◌, ℕ, zero, suc, ◌^◌, ◌<◌, true, List, [], ◌∷◌, ◌++◌, map, length, take, drop, slice_index, slice_set, refl}
use Rattle.std.proofs.Common.{arith}
use Rattle.std.proofs.lemmas.List.{length-set}
use Rattle.std.proofs.lemmas.Bool.{and_parts, and_from, ltb-true, lt-ltb, eqb-true, eq-eqb}
use Rattle.machine.specs.Words.{wrap, words, word_cells}

pub wrap_below : (x : ℕ) → wrap x < 2 ^ 32
wrap_below x = omega arith

-- The two parts of lawful cells, and back.
pub cells_length : (n : ℕ) (s : List ℕ) → word_cells n s ≡ true → length s ≡ n
cells_length n s h = eqb-true (length s) n (and_parts _ _ h).0

pub cells_words : (n : ℕ) (s : List ℕ) → word_cells n s ≡ true → words s ≡ true
cells_words n s h = (and_parts _ _ h).1

pub cells_from : (n : ℕ) (s : List ℕ) → length s ≡ n → words s ≡ true → word_cells n s ≡ true
cells_from n s l w = and_from _ _ (eq-eqb (length s) n l) w

pub words_cons : (x : ℕ) (xs : List ℕ) → x < 2 ^ 32 → words xs ≡ true → words (x ∷ xs) ≡ true
words_cons x xs h w = and_from _ _ (lt-ltb x (2 ^ 32) h) w

words-head : (x : ℕ) (xs : List ℕ) → words (x ∷ xs) ≡ true → x < 2 ^ 32
words-head x xs w = ltb-true x (2 ^ 32) (and_parts _ _ w).0

words_tail : (x : ℕ) (xs : List ℕ) → words (x ∷ xs) ≡ true → words xs ≡ true
words_tail x xs w = (and_parts _ _ w).1

pub get_d_below : (s : List ℕ) (i : ℕ) → words s ≡ true → slice_index s i < 2 ^ 32
get_d_below [] i w = omega arith
get_d_below (x ∷ xs) zero w = words-head x xs w
get_d_below (x ∷ xs) (suc i) w = get_d_below xs i (words_tail x xs w)

words-set : (s : List ℕ) (i v : ℕ) → v < 2 ^ 32 → words s ≡ true → words (slice_set s i v) ≡ true
words-set [] i v h w = refl
words-set (x ∷ xs) zero v h w = words_cons v xs h (words_tail x xs w)
words-set (x ∷ xs) (suc i) v h w = words_cons x (slice_set xs i v) (words-head x xs w) (words-set xs i v h (words_tail x xs w))

pub cells_set : (n : ℕ) (s : List ℕ) (i v : ℕ) → v < 2 ^ 32 → word_cells n s ≡ true → word_cells n (slice_set s i v) ≡ true
cells_set n s i v h w =
    let l : length (slice_set s i v) ≡ n = rw length-set (cells_length n s w) in
    cells_from n (slice_set s i v) l (words-set s i v h (cells_words n s w))

pub words_take : (n : ℕ) (s : List ℕ) → words s ≡ true → words (take n s) ≡ true
words_take zero s w = refl
words_take (suc n) [] w = refl
words_take (suc n) (x ∷ xs) w = words_cons x (take n xs) (words-head x xs w) (words_take n xs (words_tail x xs w))

pub words-drop : (n : ℕ) (s : List ℕ) → words s ≡ true → words (drop n s) ≡ true
words-drop zero s w = w
words-drop (suc n) [] w = refl
words-drop (suc n) (x ∷ xs) w = words-drop n xs (words_tail x xs w)

pub words_append : (s t : List ℕ) → words s ≡ true → words t ≡ true → words (s ++ t) ≡ true
words_append [] t v w = w
words_append (x ∷ xs) t v w = words_cons x (xs ++ t) (words-head x xs v) (words_append xs t (words_tail x xs v) w)

pub words_wrapped : (s : List ℕ) → words (map wrap s) ≡ true
words_wrapped [] = refl
words_wrapped (x ∷ xs) = words_cons (wrap x) (map wrap xs) (wrap_below x) (words_wrapped xs)
