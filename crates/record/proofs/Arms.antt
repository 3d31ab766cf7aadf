-- Small facts of the bytes that a slice pattern tells, in the words of specs/Cut.
use Rattle.std.proofs.Common.{◌≡◌, ℕ, ◌+◌, ◌-◌, ◌<◌, ◌≤◌, List, [], ◌∷◌, length, get_or, sym, refl, ap, ◌∙◌, arith}
use Rattle.std.proofs.lemmas.List.{take_rest, length-drop}
use Rattle.std.proofs.lemmas.Bool.Decides.{nat_tests}
use Rattle.record.specs.Cut.{onwards, text_step, inside}

pub onwards_length : (k : ℕ) (bs : List ℕ) → length (onwards k bs) ≡ length bs - k
onwards_length k bs = ap length (take_rest bs k) ∙ length-drop k bs

-- The first byte, and the first two.
pub head_is : (k : ℕ) (bs : List ℕ) → 0 < k → get_or bs 0 0 ≡ k → bs ≡ k ∷ onwards 1 bs
head_is k [] l e = absurd (omega arith)
head_is k (b ∷ bs) l e = ap (λ x. x ∷ bs) e ∙ ap (λ x. k ∷ x) (sym (take_rest (b ∷ bs) 1))

pub heads_are : (j k : ℕ) (bs : List ℕ) → 0 < j → 0 < k → get_or bs 0 0 ≡ j → get_or bs 1 0 ≡ k → bs ≡ j ∷ k ∷ onwards 2 bs
heads_are j k [] l m d e = absurd (omega arith)
heads_are j k (b ∷ []) l m d e = absurd (omega arith)
heads_are j k (b ∷ c ∷ bs) l m d e = ap (λ x. x ∷ c ∷ bs) d ∙ ap (λ x. j ∷ x ∷ bs) e ∙ ap (λ x. j ∷ k ∷ x) (sym (take_rest (b ∷ c ∷ bs) 2))

-- One step between quotes: what it leads from and to.
inside_step : (bs : List ℕ) → 0 < text_step bs → (inside bs ≡ text_step bs + inside (onwards (text_step bs) bs)) × (text_step bs ≤ length bs)
unfolding inside
inside_step [] h = absurd (omega arith)
inside_step (b ∷ []) h = (grind (arith, nat_tests, take_rest, h), grind (arith, nat_tests, h))
inside_step (b ∷ c ∷ bs) h = (grind (arith, nat_tests, take_rest, h), grind (arith, nat_tests, h))

pub inside_stop : (bs : List ℕ) → text_step bs ≡ 0 → inside bs ≡ 0
unfolding inside
inside_stop [] h = refl
inside_stop (b ∷ []) h = h
inside_stop (b ∷ c ∷ bs) h = grind (arith, nat_tests, h)

pub inside_more : (all whole : ℕ) (rest more : List ℕ) → all + length rest ≡ whole + inside rest → length rest ≤ whole → more ≡ onwards (text_step rest) rest → 0 < text_step rest → (all + length more ≡ whole + inside more) × (length more ≤ whole)
inside_more all whole rest more e l h p =
    let s = inside_step rest p in
    let m : inside more ≡ inside (onwards (text_step rest) rest) = ap inside h in
    let n : length more ≡ length rest - text_step rest = ap length h ∙ onwards_length (text_step rest) rest in
    (omega (arith, s.0, s.1), omega arith)
