-- New bytes alone in zeros.
use Rattle.std.proofs.Common.{◌≡◌, ℕ, ◌-◌, ◌≤◌, List, ◌++◌, length, drop, replicate, ap, ◌∙◌, zero-add, arith}
use Rattle.std.proofs.lemmas.List.{drop-replicate, length-replicate}
use Rattle.trace.proofs.Appending.{whole}
use Rattle.trace.specs.Appending.{Appended}

-- What stands in zeros once bytes that fit were put in front.
pub in_zeros : (size : ℕ) (new after : List ℕ) (used : ℕ) → length new ≤ size → Appended (replicate size 0) 0 new after used → (after ≡ new ++ replicate (size - length new) 0) × (used ≡ length new)
in_zeros size new after used fits a =
    let zeros : List ℕ = replicate size 0 in
    let all : length zeros ≡ size = length-replicate size 0 in
    let w = whole zeros 0 new after used (omega arith) a in
    (w.0 ∙ ap (λ k. new ++ drop k zeros) (zero-add (length new)) ∙ ap (λ z. new ++ z) (drop-replicate (length new) size 0), w.1 ∙ zero-add (length new))
