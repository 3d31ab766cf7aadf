-- Two appends as one.
use Rattle.std.proofs.Common.{◌≡◌, ℕ, zero, suc, ◌+◌, ◌-◌, ◌≤◌, min, ◌⊎◌, List, [], ◌∷◌, ◌++◌, length, take, drop, sym, ap, ◌∙◌, inl, inr, ⊎_elim, append_assoc, append-nil, arith}
use Rattle.std.proofs.lemmas.List.{drop_all, drop_at, drop-drop, length-append, length-drop, length-take, take_all, take_at}
use Rattle.std.proofs.lemmas.Bool.{cases_lt}
use Rattle.trace.specs.Appending.{Adds, Appended, fitting}
use Rattle.trace.specs.declared.Trace.{Trace}

-- New bytes that all fit stand there whole.
pub whole : (before : List ℕ) (used : ℕ) (new after : List ℕ) (used' : ℕ) → length new ≤ length before - used → Appended before used new after used' → (after ≡ take used before ++ (new ++ drop (used + length new) before)) × (used' ≡ used + length new)
whole before used new after used' fits a =
    let e : fitting before used new ≡ new = take_all (length before - used) new fits in
    (a.bytes ∙ ap (λ z. take used before ++ (z ++ drop (used + length z) before)) e, a.count ∙ ap (λ z. used + length z) e)

from_fitting : (before : List ℕ) (used : ℕ) (new fit after : List ℕ) (used' : ℕ) → fitting before used new ≡ fit → after ≡ take used before ++ (fit ++ drop (used + length fit) before) → used' ≡ used + length fit → Appended before used new after used'
from_fitting before used new fit after used' e a c =
    record { bytes = a ∙ ap (λ z. take used before ++ (z ++ drop (used + length z) before)) (sym e); count = c ∙ ap (λ z. used + length z) (sym e) }

take-append : (n : ℕ) (xs ys : List ℕ) → take n (xs ++ ys) ≡ take n xs ++ take (n - length xs) ys
take-append zero xs ys = let e : 0 ≡ 0 - length xs = omega arith in ap (λ k. take k ys) e
take-append (suc n) [] ys = let e : suc n ≡ suc n - 0 = omega arith in ap (λ k. take k ys) e
take-append (suc n) (x ∷ xs) ys = let e : n - length xs ≡ suc n - suc (length xs) = omega arith in ap (λ z. x ∷ z) (take-append n xs ys ∙ ap (λ k. take n xs ++ take k ys) e)

-- A list cut where its first part ends, or behind its end where nothing follows that part.
at_cut : (p left between : List ℕ) (n : ℕ) → between ≡ p ++ left → (length p ≡ n) ⊎ ((length between ≤ n) × (left ≡ [])) → (take n between ≡ p) × (drop n between ≡ left)
at_cut p left between n e (inl h) = (ap (take n) e ∙ take_at p left n h, ap (drop n) e ∙ drop_at p left n h)
at_cut p left between n e (inr h) = (take_all n between h.0 ∙ e ∙ ap (λ z. p ++ z) h.1 ∙ append-nil p, drop_all n between h.0 ∙ sym h.1)

-- Two appends are one append of both.
pub joined : (before : List ℕ) (used : ℕ) (ys between : List ℕ) (used' : ℕ) (zs after : List ℕ) (used'' : ℕ) → Appended before used ys between used' → Appended between used' zs after used'' → Appended before used (ys ++ zs) after used''
joined before used ys between used' zs after used'' a b =
    let p : List ℕ = take used before in
    let fit : List ℕ = fitting before used ys in
    let more : List ℕ = fitting between used' zs in
    let left : List ℕ = drop (used + length fit) before in
    let split : between ≡ (p ++ fit) ++ left = a.bytes ∙ sym (append_assoc p fit left) in
    let size_p : length p ≡ min used (length before) = length-take used before in
    let size_fit : length fit ≡ min (length before - used) (length ys) = length-take (length before - used) ys in
    let size_front : length (p ++ fit) ≡ length p + length fit = length-append p fit in
    let size_left : length left ≡ length before - (used + length fit) = length-drop (used + length fit) before in
    let size : length between ≡ length (p ++ fit) + length left = ap length split ∙ length-append (p ++ fit) left in
    let cut : (take used' between ≡ p ++ fit) × (drop used' between ≡ left) =
    at_cut (p ++ fit) left between used' split (⊎_elim (λ h. inr (omega (arith, a.count), drop_all (used + length fit) before (omega arith))) (λ h. inl (omega (arith, a.count))) (cases_lt (length before) used)) in
    let room : length between - used' ≡ length before - used - length ys = omega (arith, a.count) in
    let both : fitting before used (ys ++ zs) ≡ fit ++ more = take-append (length before - used) ys zs ∙ ap (λ k. fit ++ take k zs) (sym room) in
    let size_both : length (fit ++ more) ≡ length fit + length more = length-append fit more in
    let place : used + length fit + length more ≡ used + length (fit ++ more) = omega arith in
    let rest : drop (used' + length more) between ≡ drop (used + length (fit ++ more)) before =
    sym (drop-drop (length more) used' between) ∙ ap (drop (length more)) cut.1 ∙ drop-drop (length more) (used + length fit) before ∙ ap (λ k. drop k before) place in
    let text : after ≡ p ++ ((fit ++ more) ++ drop (used + length (fit ++ more)) before) =
    b.bytes ∙ (λ i. cut.0 i ++ (more ++ rest i)) ∙ simp append_assoc in
    from_fitting before used (ys ++ zs) (fit ++ more) after used'' both text (omega (arith, a.count, b.count))

-- The same of traces.
pub then : (t : Trace) (ys : List ℕ) (u : Trace) (zs : List ℕ) (v : Trace) → Adds t ys u → Adds u zs v → Adds t (ys ++ zs) v
then t ys u zs v a b =
    record { text = joined t.bytes.now t.used ys u.bytes.now u.used zs v.bytes.now v.used a.text b.text; lender = b.lender ∙ a.lender }
