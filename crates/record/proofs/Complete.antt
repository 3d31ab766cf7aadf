-- What stands there is cut: the relations of specs/Rfc4180 fix the answers of specs/Cut.
use Rattle.std.proofs.Common.{◌≡◌, ℕ, zero, suc, ◌+◌, ◌<◌, Bool, true, false, cond, ◌&&◌, eqb, List, [], ◌∷◌, ◌++◌, length, get_or, take, drop, Ok, Err, sym, refl, ap, ◌∙◌, append_assoc, add-zero, one-add, arith}
use Rattle.std.specs.List.{prefix_len}
use Rattle.std.proofs.lemmas.List.{take_at, drop_at, drop_all, take_rest, length-append}
use Rattle.std.proofs.lemmas.Bool.{ne_eqb, eqb-true, and_parts, cond-false}
use Rattle.std.proofs.lemmas.Bool.Decides.{nat_tests}
use Rattle.record.specs.declared.FieldEnd.{FieldEnd}
use Rattle.record.specs.declared.FieldEnd.TheVariants.{Comma, Last}
use Rattle.record.specs.declared.RecordEnd.{RecordEnd}
use Rattle.record.specs.declared.RecordEnd.TheVariants.{CrLf, Script}
use Rattle.record.specs.Bytes.{Piece, piece, textdata, field_end_bytes, record_end_bytes}
use Rattle.record.specs.Cut.{Cutting, fault_at, ended, onwards, closed, inside, quoted_field, plain_field, cut_field, behind, step, cut_by, cut_record}
use Rattle.record.specs.Rfc4180.{PlainText, QuotedText, FieldIs, RecordIs, FieldStands, Stands, EndsNone, FieldFault, RecordFault}
use Rattle.record.specs.Rfc4180.PlainText.{none, more}
use Rattle.record.specs.Rfc4180.QuotedText.{nothing, other, doubled}
use Rattle.record.specs.Rfc4180.FieldIs.{plain, escaped}
use Rattle.record.specs.Rfc4180.RecordIs.{last, comma}
use Rattle.record.specs.Rfc4180.FieldFault.{unclosed, behind_plain, behind_quoted}
use Rattle.record.specs.Rfc4180.RecordFault.{here, later}
use Rattle.record.proofs.Arms.{head_is}

-- The end of a field.
closed_at : (p : Piece) (end : FieldEnd) (rest : List ℕ) (at : ℕ) → (end ≡ Last Script → rest ≡ []) → closed p (field_end_bytes end ++ rest) at ≡ ended p end rest (at + length (field_end_bytes end))
closed_at p Comma rest at h = ap (λ x. ended p Comma x (at + 1)) (take_rest (44 ∷ rest) 1)
closed_at p (Last CrLf) rest at h = ap (λ x. ended p (Last CrLf) x (at + 2)) (take_rest (13 ∷ 10 ∷ rest) 2)
closed_at p (Last Script) [] at h = ap (ended p (Last Script) []) (sym (add-zero at))
closed_at p (Last Script) (c ∷ rest) at h = let e : c ∷ rest ≡ [] = h refl in cc

-- Whether bytes begin with a quote.
abbrev quote_first : List ℕ → Bool
quote_first bs = eqb (get_or bs 0 0) 34

end_no_quote : (end : FieldEnd) (rest : List ℕ) → (end ≡ Last Script → rest ≡ []) → quote_first (field_end_bytes end ++ rest) ≡ false
end_no_quote Comma rest h = refl
end_no_quote (Last CrLf) rest h = refl
end_no_quote (Last Script) rest h = ap quote_first (h refl)

end_no_text : (end : FieldEnd) (rest : List ℕ) → (end ≡ Last Script → rest ≡ []) → prefix_len textdata (field_end_bytes end ++ rest) ≡ 0
end_no_text Comma rest h = refl
end_no_text (Last CrLf) rest h = refl
end_no_text (Last Script) rest h = ap (prefix_len textdata) (h refl)

-- A plain field.
no_quote : (b : ℕ) → textdata b ≡ true → eqb b 34 ≡ false
no_quote b e = grind (arith, nat_tests)

plain_no_quote : {w : List ℕ} → PlainText w → (t : List ℕ) → quote_first t ≡ false → quote_first (w ++ t) ≡ false
plain_no_quote none t h = h
plain_no_quote (more {b} e p) t h = no_quote b e

plain_leading : {w : List ℕ} → PlainText w → (t : List ℕ) → prefix_len textdata t ≡ 0 → prefix_len textdata (w ++ t) ≡ length w
plain_leading none t h = h
plain_leading (more e p) t h = rw e (one-add _ ∙ ap suc (plain_leading p t h))

cut_plain : (bs : List ℕ) (at : ℕ) → quote_first bs ≡ false → cut_field bs at ≡ plain_field bs at (prefix_len textdata bs)
cut_plain bs at h = cond-false _ _ _ h

-- A quoted field.
inside_other : (b : ℕ) (bs : List ℕ) → eqb b 34 ≡ false → inside (b ∷ bs) ≡ 1 + inside bs
unfolding inside
inside_other b [] e = rw e
inside_other b (c ∷ bs) e = rw e

inside_ends : (t : List ℕ) → quote_first t ≡ false → inside (34 ∷ t) ≡ 0
unfolding inside
inside_ends [] h = refl
inside_ends (c ∷ t) h = rw h

inside_doubled : (bs : List ℕ) → inside (34 ∷ 34 ∷ bs) ≡ 2 + inside bs
unfolding inside
inside_doubled bs = refl

inside_all : {w : List ℕ} → QuotedText w → (t : List ℕ) → quote_first t ≡ false → inside (w ++ (34 ∷ t)) ≡ length w
inside_all nothing t h = inside_ends t h
inside_all (other {b} n q) t h = inside_other b _ (ne_eqb b 34 n) ∙ ap (λ k. 1 + k) (inside_all q t h) ∙ one-add _
inside_all (doubled {bs} q) t h = inside_doubled _ ∙ ap (λ k. 2 + k) (inside_all q t h) ∙ two
  where
    two : 2 + length bs ≡ suc (suc (length bs))
    two = omega arith

-- A field that stands there is cut.
field_is_cut : (at : ℕ) {w text : List ℕ} → FieldIs w text → (end : FieldEnd) (rest : List ℕ) → (end ≡ Last Script → rest ≡ []) → cut_field (w ++ (field_end_bytes end ++ rest)) at ≡ ended (piece text at) end rest (at + length w + length (field_end_bytes end))
field_is_cut at (plain {text} p) end rest h =
    cut_plain (text ++ t) at (plain_no_quote p t (end_no_quote end rest h))
    ∙ ap (plain_field (text ++ t) at) (plain_leading p t (end_no_text end rest h))
    ∙ ap (λ x. closed (piece x at) (drop (length text) (text ++ t)) (at + length text)) (take_at text t (length text) refl)
    ∙ ap (λ x. closed (piece text at) x (at + length text)) (drop_at text t (length text) refl)
    ∙ closed_at (piece text at) end rest (at + length text) h
  where
    t : List ℕ
    t = field_end_bytes end ++ rest
field_is_cut at (escaped {text} q) end rest h =
    ap (λ x. quoted_field x at (inside x)) (take_rest (34 ∷ ((text ++ (34 ∷ [])) ++ t)) 1)
    ∙ ap (λ x. quoted_field x at (inside x)) (append_assoc text (34 ∷ []) t)
    ∙ ap (quoted_field (text ++ (34 ∷ t)) at) (inside_all q t (end_no_quote end rest h))
    ∙ ap (λ x. cond (eqb (get_or x 0 0) 34) (closed (piece (take (length text) (text ++ (34 ∷ t))) at) (onwards 1 x) (at + length text + 2)) (Err (fault_at at))) (drop_at text (34 ∷ t) (length text) refl)
    ∙ ap (λ x. closed (piece x at) (onwards 1 (34 ∷ t)) (at + length text + 2)) (take_at text (34 ∷ t) (length text) refl)
    ∙ ap (λ x. closed (piece text at) x (at + length text + 2)) (take_rest (34 ∷ t) 1)
    ∙ closed_at (piece text at) end rest (at + length text + 2) h
    ∙ ap (λ k. ended (piece text at) end rest (k + length (field_end_bytes end))) count
  where
    t : List ℕ
    t = field_end_bytes end ++ rest

    count : at + length text + 2 ≡ at + length (34 ∷ (text ++ (34 ∷ [])))
    count = omega (arith, length-append text (34 ∷ []))

pub field_stands_cut : (at : ℕ) (bs text : List ℕ) (end : FieldEnd) (rest : List ℕ) (s : FieldStands bs text end rest) → cut_field bs at ≡ ended (piece text at) end rest (at + length s.written + length (field_end_bytes end))
field_stands_cut at bs text end rest s = ap (λ x. cut_field x at) s.splits ∙ field_is_cut at s.is_field end rest s.nothing_left

-- A record that stands there is cut.
abbrev pub cut_to : List Piece → RecordEnd → List ℕ → ℕ → Cutting
cut_to ps end rest next = record { pieces = ps; outcome = Ok (record { end = end; next = next; rest = rest }) }

record_is_cut : {at : ℕ} {w : List ℕ} {ps : List Piece} → RecordIs at w ps → (end : RecordEnd) (rest : List ℕ) → (end ≡ Script → rest ≡ []) → (fuel : ℕ) → length w < fuel → cut_by fuel (w ++ (record_end_bytes end ++ rest)) at ≡ cut_to ps end rest (at + length w + length (record_end_bytes end))
record_is_cut (last f) end rest h zero l = absurd (omega arith)
record_is_cut (last {at} f) end rest h (suc k) l = ap (step (cut_by k)) (field_is_cut at f (Last end) rest (λ z. h (cc)))
record_is_cut (comma f r) end rest h zero l = absurd (omega arith)
record_is_cut (comma {at} {written} {text} {others} {ps} f r) end rest h (suc k) l =
    ap (λ x. step (cut_by k) (cut_field x at)) (append_assoc written (44 ∷ others) t)
    ∙ ap (step (cut_by k)) (field_is_cut at f Comma (others ++ t) (λ z. cc))
    ∙ ap (behind (piece text at)) (record_is_cut r end rest h k less)
    ∙ ap (cut_to (piece text at ∷ ps) end rest) count
  where
    t : List ℕ
    t = record_end_bytes end ++ rest

    less : length others < k
    less = omega (arith, length-append written (44 ∷ others))

    count : at + length written + 1 + length others + length (record_end_bytes end) ≡ at + length (written ++ (44 ∷ others)) + length (record_end_bytes end)
    count = omega (arith, length-append written (44 ∷ others))

pub stands_cut : (at : ℕ) (bs : List ℕ) (ps : List Piece) (end : RecordEnd) (rest : List ℕ) (s : Stands at bs ps end rest) → cut_record bs at ≡ cut_to ps end rest (at + length s.written + length (record_end_bytes end))
unfolding cut_record
stands_cut at bs ps end rest s = ap (λ x. cut_by (suc (length bs)) x at) s.splits ∙ record_is_cut s.is_record end rest s.nothing_left (suc (length bs)) less
  where
    less : length s.written < suc (length bs)
    less = omega (arith, ap length s.splits, length-append s.written (record_end_bytes end ++ rest))

-- A fault that stands there is found.
closed_none : (p : Piece) (b : ℕ) (rest : List ℕ) (at : ℕ) → EndsNone (b ∷ rest) → closed p (b ∷ rest) at ≡ Err (fault_at at)
closed_none p b rest at n = cond-false _ _ _ comma_not ∙ (cond-false _ _ _ (line_not (eqb b 13 && eqb (get_or rest 0 0) 10) refl) ∙ cond-false _ _ _ (ne_eqb (suc (length rest)) 0 (λ e. omega arith)))
  where
    comma_not : eqb b 44 ≡ false
    comma_not = ne_eqb b 44 (λ e. n.no_comma rest (ap (λ x. x ∷ rest) e))

    line_not : (t : Bool) → (eqb b 13 && eqb (get_or rest 0 0) 10) ≡ t → t ≡ false
    line_not true e = let h = and_parts _ _ e in absurd (n.no_line_end (onwards 1 rest) (ap (λ x. x ∷ rest) (eqb-true b 13 h.0) ∙ ap (λ x. 13 ∷ x) (head_is 10 rest (omega arith) (eqb-true _ 10 h.1))))
    line_not false e = refl

inside_whole : {w : List ℕ} → QuotedText w → inside w ≡ length w
unfolding inside
inside_whole nothing = refl
inside_whole (other {b} {bs} n q) = inside_other b bs (ne_eqb b 34 n) ∙ ap (λ k. 1 + k) (inside_whole q) ∙ one-add _
inside_whole (doubled {bs} q) = inside_doubled bs ∙ ap (λ k. 2 + k) (inside_whole q) ∙ two
  where
    two : 2 + length bs ≡ suc (suc (length bs))
    two = omega arith

pub field_fault_cut : {at : ℕ} {bs : List ℕ} {k : ℕ} → FieldFault at bs k → cut_field bs at ≡ Err (fault_at k)
field_fault_cut (unclosed {at} {text} q) =
    ap (λ x. quoted_field x at (inside x)) (take_rest (34 ∷ text) 1)
    ∙ ap (quoted_field text at) (inside_whole q)
    ∙ ap (λ x. cond (eqb (get_or x 0 0) 34) (closed (piece (take (length text) text) at) (onwards 1 x) (at + length text + 2)) (Err (fault_at at))) (drop_all (length text) text (omega arith))
field_fault_cut (behind_plain {at} {text} {b} {rest} p e f n) =
    cut_plain (text ++ (b ∷ rest)) at (ne_eqb _ 34 (λ z. f (onwards 1 (text ++ (b ∷ rest))) (head_is 34 (text ++ (b ∷ rest)) (omega arith) z)))
    ∙ ap (plain_field (text ++ (b ∷ rest)) at) (plain_leading p (b ∷ rest) (cond-false _ _ _ e))
    ∙ ap (λ x. closed (piece x at) (drop (length text) (text ++ (b ∷ rest))) (at + length text)) (take_at text (b ∷ rest) (length text) refl)
    ∙ ap (λ x. closed (piece text at) x (at + length text)) (drop_at text (b ∷ rest) (length text) refl)
    ∙ closed_none (piece text at) b rest (at + length text) n
field_fault_cut (behind_quoted {at} {text} {b} {rest} q e n) =
    ap (λ x. quoted_field x at (inside x)) (take_rest (34 ∷ (text ++ (34 ∷ (b ∷ rest)))) 1)
    ∙ ap (quoted_field (text ++ (34 ∷ (b ∷ rest))) at) (inside_all q (b ∷ rest) (ne_eqb b 34 e))
    ∙ ap (λ x. cond (eqb (get_or x 0 0) 34) (closed (piece (take (length text) (text ++ (34 ∷ (b ∷ rest)))) at) (onwards 1 x) (at + length text + 2)) (Err (fault_at at))) (drop_at text (34 ∷ (b ∷ rest)) (length text) refl)
    ∙ ap (λ x. closed (piece x at) (onwards 1 (34 ∷ (b ∷ rest))) (at + length text + 2)) (take_at text (34 ∷ (b ∷ rest)) (length text) refl)
    ∙ ap (λ x. closed (piece text at) x (at + length text + 2)) (take_rest (34 ∷ (b ∷ rest)) 1)
    ∙ closed_none (piece text at) b rest (at + length text + 2) n

abbrev pub broken_at : List Piece → ℕ → Cutting
broken_at ps k = record { pieces = ps; outcome = Err (fault_at k) }

record_fault_cut : {at : ℕ} {bs : List ℕ} {ps : List Piece} {k : ℕ} → RecordFault at bs ps k → (fuel : ℕ) → length bs < fuel → cut_by fuel bs at ≡ broken_at ps k
record_fault_cut (here f) zero l = absurd (omega arith)
record_fault_cut (here f) (suc n) l = ap (step (cut_by n)) (field_fault_cut f)
record_fault_cut (later f r) zero l = absurd (omega arith)
record_fault_cut (later {at} {written} {text} {others} f r) (suc n) l =
    ap (step (cut_by n)) (field_is_cut at f Comma others (λ z. cc))
    ∙ ap (behind (piece text at)) (record_fault_cut r n less)
  where
    less : length others < n
    less = omega (arith, length-append written (44 ∷ others))

pub fault_cut : (at : ℕ) (bs : List ℕ) (ps : List Piece) (k : ℕ) → RecordFault at bs ps k → cut_record bs at ≡ broken_at ps k
unfolding cut_record
fault_cut at bs ps k f = record_fault_cut f (suc (length bs)) (omega arith)
