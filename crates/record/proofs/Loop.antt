-- The loop over a record's fields.
use Rattle.std.proofs.Common.{◌≡◌, ℕ, zero, suc, ◌+◌, ◌<◌, ◌≤◌, false, cond, ltb, List, [], ◌∷◌, ◌++◌, map, length, set, Ok, Err, Result, sym, refl, ap, ◌∙◌, subst, append_assoc, append-nil, arith}
use Rattle.std.proofs.lemmas.List.{length-append, length_push, length-map, map-set, set_past}
use Rattle.std.proofs.lemmas.Bool.{cond_both, ltb-false}
use Rattle.record.specs.declared.Cut.{Cut}
use Rattle.record.specs.declared.FieldEnd.{FieldEnd}
use Rattle.record.specs.declared.FieldEnd.TheVariants.{Comma, Last}
use Rattle.record.specs.declared.RecordEnd.{RecordEnd}
use Rattle.record.specs.declared.RecordEnd.TheVariants.{CrLf, Script}
use Rattle.record.specs.declared.TextFault.{TextFault}
use Rattle.record.specs.declared.Field.{Field}
use Rattle.record.specs.Bytes.{Piece, piece_of, field_end_bytes}
use Rattle.record.specs.Cut.{FieldSeen, Cutting, cut_field, cut_by, cut_record, answer, placed, step, go_on, Within}
use Rattle.record.specs.Rfc4180.{RecordAnswer}
use Rattle.record.proofs.Sound.{Found, field_sound, field_faulty}
use Rattle.record.proofs.Theorem.{record_answer}

abbrev pub joined_to : List Piece → Cutting → Cutting
joined_to done c = record { pieces = done ++ c.pieces; outcome = c.outcome }

placed_push : (done : List Piece) (p : Piece) (places : List Piece) → placed (done ++ (p ∷ [])) places ≡ set (placed done places) (length done) p
placed_push [] p [] = refl
placed_push [] p (x ∷ xs) = refl
placed_push (d ∷ ds) p [] = refl
placed_push (d ∷ ds) p (x ∷ xs) = ap (λ ys. d ∷ ys) (placed_push ds p xs)

-- What a store leaves, as plain values: `set` past the end changes nothing.
pub stored_plainly : (was is : List Field) (place : ℕ) (f : Field) → is ≡ cond (ltb place (length was)) (set was place f) was → map piece_of is ≡ set (map piece_of was) place (piece_of f)
stored_plainly was is place f e =
    ap (map piece_of) e
    ∙ cond_both (ltb place (length was)) (set was place f) was (λ xs. map piece_of xs ≡ set (map piece_of was) place (piece_of f))
    (λ _. map-set piece_of was place f)
    (λ h. sym (set_past (map piece_of was) place (piece_of f) (past h)))
  where
    past : ltb place (length was) ≡ false → length (map piece_of was) ≤ place
    past h = rw length-map (ltb-false place (length was) h)

-- What holds before each field: the fields so far, and what cutting the bytes that are left comes to.
pub record Going (bs : List ℕ) (start : ℕ) (places : List Piece) (left : List ℕ) (at count : ℕ) (held : List Piece) : Type 0 where
  pub done : List Piece
  pub fuel : ℕ
  pub enough : length left ≤ fuel
  pub whole : cut_record bs start ≡ joined_to done (cut_by (suc fuel) left at)
  pub counted : count ≡ length done
  pub few : count + length left ≤ length bs
  pub ends : at + length left ≡ start + length bs
  pub from : start ≤ at
  pub holds : held ≡ placed done places

pub going_start : (bs : List ℕ) (start : ℕ) (places : List Piece) → Going bs start places bs start 0 places
unfolding cut_record
going_start bs start places =
    record { done = []; fuel = length bs; enough = omega arith; whole = refl; counted = refl; few = omega arith; ends = refl; from = omega arith; holds = refl }

-- What the call ensures of its answer and of what the places then hold.
pub record Finished (bs : List ℕ) (start : ℕ) (places kept : List Piece) (r : Result Cut TextFault) : Type 0 where
  pub answers : r ≡ answer (cut_record bs start)
  pub holds : kept ≡ placed (cut_record bs start).pieces places
  pub rfc : RecordAnswer start bs places kept r
  pub within : Within start bs r

finished : (bs : List ℕ) (start : ℕ) (places kept : List Piece) (r : Result Cut TextFault) → r ≡ answer (cut_record bs start) → kept ≡ placed (cut_record bs start).pieces places → Within start bs r → Finished bs start places kept r
finished bs start places kept r e h w = record { answers = e; holds = h; rfc = record_answer start bs places kept r e h; within = w }

module _ (bs : List ℕ) (start : ℕ) (places : List Piece) (left : List ℕ) (at count : ℕ) (held : List Piece) (g : Going bs start places left at count held) where
  stored : (p : Piece) (kept : List Piece) → kept ≡ set held count p → kept ≡ placed (g.done ++ (p ∷ [])) places
  stored p kept e = e ∙ ap (λ x. set x count p) g.holds ∙ ap (λ k. set (placed g.done places) k p) g.counted ∙ sym (placed_push g.done p places)

  going_on : (p : Piece) (rest : List ℕ) (next : ℕ) (kept : List Piece) → Ok (record { field = p; end = Comma; rest = rest; next = next }) ≡ cut_field left at → kept ≡ set held count p → Going bs start places rest next (count + 1) kept
  going_on p rest next kept e h = again g.fuel g.enough g.whole
    where
      f : Found at left (record { field = p; end = Comma; rest = rest; next = next })
      f = field_sound left at _ e

      taken : at + length left ≡ next + length rest
      taken = omega (arith, ap length f.here.splits, length-append f.here.written (44 ∷ rest), f.counted)

      shorter : length rest < length left
      shorter = omega (arith, ap length f.here.splits, length-append f.here.written (44 ∷ rest))

      again : (n : ℕ) → length left ≤ n → cut_record bs start ≡ joined_to g.done (cut_by (suc n) left at) → Going bs start places rest next (count + 1) kept
      again zero l w = absurd (omega (arith, shorter))
      again (suc n) l w =
          record {
            done = g.done ++ (p ∷ []);
            fuel = n;
            enough = omega (arith, shorter);
            whole = w ∙ ap (λ r. joined_to g.done (step (cut_by (suc n)) r)) (sym e) ∙ ap (λ ps. record { pieces = ps; outcome = (cut_by (suc n) rest next).outcome }) (sym (append_assoc g.done (p ∷ []) _));
            counted = omega (arith, length_push g.done p, g.counted);
            few = omega (arith, shorter, g.few);
            ends = omega (arith, taken, g.ends);
            from = omega (arith, f.counted, g.from);
            holds = stored p kept h;
          }

  pub going_more : (s : FieldSeen) (kept : List Piece) → s.end ≡ Comma → Ok s ≡ cut_field left at → kept ≡ set held count s.field → Going bs start places s.rest s.next (count + 1) kept
  going_more s kept c e h = going_on s.field s.rest s.next kept (subst (λ x. Ok (record { field = s.field; end = x; rest = s.rest; next = s.next }) ≡ cut_field left at) c e) h

  pub going_less : (s : FieldSeen) → s.end ≡ Comma → Ok s ≡ cut_field left at → length s.rest < length left
  going_less s c e =
      let f = field_sound left at s e in
      let ends : length (field_end_bytes s.end) ≡ 1 = ap (λ x. length (field_end_bytes x)) c in
      omega (arith, ap length f.here.splits, length-append f.here.written (field_end_bytes s.end ++ s.rest), length-append (field_end_bytes s.end) s.rest)

  -- at the end of the record
  pub going_done : (s : FieldSeen) (end : RecordEnd) (kept : List Piece) → s.end ≡ Last end → Ok s ≡ cut_field left at → kept ≡ set held count s.field → Finished bs start places kept (Ok (record { fields = count + 1; end = end; next = s.next }))
  going_done s end kept l e h =
      finished bs start places kept _
      (ap (λ k. Ok (record { fields = k; end = end; next = s.next })) count_is ∙ ap answer (sym all))
      (stored s.field kept h ∙ ap (λ (c : Cutting). placed c.pieces places) (sym all))
      (omega arith, omega (arith, f.counted, g.from), omega (arith, taken, g.ends), λ some. onward end l some)
    where
      f : Found at left s
      f = field_sound left at s e

      taken : s.next + length s.rest ≡ at + length left
      taken = omega (arith, f.counted, ap length f.here.splits, length-append f.here.written (field_end_bytes s.end ++ s.rest), length-append (field_end_bytes s.end) s.rest)

      onward : (x : RecordEnd) → s.end ≡ Last x → 0 < length bs → start < s.next
      onward CrLf k some =
          let two : length (field_end_bytes s.end) ≡ 2 = ap (λ (y : FieldEnd). length (field_end_bytes y)) k in
          omega (arith, f.counted, g.from)
      onward Script k some =
          let none_left : length s.rest ≡ 0 = ap length (f.here.nothing_left k) in
          omega (arith, taken, g.ends, g.from)

      all : cut_record bs start ≡ record { pieces = g.done ++ (s.field ∷ []); outcome = Ok (record { end = end; next = s.next; rest = s.rest }) }
      all = g.whole ∙ ap (λ r. joined_to g.done (step (cut_by g.fuel) r)) (sym e) ∙ ap (λ x. joined_to g.done (go_on (cut_by g.fuel) x s)) l

      count_is : count + 1 ≡ length (g.done ++ (s.field ∷ []))
      count_is = omega (arith, length_push g.done s.field, g.counted)

  -- at a fault
  pub going_faulty : (f : TextFault) → Err f ≡ cut_field left at → Finished bs start places held (Err f)
  going_faulty f e =
      finished bs start places held (Err f) (ap answer (sym all))
      (g.holds ∙ ap (λ (c : Cutting). placed c.pieces places) (sym all))
      (let w = field_faulty left at f e in (omega (arith, w.0, g.from), omega (arith, w.1, g.ends)))
    where
      all : cut_record bs start ≡ record { pieces = g.done; outcome = Err f }
      all = g.whole ∙ ap (λ r. joined_to g.done (step (cut_by g.fuel) r)) (sym e) ∙ ap (λ ps. record { pieces = ps; outcome = Err f }) (append-nil g.done)
