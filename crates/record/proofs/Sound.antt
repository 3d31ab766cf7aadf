-- What is cut stands there: the answers of specs/Cut meet the relations of specs/Rfc4180.
use Rattle.std.proofs.Common.{◌≡◌, ℕ, zero, suc, ◌+◌, ◌<◌, ◌≤◌, Bool, true, false, cond, ◌&&◌, eqb, List, [], ◌∷◌, ◌++◌, length, get_or, take, drop, Ok, Err, Result, sym, refl, ap, ◌∙◌, subst, true≢false, append_assoc, add-zero, one-add, arith}
use Rattle.std.specs.List.{prefix_len}
use Rattle.std.proofs.lemmas.List.{take-append-drop, length-take-le, length-append, length-drop, take_all, nil_from_length}
use Rattle.std.proofs.lemmas.List.Sums.{prefix_len-le-length}
use Rattle.std.proofs.lemmas.Bool.{cond_both, eqb-true, eqb-false, and_parts, both_ways}
use Rattle.record.specs.declared.FieldEnd.{FieldEnd}
use Rattle.record.specs.declared.FieldEnd.TheVariants.{Comma, Last}
use Rattle.record.specs.declared.RecordEnd.TheVariants.{CrLf, Script}
use Rattle.record.specs.declared.TextFault.{TextFault}
use Rattle.record.specs.Bytes.{Piece, piece, textdata, field_end_bytes}
use Rattle.record.specs.Cut.{FieldSeen, Ended, ended, onwards, closed, inside, quoted_field, plain_field, cut_field, go_on, step, cut_by, fault_at}
use Rattle.record.specs.Rfc4180.{PlainText, QuotedText, FieldIs, RecordIs, FieldStands, Stands, EndsNone, FieldFault, RecordFault}
use Rattle.record.specs.Rfc4180.PlainText.{none, more}
use Rattle.record.specs.Rfc4180.QuotedText.{nothing, other, doubled}
use Rattle.record.specs.Rfc4180.FieldIs.{plain, escaped}
use Rattle.record.specs.Rfc4180.RecordIs.{last, comma}
use Rattle.record.specs.Rfc4180.FieldFault.{unclosed, behind_plain, behind_quoted}
use Rattle.record.specs.Rfc4180.RecordFault.{here, later}
use Rattle.record.proofs.Arms.{head_is, heads_are}

-- The end of a field.
record Closed (p : Piece) (bs : List ℕ) (at : ℕ) (s : FieldSeen) : Type 0 where
  pub same : s.field ≡ p
  pub splits : bs ≡ field_end_bytes s.end ++ s.rest
  pub nothing_left : s.end ≡ Last Script → s.rest ≡ []
  pub counted : s.next ≡ at + length (field_end_bytes s.end)

abbrev ClosedIf : Piece → List ℕ → ℕ → Result FieldSeen TextFault → Type 0
ClosedIf p bs at (Ok s) = Closed p bs at s
ClosedIf p bs at (Err f) = (f.at ≡ at) × (0 < length bs) × EndsNone bs

closed_good : (p : Piece) (bs : List ℕ) (at : ℕ) → ClosedIf p bs at (closed p bs at)
closed_good p bs at =
    cond_both (eqb (get_or bs 0 0) 44) (ended p Comma (onwards 1 bs) (at + 1)) _ (ClosedIf p bs at)
    (λ e. record { same = refl; splits = head_is 44 bs (omega arith) (eqb-true _ 44 e); nothing_left = λ z. cc; counted = refl })
    (λ c.
    cond_both (eqb (get_or bs 0 0) 13 && eqb (get_or bs 1 0) 10) (ended p (Last CrLf) (onwards 2 bs) (at + 2)) _ (ClosedIf p bs at)
    (λ e. let h = and_parts _ _ e in record { same = refl; splits = heads_are 13 10 bs (omega arith) (omega arith) (eqb-true _ 13 h.0) (eqb-true _ 10 h.1); nothing_left = λ z. cc; counted = refl })
    (λ l.
    cond_both (eqb (length bs) 0) (ended p (Last Script) [] at) (Err (fault_at at)) (ClosedIf p bs at)
    (λ e. record { same = refl; splits = nil_from_length bs (eqb-true _ 0 e); nothing_left = λ _. refl; counted = sym (add-zero at) })
    (λ e. let n = eqb-false (length bs) 0 e in (refl, some (length bs) n, record { no_comma = λ rest z. eqb-false _ 44 c (ap (λ x. get_or x 0 0) z); no_line_end = λ rest z. both_ways _ l (ap (λ x. eqb (get_or x 0 0) 13 && eqb (get_or x 1 0) 10) z) }))))
  where
    some : (n : ℕ) → (n ≡ 0 → ⊥) → 0 < n
    some n h = omega arith

-- The text of a plain field.
plain_good : (bs : List ℕ) → PlainText (take (prefix_len textdata bs) bs)
plain_good [] = none
plain_good (b ∷ bs) =
    cond_both (textdata b) (1 + prefix_len textdata bs) 0 (λ n. PlainText (take n (b ∷ bs)))
    (λ e. rw one-add (more e (plain_good bs)))
    (λ _. none)

-- The text of a quoted field.
quoted_two : (b c k : ℕ) (bs : List ℕ) → b ≡ 34 → c ≡ 34 → QuotedText (take k bs) → QuotedText (take (2 + k) (b ∷ c ∷ bs))
quoted_two b c k bs d e g =
    subst (λ n. QuotedText (take n (b ∷ c ∷ bs))) two
    (subst (λ x. QuotedText (x ∷ c ∷ take k bs)) (sym d) (subst (λ x. QuotedText (34 ∷ x ∷ take k bs)) (sym e) (doubled g)))
  where
    two : suc (suc k) ≡ 2 + k
    two = omega arith

quoted_good : (bs : List ℕ) → QuotedText (take (inside bs) bs)
unfolding inside
quoted_good [] = nothing
quoted_good (b ∷ []) =
    cond_both (eqb b 34) 0 1 (λ n. QuotedText (take n (b ∷ []))) (λ _. nothing) (λ e. other (eqb-false b 34 e) nothing)
quoted_good (b ∷ c ∷ bs) =
    cond_both (eqb b 34) (cond (eqb c 34) (2 + inside bs) 0) (1 + inside (c ∷ bs)) (λ n. QuotedText (take n (b ∷ c ∷ bs)))
    (λ d.
    cond_both (eqb c 34) (2 + inside bs) 0 (λ n. QuotedText (take n (b ∷ c ∷ bs)))
    (λ e. quoted_two b c (inside bs) bs (eqb-true b 34 d) (eqb-true c 34 e) (quoted_good bs))
    (λ _. nothing))
    (λ d. rw one-add (other (eqb-false b 34 d) (quoted_good (c ∷ bs))))

-- What stops the text of a field.
leading_stops : (bs : List ℕ) (b : ℕ) (rest : List ℕ) → drop (prefix_len textdata bs) bs ≡ b ∷ rest → textdata b ≡ false
leading_stops [] b rest h = cc
leading_stops (x ∷ xs) b rest h =
    cond_both (textdata x) (1 + prefix_len textdata xs) 0 (λ n. drop n (x ∷ xs) ≡ b ∷ rest → textdata b ≡ false)
    (λ e. subst (λ n. drop n (x ∷ xs) ≡ b ∷ rest → textdata b ≡ false) (sym (one-add (prefix_len textdata xs))) (leading_stops xs b rest))
    (λ e k. subst (λ y. textdata y ≡ false) (ap (λ l. get_or l 0 0) k) e)
    h

-- where n bytes are passed, a quote that stands there is not followed by another, and where none stands there nothing does
abbrev Stops : List ℕ → ℕ → Type 0
Stops bs n = ((tail rest : List ℕ) → drop n bs ≡ 34 ∷ tail → tail ≡ 34 ∷ rest → ⊥) × (eqb (get_or (drop n bs) 0 0) 34 ≡ false → drop n bs ≡ [])

apart : (t : Bool) {A : Type 0} → t ≡ true → t ≡ false → A
apart t e f = absurd (both_ways t f e)

stops_one : (b n : ℕ) (bs : List ℕ) → Stops bs n → Stops (b ∷ bs) (1 + n)
stops_one b n bs h = subst (Stops (b ∷ bs)) (sym (one-add n)) h

stops_two : (b c n : ℕ) (bs : List ℕ) → Stops bs n → Stops (b ∷ c ∷ bs) (2 + n)
stops_two b c n bs h = subst (Stops (b ∷ c ∷ bs)) two h
  where
    two : suc (suc n) ≡ 2 + n
    two = omega arith

inside_stops : (bs : List ℕ) → Stops bs (inside bs)
unfolding inside
inside_stops [] = (λ tail rest h k. true≢false cc, λ _. refl)
inside_stops (b ∷ []) =
    cond_both (eqb b 34) 0 1 (Stops (b ∷ []))
    (λ e. (λ tail rest h k. true≢false cc, λ f. apart _ e f))
    (λ e. (λ tail rest h k. true≢false cc, λ _. refl))
inside_stops (b ∷ c ∷ bs) =
    cond_both (eqb b 34) (cond (eqb c 34) (2 + inside bs) 0) (1 + inside (c ∷ bs)) (Stops (b ∷ c ∷ bs))
    (λ d.
    cond_both (eqb c 34) (2 + inside bs) 0 (Stops (b ∷ c ∷ bs))
    (λ e. stops_two b c (inside bs) bs (inside_stops bs))
    (λ e. (λ tail rest h k. let same : c ≡ 34 = cc in eqb-false c 34 e same, λ f. apart _ d f)))
    (λ d. stops_one b (inside (c ∷ bs)) (c ∷ bs) (inside_stops (c ∷ bs)))

plain_fault : (bs : List ℕ) (at n : ℕ) → n ≤ length bs → PlainText (take n bs) → ((others : List ℕ) → bs ≡ 34 ∷ others → ⊥) → (tail : List ℕ) → drop n bs ≡ tail → ((b : ℕ) (rest : List ℕ) → drop n bs ≡ b ∷ rest → textdata b ≡ false) → 0 < length tail → EndsNone tail → FieldFault at bs (at + n)
plain_fault bs at n l t first [] d stop some e = absurd (omega arith)
plain_fault bs at n l t first (b ∷ rest) d stop some e =
    subst (λ x. FieldFault at x (at + n)) (sym whole)
    (subst (λ m. FieldFault at (take n bs ++ (b ∷ rest)) (at + m)) (length-take-le n bs l)
    (behind_plain t (stop b rest d) (λ others z. first others (whole ∙ z)) e))
  where
    whole : bs ≡ take n bs ++ (b ∷ rest)
    whole = sym (take-append-drop n bs) ∙ ap (λ x. take n bs ++ x) d

quoted_fault : (bs : List ℕ) (at n : ℕ) → n ≤ length bs → QuotedText (take n bs) → (tail : List ℕ) → drop n bs ≡ 34 ∷ tail → ((rest : List ℕ) → tail ≡ 34 ∷ rest → ⊥) → 0 < length tail → EndsNone tail → FieldFault at (34 ∷ bs) (at + n + 2)
quoted_fault bs at n l t [] d stop some e = absurd (omega arith)
quoted_fault bs at n l t (b ∷ rest) d stop some e =
    subst (λ x. FieldFault at (34 ∷ x) (at + n + 2)) (sym whole)
    (subst (λ m. FieldFault at (34 ∷ (take n bs ++ (34 ∷ (b ∷ rest)))) (at + m + 2)) (length-take-le n bs l)
    (behind_quoted t (λ z. stop rest (ap (λ x. x ∷ rest) z)) e))
  where
    whole : bs ≡ take n bs ++ (34 ∷ (b ∷ rest))
    whole = sym (take-append-drop n bs) ∙ ap (λ x. take n bs ++ x) d

unclosed_fault : (bs : List ℕ) (at n : ℕ) → QuotedText (take n bs) → drop n bs ≡ [] → FieldFault at (34 ∷ bs) at
unclosed_fault bs at n t d = unclosed (subst QuotedText (take_all n bs short) t)
  where
    short : length bs ≤ n
    short = omega (arith, ap length d, length-drop n bs)

-- A field that is cut stands there.
pub record Found (at : ℕ) (bs : List ℕ) (s : FieldSeen) : Type 0 where
  pub here : FieldStands bs s.field.text s.end s.rest
  pub place : s.field.at ≡ at
  pub counted : s.next ≡ at + length here.written + length (field_end_bytes s.end)

abbrev pub FoundIf : ℕ → List ℕ → Result FieldSeen TextFault → Type 0
FoundIf at bs (Ok s) = Found at bs s
FoundIf at bs (Err f) = (at ≤ f.at) × (f.at < at + length bs) × FieldFault at bs f.at

plain_found : (bs : List ℕ) (at n : ℕ) → n ≤ length bs → PlainText (take n bs) → ((others : List ℕ) → bs ≡ 34 ∷ others → ⊥) → ((b : ℕ) (rest : List ℕ) → drop n bs ≡ b ∷ rest → textdata b ≡ false) → (r : Result FieldSeen TextFault) → ClosedIf (piece (take n bs) at) (drop n bs) (at + n) r → FoundIf at bs r
plain_found bs at n l t first stop (Err f) g = (omega (arith, g.0), omega (arith, g.0, g.1, length-drop n bs), subst (FieldFault at bs) (sym g.0) (plain_fault bs at n l t first (drop n bs) refl stop g.1 g.2))
plain_found bs at n l t first stop (Ok s) g =
    record {
      here = record {
        written = take n bs;
        is_field = subst (λ (x : Piece). FieldIs (take n bs) x.text) (sym g.same) (plain t);
        splits = sym (take-append-drop n bs) ∙ ap (λ x. take n bs ++ x) g.splits;
        nothing_left = g.nothing_left;
      };
      place = ap (λ (x : Piece). x.at) g.same;
      counted = g.counted ∙ ap (λ x. at + x + length (field_end_bytes s.end)) (sym (length-take-le n bs l));
    }

quoted_found : (bs : List ℕ) (at n : ℕ) → QuotedText (take n bs) → drop n bs ≡ 34 ∷ onwards 1 (drop n bs) → Stops bs n → (r : Result FieldSeen TextFault) → ClosedIf (piece (take n bs) at) (onwards 1 (drop n bs)) (at + n + 2) r → FoundIf at (34 ∷ bs) r
quoted_found bs at n t d stop (Err f) g = (omega (arith, g.0), omega (arith, g.0, g.1, ap length d, length-drop n bs), subst (FieldFault at (34 ∷ bs)) (sym g.0) (quoted_fault bs at n short t (onwards 1 (drop n bs)) d (λ rest z. stop.0 (onwards 1 (drop n bs)) rest d z) g.1 g.2))
  where
    short : n ≤ length bs
    short = omega (arith, ap length d, length-drop n bs)
quoted_found bs at n t d stop (Ok s) g =
    record {
      here = record {
        written = 34 ∷ (take n bs ++ (34 ∷ []));
        is_field = subst (λ (x : Piece). FieldIs (34 ∷ (take n bs ++ (34 ∷ []))) x.text) (sym g.same) (escaped t);
        splits = ap (λ x. 34 ∷ x) (sym (take-append-drop n bs) ∙ ap (λ x. take n bs ++ x) (d ∙ ap (λ x. 34 ∷ x) g.splits) ∙ sym (append_assoc (take n bs) (34 ∷ []) _));
        nothing_left = g.nothing_left;
      };
      place = ap (λ (x : Piece). x.at) g.same;
      counted = omega (arith, g.counted, length-append (take n bs) (34 ∷ []), length-take-le n bs short);
    }
  where
    short : n ≤ length bs
    short = omega (arith, ap length d, length-drop n bs)

quoted_field_good : (bs : List ℕ) (at : ℕ) → FoundIf at (34 ∷ bs) (quoted_field bs at (inside bs))
quoted_field_good bs at =
    cond_both (eqb (get_or (drop (inside bs) bs) 0 0) 34) _ (Err (fault_at at)) (FoundIf at (34 ∷ bs))
    (λ e. quoted_found bs at (inside bs) (quoted_good bs) (head_is 34 (drop (inside bs) bs) (omega arith) (eqb-true _ 34 e)) (inside_stops bs) _ (closed_good (piece (take (inside bs) bs) at) (onwards 1 (drop (inside bs) bs)) (at + inside bs + 2)))
    (λ e. (omega arith, omega arith, unclosed_fault bs at (inside bs) (quoted_good bs) ((inside_stops bs).1 e)))

plain_field_good : (bs : List ℕ) (at : ℕ) → eqb (get_or bs 0 0) 34 ≡ false → FoundIf at bs (plain_field bs at (prefix_len textdata bs))
plain_field_good bs at e =
    plain_found bs at (prefix_len textdata bs) (prefix_len-le-length textdata bs) (plain_good bs) (λ others z. eqb-false _ 34 e (ap (λ x. get_or x 0 0) z)) (leading_stops bs) (plain_field bs at (prefix_len textdata bs))
    (closed_good (piece (take (prefix_len textdata bs) bs) at) (drop (prefix_len textdata bs) bs) (at + prefix_len textdata bs))

pub field_good : (bs : List ℕ) (at : ℕ) → FoundIf at bs (cut_field bs at)
field_good bs at =
    cond_both (eqb (get_or bs 0 0) 34) (quoted_field (onwards 1 bs) at (inside (onwards 1 bs))) (plain_field bs at (prefix_len textdata bs)) (FoundIf at bs)
    (λ e. subst (λ x. FoundIf at x (quoted_field (onwards 1 bs) at (inside (onwards 1 bs)))) (sym (head_is 34 bs (omega arith) (eqb-true _ 34 e))) (quoted_field_good (onwards 1 bs) at))
    (λ e. plain_field_good bs at e)

pub field_sound : (bs : List ℕ) (at : ℕ) (s : FieldSeen) → Ok s ≡ cut_field bs at → Found at bs s
field_sound bs at s e = subst (FoundIf at bs) (sym e) (field_good bs at)

pub field_faulty : (bs : List ℕ) (at : ℕ) (f : TextFault) → Err f ≡ cut_field bs at → (at ≤ f.at) × (f.at < at + length bs) × FieldFault at bs f.at
field_faulty bs at f e = subst (FoundIf at bs) (sym e) (field_good bs at)

-- A record that is cut stands there, and so does a fault.
abbrev pub StandsIf : ℕ → List ℕ → List Piece → Result Ended TextFault → Type 0
StandsIf at bs ps (Ok e) = Stands at bs ps e.end e.rest
StandsIf at bs ps (Err f) = RecordFault at bs ps f.at

after_comma : (at : ℕ) (bs : List ℕ) (p : Piece) (rest : List ℕ) (next : ℕ) → Found at bs (record { field = p; end = Comma; rest = rest; next = next }) → (ps : List Piece) (o : Result Ended TextFault) → StandsIf next rest ps o → StandsIf at bs (p ∷ ps) o
after_comma at bs p rest next g ps (Err f) h =
    subst (λ x. RecordFault at x (p ∷ ps) f.at) (sym g.here.splits)
    (subst (λ k. RecordFault at (g.here.written ++ (44 ∷ rest)) (piece p.text k ∷ ps) f.at) (sym g.place) (later g.here.is_field (subst (λ k. RecordFault k rest ps f.at) g.counted h)))
after_comma at bs p rest next g ps (Ok e) h =
    record {
      written = g.here.written ++ (44 ∷ h.written);
      is_record = subst (λ k. RecordIs at (g.here.written ++ (44 ∷ h.written)) (piece p.text k ∷ ps)) (sym g.place) (comma g.here.is_field (subst (λ k. RecordIs k h.written ps) g.counted h.is_record));
      splits = g.here.splits ∙ ap (λ x. g.here.written ++ (44 ∷ x)) h.splits ∙ sym (append_assoc g.here.written (44 ∷ h.written) _);
      nothing_left = h.nothing_left;
    }

module _ (at : ℕ) (bs : List ℕ) (fuel : ℕ) (enough : length bs < suc fuel) (again : (cs : List ℕ) (k : ℕ) → length cs < fuel → StandsIf k cs (cut_by fuel cs k).pieces (cut_by fuel cs k).outcome) where
  after_field : (p : Piece) (e : FieldEnd) (rest : List ℕ) (next : ℕ) → Found at bs (record { field = p; end = e; rest = rest; next = next }) → StandsIf at bs (go_on (cut_by fuel) e (record { field = p; end = e; rest = rest; next = next })).pieces (go_on (cut_by fuel) e (record { field = p; end = e; rest = rest; next = next })).outcome
  after_field p Comma rest next g = after_comma at bs p rest next g (cut_by fuel rest next).pieces (cut_by fuel rest next).outcome (again rest next shorter)
    where
      shorter : length rest < fuel
      shorter = omega (arith, enough, ap length g.here.splits, length-append g.here.written (44 ∷ rest))
  after_field p (Last e) rest next g =
      record {
        written = g.here.written;
        is_record = subst (λ k. RecordIs at g.here.written (piece p.text k ∷ [])) (sym g.place) (last g.here.is_field);
        splits = g.here.splits;
        nothing_left = λ z. g.here.nothing_left (ap Last z);
      }

  stepped : (r : Result FieldSeen TextFault) → FoundIf at bs r → StandsIf at bs (step (cut_by fuel) r).pieces (step (cut_by fuel) r).outcome
  stepped (Err f) g = here g.2
  stepped (Ok s) g = after_field s.field s.end s.rest s.next g

pub record_good : (fuel : ℕ) (bs : List ℕ) (at : ℕ) → length bs < fuel → StandsIf at bs (cut_by fuel bs at).pieces (cut_by fuel bs at).outcome
record_good zero bs at l = absurd (omega arith)
record_good (suc fuel) bs at l = stepped at bs fuel l (λ cs k h. record_good fuel cs k h) (cut_field bs at) (field_good bs at)
