-- The answers and the records that stand in the text: each fixes the other.
use Rattle.std.proofs.Common.{◌≡◌, ℕ, suc, List, length, Ok, Err, Result, sym, refl, ap, ◌∙◌, subst, true≢false, arith}
use Rattle.record.specs.declared.Cut.{Cut}
use Rattle.record.specs.declared.RecordEnd.{RecordEnd}
use Rattle.record.specs.declared.TextFault.{TextFault}
use Rattle.record.specs.Bytes.{Piece}
use Rattle.record.specs.Cut.{FieldSeen, Cutting, Ended, cut_field, cut_record, answered, answer, placed}
use Rattle.record.specs.Rfc4180.{Stands, RecordFault, FieldAnswer, RecordAnswer}
use Rattle.record.proofs.Sound.{field_sound, field_faulty, StandsIf, record_good}
use Rattle.record.proofs.Complete.{field_stands_cut, field_fault_cut, cut_to, stands_cut, fault_cut}

pub field_answer : (at : ℕ) (bs : List ℕ) (r : Result FieldSeen TextFault) → r ≡ cut_field bs at → FieldAnswer at bs r
field_answer at bs r e =
    record {
      found = λ text end rest s. e ∙ field_stands_cut at bs text end rest s;
      stands = λ s h. (field_sound bs at s (sym h ∙ e)).here;
      breaks = λ f h. (field_faulty bs at f (sym h ∙ e)).2;
      broken = λ k f. e ∙ field_fault_cut f;
    }

record_sound : (at : ℕ) (bs : List ℕ) → StandsIf at bs (cut_record bs at).pieces (cut_record bs at).outcome
unfolding cut_record
record_sound at bs = record_good (suc (length bs)) bs at (omega arith)

cut_stands : (at : ℕ) (bs : List ℕ) (ps : List Piece) (o : Result Ended TextFault) → StandsIf at bs ps o → (cut : Cut) → answered (length ps) o ≡ Ok cut → (qs : List Piece) × (rest : List ℕ) × Stands at bs qs cut.end rest
cut_stands at bs ps (Ok e) s cut h = (ps, e.rest, subst (λ x. Stands at bs ps x e.rest) (ap (λ (c : Cut). c.end) same) s)
  where
    same : record { fields = length ps; end = e.end; next = e.next } ≡ cut
    same = cc
cut_stands at bs ps (Err f) s cut h = absurd (true≢false cc)

cut_faulty : (at : ℕ) (bs : List ℕ) (ps : List Piece) (o : Result Ended TextFault) → StandsIf at bs ps o → ((qs : List Piece) (end : RecordEnd) (rest : List ℕ) → Stands at bs qs end rest → ⊥) → (f : TextFault) × (answered (length ps) o ≡ Err f)
cut_faulty at bs ps (Ok e) s h = absurd (h ps e.end e.rest s)
cut_faulty at bs ps (Err f) s h = (f, refl)

cut_breaks : (at : ℕ) (bs : List ℕ) (ps : List Piece) (o : Result Ended TextFault) → StandsIf at bs ps o → (f : TextFault) → answered (length ps) o ≡ Err f → (qs : List Piece) × RecordFault at bs qs f.at
cut_breaks at bs ps (Ok e) s f h = absurd (true≢false cc)
cut_breaks at bs ps (Err g) s f h = (ps, subst (λ (x : TextFault). RecordFault at bs ps x.at) same s)
  where
    same : g ≡ f
    same = cc

same_cut : (ps qs : List Piece) (end end' : RecordEnd) (rest rest' : List ℕ) (m n : ℕ) → cut_to ps end rest m ≡ cut_to qs end' rest' n → (ps ≡ qs) × (end ≡ end') × (rest ≡ rest')
same_cut ps qs end end' rest rest' m n e = (ap (λ (c : Cutting). c.pieces) e, ap (λ (x : Ended). x.end) same, ap (λ (x : Ended). x.rest) same)
  where
    same : ◌≡◌ {A = Ended} (record { end = end; next = m; rest = rest }) (record { end = end'; next = n; rest = rest' })
    same =
        let o : ◌≡◌ {A = Result Ended TextFault} (Ok (record { end = end; next = m; rest = rest })) (Ok (record { end = end'; next = n; rest = rest' })) = ap (λ (c : Cutting). c.outcome) e in
        cc

pub record_answer : (at : ℕ) (bs : List ℕ) (before after : List Piece) (r : Result Cut TextFault) → r ≡ answer (cut_record bs at) → after ≡ placed (cut_record bs at).pieces before → RecordAnswer at bs before after r
record_answer at bs before after r e h =
    record {
      found = λ ps end rest s. (e ∙ ap answer (stands_cut at bs ps end rest s), h ∙ ap (λ (c : Cutting). placed c.pieces before) (stands_cut at bs ps end rest s));
      stands = λ cut k. cut_stands at bs (cut_record bs at).pieces (cut_record bs at).outcome (record_sound at bs) cut (sym e ∙ k);
      only = λ ps qs end end' rest rest' s t. same_cut ps qs end end' rest rest' _ _ (sym (stands_cut at bs ps end rest s) ∙ stands_cut at bs qs end' rest' t);
      none_stands = λ f k ps end rest s. none f (sym k ∙ (e ∙ ap answer (stands_cut at bs ps end rest s)));
      faulty = λ none_here. let w = cut_faulty at bs (cut_record bs at).pieces (cut_record bs at).outcome (record_sound at bs) none_here in (w.0, e ∙ w.1);
      breaks = λ f k. cut_breaks at bs (cut_record bs at).pieces (cut_record bs at).outcome (record_sound at bs) f (sym e ∙ k);
      broken = λ ps k f. (e ∙ ap answer (fault_cut at bs ps k f), h ∙ ap (λ (c : Cutting). placed c.pieces before) (fault_cut at bs ps k f));
    }
  where
    none : (f : TextFault) {c : Cut} → Err f ≡ Ok c → ⊥
    none f k = true≢false cc
