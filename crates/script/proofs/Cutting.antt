-- From the fields that were cut to the step that they ask for.
use Rattle.std.proofs.Common.{◌≡◌, ℕ, cond, eqb, List, [], ◌∷◌, length, Ok, Err, Result, sym, refl, ap, ◌∙◌, true≢false, arith}
use Rattle.std.proofs.lemmas.Bool.{eq-eqb}
use Rattle.record.specs.Bytes.{Piece}
use Rattle.record.specs.Cut.{Cutting, Ended, answer, answered, placed}
use Rattle.record.specs.declared.Cut.{Cut}
use Rattle.record.specs.declared.TextFault.{TextFault}
use Rattle.script.specs.declared.faults.Cause.TheVariants.{FieldCount}
use Rattle.script.specs.declared.steps.Step.{Step}
use Rattle.script.specs.declared.steps.StepFault.{StepFault}
use Rattle.script.specs.Fields.{fault}
use Rattle.script.specs.Steps.{and_then, step_of, step_within}

-- As many fields as places: the places hold the fields.
all_placed : (ps before : List Piece) → length ps ≡ length before → placed ps before ≡ ps
all_placed [] [] e = refl
all_placed [] (q ∷ qs) e = absurd (omega arith)
all_placed (p ∷ ps) [] e = absurd (omega arith)
all_placed (p ∷ ps) (q ∷ qs) e = ap (λ zs. p ∷ zs) (all_placed ps qs (omega arith))

-- A record that was cut.
pub record IsCut (k : Cutting) (cut : Cut) : Type 0 where
  pub count : length k.pieces ≡ cut.fields
  pub within : (start : ℕ) → step_within start k.pieces k.outcome ≡ cond (eqb cut.fields 7) (and_then (step_of k.pieces) (λ s. Ok (record { step = s; next = cut.next }))) (Err (fault FieldCount start))

pub is_cut : (k : Cutting) (cut : Cut) → Ok cut ≡ answer k → IsCut k cut
is_cut k cut h = go k.outcome refl h
  where
    go : (o : Result Ended TextFault) → k.outcome ≡ o → Ok cut ≡ answered (length k.pieces) o → IsCut k cut
    go (Ok e) is h =
        let same : cut ≡ record { fields = length k.pieces; end = e.end; next = e.next } = cc in
        record {
          count = sym (ap (λ z. z.fields) same);
          within = λ start. ap (step_within start k.pieces) is ∙ ap (λ z. cond (eqb z.fields 7) (and_then (step_of k.pieces) (λ s. Ok (record { step = s; next = z.next }))) (Err (fault FieldCount start))) (sym same);
        }
    go (Err f) is h = absurd (true≢false cc)

module _ (k : Cutting) (cut : Cut) (start : ℕ) (h : Ok cut ≡ answer k) where
  module _ (seven : cut.fields ≡ 7) (ps before : List Piece) (places : length before ≡ 7) (holds : ps ≡ placed k.pieces before) where
    same : ps ≡ k.pieces
    same = holds ∙ all_placed k.pieces before (let n = (is_cut k cut h).count in omega arith)

    counted : step_within start k.pieces k.outcome ≡ and_then (step_of ps) (λ s. Ok (record { step = s; next = cut.next }))
    counted =
        (is_cut k cut h).within start ∙ (ap (λ t. cond t (and_then (step_of k.pieces) (λ s. Ok (record { step = s; next = cut.next }))) (Err (fault FieldCount start))) (eq-eqb cut.fields 7 seven) ∙ ap (λ z. and_then (step_of z) (λ s. Ok (record { step = s; next = cut.next }))) (sym same))

    pub broken : (e : StepFault) → Err e ≡ step_of ps → Err e ≡ step_within start k.pieces k.outcome
    broken e is = sym (counted ∙ ap (λ r. and_then r (λ s. Ok (record { step = s; next = cut.next }))) (sym is))

    pub read : (s : Step) → Ok s ≡ step_of ps → Ok (record { step = s; next = cut.next }) ≡ step_within start k.pieces k.outcome
    read s is = sym (counted ∙ ap (λ r. and_then r (λ s. Ok (record { step = s; next = cut.next }))) (sym is))
