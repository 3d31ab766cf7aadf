-- The law of a step, for a record that was cut.
use Rattle.std.proofs.Common.{◌≡◌, ℕ, Bool, true, false, cond, eqb, List, [], ◌∷◌, length, Ok, Err, Result, sym, refl, ap, ◌∙◌, subst, arith}
use Rattle.std.proofs.lemmas.List.{length-map}
use Rattle.std.proofs.lemmas.Bool.{eqb-true, eq-eqb}
use Rattle.ordering.proofs.Basics.{ok_inj, err_ok}
use Rattle.record.specs.Bytes.{Piece}
use Rattle.record.specs.Cut.{Cutting, Ended}
use Rattle.record.specs.declared.TextFault.{TextFault}
use Rattle.script.specs.declared.faults.Cause.TheVariants.{FieldCount}
use Rattle.script.specs.declared.steps.Step.{Step}
use Rattle.script.specs.declared.steps.StepRead.{StepRead}
use Rattle.script.specs.Fields.{Read, fault}
use Rattle.script.specs.Steps.{and_then, behind_letter, step_of, step_within}
use Rattle.script.specs.Texts.{Means, StepText, gathers, hears, opens, runs, sends, settles, texts}
use Rattle.script.proofs.Complete.{fields_read}
use Rattle.script.proofs.Meaning.{Has, fields_say}

-- What holds of any seven fields holds of a list of seven.
seven : (P : List Piece → Type 0) → ((a b c d e f g : Piece) → P (a ∷ b ∷ c ∷ d ∷ e ∷ f ∷ g ∷ [])) → (ps : List Piece) → length ps ≡ 7 → P ps
seven P h [] n = absurd (omega arith)
seven P h (a ∷ []) n = absurd (omega arith)
seven P h (a ∷ b ∷ []) n = absurd (omega arith)
seven P h (a ∷ b ∷ c ∷ []) n = absurd (omega arith)
seven P h (a ∷ b ∷ c ∷ d ∷ []) n = absurd (omega arith)
seven P h (a ∷ b ∷ c ∷ d ∷ e ∷ []) n = absurd (omega arith)
seven P h (a ∷ b ∷ c ∷ d ∷ e ∷ f ∷ []) n = absurd (omega arith)
seven P h (a ∷ b ∷ c ∷ d ∷ e ∷ f ∷ g ∷ []) n = h a b c d e f g
seven P h (a ∷ b ∷ c ∷ d ∷ e ∷ f ∷ g ∷ k ∷ ps) n = absurd (omega arith)

says : (ps : List Piece) → length ps ≡ 7 → Has (λ (s : Step). StepText s (texts ps)) (step_of ps)
says = seven (λ ps. Has (λ (s : Step). StepText s (texts ps)) (step_of ps)) (λ a b c d e f g. fields_say a (behind_letter (a ∷ b ∷ c ∷ d ∷ e ∷ f ∷ g ∷ [])))

is_read : (s : Step) (ps : List Piece) → length ps ≡ 7 → StepText s (texts ps) → step_of ps ≡ Ok s
is_read s = seven (λ ps. StepText s (texts ps) → step_of ps ≡ Ok s) (λ a b c d e f g w. fields_read a (behind_letter (a ∷ b ∷ c ∷ d ∷ e ∷ f ∷ g ∷ [])) w refl)

seven_texts : {s : Step} {ts : List (List ℕ)} → StepText s ts → length ts ≡ 7
seven_texts (opens a b) = refl
seven_texts (sends a b w) = refl
seven_texts (hears a b) = refl
seven_texts (gathers a b) = refl
seven_texts (settles a b) = refl
seven_texts (runs a) = refl

-- A step that was read.
record ReadAs (ps : List Piece) (e : Ended) (s : StepRead) : Type 0 where
  text : StepText s.step (texts ps)
  next : s.next ≡ e.next

read_as : (start : ℕ) (ps : List Piece) (e : Ended) (s : StepRead) → step_within start ps (Ok e) ≡ Ok s → ReadAs ps e s
read_as start ps e s h = go (eqb (length ps) 7) refl h
  where
    by : (r : Read Step) → Has (λ (x : Step). StepText x (texts ps)) r → and_then r (λ x. Ok (record { step = x; next = e.next })) ≡ Ok s → ReadAs ps e s
    by (Ok x) w h =
        let same : record { step = x; next = e.next } ≡ s = ok_inj h in
        record { text = subst (λ z. StepText z.step (texts ps)) same w; next = sym (ap (λ z. z.next) same) }
    by (Err f) w h = absurd (err_ok h)

    go : (t : Bool) → eqb (length ps) 7 ≡ t → cond t (and_then (step_of ps) (λ x. Ok (record { step = x; next = e.next }))) (Err (fault FieldCount start)) ≡ Ok s → ReadAs ps e s
    go true n h = by (step_of ps) (says ps (eqb-true (length ps) 7 n)) h
    go false n h = absurd (err_ok h)

pub means : (k : Cutting) (start : ℕ) → Means k (step_within start k.pieces k.outcome)
means k start =
    record {
      reads = λ s h. found s k.outcome refl h;
      written = λ s e is w. ap (step_within start k.pieces) is ∙ (ap (λ t. cond t (and_then (step_of k.pieces) (λ x. Ok (record { step = x; next = e.next }))) (Err (fault FieldCount start))) (eq-eqb (length k.pieces) 7 (count s w)) ∙ ap (λ r. and_then r (λ x. Ok (record { step = x; next = e.next }))) (is_read s k.pieces (count s w) w));
    }
  where
    count : (s : Step) → StepText s (texts k.pieces) → length k.pieces ≡ 7
    count s w = sym (length-map k.pieces (λ p. p.text)) ∙ seven_texts w

    found : (s : StepRead) (o : Result Ended TextFault) → k.outcome ≡ o → step_within start k.pieces o ≡ Ok s → StepText s.step (texts k.pieces) × (e : Ended) × (k.outcome ≡ Ok e) × (s.next ≡ e.next)
    found s (Ok e) is h = let r = read_as start k.pieces e s h in (r.text, e, is, r.next)
    found s (Err f) is h = absurd (err_ok h)
