-- A step that was read: its number has at most fifteen digits.
use Rattle.std.proofs.lemmas.Option.{none-some}
use Rattle.std.proofs.Common.{◌≡◌, ℕ, ◌^◌, ◌<◌, ◌≤◌, Bool, true, false, cond, ltb, List, drop, Some, Ok, Err, sym, refl, ap, ◌∙◌, subst}
use Rattle.std.proofs.lemmas.Bool.{ltb-false}
use Rattle.ordering.proofs.Basics.{some_inj, ok_inj, err_ok}
use Rattle.record.specs.Cut.{cut_record}
use Rattle.script.proofs.Means.{means}
use Rattle.script.specs.declared.faults.Cause.TheVariants.{TraceFull}
use Rattle.script.specs.declared.steps.Step.{Step}
use Rattle.script.specs.declared.steps.StepRead.{StepRead}
use Rattle.script.specs.Fields.{Read}
use Rattle.script.specs.Steps.{step_at}
use Rattle.script.specs.Texts.{StepText, gathers, hears, opens, runs, sends, settles}
use Rattle.trace.specs.Records.{named}
use Rattle.runner.specs.Runs.{fault_as, in_record, next_step}

-- The number that a step names, if it names one, has at most fifteen digits.
abbrev Small : Step → Type 0
Small s = (k : ℕ) → named s.call ≡ Some k → k < 10 ^ 15

text_small : {s : Step} {ts : List (List ℕ)} → StepText s ts → Small s
text_small (opens a b) k e = absurd (none-some _ e)
text_small (sends a b w) k e = absurd (none-some _ e)
text_small (hears a b) k e = subst (λ j. j < 10 ^ 15) (some_inj e) b
text_small (gathers a b) k e = subst (λ j. j < 10 ^ 15) (some_inj e) b
text_small (settles a b) k e = subst (λ j. j < 10 ^ 15) (some_inj e) b
text_small (runs a) k e = absurd (none-some _ e)

-- What it says of a step that there was room for it, and it was read.
pub record Taken (room : ℕ) (read : Read StepRead) (s : StepRead) : Type 0 where
  pub enough : 48 ≤ room
  pub is : read ≡ Ok s
  pub small : (k : ℕ) → named s.step.call ≡ Some k → k < 10 ^ 15

pub taken : (script : List ℕ) (room n at : ℕ) (s : StepRead) → Ok s ≡ next_step script room n at → Taken room (step_at (drop at script) at) s
taken script room n at s h = go (ltb room 48) refl h
  where
    by : (r : Read StepRead) → step_at (drop at script) at ≡ r → Ok s ≡ in_record n r → step_at (drop at script) at ≡ Ok s
    by (Ok r) e h = e ∙ ap Ok (sym (ok_inj h))
    by (Err f) e h = absurd (err_ok (sym h))

    go : (t : Bool) → ltb room 48 ≡ t → Ok s ≡ cond t (Err (fault_as TraceFull n at)) (in_record n (step_at (drop at script) at)) → Taken room (step_at (drop at script) at) s
    go true e h = absurd (err_ok (sym h))
    go false e h =
        let is = by (step_at (drop at script) at) refl h in
        record { enough = ltb-false room 48 e; is = is; small = text_small ((means (cut_record (drop at script) at) at).reads s is).0 }
