-- The first kind that a step fixes, looked for record by record.
use Rattle.std.proofs.lemmas.Option.{none-some}
use Rattle.std.proofs.Common.{◌≡◌, ℕ, zero, suc, ◌+◌, ◌<◌, ◌≤◌, cond, List, length, drop, Some, None, Ok, Err, sym, refl, ap, ◌∙◌, subst, arith}
use Rattle.std.proofs.lemmas.Bool.{le-leb, lt-leb}
use Rattle.script.specs.declared.steps.MachineKind.{MachineKind}
use Rattle.script.specs.declared.steps.MachineKind.TheVariants.{Tally}
use Rattle.script.specs.declared.steps.StepRead.{StepRead}
use Rattle.script.specs.Fields.{Read}
use Rattle.script.specs.Steps.{step_at}
use Rattle.runner.specs.Scripts.{fixed_by, kind_from, kind_in, kind_of_script, or_else}
use Rattle.runner.specs.declared.records.Record.{Record}
use Rattle.runner.specs.declared.records.Records.{Records}
use Rattle.runner.specs.Following.{Follows, end_of}

-- No step before the offset fixes a kind.
pub record Seeking (script : List ℕ) (at : ℕ) : Type 0 where
  pub fuel : ℕ
  pub same : kind_of_script script ≡ kind_from script fuel at
  pub enough : length script < at + fuel

pub seeking_start : (script : List ℕ) → Seeking script 0
unfolding kind_of_script
seeking_start script = record { fuel = suc (length script); same = refl; enough = omega arith }

module _ (script : List ℕ) (at : ℕ) (w : Seeking script at) where
  -- Where bytes are left, a record is next.
  record Next : Type 0 where
    fuel : ℕ
    enough : length script ≤ at + fuel
    same : kind_of_script script ≡ kind_in (kind_from script fuel) (step_at (drop at script) at)

  next : at < length script → Next
  next lt = go w.fuel w.enough w.same
    where
      go : (f : ℕ) → length script < at + f → kind_of_script script ≡ kind_from script f at → Next
      go zero e s = absurd (omega arith)
      go (suc f) e s =
          record { fuel = f; enough = omega arith; same = s ∙ ap (λ b. cond b Tally (kind_in (kind_from script f) (step_at (drop at script) at))) (lt-leb (length script) at lt) }

  module _ (lt : at < length script) where
    read : (r : Read StepRead) → r ≡ step_at (drop at script) at → kind_of_script script ≡ kind_in (kind_from script (next lt).fuel) r
    read r is = (next lt).same ∙ ap (kind_in (kind_from script (next lt).fuel)) (sym is)

    pub seeking_found : (r : Read StepRead) → r ≡ step_at (drop at script) at → (k : MachineKind) → Some k ≡ fixed_by r → k ≡ kind_of_script script
    seeking_found (Ok s) is k e = sym (read (Ok s) is ∙ ap (λ o. or_else o (kind_from script (next lt).fuel s.next)) (sym e))
    seeking_found (Err f) is k e = absurd (none-some _ (sym e))

    -- Behind a record that cannot be read nothing is looked for.
    pub seeking_more : (r : Read StepRead) → r ≡ step_at (drop at script) at → None ≡ fixed_by r → at < end_of (length script) r → Seeking script (end_of (length script) r)
    seeking_more (Ok s) is e onward =
        let f : length script ≤ at + (next lt).fuel = (next lt).enough in
        record { fuel = (next lt).fuel; same = read (Ok s) is ∙ ap (λ o. or_else o (kind_from script (next lt).fuel s.next)) (sym e); enough = omega arith }
    seeking_more (Err f) is e onward =
        record { fuel = suc zero; same = read (Err f) is ∙ ap (λ b. cond b Tally (kind_in (kind_from script zero) (step_at (drop (length script) script) (length script)))) (sym (le-leb (length script) (length script) (omega arith))); enough = omega arith }

-- The same of a script's records: the next of them fixes a kind, or the search goes on behind it.
module _ {script : List ℕ} {s : Records} {r : Record} {t : Records} (w : Seeking script s.at) (f : Follows script s r t) where
  pub record_found : (k : MachineKind) → Some k ≡ fixed_by r.read → k ≡ kind_of_script script
  record_found k e = seeking_found script s.at w f.left r.read f.read k e

  pub record_passed : None ≡ fixed_by r.read → Seeking script t.at
  record_passed e =
      subst (Seeking script) (sym f.next) (seeking_more script s.at w f.left r.read f.read e (subst (λ n. s.at < n) f.next f.onward))
