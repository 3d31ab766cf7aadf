-- From what is kept at each member to the cells and the order of the theorem.
use Rattle.std.proofs.lemmas.Option.{none-some, same_Some}
use Rattle.std.proofs.Common.{◌≡◌, ℕ, ◌<◌, ◌≤◌, Bool, true, false, cond, eqb, List, [], ◌∷◌, Some, None, Option, sym, refl, ap, ◌∙◌, subst, inl, inr, ⊎_elim, arith}
use Rattle.std.proofs.lemmas.Bool.{or_cases, eqb-true, false≢true}
use Rattle.machine.specs.declared.command.Command.{Command}
use Rattle.machine.specs.Kinds.{Kind, Laws}
use Rattle.ordering.specs.declared.calls.Phase.{Phase}
use Rattle.ordering.specs.declared.calls.Phase.TheVariants.{Sent, Heard, Gathered, Settled, Run}
use Rattle.ordering.specs.Histories.{Account, Issue}
use Rattle.ordering.specs.Limits.{member_limit}
use Rattle.ordering.specs.Lines.{Book}
use Rattle.ordering.specs.Ordering.{Earlier, To, has, RanAt, Before, answer, greatest_answer, Final, Entry, Right, Fed, InOrder}
use Rattle.ordering.proofs.AtMember.{AtMember, Clash, Ascending, EntryAt}
use Rattle.ordering.proofs.Bounded.{greatest_above}
use Rattle.ordering.proofs.Feeding.{each_map}
use Rattle.ordering.proofs.MemberSteps.{clash_sym}
use Rattle.ordering.proofs.Pairs.{earlier_prior, earlier_not}
use Rattle.ordering.proofs.Standing.{Inv, command_of, command_by, stand_of, settled_all}
use Rattle.ordering.proofs.Tied.{Agree, Stage, stage_of, phase_of}

-- What ran was settled, and what was gathered was heard.
agree_ran : (p : Phase) (s : Stage) → Agree p s → s.ran ≡ true → s.settled ≡ true
agree_ran Sent s h e = absurd (false≢true (sym h.3 ∙ e))
agree_ran (Heard t) s h e = absurd (false≢true (sym h.3 ∙ e))
agree_ran (Gathered t) s h e = absurd (false≢true (sym h.3 ∙ e))
agree_ran Settled s h e = absurd (false≢true (sym h.3 ∙ e))
agree_ran Run s h e = h.2

agree_heard : (p : Phase) (s : Stage) → Agree p s → s.gathered ≡ true → (t : ℕ) × (s.heard ≡ Some t)
agree_heard Sent s h e = absurd (false≢true (sym h.1 ∙ e))
agree_heard (Heard t) s h e = absurd (false≢true (sym h.1 ∙ e))
agree_heard (Gathered t) s h e = (t, h.0)
agree_heard Settled s h e = h.0
agree_heard Run s h e = h.0

command_issue : (x : Option Issue) (c : Command) → command_by x ≡ Some c → (d : Issue) × (x ≡ Some d) × (d.command ≡ c)
command_issue None c h = absurd (none-some _ h)
command_issue (Some d) c h = (d, refl, same_Some _ _ h)

module _ (K : Kind) (a : Account) (b : Book) (cells : ℕ → List ℕ) (h : Inv K a b cells) where
  settled_of_ran : (m k : ℕ) → RanAt a m k → a.settled_at k m ≡ true
  settled_of_ran m k ran = agree_ran (phase_of a b k m) (stage_of a k m) (h.tied.agree k m) ran

  pub cells_fed : (m : ℕ) → Fed K a m (cells m)
  cells_fed m =
      record {
        entries = at.entries;
        right = each_map (EntryAt (command_of a) (stand_of a m) (a.runs_at m)) (Right a m) at.entries right at.right;
        complete = at.complete;
        rising = at.rising;
        same = at.same;
      }
    where
      at : AtMember K (command_of a) (stand_of a m) (a.runs_at m) (b.member m) (cells m)
      at = h.members m

      right : (e : Entry) → EntryAt (command_of a) (stand_of a m) (a.runs_at m) e → Right a m e
      right e r =
          let d = command_issue (a.sent_as e.number) e.command r.2 in
          let done = settled_of_ran m e.number r.0 in
          record {
            ran = r.0;
            issue = d.0;
            final = record { sent = d.1; fixed = settled_all a b e.number m d.0 h.sound h.tied d.1 done; value = sym (same_Some _ _ (subst (λ x. cond x (Some (greatest_answer a e.number)) (a.heard_at e.number m) ≡ Some e.final) done r.1)) };
            own = d.2;
          }

  -- a command with a fixed final timestamp stands at each destination, no later than that
  stands_known : (k m f : ℕ) (d : Issue) → Final a k d f → To d m → (t : ℕ) × (stand_of a m k ≡ Some t) × (t ≤ f)
  stands_known k m f d fin to = go (a.settled_at k m) refl
    where
      go : (x : Bool) → a.settled_at k m ≡ x → (t : ℕ) × (cond x (Some (greatest_answer a k)) (a.heard_at k m) ≡ Some t) × (t ≤ f)
      go true e = (greatest_answer a k, refl, omega (arith, fin.value))
      go false e =
          let w = agree_heard (phase_of a b k m) (stage_of a k m) (h.tied.agree k m) (fin.fixed m to) in
          let above : answer (a.heard_at k m) ≤ greatest_answer a k = greatest_above member_limit (λ q. answer (a.heard_at k q)) m (h.tied.inside k m d fin.sent to) in
          let own : answer (a.heard_at k m) ≡ w.0 = ap answer w.1 in
          let v : f ≡ greatest_answer a k = fin.value in
          (w.0, w.1, omega arith)

  stands_final : (k m f : ℕ) (d : Issue) → Final a k d f → RanAt a m k → stand_of a m k ≡ Some f
  stands_final k m f d fin ran =
      ap (λ x. cond x (Some (greatest_answer a k)) (a.heard_at k m)) (settled_of_ran m k ran) ∙ ap Some (sym fin.value)

  -- in what ran, the earlier of two conflicting commands lies further back
  behind : (m k j f g : ℕ) → (k ≡ j → ⊥) → stand_of a m k ≡ Some f → stand_of a m j ≡ Some g → Clash K (command_of a j) (command_of a k) → Earlier (f, k) (g, j) → (js : List ℕ) → Ascending K (command_of a) (stand_of a m) js → has k js ≡ true → has j js ≡ true → Before k j js
  behind m k j f g ne fk gj clash early [] asc hk hj = absurd (false≢true hk)
  behind m k j f g ne fk gj clash early (x ∷ xs) asc hk hj =
      ⊎_elim
      (λ e. inl (eqb-true x j e, ⊎_elim (λ i. absurd (ne (sym (eqb-true x k i) ∙ eqb-true x j e))) (λ i. i) (or_cases (eqb x k) (has k xs) hk)))
      (λ later. ⊎_elim
      (λ i. absurd (late (eqb-true x k i) later))
      (λ i. inr (behind m k j f g ne fk gj clash early xs asc.1 i later))
      (or_cases (eqb x k) (has k xs) hk))
      (or_cases (eqb x j) (has j xs) hj)
    where
      late : x ≡ k → has j xs ≡ true → ⊥
      late e i =
          let r : Earlier (g, j) (f, x) = asc.0 j g f i gj (subst (λ y. stand_of a m y ≡ Some f) (sym e) fk) (subst (λ y. Clash K (command_of a j) (command_of a y)) (sym e) clash) in
          earlier_not (f, k) (g, j) early (subst (λ y. Earlier (g, j) (f, y)) e r)

  pub in_order : Laws K → InOrder K a
  in_order L m k j f g d e fk fj dk ej conflict early ran = go (has k (a.runs_at m)) refl
    where
      s : (t : ℕ) × (stand_of a m k ≡ Some t) × (t ≤ f)
      s = stands_known k m f d fk dk

      at : stand_of a m j ≡ Some g
      at = stands_final j m g e fj ran

      clash : Clash K (command_of a k) (command_of a j)
      clash = subst (λ x. Clash K x (command_of a j)) (sym (ap command_by fk.sent)) (subst (λ x. Clash K (Some d.command) x) (sym (ap command_by fj.sent)) conflict)

      apart : k ≡ j → ⊥
      apart q = strict f g k j (fk.value ∙ (ap (greatest_answer a) q ∙ sym fj.value)) q (earlier_prior (f, k) (g, j) early)
        where
          strict : (x y i l : ℕ) → x ≡ y → i ≡ l → (x ≤ y) × (x ≡ y → i < l) → ⊥
          strict x y i l p q r = omega arith

      unrun : has k (a.runs_at m) ≡ false → ⊥
      unrun out =
          let x = earlier_prior (g, j) (s.0, k) ((h.members m).past j k g s.0 ran at s.1 out clash) in
          let y = earlier_prior (f, k) (g, j) early in
          let z = s.2 in
          omega arith

      go : (x : Bool) → has k (a.runs_at m) ≡ x → RanAt a m k × Before k j (a.runs_at m)
      go false out = absurd (unrun out)
      go true i =
          (i, behind m k j f g apart (stands_final k m f d fk i) at (clash_sym K L (command_of a k) (command_of a j) clash) early (a.runs_at m) (h.members m).ascending i ran)
