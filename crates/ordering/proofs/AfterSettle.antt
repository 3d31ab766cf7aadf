-- A settle: the command moves from its proposal up to its final timestamp at this member, and nothing else moves.
use Rattle.std.proofs.lemmas.Option.{same_Some}
use Rattle.std.proofs.Common.{◌≡◌, ℕ, suc, ◌<◌, ◌≤◌, Bool, true, cond, List, Some, sym, refl, ap, ◌∙◌, subst, ⊎_elim, arith}
use Rattle.std.proofs.lemmas.Bool.{cases_eq}
use Rattle.machine.specs.Kinds.{Kind}
use Rattle.ordering.specs.declared.calls.Phase.TheVariants.{Gathered, Settled}
use Rattle.ordering.specs.Histories.{Account, note_settle}
use Rattle.ordering.specs.Limits.{member_limit}
use Rattle.ordering.specs.Lines.{OpenCommand, Member, Book}
use Rattle.ordering.specs.Ordering.{greatest_answer, answer, has}
use Rattle.ordering.specs.Searches.{put}
use Rattle.ordering.specs.Steps.{settler, settled_now, with_phase}
use Rattle.ordering.proofs.Accepted.{Reached}
use Rattle.ordering.proofs.AtMember.{AtMember}
use Rattle.ordering.proofs.Basics.{put_same, put_other}
use Rattle.ordering.proofs.Bounded.{greatest_above}
use Rattle.ordering.proofs.MemberSteps.{settle_keeps}
use Rattle.ordering.proofs.Moving.{phases_moved, sent_moved, table_cases}
use Rattle.ordering.proofs.Standing.{Inv, command_of, command_by, stand_of, phase_here, agree_here}
use Rattle.ordering.proofs.Tied.{Tied, Moved, Agree, Stage, stage_of, issue_of, rank, agree_moved, cost_moved, put_twice_same, put_twice_other}

module _ (K : Kind) (a : Account) (b : Book) (cells : ℕ → List ℕ) (h : Inv K a b cells) (m k f t : ℕ) (o : OpenCommand) (r : Reached b m k o) (final : o.fixed ≡ Some f) (was : o.phase m ≡ Gathered t) where
  abbrev settling : Member
  settling = settler b.issued k o.command f (b.member m)

  abbrev account : Account
  account = note_settle a m k

  abbrev book : Book
  book = (settled_now b m k o settling).1

  before : Agree (Gathered t) (stage_of a k m)
  before = agree_here a b k m o (Gathered t) h.tied r.there r.to was

  inside : m < member_limit
  inside = let w : b.members ≤ member_limit = h.sound.few in let v : m < b.members = r.inside in omega arith

  moves : Moved a b account book k m Settled
  moves =
      record {
        inside = inside;
        phases = phases_moved a b k m o Settled (Some (with_phase o m Settled)) h.tied r.there r.to (λ q n. refl);
        ranks = sym (ap (λ p. suc (rank p)) (phase_here a b k m o h.tied r.there r.to ∙ was));
        here = ((t, before.0), before.1, put_twice_same k m true a.settled_at, before.3);
        elsewhere = λ j q ne. ap (λ x. stage x j q) (put_twice_other k m j q true a.settled_at ne);
        counted = λ j. refl;
      }
    where
      stage : Bool → ℕ → ℕ → Stage
      stage x j q = record { heard = a.heard_at j q; gathered = a.gathered_at j q; settled = x; ran = has j (a.runs_at q) }

  value : f ≡ greatest_answer a k
  value = h.tied.final k f o r.there final

  pub tied_settle : Tied account book
  tied_settle =
      record {
        agree = agree_moved a b account book k m Settled moves h.tied;
        cost = cost_moved a b account book k m Settled moves h.tied;
        sent = sent_moved a b k m o Settled (Some (with_phase o m Settled)) h.tied r.there r.to (λ q n. refl) (λ x q. ap issue_of (sym (same_Some _ _ q)));
        final = λ j g x. table_cases b k (Some (with_phase o m Settled)) (λ i y. y.fixed ≡ Some g → g ≡ greatest_answer a i) (λ y q e. h.tied.final k g o r.there (ap (λ z. z.fixed) (same_Some _ _ q) ∙ e)) (λ i y ne q e. h.tied.final i g y q e) j x;
        inside = h.tied.inside;
        numbered = h.tied.numbered;
      }

  -- the proposal is not above the final timestamp
  rises : t ≤ f
  rises =
      let above : answer (a.heard_at k m) ≤ greatest_answer a k = greatest_above member_limit (λ q. answer (a.heard_at k q)) m inside in
      let own : answer (a.heard_at k m) ≡ t = ap answer before.0 in
      let v : f ≡ greatest_answer a k = value in
      omega arith

  stood : stand_of a m k ≡ Some t
  stood = ap (λ x. cond x (Some (greatest_answer a k)) (a.heard_at k m)) before.2 ∙ before.0

  stand_elsewhere : (q j : ℕ) → (k ≡ j → m ≡ q → ⊥) → stand_of account q j ≡ stand_of a q j
  stand_elsewhere q j ne = ap (λ x. cond x (Some (greatest_answer a j)) (a.heard_at j q)) (put_twice_other k m j q true a.settled_at ne)

  stand_here : (j : ℕ) → stand_of account m j ≡ put k (Some f) (stand_of a m) j
  stand_here j = ⊎_elim this other (cases_eq k j)
    where
      other : (k ≡ j → ⊥) → stand_of account m j ≡ put k (Some f) (stand_of a m) j
      other n = stand_elsewhere m j (λ e v. n e) ∙ sym (put_other k j (Some f) (stand_of a m) n)

      this : k ≡ j → stand_of account m j ≡ put k (Some f) (stand_of a m) j
      this e =
          subst (λ i. stand_of account m i ≡ put k (Some f) (stand_of a m) i) e
          (ap (λ x. cond x (Some (greatest_answer a k)) (a.heard_at k m)) (put_twice_same k m true a.settled_at) ∙ (ap Some (sym value) ∙ sym (put_same k (Some f) (stand_of a m))))

  pub members_settle : (q : ℕ) → AtMember K (command_of account) (stand_of account q) (account.runs_at q) (book.member q) (cells q)
  members_settle q = ⊎_elim this other (cases_eq m q)
    where
      this : m ≡ q → AtMember K (command_of account) (stand_of account q) (account.runs_at q) (book.member q) (cells q)
      this e =
          subst (λ i. AtMember K (command_of account) (stand_of account i) (account.runs_at i) (book.member i) (cells i)) e
          (subst (λ p. AtMember K (command_of a) (stand_of account m) (a.runs_at m) p (cells m)) (sym (put_same m settling b.member))
          (subst (λ s. AtMember K (command_of a) s (a.runs_at m) settling (cells m)) (λ i j. sym (stand_here j) i)
          (settle_keeps K (command_of a) (stand_of a m) (a.runs_at m) (b.member m) (cells m) b.issued k o.command t f (ap command_by (h.tied.sent k o r.there)) before.3 stood rises (h.members m))))

      other : (m ≡ q → ⊥) → AtMember K (command_of account) (stand_of account q) (account.runs_at q) (book.member q) (cells q)
      other ne =
          subst (λ p. AtMember K (command_of a) (stand_of account q) (a.runs_at q) p (cells q)) (sym (put_other m q settling b.member ne))
          (subst (λ s. AtMember K (command_of a) s (a.runs_at q) (b.member q) (cells q)) (λ i j. sym (stand_elsewhere q j (λ e v. ne v)) i) (h.members q))
