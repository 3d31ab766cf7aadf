-- A hear: the command had no standing at the member, and no member had settled it, so nothing else moves.
use Rattle.std.proofs.lemmas.Option.{same_Some}
use Rattle.std.proofs.Common.{◌≡◌, ℕ, suc, ◌<◌, ◌≤◌, false, cond, List, Some, Option, sym, refl, ap, ◌∙◌, subst, ⊎_elim, arith}
use Rattle.std.proofs.lemmas.Bool.{cases_eq, false≢true}
use Rattle.machine.specs.Kinds.{Kind, Laws}
use Rattle.ordering.specs.declared.calls.Phase.TheVariants.{Sent, Heard}
use Rattle.ordering.specs.Histories.{Account, note_hear}
use Rattle.ordering.specs.Kept.{is_past}
use Rattle.ordering.specs.Limits.{member_limit}
use Rattle.ordering.specs.Lines.{OpenCommand, Member, Book}
use Rattle.ordering.specs.Ordering.{greatest_answer, answer, has}
use Rattle.ordering.specs.Searches.{put, greatest_below}
use Rattle.ordering.specs.Steps.{hearer, heard_now, with_phase}
use Rattle.ordering.proofs.Accepted.{Reached}
use Rattle.ordering.proofs.AtMember.{AtMember}
use Rattle.ordering.proofs.Basics.{put_same, put_other}
use Rattle.ordering.proofs.MemberSteps.{hear_keeps}
use Rattle.ordering.proofs.Moving.{phases_moved, sent_moved, table_cases}
use Rattle.ordering.proofs.Standing.{Inv, command_of, command_by, stand_of, phase_here, agree_here, never_settled}
use Rattle.ordering.proofs.Tied.{Tied, Moved, Agree, Stage, stage_of, issue_of, rank, agree_moved, cost_moved, put_twice_same, put_twice_other}

module _ (K : Kind) (L : Laws K) (a : Account) (b : Book) (cells : ℕ → List ℕ) (h : Inv K a b cells) (m k : ℕ) (o : OpenCommand) (r : Reached b m k o) (was : o.phase m ≡ Sent) where
  -- the member afterwards, the proposal, the history and the line
  abbrev hearing : Member
  hearing = hearer K b.issued k o.command (b.member m)

  abbrev account : Account
  account = note_hear a m k hearing.clock

  abbrev book : Book
  book = (heard_now b m k o hearing).1

  before : Agree Sent (stage_of a k m)
  before = agree_here a b k m o Sent h.tied r.there r.to was

  moves : Moved a b account book k m (Heard hearing.clock)
  moves =
      record {
        inside = let w : b.members ≤ member_limit = h.sound.few in let v : m < b.members = r.inside in omega arith;
        phases = phases_moved a b k m o (Heard hearing.clock) (Some (with_phase o m (Heard hearing.clock))) h.tied r.there r.to (λ q n. refl);
        ranks = sym (ap (λ p. suc (rank p)) (phase_here a b k m o h.tied r.there r.to ∙ was));
        here = (put_twice_same k m (Some hearing.clock) a.heard_at, before.1, before.2, before.3);
        elsewhere = λ j q ne. ap (λ x. stage x j q) (put_twice_other k m j q (Some hearing.clock) a.heard_at ne);
        counted = λ j. refl;
      }
    where
      stage : Option ℕ → ℕ → ℕ → Stage
      stage x j q = record { heard = x; gathered = a.gathered_at j q; settled = a.settled_at j q; ran = has j (a.runs_at q) }

  -- the greatest answer of another command stays
  greatest_other : (j : ℕ) → (k ≡ j → ⊥) → greatest_answer account j ≡ greatest_answer a j
  greatest_other j ne = ap (λ f. greatest_below member_limit (λ q. answer (f q))) (put_other k j (put m (Some hearing.clock) (a.heard_at k)) a.heard_at ne)

  pub tied_hear : Tied account book
  tied_hear =
      record {
        agree = agree_moved a b account book k m (Heard hearing.clock) moves h.tied;
        cost = cost_moved a b account book k m (Heard hearing.clock) moves h.tied;
        sent = sent_moved a b k m o (Heard hearing.clock) (Some (with_phase o m (Heard hearing.clock))) h.tied r.there r.to (λ q n. refl) (λ x q. ap issue_of (sym (same_Some _ _ q)));
        final = λ j f x. table_cases b k (Some (with_phase o m (Heard hearing.clock))) (λ i y. y.fixed ≡ Some f → f ≡ greatest_answer account i) (here f) (away f) j x;
        inside = h.tied.inside;
        numbered = h.tied.numbered;
      }
    where
      -- nothing is fixed while the member has still to hear
      here : (f : ℕ) (x : OpenCommand) → Some (with_phase o m (Heard hearing.clock)) ≡ Some x → x.fixed ≡ Some f → f ≡ greatest_answer account k
      here f x q e =
          absurd (false≢true (sym (ap is_past was) ∙ (h.sound.command k o r.there).gathered f m (ap (λ y. y.fixed) (same_Some _ _ q) ∙ e) r.to))

      away : (f j : ℕ) (x : OpenCommand) → (k ≡ j → ⊥) → b.table j ≡ Some x → x.fixed ≡ Some f → f ≡ greatest_answer account j
      away f j x ne q e = h.tied.final j f x q e ∙ sym (greatest_other j ne)

  unsettled : (q : ℕ) → a.settled_at k q ≡ false
  unsettled q = never_settled a b k m q o h.sound h.tied r.there r.to before.1

  -- where the others stand, and this one at the other members
  stand_elsewhere : (q j : ℕ) → (k ≡ j → m ≡ q → ⊥) → stand_of account q j ≡ stand_of a q j
  stand_elsewhere q j ne = ⊎_elim this other (cases_eq k j)
    where
      other : (k ≡ j → ⊥) → stand_of account q j ≡ stand_of a q j
      other n =
          ap (λ g. cond (a.settled_at j q) (Some g) (account.heard_at j q)) (greatest_other j n) ∙ ap (λ f. cond (a.settled_at j q) (Some (greatest_answer a j)) (f q)) (put_other k j (put m (Some hearing.clock) (a.heard_at k)) a.heard_at n)

      this : k ≡ j → stand_of account q j ≡ stand_of a q j
      this e =
          subst (λ i. stand_of account q i ≡ stand_of a q i) e
          (ap (λ t. cond t (Some (greatest_answer account k)) (account.heard_at k q)) (unsettled q) ∙ (put_twice_other k m k q (Some hearing.clock) a.heard_at (λ u v. ne e v) ∙ sym (ap (λ t. cond t (Some (greatest_answer a k)) (a.heard_at k q)) (unsettled q))))

  stand_here : (j : ℕ) → stand_of account m j ≡ put k (Some hearing.clock) (stand_of a m) j
  stand_here j = ⊎_elim this other (cases_eq k j)
    where
      other : (k ≡ j → ⊥) → stand_of account m j ≡ put k (Some hearing.clock) (stand_of a m) j
      other n = stand_elsewhere m j (λ e v. n e) ∙ sym (put_other k j (Some hearing.clock) (stand_of a m) n)

      this : k ≡ j → stand_of account m j ≡ put k (Some hearing.clock) (stand_of a m) j
      this e =
          subst (λ i. stand_of account m i ≡ put k (Some hearing.clock) (stand_of a m) i) e
          (ap (λ t. cond t (Some (greatest_answer account k)) (account.heard_at k m)) (unsettled m) ∙ (put_twice_same k m (Some hearing.clock) a.heard_at ∙ sym (put_same k (Some hearing.clock) (stand_of a m))))

  pub members_hear : (q : ℕ) → AtMember K (command_of account) (stand_of account q) (account.runs_at q) (book.member q) (cells q)
  members_hear q = ⊎_elim this other (cases_eq m q)
    where
      this : m ≡ q → AtMember K (command_of account) (stand_of account q) (account.runs_at q) (book.member q) (cells q)
      this e =
          subst (λ i. AtMember K (command_of account) (stand_of account i) (account.runs_at i) (book.member i) (cells i)) e
          (subst (λ p. AtMember K (command_of a) (stand_of account m) (a.runs_at m) p (cells m)) (sym (put_same m hearing b.member))
          (subst (λ s. AtMember K (command_of a) s (a.runs_at m) hearing (cells m)) (λ i j. sym (stand_here j) i)
          (hear_keeps K L (command_of a) (stand_of a m) (a.runs_at m) (b.member m) (cells m) b.issued k o.command (h.sound.known m) (ap command_by (h.tied.sent k o r.there)) before.3 (h.members m))))

      other : (m ≡ q → ⊥) → AtMember K (command_of account) (stand_of account q) (account.runs_at q) (book.member q) (cells q)
      other ne =
          subst (λ p. AtMember K (command_of a) (stand_of account q) (a.runs_at q) p (cells q)) (sym (put_other m q hearing b.member ne))
          (subst (λ s. AtMember K (command_of a) s (a.runs_at q) (b.member q) (cells q)) (λ i j. sym (stand_elsewhere q j (λ e v. ne v)) i) (h.members q))
