-- A new line, and a send: the new number was never seen before, so nothing is known of it and nothing else changes.
use Rattle.std.proofs.lemmas.Option.{none-some, same_Some}
use Rattle.std.proofs.Common.{◌≡◌, ℕ, suc, ◌^◌, ◌<◌, ◌≤◌, Bool, true, false, cond, eqb, List, [], Some, None, Option, sym, refl, ap, ◌∙◌, subst, arith}
use Rattle.std.proofs.lemmas.Bool.{eqb-true}
use Rattle.machine.specs.declared.command.Command.{Command}
use Rattle.machine.specs.Kinds.{Kind}
use Rattle.ordering.specs.declared.calls.Phase.TheVariants.{Sent}
use Rattle.ordering.specs.Histories.{Account, Issue, blank, note_send}
use Rattle.ordering.specs.Limits.{member_limit}
use Rattle.ordering.specs.Lines.{OpenCommand, Book}
use Rattle.ordering.specs.Ordering.{greatest_answer}
use Rattle.ordering.specs.Searches.{put, names, sum_below}
use Rattle.ordering.specs.Steps.{new_book, new_command, issue}
use Rattle.ordering.proofs.AtMember.{AtMember}
use Rattle.ordering.proofs.Basics.{put_other}
use Rattle.ordering.proofs.Bits.{names_below}
use Rattle.ordering.proofs.Bounded.{sum_same}
use Rattle.ordering.proofs.MemberSteps.{more_commands}
use Rattle.ordering.proofs.Standing.{Inv, command_by, command_of, stand_of}
use Rattle.ordering.proofs.Tied.{Tied, Agree, stage_of, phase_of, phase_by, issue_of, rank}

pub tied_new : (n last : ℕ) → Tied blank (new_book n last)
tied_new n last =
    record {
      agree = λ k m. (refl, refl, refl, refl);
      cost = λ k. refl;
      sent = λ k o q. absurd (none-some _ q);
      final = λ k f o q. absurd (none-some _ q);
      inside = λ k m d q. absurd (none-some _ q);
      numbered = λ k d q. absurd (none-some _ q);
    }

pub members_new : (K : Kind) (n last m : ℕ) → AtMember K (command_of blank) (stand_of blank m) [] ((new_book n last).member m) K.starting
members_new K n last m =
    record {
      memory = λ k t q. absurd (none-some _ q);
      truly = λ k c q. absurd (none-some _ q);
      past = λ j k f t q. absurd (Rattle.std.proofs.lemmas.Bool.false≢true q);
      ascending = tt;
      once = tt;
      entries = [];
      right = tt;
      complete = λ k q. absurd (Rattle.std.proofs.lemmas.Bool.false≢true q);
      rising = tt;
      same = refl;
    }

module _ (K : Kind) (a : Account) (b : Book) (cells : ℕ → List ℕ) (h : Inv K a b cells) (sender set : ℕ) (c : Command) (below : set < 2 ^ b.members) where
  unsent : a.sent_as (suc b.issued) ≡ None
  unsent = go (a.sent_as (suc b.issued)) refl
    where
      go : (x : Option Issue) → a.sent_as (suc b.issued) ≡ x → x ≡ None
      go None e = refl
      go (Some y) e = absurd (omega (arith, h.tied.numbered (suc b.issued) y e))

  silent : (m : ℕ) → Agree Sent (stage_of a (suc b.issued) m)
  silent m = subst (λ x. Agree (phase_by x (b.table (suc b.issued)) m) (stage_of a (suc b.issued) m)) unsent (h.tied.agree (suc b.issued) m)

  sent_either : (t : Bool) → cond t Sent Sent ≡ Sent
  sent_either true = refl
  sent_either false = refl

  pub tied_send : Tied (note_send a (suc b.issued) (record { sender = sender; set = set; command = c })) (issue b (new_command sender set c))
  tied_send =
      record {
        agree = agree;
        cost = cost;
        sent = sent;
        final = final;
        inside = inside;
        numbered = numbered;
      }
    where
      agree : (k m : ℕ) → Agree (phase_by (put (suc b.issued) (Some (issue_of (new_command sender set c))) a.sent_as k) (put (suc b.issued) (Some (new_command sender set c)) b.table k) m) (stage_of a k m)
      agree k m = go (eqb (suc b.issued) k) refl
        where
          go : (t : Bool) → eqb (suc b.issued) k ≡ t → Agree (phase_by (cond t (Some (issue_of (new_command sender set c))) (a.sent_as k)) (cond t (Some (new_command sender set c)) (b.table k)) m) (stage_of a k m)
          go true e =
              subst (λ p. Agree p (stage_of a k m)) (sym (sent_either (names set m))) (subst (λ i. Agree Sent (stage_of a i m)) (eqb-true (suc b.issued) k e) (silent m))
          go false e = h.tied.agree k m

      cost : (k : ℕ) → a.steps_of k ≡ sum_below member_limit (λ q. rank (phase_by (put (suc b.issued) (Some (issue_of (new_command sender set c))) a.sent_as k) (put (suc b.issued) (Some (new_command sender set c)) b.table k) q))
      cost k = go (eqb (suc b.issued) k) refl
        where
          go : (t : Bool) → eqb (suc b.issued) k ≡ t → a.steps_of k ≡ sum_below member_limit (λ q. rank (phase_by (cond t (Some (issue_of (new_command sender set c))) (a.sent_as k)) (cond t (Some (new_command sender set c)) (b.table k)) q))
          go true e =
              h.tied.cost k ∙ sum_same member_limit (λ q. rank (phase_of a b k q)) (λ q. rank (cond (names set q) Sent Sent)) (λ q l. ap rank (ap (λ x. phase_by x (b.table k) q) (ap a.sent_as (sym (eqb-true (suc b.issued) k e)) ∙ unsent) ∙ sym (sent_either (names set q))))
          go false e = h.tied.cost k

      sent : (k : ℕ) (x : OpenCommand) → put (suc b.issued) (Some (new_command sender set c)) b.table k ≡ Some x → put (suc b.issued) (Some (issue_of (new_command sender set c))) a.sent_as k ≡ Some (issue_of x)
      sent k x = go (eqb (suc b.issued) k)
        where
          go : (t : Bool) → cond t (Some (new_command sender set c)) (b.table k) ≡ Some x → cond t (Some (issue_of (new_command sender set c))) (a.sent_as k) ≡ Some (issue_of x)
          go true q = ap (λ y. Some (issue_of y)) (same_Some _ _ q)
          go false q = h.tied.sent k x q

      final : (k f : ℕ) (x : OpenCommand) → put (suc b.issued) (Some (new_command sender set c)) b.table k ≡ Some x → x.fixed ≡ Some f → f ≡ greatest_answer a k
      final k f x = go (eqb (suc b.issued) k)
        where
          go : (t : Bool) → cond t (Some (new_command sender set c)) (b.table k) ≡ Some x → x.fixed ≡ Some f → f ≡ greatest_answer a k
          go true q r = absurd (none-some _ (ap (λ y. y.fixed) (same_Some _ _ q) ∙ r))
          go false q r = h.tied.final k f x q r

      inside : (k m : ℕ) (x : Issue) → put (suc b.issued) (Some (issue_of (new_command sender set c))) a.sent_as k ≡ Some x → names x.set m ≡ true → m < member_limit
      inside k m x = go (eqb (suc b.issued) k)
        where
          go : (t : Bool) → cond t (Some (issue_of (new_command sender set c))) (a.sent_as k) ≡ Some x → names x.set m ≡ true → m < member_limit
          go true q n =
              let l : m < b.members = names_below b.members set m below (subst (λ y. names y.set m ≡ true) (sym (same_Some _ _ q)) n) in
              let w : b.members ≤ member_limit = h.sound.few in
              omega arith
          go false q n = h.tied.inside k m x q n

      numbered : (k : ℕ) (x : Issue) → put (suc b.issued) (Some (issue_of (new_command sender set c))) a.sent_as k ≡ Some x → k ≤ suc b.issued
      numbered k x = go (eqb (suc b.issued) k) refl
        where
          go : (t : Bool) → eqb (suc b.issued) k ≡ t → cond t (Some (issue_of (new_command sender set c))) (a.sent_as k) ≡ Some x → k ≤ suc b.issued
          go true e q = let w : suc b.issued ≡ k = eqb-true (suc b.issued) k e in omega arith
          go false e q = omega (arith, h.tied.numbered k x q)

  pub members_send : (m : ℕ) → AtMember K (λ k. command_by (put (suc b.issued) (Some (record { sender = sender; set = set; command = c })) a.sent_as k)) (stand_of a m) (a.runs_at m) (b.member m) (cells m)
  members_send m =
      more_commands K (command_of a) (λ k. command_by (put (suc b.issued) (Some (record { sender = sender; set = set; command = c })) a.sent_as k)) (stand_of a m) (a.runs_at m) (b.member m) (cells m)
      (λ k t q. other k (λ e. none-some _ (sym (unheard k e) ∙ q)))
      (λ k y q. other k (λ e. late k e (h.sound.known m k y q)))
      (h.members m)
    where
      late : (k : ℕ) → suc b.issued ≡ k → k ≤ b.issued → ⊥
      late k e l = omega arith

      other : (k : ℕ) → (suc b.issued ≡ k → ⊥) → command_by (put (suc b.issued) (Some (record { sender = sender; set = set; command = c })) a.sent_as k) ≡ command_by (a.sent_as k)
      other k ne = ap command_by (put_other (suc b.issued) k (Some (record { sender = sender; set = set; command = c })) a.sent_as ne)

      unheard : (k : ℕ) → suc b.issued ≡ k → stand_of a m k ≡ None
      unheard k e =
          let s = silent m in
          subst (λ i. stand_of a m i ≡ None) e (ap (λ t. cond t (Some (greatest_answer a (suc b.issued))) (a.heard_at (suc b.issued) m)) s.2 ∙ s.0)
