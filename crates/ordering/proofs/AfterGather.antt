-- A gather: no standing changes, and the final timestamp that the last one fixes is the greatest answer of the hears.
use Rattle.std.proofs.lemmas.Bool.{false≢true}
use Rattle.std.proofs.lemmas.Option.{none-some, same_Some}
use Rattle.std.proofs.Common.{◌≡◌, ℕ, suc, ◌<◌, ◌≤◌, Bool, true, false, cond, not, ◌||◌, List, Some, None, sym, refl, ap, ◌∙◌, subst, arith}
use Rattle.machine.specs.Kinds.{Kind}
use Rattle.ordering.specs.declared.calls.Phase.{Phase}
use Rattle.ordering.specs.declared.calls.Phase.TheVariants.{Sent, Heard, Gathered, Settled, Run}
use Rattle.ordering.specs.Histories.{Account, note_gather}
use Rattle.ordering.specs.Limits.{member_limit}
use Rattle.ordering.specs.Lines.{OpenCommand, Book, is_gathered, everywhere, proposal, greatest_proposal}
use Rattle.ordering.specs.Ordering.{greatest_answer, answer, has}
use Rattle.ordering.specs.Searches.{names}
use Rattle.ordering.specs.Steps.{gathered_now, with_phase, with_fixed, final_of}
use Rattle.ordering.proofs.Accepted.{Reached}
use Rattle.ordering.proofs.Bounded.{all_each, greatest_same}
use Rattle.ordering.proofs.Moving.{phases_moved, sent_moved, table_cases}
use Rattle.ordering.proofs.Standing.{Inv, phase_here, agree_here}
use Rattle.ordering.proofs.Tied.{Tied, Moved, Agree, Stage, stage_of, phase_of, phase_by, issue_of, rank, agree_moved, cost_moved, put_twice_same, put_twice_other}

module _ (K : Kind) (a : Account) (b : Book) (cells : ℕ → List ℕ) (h : Inv K a b cells) (m k t : ℕ) (o : OpenCommand) (r : Reached b m k o) (was : o.phase m ≡ Heard t) where
  abbrev gathering : OpenCommand
  gathering = with_phase o m (Gathered t)

  abbrev account : Account
  account = note_gather a m k

  abbrev book : Book
  book = (gathered_now b k gathering).1

  before : Agree (Heard t) (stage_of a k m)
  before = agree_here a b k m o (Heard t) h.tied r.there r.to was

  moves : Moved a b account book k m (Gathered t)
  moves =
      record {
        inside = let w : b.members ≤ member_limit = h.sound.few in let v : m < b.members = r.inside in omega arith;
        phases = phases_moved a b k m o (Gathered t) (Some (with_fixed gathering (final_of gathering))) h.tied r.there r.to (λ q n. refl);
        ranks = sym (ap (λ p. suc (rank p)) (phase_here a b k m o h.tied r.there r.to ∙ was));
        here = (before.0, put_twice_same k m true a.gathered_at, before.2, before.3);
        elsewhere = λ j q ne. ap (λ x. stage x j q) (put_twice_other k m j q true a.gathered_at ne);
        counted = λ j. refl;
      }
    where
      stage : Bool → ℕ → ℕ → Stage
      stage x j q = record { heard = a.heard_at j q; gathered = x; settled = a.settled_at j q; ran = has j (a.runs_at q) }

  agreed : (j q : ℕ) → Agree (phase_of account book j q) (stage_of account j q)
  agreed = agree_moved a b account book k m (Gathered t) moves h.tied

  -- what is gathered everywhere has as proposals the answers of its hears
  answered : (p : Phase) (s : Stage) → Agree p s → is_gathered p ≡ true → proposal p ≡ answer s.heard
  answered Sent s g e = absurd (false≢true e)
  answered (Heard u) s g e = absurd (false≢true e)
  answered (Gathered u) s g e = sym (ap answer g.0)
  answered Settled s g e = absurd (false≢true e)
  answered Run s g e = absurd (false≢true e)

  fixed_greatest : everywhere is_gathered gathering ≡ true → greatest_proposal gathering ≡ greatest_answer a k
  fixed_greatest all =
      greatest_same member_limit (λ q. cond (names o.set q) (proposal (gathering.phase q)) 0) (λ q. answer (a.heard_at k q)) (λ q l. go q (names o.set q) refl (phase q) (all_each member_limit (λ i. not (names o.set i) || is_gathered (gathering.phase i)) all q l))
    where
      sent : a.sent_as k ≡ Some (issue_of o)
      sent = h.tied.sent k o r.there

      phase : (q : ℕ) → Agree (cond (names o.set q) (gathering.phase q) Sent) (stage_of account k q)
      phase q =
          subst (λ x. Agree x (stage_of account k q)) (ap (λ x. phase_by x (book.table k) q) sent ∙ ap (λ x. phase_by (Some (issue_of o)) x q) (Rattle.ordering.proofs.Basics.put_same k (Some (with_fixed gathering (final_of gathering))) b.table)) (agreed k q)

      go : (q : ℕ) (n : Bool) → names o.set q ≡ n → Agree (cond n (gathering.phase q) Sent) (stage_of account k q) → (not n || is_gathered (gathering.phase q)) ≡ true → cond n (proposal (gathering.phase q)) 0 ≡ answer (a.heard_at k q)
      go q true n g e = answered (gathering.phase q) (stage_of account k q) g e
      go q false n g e = sym (ap answer g.0)

  pub tied_gather : Tied account book
  tied_gather =
      record {
        agree = agreed;
        cost = cost_moved a b account book k m (Gathered t) moves h.tied;
        sent = sent_moved a b k m o (Gathered t) (Some (with_fixed gathering (final_of gathering))) h.tied r.there r.to (λ q n. refl) (λ x q. ap issue_of (sym (same_Some _ _ q)));
        final = λ j f x. table_cases b k (Some (with_fixed gathering (final_of gathering))) (λ i y. y.fixed ≡ Some f → f ≡ greatest_answer a i) (here f) (λ i y ne q e. h.tied.final i f y q e) j x;
        inside = h.tied.inside;
        numbered = h.tied.numbered;
      }
    where
      by_all : (f : ℕ) (e : Bool) → everywhere is_gathered gathering ≡ e → cond e (Some (greatest_proposal gathering)) None ≡ Some f → f ≡ greatest_answer a k
      by_all f true all q = sym (same_Some _ _ q) ∙ fixed_greatest all
      by_all f false all q = absurd (none-some _ q)

      here : (f : ℕ) (x : OpenCommand) → Some (with_fixed gathering (final_of gathering)) ≡ Some x → x.fixed ≡ Some f → f ≡ greatest_answer a k
      here f x q e = by_all f (everywhere is_gathered gathering) refl (ap (λ y. y.fixed) (same_Some _ _ q) ∙ e)
