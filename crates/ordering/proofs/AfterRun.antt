-- A run: what is ready is earlier than every conflicting command that is heard and unrun, so the past stays the past.
use Rattle.std.proofs.lemmas.Option.{none-some, same_Some}
use Rattle.std.proofs.Common.{◌≡◌, ℕ, suc, ◌<◌, Bool, true, false, cond, not, ◌||◌, eqb, List, ◌∷◌, Some, None, sym, refl, ap, ◌∙◌, subst, ⊎_elim, arith}
use Rattle.std.proofs.lemmas.Bool.{cases_eq, eq-eqb, ne_eqb, or_left, false≢true}
use Rattle.machine.specs.Kinds.{Kind, Laws}
use Rattle.ordering.specs.declared.calls.Phase.{Phase}
use Rattle.ordering.specs.declared.calls.Phase.TheVariants.{Sent, Heard, Gathered, Settled, Run}
use Rattle.ordering.specs.Histories.{Account, note_run}
use Rattle.ordering.specs.Limits.{member_limit}
use Rattle.ordering.specs.Lines.{OpenCommand, Book, is_run, everywhere, standing, stands_by}
use Rattle.ordering.specs.Ordering.{Earlier, greatest_answer, has}
use Rattle.ordering.specs.Searches.{put, names, earlier}
use Rattle.ordering.specs.Steps.{with_phase, with_command, left, passes, passes_at}
use Rattle.ordering.proofs.AtMember.{AtMember, Clash}
use Rattle.ordering.proofs.Basics.{put_same, put_other}
use Rattle.ordering.proofs.Bounded.{all_each}
use Rattle.ordering.proofs.MemberSteps.{run_keeps}
use Rattle.ordering.proofs.Moving.{phases_moved, sent_moved, table_cases}
use Rattle.ordering.proofs.Pairs.{earlier_true}
use Rattle.ordering.proofs.Ready.{Ready}
use Rattle.ordering.proofs.Standing.{Inv, command_of, command_by, stand_of, phase_here, agree_here, stands_open}
use Rattle.ordering.proofs.Tied.{Tied, Moved, Agree, Stage, stage_of, phase_at, issue_of, rank, agree_moved, cost_moved}

is_run_lem : (p : Phase) → is_run p ≡ true → Run ≡ p
is_run_lem Sent e = absurd (false≢true e)
is_run_lem (Heard t) e = absurd (false≢true e)
is_run_lem (Gathered t) e = absurd (false≢true e)
is_run_lem Settled e = absurd (false≢true e)
is_run_lem Run e = refl

-- A command that leaves ran at each destination.
left_phase : (o : OpenCommand) (q : ℕ) → q < member_limit → names o.set q ≡ true → phase_at (left o) q ≡ o.phase q
left_phase o q l to = go (everywhere is_run o) refl
  where
    go : (t : Bool) → everywhere is_run o ≡ t → phase_at (cond t None (Some o)) q ≡ o.phase q
    go true e =
        is_run_lem (o.phase q) (subst (λ t. (not t || is_run (o.phase q)) ≡ true) to (all_each member_limit (λ i. not (names o.set i) || is_run (o.phase i)) e q l))
    go false e = refl

left_same : (o x : OpenCommand) → left o ≡ Some x → o ≡ x
left_same o x = go (everywhere is_run o)
  where
    go : (t : Bool) → cond t None (Some o) ≡ Some x → o ≡ x
    go true q = absurd (none-some _ q)
    go false q = same_Some _ _ q

module _ (K : Kind) (L : Laws K) (a : Account) (b : Book) (cells : ℕ → List ℕ) (h : Inv K a b cells) (m k f : ℕ) (o : OpenCommand) (within : m < b.members) (there : b.table k ≡ Some o) (r : Ready K b m k f o) where
  abbrev running : OpenCommand
  running = with_phase o m Run

  abbrev account : Account
  account = note_run a m k

  abbrev book : Book
  book = with_command b k (left running)

  before : Agree Settled (stage_of a k m)
  before = agree_here a b k m o Settled h.tied there r.to r.was

  sent : a.sent_as k ≡ Some (issue_of o)
  sent = h.tied.sent k o there

  moves : Moved a b account book k m Run
  moves =
      record {
        inside = h.tied.inside k m (issue_of o) sent r.to;
        phases = phases_moved a b k m o Run (left running) h.tied there r.to (λ q n. left_phase running q (h.tied.inside k q (issue_of o) sent n) n);
        ranks = sym (ap (λ p. suc (rank p)) (phase_here a b k m o h.tied there r.to ∙ r.was));
        here = (before.0, before.1, before.2, ap (has k) (put_same m (k ∷ a.runs_at m) a.runs_at) ∙ or_left (eqb k k) (has k (a.runs_at m)) (eq-eqb k k refl));
        elsewhere = λ j q ne. ap (λ x. stage x j q) (ran j q ne);
        counted = λ j. refl;
      }
    where
      stage : Bool → ℕ → ℕ → Stage
      stage x j q = record { heard = a.heard_at j q; gathered = a.gathered_at j q; settled = a.settled_at j q; ran = x }

      ran : (j q : ℕ) → (k ≡ j → m ≡ q → ⊥) → has j (put m (k ∷ a.runs_at m) a.runs_at q) ≡ has j (a.runs_at q)
      ran j q ne = ⊎_elim same other (cases_eq m q)
        where
          other : (m ≡ q → ⊥) → has j (put m (k ∷ a.runs_at m) a.runs_at q) ≡ has j (a.runs_at q)
          other n = ap (has j) (put_other m q (k ∷ a.runs_at m) a.runs_at n)

          same : m ≡ q → has j (put m (k ∷ a.runs_at m) a.runs_at q) ≡ has j (a.runs_at q)
          same e =
              subst (λ i. has j (put m (k ∷ a.runs_at m) a.runs_at i) ≡ has j (a.runs_at i)) e
              (ap (has j) (put_same m (k ∷ a.runs_at m) a.runs_at) ∙ ap (λ t. t || has j (a.runs_at m)) (ne_eqb k j (λ u. ne u e)))

  pub tied_run : Tied account book
  tied_run =
      record {
        agree = agree_moved a b account book k m Run moves h.tied;
        cost = cost_moved a b account book k m Run moves h.tied;
        sent = sent_moved a b k m o Run (left running) h.tied there r.to (λ q n. left_phase running q (h.tied.inside k q (issue_of o) sent n) n) (λ x q. ap issue_of (sym (left_same running x q)));
        final = λ j g x. table_cases b k (left running) (λ i y. y.fixed ≡ Some g → g ≡ greatest_answer a i) (λ y q e. h.tied.final k g o there (ap (λ z. z.fixed) (left_same running y q) ∙ e)) (λ i y ne q e. h.tied.final i g y q e) j x;
        inside = h.tied.inside;
        numbered = h.tied.numbered;
      }

  stood : stand_of a m k ≡ Some f
  stood =
      ap (λ x. cond x (Some (greatest_answer a k)) (a.heard_at k m)) before.2 ∙ ap Some (sym (h.tied.final k f o there r.final))

  -- readiness, in the words of the history
  ready : (j t : ℕ) → (k ≡ j → ⊥) → stand_of a m j ≡ Some t → has j (a.runs_at m) ≡ false → Clash K (command_of a j) (command_of a k) → Earlier (f, k) (t, j)
  ready j t ne at out clash =
      let w = stands_open a b m j t h.sound h.tied at out in
      let free : passes K m (f, k) o.command j (b.table j) ≡ true = all_each (suc b.issued) (λ i. passes K m (f, k) o.command i (b.table i)) r.clear j (omega (arith, (h.sound.numbered j w.o w.there).1)) in
      let here : standing w.o m ≡ Some t = ap (λ x. cond x (stands_by w.o.fixed (w.o.phase m)) None) w.to ∙ w.stands in
      let open_free : (eqb j k || passes_at K (f, k) o.command w.o.command j (standing w.o m)) ≡ true = subst (λ x. passes K m (f, k) o.command j x ≡ true) w.there free in
      let apart : passes_at K (f, k) o.command w.o.command j (Some t) ≡ true = subst (λ x. passes_at K (f, k) o.command w.o.command j x ≡ true) here (subst (λ x. (x || passes_at K (f, k) o.command w.o.command j (standing w.o m)) ≡ true) (ne_eqb j k (λ e. ne (sym e))) open_free) in
      let conflicts : K.conflict w.o.command o.command ≡ true = subst (λ x. Clash K (Some w.o.command) x) (ap command_by sent) (subst (λ x. Clash K x (command_of a k)) (ap command_by (h.tied.sent j w.o w.there)) clash) in
      earlier_true (f, k) (t, j) (subst (λ x. (not x || earlier (f, k) (t, j)) ≡ true) (L.symmetric o.command w.o.command ∙ conflicts) apart)

  pub members_run : (q : ℕ) → AtMember K (command_of account) (stand_of account q) (account.runs_at q) (book.member q) (put m (K.next (cells m) o.command) cells q)
  members_run q = ⊎_elim this other (cases_eq m q)
    where
      this : m ≡ q → AtMember K (command_of account) (stand_of account q) (account.runs_at q) (book.member q) (put m (K.next (cells m) o.command) cells q)
      this e =
          subst (λ i. AtMember K (command_of a) (stand_of a i) (account.runs_at i) (b.member i) (put m (K.next (cells m) o.command) cells i)) e
          (subst (λ s. AtMember K (command_of a) (stand_of a m) s (b.member m) (put m (K.next (cells m) o.command) cells m)) (sym (put_same m (k ∷ a.runs_at m) a.runs_at))
          (subst (λ s. AtMember K (command_of a) (stand_of a m) (k ∷ a.runs_at m) (b.member m) s) (sym (put_same m (K.next (cells m) o.command) cells))
          (run_keeps K L (command_of a) (stand_of a m) (a.runs_at m) (b.member m) (cells m) k o.command f (ap command_by sent) before.3 stood ready (h.members m))))

      other : (m ≡ q → ⊥) → AtMember K (command_of account) (stand_of account q) (account.runs_at q) (book.member q) (put m (K.next (cells m) o.command) cells q)
      other ne =
          subst (λ s. AtMember K (command_of a) (stand_of a q) s (b.member q) (put m (K.next (cells m) o.command) cells q)) (sym (put_other m q (k ∷ a.runs_at m) a.runs_at ne))
          (subst (λ s. AtMember K (command_of a) (stand_of a q) (a.runs_at q) (b.member q) s) (sym (put_other m q (K.next (cells m) o.command) cells ne)) (h.members q))
