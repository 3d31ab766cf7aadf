-- There is always a next step: hear what is sent, gather what is heard, settle what is gathered, else the least pair is ready.
use Rattle.std.proofs.lemmas.Option.{none-some, same_Some}
use Rattle.std.proofs.Common.{◌≡◌, ℕ, suc, ◌<◌, ◌≤◌, Bool, true, false, cond, not, ◌&&◌, ◌||◌, eqb, Some, None, Ok, Err, Option, sym, refl, ap, ◌∙◌, subst, ⊎_elim, arith}
use Rattle.std.proofs.lemmas.Bool.{lt-ltb, cases_eq, eq-eqb, or_left, or_right, or_parts, not-false, and_parts, false≢true}
use Rattle.machine.specs.declared.command.Command.{Command}
use Rattle.machine.specs.Kinds.{Kind}
use Rattle.ordering.specs.declared.calls.Call.TheVariants.{Hear, Gather, Settle, Run as RunCall}
use Rattle.ordering.specs.declared.calls.Phase.{Phase}
use Rattle.ordering.specs.declared.calls.Phase.TheVariants.{Sent, Heard, Gathered, Settled, Run}
use Rattle.ordering.specs.declared.calls.Refusal.{Refusal}
use Rattle.ordering.specs.declared.calls.Refusal.TheVariants.{NoMember}
use Rattle.ordering.specs.Histories.{Account, Issue, hearing, gathering, settling, running}
use Rattle.ordering.specs.Kept.{Sound, is_settled}
use Rattle.ordering.specs.Limits.{member_limit}
use Rattle.ordering.specs.Lines.{OpenCommand, Book, opened, is_gathered, standing, stands_by}
use Rattle.ordering.specs.Ordering.{To, RanAt, NextStep}
use Rattle.ordering.specs.Searches.{Pair, names, any_below, earlier, earliest_below}
use Rattle.ordering.specs.Steps.{demand, destined, reach, hear, hear_at, hear_in, gather, gather_at, gather_in, settle, settle_at, settle_in, run_earliest, run_taken, ready_at, ready_if, settled_as, final_if, passes, passes_at, heard_now, hearer, gathered_now, settled_now, settler, with_phase}
use Rattle.ordering.specs.Worlds.{book_turn, run_turn}
use Rattle.ordering.proofs.Bits.{names_below}
use Rattle.ordering.proofs.Bounded.{any_found, any_none, all_not, all_from}
use Rattle.ordering.proofs.Pairs.{prior_earlier, true_earlier}
use Rattle.ordering.proofs.Ready.{earliest_found, earliest_least, earliest_some, facts_ready}
use Rattle.ordering.proofs.Standing.{fixed_by_settled, agree_here}
use Rattle.ordering.proofs.Tied.{Tied, Agree, stage_of, phase_by, phase_at, issue_of}

module _ (K : Kind) (b : Book) (s : Sound b) where
  -- an open command and one of its destinations
  record Target : Type 0 where
    number : ℕ
    member : ℕ
    o : OpenCommand
    there : b.table number ≡ Some o
    to : names o.set member ≡ true

  reached : (x : Target) → reach b x.member x.number ≡ Ok x.o
  reached x =
      ap (λ t. demand t NoMember (destined x.member (b.table x.number))) (lt-ltb _ _ (names_below b.members x.o.set x.member (s.command x.number x.o x.there).below x.to))
      ∙ (ap (destined x.member) x.there ∙ ap (λ t. cond t (Ok x.o) (Err Rattle.ordering.specs.declared.calls.Refusal.TheVariants.NoDestination)) x.to)

  hear_next : (x : Target) → x.o.phase x.member ≡ Sent → NextStep K (opened b)
  hear_next x was =
      record {
        call = Hear x.member x.number;
        event = hearing x.member x.number (Ok r.0);
        answers = ap (λ y. (book_turn (hearing x.member x.number) b y).event) accepted;
        accepted = refl;
      }
    where
      r : ℕ × Book
      r = heard_now b x.member x.number x.o (hearer K b.issued x.number x.o.command (b.member x.member))

      accepted : hear K b x.member x.number ≡ Ok r
      accepted = ap (hear_at K b x.member x.number) (reached x) ∙ ap (hear_in K b x.member x.number x.o) was

  gather_next : (x : Target) (t : ℕ) → x.o.phase x.member ≡ Heard t → NextStep K (opened b)
  gather_next x t was =
      record {
        call = Gather x.member x.number;
        event = gathering x.member x.number (Ok r.0);
        answers = ap (λ y. (book_turn (gathering x.member x.number) b y).event) accepted;
        accepted = refl;
      }
    where
      r : Option ℕ × Book
      r = gathered_now b x.number (with_phase x.o x.member (Gathered t))

      accepted : gather b x.member x.number ≡ Ok r
      accepted = ap (gather_at b x.member x.number) (reached x) ∙ ap (gather_in b x.member x.number x.o) was

  settle_next : (x : Target) (f t : ℕ) → x.o.fixed ≡ Some f → x.o.phase x.member ≡ Gathered t → NextStep K (opened b)
  settle_next x f t fixed was =
      record {
        call = Settle x.member x.number;
        event = settling x.member x.number (Ok r.0);
        answers = ap (λ y. (book_turn (settling x.member x.number) b y).event) accepted;
        accepted = refl;
      }
    where
      r : ℕ × Book
      r = settled_now b x.member x.number x.o (settler b.issued x.number x.o.command f (b.member x.member))

      accepted : settle b x.member x.number ≡ Ok r
      accepted =
          ap (settle_at b x.member x.number) (reached x) ∙ (ap (λ y. settle_in b x.member x.number x.o y (x.o.phase x.member)) fixed ∙ ap (settle_in b x.member x.number x.o (Some f)) was)

  -- a gathered destination: its command is settled, or another destination of it is heard or gathered first
  gathered_next : (x : Target) (t : ℕ) → x.o.phase x.member ≡ Gathered t → NextStep K (opened b)
  gathered_next x t was = by_fixed x.o.fixed refl
    where
      wait : x.o.fixed ≡ None → (q : ℕ) → names x.o.set q ≡ true → (p : Phase) → x.o.phase q ≡ p → is_gathered p ≡ false → NextStep K (opened b)
      wait unfixed q to Sent e g = hear_next (record { number = x.number; member = q; o = x.o; there = x.there; to = to }) e
      wait unfixed q to (Heard u) e g = gather_next (record { number = x.number; member = q; o = x.o; there = x.there; to = to }) u e
      wait unfixed q to (Gathered u) e g = absurd (false≢true (sym g))
      wait unfixed q to Settled e g = absurd (none-some _ (sym unfixed ∙ (fixed_by_settled b x.number q x.o s x.there to (ap is_settled e)).1))
      wait unfixed q to Run e g = absurd (none-some _ (sym unfixed ∙ (fixed_by_settled b x.number q x.o s x.there to (ap is_settled e)).1))

      by_fixed : (f : Option ℕ) → x.o.fixed ≡ f → NextStep K (opened b)
      by_fixed (Some f) e = settle_next x f t e was
      by_fixed None e =
          let w = all_not member_limit (λ q. not (names x.o.set q) || is_gathered (x.o.phase q)) ((s.command x.number x.o x.there).waiting e) in
          let parts = or_parts (not (names x.o.set w.0)) (is_gathered (x.o.phase w.0)) w.2 in
          wait e w.0 (not-false (names x.o.set w.0) parts.0) (x.o.phase w.0) refl parts.1

  -- at a member where nothing is heard or gathered, the least settled pair is ready
  is_waiting : Phase → Bool
  is_waiting Sent = false
  is_waiting (Heard t) = true
  is_waiting (Gathered t) = true
  is_waiting Settled = false
  is_waiting Run = false

  waits_at : ℕ → Option OpenCommand → Bool
  waits_at m None = false
  waits_at m (Some o) = names o.set m && is_waiting (o.phase m)

  -- who waits is gathered, or settled, or waits for another destination
  waiting_next : (m j : ℕ) (e : Option OpenCommand) → b.table j ≡ e → waits_at m e ≡ true → NextStep K (opened b)
  unfolding waits_at is_waiting
  waiting_next m j None e w = absurd (false≢true w)
  waiting_next m j (Some o) e w =
      let parts = and_parts (names o.set m) (is_waiting (o.phase m)) w in
      go (record { number = j; member = m; o = o; there = e; to = parts.0 }) (o.phase m) refl parts.1
    where
      go : (x : Target) (p : Phase) → x.o.phase x.member ≡ p → is_waiting p ≡ true → NextStep K (opened b)
      go x Sent q w = absurd (false≢true w)
      go x (Heard t) q w = gather_next x t q
      go x (Gathered t) q w = gathered_next x t q
      go x Settled q w = absurd (false≢true w)
      go x Run q w = absurd (false≢true w)

  run_next : (m k f : ℕ) → m < b.members → k ≤ b.issued → ready_at K b m k ≡ Some f → NextStep K (opened b)
  run_next m k f inside known ready = found (earliest_some (suc b.issued) (ready_at K b m) k f (omega (arith, known)) ready)
    where
      taken : (p : Pair) → earliest_below (suc b.issued) (ready_at K b m) ≡ Some p → (e : Option OpenCommand) → b.table p.1 ≡ e → ready_if K b m p.1 e (settled_as m e) ≡ Some p.0 → NextStep K (opened b)
      taken p first None there h = absurd (none-some _ h)
      taken p first (Some o) there h =
          record {
            call = RunCall m;
            event = running m (Ok p);
            answers = ap (λ y. (run_turn m b y).event) (ap (λ t. demand t NoMember (run_earliest b m (earliest_below (suc b.issued) (ready_at K b m)))) (lt-ltb m b.members inside) ∙ (ap (run_earliest b m) first ∙ ap (run_taken b m p) there));
            accepted = refl;
          }

      found : (p : Pair) × (earliest_below (suc b.issued) (ready_at K b m) ≡ Some p) → NextStep K (opened b)
      found w =
          let q = earliest_found (suc b.issued) (ready_at K b m) w.0 w.1 in
          taken w.0 w.1 (b.table w.0.1) refl q.1

  -- the final timestamp of a settled destination, turned round
  settled_facts : (m f : ℕ) (o : OpenCommand) → settled_as m (Some o) ≡ Some f → (names o.set m ≡ true) × (o.phase m ≡ Settled) × (o.fixed ≡ Some f)
  settled_facts m f o h = by_name (names o.set m) refl h
    where
      by_phase : names o.set m ≡ true → (p : Phase) → o.phase m ≡ p → final_if o.fixed p ≡ Some f → (names o.set m ≡ true) × (o.phase m ≡ Settled) × (o.fixed ≡ Some f)
      by_phase n Sent e h = absurd (none-some _ h)
      by_phase n (Heard t) e h = absurd (none-some _ h)
      by_phase n (Gathered t) e h = absurd (none-some _ h)
      by_phase n Settled e h = (n, e, h)
      by_phase n Run e h = absurd (none-some _ h)

      by_name : (t : Bool) → names o.set m ≡ t → cond t (final_if o.fixed (o.phase m)) None ≡ Some f → (names o.set m ≡ true) × (o.phase m ≡ Settled) × (o.fixed ≡ Some f)
      by_name true n h = by_phase n (o.phase m) refl h
      by_name false n h = absurd (none-some _ h)

  -- the least settled pair passes every other command, where none waits
  least_passes : (m : ℕ) (p : Pair) (c : Command) → earliest_below (suc b.issued) (λ j. settled_as m (b.table j)) ≡ Some p → (j : ℕ) → j < suc b.issued → (e : Option OpenCommand) → b.table j ≡ e → waits_at m e ≡ false → passes K m p c j e ≡ true
  unfolding waits_at is_waiting
  least_passes m p c first j l None there quiet = refl
  least_passes m p c first j l (Some o) there quiet = ⊎_elim (λ e. or_left (eqb j p.1) (passes_at K p c o.command j (standing o m)) (eq-eqb j p.1 e)) (λ ne. or_right (eqb j p.1) (passes_at K p c o.command j (standing o m)) (by_name ne (names o.set m) refl quiet)) (cases_eq j p.1)
    where
      later : (j ≡ p.1 → ⊥) → (t : ℕ) → settled_as m (Some o) ≡ Some t → passes_at K p c o.command j (Some t) ≡ true
      later ne t h =
          let w = earliest_least (suc b.issued) (λ i. settled_as m (b.table i)) p j t first l (ap (settled_as m) there ∙ h) in
          or_right (not (K.conflict c o.command)) (earlier p (t, j)) (true_earlier p (t, j) (prior_earlier p (t, j) (w.0, λ e. strict p.1 j (w.1 e) ne)))
        where
          strict : (x y : ℕ) → x ≤ y → (y ≡ x → ⊥) → x < y
          strict x y a n = omega (arith, n)

      by_fixed : (j ≡ p.1 → ⊥) → (f : Option ℕ) → settled_as m (Some o) ≡ f → passes_at K p c o.command j f ≡ true
      by_fixed ne None h = refl
      by_fixed ne (Some t) h = later ne t h

      by_phase : (j ≡ p.1 → ⊥) → names o.set m ≡ true → (q : Phase) → o.phase m ≡ q → is_waiting q ≡ false → passes_at K p c o.command j (stands_by o.fixed q) ≡ true
      by_phase ne n Sent e w = refl
      by_phase ne n (Heard t) e w = absurd (false≢true (sym w))
      by_phase ne n (Gathered t) e w = absurd (false≢true (sym w))
      by_phase ne n Settled e w = by_fixed ne o.fixed (ap (λ t. cond t (final_if o.fixed (o.phase m)) None) n ∙ ap (final_if o.fixed) e)
      by_phase ne n Run e w = refl

      by_name : (j ≡ p.1 → ⊥) → (t : Bool) → names o.set m ≡ t → (t && is_waiting (o.phase m)) ≡ false → passes_at K p c o.command j (cond t (stands_by o.fixed (o.phase m)) None) ≡ true
      by_name ne true n w = by_phase ne n (o.phase m) refl w
      by_name ne false n w = refl

  settled_next : (x : Target) → x.o.phase x.member ≡ Settled → NextStep K (opened b)
  unfolding waits_at is_waiting
  settled_next x was = by_waiting (any_below (suc b.issued) (λ j. waits_at x.member (b.table j))) refl
    where
      m : ℕ
      m = x.member

      inside : x.member < b.members
      inside = names_below b.members x.o.set x.member (s.command x.number x.o x.there).below x.to

      final : (f : ℕ) × (x.o.fixed ≡ Some f)
      final = fixed_by_settled b x.number x.member x.o s x.there x.to (ap is_settled was)

      own : settled_as x.member (b.table x.number) ≡ Some final.0
      own =
          ap (settled_as x.member) x.there ∙ (ap (λ t. cond t (final_if x.o.fixed (x.o.phase x.member)) None) x.to ∙ (ap (final_if x.o.fixed) was ∙ final.1))

      numbered : x.number < suc b.issued
      numbered = let w = (s.numbered x.number x.o x.there).1 in omega arith

      least : (p : Pair) × (earliest_below (suc b.issued) (λ j. settled_as x.member (b.table j)) ≡ Some p)
      least = earliest_some (suc b.issued) (λ j. settled_as x.member (b.table j)) x.number final.0 numbered own

      take : any_below (suc b.issued) (λ j. waits_at x.member (b.table j)) ≡ false → (p : Pair) → earliest_below (suc b.issued) (λ j. settled_as x.member (b.table j)) ≡ Some p → (e : Option OpenCommand) → b.table p.1 ≡ e → settled_as x.member e ≡ Some p.0 → NextStep K (opened b)
      take quiet p first None there h = absurd (none-some _ h)
      take quiet p first (Some o) there h =
          let w = settled_facts x.member p.0 o h in
          run_next x.member p.1 p.0 inside (s.numbered p.1 o there).1
          (facts_ready K b x.member p.1 p.0 o (record { to = w.0; was = w.1; final = w.2; clear = all_from (suc b.issued) (λ j. passes K x.member (p.0, p.1) o.command j (b.table j)) (λ j l. least_passes x.member p o.command first j l (b.table j) refl (any_none (suc b.issued) (λ i. waits_at x.member (b.table i)) quiet j l)) }) there)

      by_waiting : (t : Bool) → any_below (suc b.issued) (λ j. waits_at x.member (b.table j)) ≡ t → NextStep K (opened b)
      by_waiting true e =
          let w = any_found (suc b.issued) (λ j. waits_at x.member (b.table j)) e in
          waiting_next x.member w.0 (b.table w.0) refl w.2
      by_waiting false e =
          take e least.0 least.1 (b.table least.0.1) refl (earliest_found (suc b.issued) (λ j. settled_as x.member (b.table j)) least.0 least.1).1

  unrun_next : (x : Target) (p : Phase) → x.o.phase x.member ≡ p → (p ≡ Run → ⊥) → NextStep K (opened b)
  unrun_next x Sent e n = hear_next x e
  unrun_next x (Heard t) e n = gather_next x t e
  unrun_next x (Gathered t) e n = gathered_next x t e
  unrun_next x Settled e n = settled_next x e
  unrun_next x Run e n = absurd (n refl)

  -- in the words of the history
  pub next_step_lem : (a : Account) → Tied a b → (k m : ℕ) (d : Issue) → a.sent_as k ≡ Some d → To d m → (RanAt a m k → ⊥) → NextStep K (opened b)
  next_step_lem a h k m d sent to unrun = go (b.table k) refl
    where
      departed : b.table k ≡ None → RanAt a m k
      departed e =
          (subst (λ p. Agree p (stage_of a k m)) (ap (λ x. phase_by x (b.table k) m) sent ∙ (ap (λ t. cond t (phase_at (b.table k) m) Sent) to ∙ ap (λ x. phase_at x m) e)) (h.agree k m)).3

      go : (e : Option OpenCommand) → b.table k ≡ e → NextStep K (opened b)
      go None e = absurd (unrun (departed e))
      go (Some o) e =
          let own : d ≡ issue_of o = same_Some _ _ (sym sent ∙ h.sent k o e) in
          let here : names o.set m ≡ true = subst (λ x. names x.set m ≡ true) own to in
          unrun_next (record { number = k; member = m; o = o; there = e; to = here }) (o.phase m) refl (λ q. unrun (agree_here a b k m o Run h e here q).3)
