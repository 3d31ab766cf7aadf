-- Where each command stands at each member, by the history, and what the line says of one that stands and has not run.
use Rattle.std.proofs.lemmas.Bool.{false≢true}
use Rattle.std.proofs.lemmas.Option.{none-some, same_Some}
use Rattle.std.proofs.Common.{◌≡◌, ℕ, Bool, true, false, cond, List, Some, None, Option, sym, refl, ap, ◌∙◌, subst}
use Rattle.machine.specs.declared.command.Command.{Command}
use Rattle.machine.specs.Kinds.{Kind}
use Rattle.ordering.specs.declared.calls.Phase.{Phase}
use Rattle.ordering.specs.declared.calls.Phase.TheVariants.{Sent, Heard, Gathered, Settled, Run}
use Rattle.ordering.specs.Histories.{Account, Issue}
use Rattle.ordering.specs.Kept.{Sound, is_past, is_settled}
use Rattle.ordering.specs.Lines.{OpenCommand, Book, stands_by}
use Rattle.ordering.specs.Ordering.{has, greatest_answer, To}
use Rattle.ordering.specs.Searches.{names, present}
use Rattle.ordering.proofs.AtMember.{AtMember}
use Rattle.ordering.proofs.Tied.{Tied, Agree, Stage, stage_of, phase_of, phase_by, phase_at, issue_of}

abbrev pub command_by : Option Issue → Option Command
command_by None = None
command_by (Some d) = Some d.command

abbrev pub command_of : Account → ℕ → Option Command
command_of a k = command_by (a.sent_as k)

-- At the final timestamp once settled, at the member's own answer while only heard.
abbrev pub stand_of : Account → ℕ → ℕ → Option ℕ
stand_of a m k = cond (a.settled_at k m) (Some (greatest_answer a k)) (a.heard_at k m)

-- All that is kept from call to call on an open line.
pub record Inv (K : Kind) (a : Account) (b : Book) (cells : ℕ → List ℕ) : Type 0 where
  pub sound : Sound b
  pub tied : Tied a b
  pub members : (m : ℕ) → AtMember K (command_of a) (stand_of a m) (a.runs_at m) (b.member m) (cells m)

-- The history knows the command at its destination by its phase.
pub phase_here : (a : Account) (b : Book) (k m : ℕ) (o : OpenCommand) → Tied a b → b.table k ≡ Some o → names o.set m ≡ true → phase_of a b k m ≡ o.phase m
phase_here a b k m o h there to =
    ap (λ x. phase_by x (b.table k) m) (h.sent k o there) ∙ (ap (λ x. phase_by (Some (issue_of o)) x m) there ∙ ap (λ t. cond t (o.phase m) Sent) to)

pub agree_here : (a : Account) (b : Book) (k m : ℕ) (o : OpenCommand) (p : Phase) → Tied a b → b.table k ≡ Some o → names o.set m ≡ true → o.phase m ≡ p → Agree p (stage_of a k m)
agree_here a b k m o p h there to was =
    subst (λ x. Agree x (stage_of a k m)) (phase_here a b k m o h there to ∙ was) (h.agree k m)

some_present : {A : Type 0} (x : Option A) → present x ≡ true → (y : A) × (x ≡ Some y)
some_present None h = absurd (false≢true h)
some_present (Some y) h = (y, refl)

-- A final timestamp that has reached a destination is fixed.
pub fixed_by_settled : (b : Book) (k q : ℕ) (o : OpenCommand) → Sound b → b.table k ≡ Some o → names o.set q ≡ true → is_settled (o.phase q) ≡ true → (f : ℕ) × (o.fixed ≡ Some f)
fixed_by_settled b k q o s there to done = some_present o.fixed ((s.command k o there).settled q to done)

-- Whoever the history calls settled is settled or run on the line.
agree_settled : (p : Phase) (s : Stage) → Agree p s → s.settled ≡ true → is_settled p ≡ true
agree_settled Sent s h e = absurd (false≢true (sym h.2 ∙ e))
agree_settled (Heard t) s h e = absurd (false≢true (sym h.2 ∙ e))
agree_settled (Gathered t) s h e = absurd (false≢true (sym h.2 ∙ e))
agree_settled Settled s h e = refl
agree_settled Run s h e = refl

agree_past : (p : Phase) (s : Stage) → Agree p s → is_past p ≡ true → s.gathered ≡ true
agree_past Sent s h e = absurd (false≢true e)
agree_past (Heard t) s h e = absurd (false≢true e)
agree_past (Gathered t) s h e = h.1
agree_past Settled s h e = h.1
agree_past Run s h e = h.1

-- What the history tells of a phase that is not sent: it was sent there.
pub destination : (x : Option Issue) (e : Option OpenCommand) (m : ℕ) → is_settled (phase_by x e m) ≡ true → (d : Issue) × (x ≡ Some d) × (names d.set m ≡ true)
destination None e m h = absurd (false≢true h)
destination (Some d) e m h = go (names d.set m) refl h
  where
    go : (t : Bool) → names d.set m ≡ t → is_settled (cond t (phase_at e m) Sent) ≡ true → (c : Issue) × (Some d ≡ Some c) × (names c.set m ≡ true)
    go true q h = (d, refl, q)
    go false q h = absurd (false≢true h)

-- Once settled anywhere, a command is gathered everywhere.
pub settled_all : (a : Account) (b : Book) (k m : ℕ) (d : Issue) → Sound b → Tied a b → a.sent_as k ≡ Some d → a.settled_at k m ≡ true → (q : ℕ) → To d q → a.gathered_at k q ≡ true
settled_all a b k m d s h is done q to = go (b.table k) refl
  where
    ahead : is_settled (phase_by (a.sent_as k) (b.table k) m) ≡ true
    ahead = agree_settled (phase_of a b k m) (stage_of a k m) (h.agree k m) done

    at : (e : Option OpenCommand) → b.table k ≡ e → phase_of a b k q ≡ phase_at e q
    at e there =
        ap (λ x. phase_by x (b.table k) q) is ∙ (ap (λ t. cond t (phase_at (b.table k) q) Sent) to ∙ ap (λ x. phase_at x q) there)

    go : (e : Option OpenCommand) → b.table k ≡ e → a.gathered_at k q ≡ true
    go None there = (subst (λ p. Agree p (stage_of a k q)) (at None there) (h.agree k q)).1
    go (Some o) there =
        let w = destination (a.sent_as k) (b.table k) m ahead in
        let own : issue_of o ≡ d = same_Some _ _ (sym (h.sent k o there) ∙ is) in
        let same : w.0 ≡ issue_of o = same_Some _ _ (sym w.1 ∙ h.sent k o there) in
        let to' : names o.set m ≡ true = subst (λ x. names x.set m ≡ true) same w.2 in
        let f = fixed_by_settled b k m o s there to' (subst (λ p. is_settled p ≡ true) (phase_here a b k m o h there to') ahead) in
        agree_past (o.phase q) (stage_of a k q) (subst (λ p. Agree p (stage_of a k q)) (at (Some o) there) (h.agree k q)) ((s.command k o there).gathered f.0 q f.1 (subst (λ x. names x.set q ≡ true) (sym own) to))

-- While a destination is still to be gathered, no member has settled the command.
pub never_settled : (a : Account) (b : Book) (k m q : ℕ) (o : OpenCommand) → Sound b → Tied a b → b.table k ≡ Some o → names o.set m ≡ true → a.gathered_at k m ≡ false → a.settled_at k q ≡ false
never_settled a b k m q o s h there to early = go (a.settled_at k q) refl
  where
    go : (t : Bool) → a.settled_at k q ≡ t → t ≡ false
    go false e = refl
    go true e = absurd (false≢true (sym early ∙ settled_all a b k q (issue_of o) s h (h.sent k o there) e m to))

-- A command that stands at a member and has not run there is open, and stands there on the line.
pub record OpenThere (b : Book) (m j t : ℕ) : Type 0 where
  pub o : OpenCommand
  pub there : b.table j ≡ Some o
  pub to : names o.set m ≡ true
  pub stands : stands_by o.fixed (o.phase m) ≡ Some t

stand_by : (s : Stage) (g t : ℕ) → s.settled ≡ false → cond s.settled (Some g) s.heard ≡ Some t → s.heard ≡ Some t
stand_by s g t e h = subst (λ x. cond x (Some g) s.heard ≡ Some t) e h

pub stands_open : (a : Account) (b : Book) (m j t : ℕ) → Sound b → Tied a b → stand_of a m j ≡ Some t → has j (a.runs_at m) ≡ false → OpenThere b m j t
stands_open a b m j t s h at out = by_sent (a.sent_as j) refl (h.agree j m)
  where
    silent : Agree Sent (stage_of a j m) → ⊥
    silent g = none-some _ (sym g.0 ∙ stand_by (stage_of a j m) (greatest_answer a j) t g.2 at)

    found : (o : OpenCommand) → b.table j ≡ Some o → names o.set m ≡ true → (p : Phase) → o.phase m ≡ p → Agree p (stage_of a j m) → OpenThere b m j t
    found o there to Sent e g = absurd (silent g)
    found o there to (Heard u) e g =
        record { o = o; there = there; to = to; stands = ap (stands_by o.fixed) e ∙ (sym g.0 ∙ stand_by (stage_of a j m) (greatest_answer a j) t g.2 at) }
    found o there to (Gathered u) e g =
        record { o = o; there = there; to = to; stands = ap (stands_by o.fixed) e ∙ (sym g.0 ∙ stand_by (stage_of a j m) (greatest_answer a j) t g.2 at) }
    found o there to Settled e g =
        let f = fixed_by_settled b j m o s there to (ap is_settled e) in
        let v : f.0 ≡ greatest_answer a j = h.final j f.0 o there f.1 in
        let w : greatest_answer a j ≡ t = same_Some _ _ (subst (λ x. cond x (Some (greatest_answer a j)) (a.heard_at j m) ≡ Some t) g.2 at) in
        record { o = o; there = there; to = to; stands = ap (stands_by o.fixed) e ∙ (f.1 ∙ ap Some (v ∙ w)) }
    found o there to Run e g = absurd (false≢true (sym out ∙ g.3))

    by_table : (d : Issue) → a.sent_as j ≡ Some d → names d.set m ≡ true → (e : Option OpenCommand) → b.table j ≡ e → Agree (phase_at e m) (stage_of a j m) → OpenThere b m j t
    by_table d is to None there g = absurd (false≢true (sym out ∙ g.3))
    by_table d is to (Some o) there g =
        let own : d ≡ issue_of o = same_Some _ _ (sym is ∙ h.sent j o there) in
        found o there (subst (λ x. names x.set m ≡ true) own to) (o.phase m) refl g

    by_name : (d : Issue) → a.sent_as j ≡ Some d → (x : Bool) → names d.set m ≡ x → Agree (cond x (phase_at (b.table j) m) Sent) (stage_of a j m) → OpenThere b m j t
    by_name d is true to g = by_table d is to (b.table j) refl g
    by_name d is false to g = absurd (silent g)

    by_sent : (x : Option Issue) → a.sent_as j ≡ x → Agree (phase_by x (b.table j) m) (stage_of a j m) → OpenThere b m j t
    by_sent None is g = absurd (silent g)
    by_sent (Some d) is g = by_name d is (names d.set m) refl g
