-- The line against its history: each phase says what was heard, gathered, settled and run, and a step moves one
-- destination of one command one phase on.
use Rattle.std.proofs.Common.{◌≡◌, ℕ, suc, ◌+◌, ◌<◌, ◌≤◌, Bool, true, false, cond, Some, None, Option, sym, refl, ap, ◌∙◌, subst, ⊎_elim, arith}
use Rattle.std.proofs.lemmas.Bool.{cases_eq}
use Rattle.ordering.specs.declared.calls.Phase.{Phase}
use Rattle.ordering.specs.declared.calls.Phase.TheVariants.{Sent, Heard, Gathered, Settled, Run}
use Rattle.ordering.specs.Histories.{Account, Issue, put_twice, one_more}
use Rattle.ordering.specs.Limits.{member_limit}
use Rattle.ordering.specs.Lines.{OpenCommand, Book}
use Rattle.ordering.specs.Ordering.{has, greatest_answer}
use Rattle.ordering.specs.Searches.{put, names, sum_below}
use Rattle.ordering.proofs.Basics.{put_same, put_other, put_cases}
use Rattle.ordering.proofs.Bounded.{sum_change, sum_same}

-- What the history says of one command at one member.
pub record Stage : Type 0 where
  pub heard : Option ℕ
  pub gathered : Bool
  pub settled : Bool
  pub ran : Bool

abbrev pub stage_of : Account → ℕ → ℕ → Stage
stage_of a k m =
    record { heard = a.heard_at k m; gathered = a.gathered_at k m; settled = a.settled_at k m; ran = has k (a.runs_at m) }

abbrev pub Agree : Phase → Stage → Type 0
Agree Sent s = (s.heard ≡ None) × (s.gathered ≡ false) × (s.settled ≡ false) × (s.ran ≡ false)
Agree (Heard t) s = (s.heard ≡ Some t) × (s.gathered ≡ false) × (s.settled ≡ false) × (s.ran ≡ false)
Agree (Gathered t) s = (s.heard ≡ Some t) × (s.gathered ≡ true) × (s.settled ≡ false) × (s.ran ≡ false)
Agree Settled s = ((t : ℕ) × (s.heard ≡ Some t)) × (s.gathered ≡ true) × (s.settled ≡ true) × (s.ran ≡ false)
Agree Run s = ((t : ℕ) × (s.heard ≡ Some t)) × (s.gathered ≡ true) × (s.settled ≡ true) × (s.ran ≡ true)

-- How many steps a destination has done.
abbrev pub rank : Phase → ℕ
rank Sent = 0
rank (Heard t) = 1
rank (Gathered t) = 2
rank Settled = 3
rank Run = 4

-- A command that has left ran everywhere.
abbrev pub phase_at : Option OpenCommand → ℕ → Phase
phase_at None m = Run
phase_at (Some o) m = o.phase m

-- The phase of a sent command at a destination, and sent for all else.
abbrev pub phase_by : Option Issue → Option OpenCommand → ℕ → Phase
phase_by None e m = Sent
phase_by (Some d) e m = cond (names d.set m) (phase_at e m) Sent

abbrev pub phase_of : Account → Book → ℕ → ℕ → Phase
phase_of a b k m = phase_by (a.sent_as k) (b.table k) m

abbrev pub issue_of : OpenCommand → Issue
issue_of o = record { sender = o.sender; set = o.set; command = o.command }

pub record Tied (a : Account) (b : Book) : Type 0 where
  pub agree : (k m : ℕ) → Agree (phase_of a b k m) (stage_of a k m)
  pub cost : (k : ℕ) → a.steps_of k ≡ sum_below member_limit (λ q. rank (phase_of a b k q))
  pub sent : (k : ℕ) (o : OpenCommand) → b.table k ≡ Some o → a.sent_as k ≡ Some (issue_of o)
  pub final : (k f : ℕ) (o : OpenCommand) → b.table k ≡ Some o → o.fixed ≡ Some f → f ≡ greatest_answer a k
  pub inside : (k m : ℕ) (d : Issue) → a.sent_as k ≡ Some d → names d.set m ≡ true → m < member_limit
  pub numbered : (k : ℕ) (d : Issue) → a.sent_as k ≡ Some d → k ≤ b.issued

pub put_twice_same : {X : Type 0} (k m : ℕ) (x : X) (f : ℕ → ℕ → X) → put_twice k m x f k m ≡ x
put_twice_same k m x f = ap (λ g. g m) (put_same k (put m x (f k)) f) ∙ put_same m x (f k)

pub put_twice_other : {X : Type 0} (k m j q : ℕ) (x : X) (f : ℕ → ℕ → X) → (k ≡ j → m ≡ q → ⊥) → put_twice k m x f j q ≡ f j q
put_twice_other k m j q x f ne =
    put_cases k j (put m x (f k)) f (λ g. g q ≡ f j q) (λ e. put_other m q x (f k) (ne e) ∙ ap (λ i. f i q) e) (λ n. refl)

-- One destination moved one phase on.
pub record Moved (a : Account) (b : Book) (a' : Account) (b' : Book) (k m : ℕ) (p : Phase) : Type 0 where
  pub inside : m < member_limit
  pub phases : (j q : ℕ) → phase_of a' b' j q ≡ put_twice k m p (phase_of a b) j q
  pub ranks : rank p ≡ suc (rank (phase_of a b k m))
  pub here : Agree p (stage_of a' k m)
  pub elsewhere : (j q : ℕ) → (k ≡ j → m ≡ q → ⊥) → stage_of a' j q ≡ stage_of a j q
  pub counted : (j : ℕ) → a'.steps_of j ≡ one_more k a.steps_of j

module _ (a : Account) (b : Book) (a' : Account) (b' : Book) (k m : ℕ) (p : Phase) (v : Moved a b a' b' k m p) (h : Tied a b) where
  pub agree_moved : (j q : ℕ) → Agree (phase_of a' b' j q) (stage_of a' j q)
  agree_moved j q = ⊎_elim (λ e. ⊎_elim (at e) (λ n. off (λ e n'. n n')) (cases_eq m q)) (λ n. off (λ e n'. n e)) (cases_eq k j)
    where
      off : (k ≡ j → m ≡ q → ⊥) → Agree (phase_of a' b' j q) (stage_of a' j q)
      off ne =
          subst (λ x. Agree x (stage_of a' j q)) (sym (v.phases j q ∙ put_twice_other k m j q p (phase_of a b) ne)) (subst (λ s. Agree (phase_of a b j q) s) (sym (v.elsewhere j q ne)) (h.agree j q))

      at : k ≡ j → m ≡ q → Agree (phase_of a' b' j q) (stage_of a' j q)
      at e n =
          subst (λ i. Agree (phase_of a' b' i q) (stage_of a' i q)) e (subst (λ i. Agree (phase_of a' b' k i) (stage_of a' k i)) n (subst (λ x. Agree x (stage_of a' k m)) (sym (v.phases k m ∙ put_twice_same k m p (phase_of a b))) v.here))

  pub cost_moved : (j : ℕ) → a'.steps_of j ≡ sum_below member_limit (λ q. rank (phase_of a' b' j q))
  cost_moved j = v.counted j ∙ put_cases k j (suc (a.steps_of k)) a.steps_of (λ x. x ≡ sum_below member_limit (λ q. rank (phase_of a' b' j q))) here away
    where
      away : (k ≡ j → ⊥) → a.steps_of j ≡ sum_below member_limit (λ q. rank (phase_of a' b' j q))
      away n =
          h.cost j ∙ sum_same member_limit (λ q. rank (phase_of a b j q)) (λ q. rank (phase_of a' b' j q)) (λ q l. ap rank (sym (v.phases j q ∙ put_twice_other k m j q p (phase_of a b) (λ e n'. n e))))

      up : rank (phase_of a' b' k m) ≡ suc (rank (phase_of a b k m))
      up = ap rank (v.phases k m ∙ put_twice_same k m p (phase_of a b)) ∙ v.ranks

      change : sum_below member_limit (λ q. rank (phase_of a b k q)) + rank (phase_of a' b' k m) ≡ sum_below member_limit (λ q. rank (phase_of a' b' k q)) + rank (phase_of a b k m)
      change =
          sum_change member_limit (λ q. rank (phase_of a b k q)) (λ q. rank (phase_of a' b' k q)) m v.inside (λ q n. ap rank (sym (v.phases k q ∙ put_twice_other k m k q p (phase_of a b) (λ e n'. n n'))))

      here : k ≡ j → suc (a.steps_of k) ≡ sum_below member_limit (λ q. rank (phase_of a' b' j q))
      here e =
          subst (λ i. suc (a.steps_of k) ≡ sum_below member_limit (λ q. rank (phase_of a' b' i q))) e (grow (a.steps_of k) _ _ _ _ (h.cost k) up change)
        where
          grow : (s x y u w : ℕ) → s ≡ x → u ≡ suc w → x + u ≡ y + w → suc s ≡ y
          grow s x y u w p q r = omega arith
