-- The cost: each accepted step moves one destination one phase on, and there are four phases to go at each.
use Rattle.std.proofs.lemmas.Bool.{false≢true}
use Rattle.std.proofs.Common.{◌≡◌, ℕ, zero, suc, ◌+◌, ◌*◌, ◌<◌, ◌≤◌, Bool, true, false, cond, Some, sym, refl, ap, ◌∙◌, subst, arith}
use Rattle.ordering.specs.declared.calls.Phase.{Phase}
use Rattle.ordering.specs.declared.calls.Phase.TheVariants.{Sent, Heard, Gathered, Settled, Run}
use Rattle.ordering.specs.Histories.{Account, Issue}
use Rattle.ordering.specs.Limits.{member_limit}
use Rattle.ordering.specs.Lines.{Book}
use Rattle.ordering.specs.Ordering.{Cost, destination_count}
use Rattle.ordering.specs.Searches.{names, count_below, sum_below}
use Rattle.ordering.proofs.Bounded.{below_more}
use Rattle.ordering.proofs.Tied.{Tied, Agree, Stage, stage_of, phase_of, phase_by, phase_at, rank}

rank_most : (p : Phase) → rank p ≤ 4
rank_most Sent = omega arith
rank_most (Heard t) = omega arith
rank_most (Gathered t) = omega arith
rank_most Settled = omega arith
rank_most Run = omega arith

-- Ranks of at most 4, and 0 where there is no destination.
record Ranked (f : ℕ → ℕ) (g : ℕ → Bool) : Type 0 where
  most : (q : ℕ) → f q ≤ 4
  none : (q : ℕ) → g q ≡ false → f q ≡ 0

sum_most : (n : ℕ) (f : ℕ → ℕ) (g : ℕ → Bool) → Ranked f g → sum_below n f ≤ 4 * count_below n g
sum_most zero f g r = omega arith
sum_most (suc n) f g r = go (g n) refl (sum_most n f g r)
  where
    go : (t : Bool) → g n ≡ t → sum_below n f ≤ 4 * count_below n g → f n + sum_below n f ≤ 4 * (cond t 1 0 + count_below n g)
    go true e i = omega (arith, r.most n)
    go false e i = omega (arith, r.none n e)

sum_all : (n : ℕ) (f : ℕ → ℕ) (g : ℕ → Bool) → Ranked f g → ((q : ℕ) → q < n → g q ≡ true → f q ≡ 4) → sum_below n f ≡ 4 * count_below n g
sum_all zero f g r all = refl
sum_all (suc n) f g r all = go (g n) refl (sum_all n f g r (λ q l. all q (omega arith)))
  where
    go : (t : Bool) → g n ≡ t → sum_below n f ≡ 4 * count_below n g → f n + sum_below n f ≡ 4 * (cond t 1 0 + count_below n g)
    go true e i = omega (arith, all n (omega arith) e)
    go false e i = omega (arith, r.none n e)

sum_full : (n : ℕ) (f : ℕ → ℕ) (g : ℕ → Bool) → Ranked f g → sum_below n f ≡ 4 * count_below n g → (q : ℕ) → q < n → g q ≡ true → f q ≡ 4
sum_full zero f g r full = λ q l. absurd (omega arith)
sum_full (suc n) f g r full = below_more n (λ q. g q ≡ true → f q ≡ 4) (here (g n) refl full) (sum_full n f g r (rest (g n) refl full))
  where
    here : (t : Bool) → g n ≡ t → f n + sum_below n f ≡ 4 * (cond t 1 0 + count_below n g) → g n ≡ true → f n ≡ 4
    here true e w i = omega (arith, sum_most n f g r, r.most n)
    here false e w i = absurd (false≢true (sym e ∙ i))

    rest : (t : Bool) → g n ≡ t → f n + sum_below n f ≡ 4 * (cond t 1 0 + count_below n g) → sum_below n f ≡ 4 * count_below n g
    rest true e w = omega (arith, sum_most n f g r, r.most n)
    rest false e w = omega (arith, r.none n e)

-- All four steps are done exactly where the command ran.
agree_four : (p : Phase) (s : Stage) → Agree p s → rank p ≡ 4 → s.ran ≡ true
agree_four Sent s h e = absurd (omega arith)
agree_four (Heard t) s h e = absurd (omega arith)
agree_four (Gathered t) s h e = absurd (omega arith)
agree_four Settled s h e = absurd (omega arith)
agree_four Run s h e = h.3

ran_four : (p : Phase) (s : Stage) → Agree p s → s.ran ≡ true → rank p ≡ 4
ran_four Sent s h e = absurd (false≢true (sym h.3 ∙ e))
ran_four (Heard t) s h e = absurd (false≢true (sym h.3 ∙ e))
ran_four (Gathered t) s h e = absurd (false≢true (sym h.3 ∙ e))
ran_four Settled s h e = absurd (false≢true (sym h.3 ∙ e))
ran_four Run s h e = refl

pub spent : (a : Account) (b : Book) → Tied a b → (k : ℕ) (d : Issue) → a.sent_as k ≡ Some d → Cost a k d
spent a b h k d sent =
    record {
      most = subst (λ x. x ≤ 4 * destination_count d) (sym steps) (sum_most member_limit f (names d.set) ranked);
      all = (
        λ e m to. agree_four (phase_of a b k m) (stage_of a k m) (h.agree k m) (sum_full member_limit f (names d.set) ranked (sym steps ∙ e) m (h.inside k m d sent to) to),
        λ ran. steps ∙ sum_all member_limit f (names d.set) ranked (λ q l to. ran_four (phase_of a b k q) (stage_of a k q) (h.agree k q) (ran q to)),
      );
    }
  where
    f : ℕ → ℕ
    f q = rank (phase_of a b k q)

    steps : a.steps_of k ≡ sum_below member_limit f
    steps = h.cost k

    ranked : Ranked f (names d.set)
    ranked =
        record {
          most = λ q. rank_most (phase_of a b k q);
          none = λ q e. ap (λ x. rank (phase_by x (b.table k) q)) sent ∙ ap (λ t. rank (cond t (phase_at (b.table k) q) Sent)) e;
        }
