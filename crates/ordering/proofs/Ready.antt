-- The earliest pair below a bound is one that is there and none there is earlier; a command is ready exactly when it is settled here and unhindered.
use Rattle.std.proofs.lemmas.Option.{none-some, same_Some}
use Rattle.std.proofs.Common.{◌≡◌, ℕ, zero, suc, ◌<◌, ◌≤◌, Bool, true, false, cond, ◌&&◌, eqb, ltb, Some, None, Option, sym, refl, ap, ◌∙◌, subst, ⊎_elim, arith}
use Rattle.std.proofs.lemmas.Bool.{cond-true, cond_both, ltb-true, ltb-false, lt-ltb, eq-eqb, eqb-true, or_cases, or_parts, and_parts, and_from, both_ways}
use Rattle.machine.specs.Kinds.{Kind}
use Rattle.ordering.specs.declared.calls.Phase.{Phase}
use Rattle.ordering.specs.declared.calls.Phase.TheVariants.{Sent, Heard, Gathered, Settled, Run}
use Rattle.ordering.specs.Lines.{OpenCommand, Book}
use Rattle.ordering.specs.Searches.{Pair, names, earlier, earliest, stamped, earliest_below}
use Rattle.ordering.specs.Steps.{final_if, settled_as, unhindered, ready_if, ready_at, Ran}
use Rattle.ordering.proofs.Accepted.{RunOk}
use Rattle.ordering.proofs.Bounded.{below_more}

-- The pair is not later than that of k.
abbrev NotLater : (ℕ → Option ℕ) → Pair → ℕ → Type 0
NotLater f p k = (t : ℕ) → f k ≡ Some t → (p.0 ≤ t) × (p.0 ≡ t → p.1 ≤ k)

not_later : (f : ℕ → Option ℕ) (p : Pair) (k t : ℕ) → f k ≡ Some t → (p.0 ≤ t) × (p.0 ≡ t → p.1 ≤ k) → NotLater f p k
not_later f p k t e h s g = let same : t ≡ s = same_Some _ _ (sym e ∙ g) in (omega arith, λ q. omega arith)

not_there : (f : ℕ → Option ℕ) (p : Pair) (k : ℕ) → f k ≡ None → NotLater f p k
not_there f p k e t g = absurd (none-some _ (sym e ∙ g))

-- What the earliest pair is.
abbrev Means : ℕ → (ℕ → Option ℕ) → Option Pair → Type 0
Means n f None = (k : ℕ) → k < n → f k ≡ None
Means n f (Some p) = (p.1 < n) × (f p.1 ≡ Some p.0) × ((k : ℕ) → k < n → NotLater f p k)

-- One number more.
means_more : (n : ℕ) (f : ℕ → Option ℕ) (e : Option Pair) → Means n f e → (x : Option ℕ) → f n ≡ x → Means (suc n) f (earliest e (stamped x n))
means_more n f None h None e = below_more n (λ k. f k ≡ None) e h
means_more n f None h (Some t) e =
    (omega arith, e, below_more n (NotLater f (t, n)) (not_later f (t, n) n t e (omega arith)) (λ k i. not_there f (t, n) k (h k i)))
means_more n f (Some p) h None e =
    let i : p.1 < n = h.0 in
    (omega arith, h.1, below_more n (NotLater f p) (not_there f p n e) h.2)
means_more n f (Some p) h (Some t) e = cond_both (earlier p (t, n)) p (t, n) Fit old new
  where
    Fit : Pair → Type 0
    Fit q = Means (suc n) f (Some q)

    sooner : earlier p (t, n) ≡ true → p.0 ≤ t
    sooner y =
        ⊎_elim (λ u. let v : p.0 < t = ltb-true p.0 t u in omega arith)
        (λ u. let v : p.0 ≡ t = eqb-true p.0 t (and_parts (eqb p.0 t) (ltb p.1 n) u).0 in omega arith)
        (or_cases (ltb p.0 t) (eqb p.0 t && ltb p.1 n) y)

    old : earlier p (t, n) ≡ true → Fit p
    old y =
        let i : p.1 < n = h.0 in
        let l : p.0 ≤ t = sooner y in
        (omega arith, h.1, below_more n (NotLater f p) (not_later f p n t e (omega arith)) h.2)

    later : earlier p (t, n) ≡ false → t < p.0
    later y =
        let parts = or_parts (ltb p.0 t) (eqb p.0 t && ltb p.1 n) y in
        let a : t ≤ p.0 = ltb-false p.0 t parts.0 in
        let ne : (p.0 ≡ t) → ⊥ = λ same. both_ways (eqb p.0 t && ltb p.1 n) parts.1 (and_from (eqb p.0 t) (ltb p.1 n) (eq-eqb p.0 t same) (lt-ltb p.1 n h.0)) in
        omega arith

    new : earlier p (t, n) ≡ false → Fit (t, n)
    new y =
        let l : t < p.0 = later y in
        (omega arith, e, below_more n (NotLater f (t, n)) (not_later f (t, n) n t e (omega arith)) (λ k j s g. let m : p.0 ≤ s = (h.2 k j s g).0 in (omega arith, λ q. absurd (omega arith))))

earliest_means : (n : ℕ) (f : ℕ → Option ℕ) → Means n f (earliest_below n f)
earliest_means zero f = λ k i. absurd (omega arith)
earliest_means (suc n) f = means_more n f (earliest_below n f) (earliest_means n f) (f n) refl

-- What the search says of the pair that it finds.
earliest_facts : (n : ℕ) (f : ℕ → Option ℕ) (p : Pair) → earliest_below n f ≡ Some p → Means n f (Some p)
earliest_facts n f p h = subst (Means n f) h (earliest_means n f)

pub earliest_found : (n : ℕ) (f : ℕ → Option ℕ) (p : Pair) → earliest_below n f ≡ Some p → (p.1 < n) × (f p.1 ≡ Some p.0)
earliest_found n f p h = let r = earliest_facts n f p h in (r.0, r.1)

pub earliest_least : (n : ℕ) (f : ℕ → Option ℕ) (p : Pair) (k t : ℕ) → earliest_below n f ≡ Some p → k < n → f k ≡ Some t → (p.0 ≤ t) × (p.0 ≡ t → p.1 ≤ k)
earliest_least n f p k t h i g = (earliest_facts n f p h).2 k i t g

pub earliest_some : (n : ℕ) (f : ℕ → Option ℕ) (k t : ℕ) → k < n → f k ≡ Some t → (p : Pair) × (earliest_below n f ≡ Some p)
earliest_some n f k t i g = go (earliest_below n f) (earliest_means n f)
  where
    go : (e : Option Pair) → Means n f e → (p : Pair) × (e ≡ Some p)
    go None h = absurd (none-some _ (sym (h k i) ∙ g))
    go (Some p) h = (p, refl)

-- The command with number k is settled at m with final timestamp f, and nothing hinders it.
pub record Ready (K : Kind) (b : Book) (m k f : ℕ) (o : OpenCommand) : Type 0 where
  pub to : names o.set m ≡ true
  pub was : o.phase m ≡ Settled
  pub final : o.fixed ≡ Some f
  pub clear : unhindered K b m (f, k) o.command ≡ true

pub ready_facts : (K : Kind) (b : Book) (m k f : ℕ) (o : OpenCommand) → b.table k ≡ Some o → ready_at K b m k ≡ Some f → Ready K b m k f o
ready_facts K b m k f o there h =
    named (names o.set m) refl (subst (λ e. ready_if K b m k e (settled_as m e) ≡ Some f) there h)
  where
    clear_of : (g : ℕ) (t : Bool) → unhindered K b m (g, k) o.command ≡ t → ◌≡◌ {A = Option ℕ} (cond t (Some g) None) (Some f) → (g ≡ f) × (unhindered K b m (f, k) o.command ≡ true)
    clear_of g false e h = absurd (none-some _ h)
    clear_of g true e h = let same : g ≡ f = same_Some _ _ h in (same, subst (λ x. unhindered K b m (x, k) o.command ≡ true) same e)

    final_of_lem : (x : Option ℕ) → o.fixed ≡ x → names o.set m ≡ true → o.phase m ≡ Settled → ready_if K b m k (Some o) x ≡ Some f → Ready K b m k f o
    final_of_lem None e n w h = absurd (none-some _ h)
    final_of_lem (Some g) e n w h =
        let r = clear_of g (unhindered K b m (g, k) o.command) refl h in
        record { to = n; was = w; final = e ∙ ap Some r.0; clear = r.1 }

    phase_of_lem : (p : Phase) → o.phase m ≡ p → names o.set m ≡ true → ready_if K b m k (Some o) (final_if o.fixed p) ≡ Some f → Ready K b m k f o
    phase_of_lem Sent w n h = absurd (none-some _ h)
    phase_of_lem (Heard t) w n h = absurd (none-some _ h)
    phase_of_lem (Gathered t) w n h = absurd (none-some _ h)
    phase_of_lem Settled w n h = final_of_lem o.fixed refl n w h
    phase_of_lem Run w n h = absurd (none-some _ h)

    named : (t : Bool) → names o.set m ≡ t → ready_if K b m k (Some o) (cond t (final_if o.fixed (o.phase m)) None) ≡ Some f → Ready K b m k f o
    named false e h = absurd (none-some _ h)
    named true e h = phase_of_lem (o.phase m) refl e h

pub facts_ready : (K : Kind) (b : Book) (m k f : ℕ) (o : OpenCommand) → Ready K b m k f o → b.table k ≡ Some o → ready_at K b m k ≡ Some f
facts_ready K b m k f o r there =
    let settled : settled_as m (Some o) ≡ Some f = cond-true (names o.set m) (final_if o.fixed (o.phase m)) None r.to ∙ ap (final_if o.fixed) r.was ∙ r.final in
    ap (λ e. ready_if K b m k e (settled_as m e)) there ∙ ap (ready_if K b m k (Some o)) settled ∙ cond-true (unhindered K b m (f, k) o.command) (Some f) None r.clear

-- The command that a run takes is settled there.
pub run_ready : (K : Kind) (b : Book) (m : ℕ) (r : Ran) (ok : RunOk K b m r) → Ready K b m ok.pair.1 ok.pair.0 ok.o
run_ready K b m r ok =
    ready_facts K b m ok.pair.1 ok.pair.0 ok.o ok.there (earliest_found (suc b.issued) (ready_at K b m) ok.pair ok.first).1
