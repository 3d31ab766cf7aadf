-- The scan for the earliest ready command, one place at a time.
use Rattle.std.proofs.lemmas.Option.{none-some, same_Some}
use Rattle.std.proofs.Common.{◌≡◌, ℕ, ◌+◌, ◌<◌, ◌≤◌, Bool, true, false, cond, ◌&&◌, eqb, ltb, List, Some, None, Option, sym, refl, ap, ◌∙◌, subst, ⊎_elim, arith}
use Rattle.std.proofs.lemmas.Bool.{cases_eq, or_parts, and_cases, ltb-false, eqb-false, false≢true}
use Rattle.std.specs.List.{slice_get}
use Rattle.open_commands.specs.declared.parts.OpenCommand.{OpenCommand as Place}
use Rattle.open_commands.specs.declared.table.Candidate.{Candidate}
use Rattle.open_commands.specs.Places.{all_pass, ready_in, ready_place, improves_on, BestTo}
use Rattle.open_commands.specs.Views.{view_open}
use Rattle.machine.specs.Kinds.{Kind}
use Rattle.ordering.proofs.Pairs.{earlier_true, earlier_prior}
use Rattle.ordering.specs.Searches.{Pair, earlier}
use Rattle.ordering.specs.Steps.{settled_as}

-- A fact of each place below n + 1: below n, or at n.
places_more : (ps : List Place) (n : ℕ) (x : Place) (P : Place → Type 0) → slice_get ps n ≡ Some x → P x → ((j : ℕ) (q : Place) → j < n → slice_get ps j ≡ Some q → P q) → (j : ℕ) (q : Place) → j < n + 1 → slice_get ps j ≡ Some q → P q
places_more ps n x P at here below j q l e = ⊎_elim same (λ ne. below j q (less ne) e) (cases_eq j n)
  where
    less : (j ≡ n → ⊥) → j < n
    less ne = omega (arith, ne, l)

    same : j ≡ n → P q
    same w = subst P (same_Some _ _ (sym at ∙ (ap (slice_get ps) (sym w) ∙ e))) here

-- No later than.
abbrev NoLater : Pair → ℕ → ℕ → Type 0
NoLater p g k = (p.0 ≤ g) × (p.0 ≡ g → p.1 ≤ k)

not_earlier : (p c : Pair) → earlier p c ≡ false → NoLater c p.0 p.1
not_earlier p c h =
    let w = or_parts (ltb p.0 c.0) (eqb p.0 c.0 && ltb p.1 c.1) h in
    (ltb-false _ _ w.0, λ e. ⊎_elim (λ n. absurd (eqb-false _ _ n (sym e))) (λ n. ltb-false _ _ n) (and_cases (eqb p.0 c.0) (ltb p.1 c.1) w.1))

module _ (K : Kind) (m : ℕ) (ps : List Place) (n : ℕ) (x : Place) (at : slice_get ps n ≡ Some x) where
  pub best_skip : (best : Option Candidate) → ready_place K m ps x ≡ None → BestTo K m ps n best → BestTo K m ps (n + 1) best
  best_skip None h b = places_more ps n x (λ q. ready_place K m ps q ≡ None) at h b
  best_skip (Some c) h b =
      (b.0, b.1, b.2, b.3, λ j g q l e r. places_more ps n x (λ y. ready_place K m ps y ≡ Some g → NoLater c.pair g y.number) at (λ w. absurd (none-some _ (sym h ∙ w))) (λ i y k u. b.4 i g y k u) j q l e r)

  module _ (f : ℕ) (settled : settled_as m (Some (view_open x)) ≡ Some f) where
    ready_value : (t : Bool) → all_pass K m (f, x.number) x.command ps ≡ t → ready_place K m ps x ≡ cond t (Some f) None
    ready_value t e = ap (ready_in K m ps x) settled ∙ ap (λ y. cond y (Some f) None) e

    ready_only : (g : ℕ) → ready_place K m ps x ≡ Some g → f ≡ g
    ready_only g h = go (all_pass K m (f, x.number) x.command ps) refl
      where
        go : (t : Bool) → all_pass K m (f, x.number) x.command ps ≡ t → f ≡ g
        go true e = same_Some _ _ (sym (ready_value true e) ∙ h)
        go false e = absurd (none-some _ (sym (ready_value false e) ∙ h))

    pub best_keep : (best : Option Candidate) → improves_on best (f, x.number) ≡ false → BestTo K m ps n best → BestTo K m ps (n + 1) best
    best_keep None h b = absurd (false≢true (sym h))
    best_keep (Some c) h b =
        (b.0, b.1, b.2, b.3, λ j g q l e r. places_more ps n x (λ y. ready_place K m ps y ≡ Some g → NoLater c.pair g y.number) at (λ w. subst (λ y. NoLater c.pair y x.number) (ready_only g w) (not_earlier (f, x.number) c.pair h)) (λ i y k u. b.4 i g y k u) j q l e r)

    pub best_blocked : (best : Option Candidate) → all_pass K m (f, x.number) x.command ps ≡ false → BestTo K m ps n best → BestTo K m ps (n + 1) best
    best_blocked best h b = best_skip best (ready_value false h) b

    pub best_take : (best : Option Candidate) → improves_on best (f, x.number) ≡ true → all_pass K m (f, x.number) x.command ps ≡ true → BestTo K m ps n best → BestTo K m ps (n + 1) (Some (record { place = n; pair = (f, x.number) }))
    best_take best h pass b =
        (x, at, refl, ready_value true pass, λ j g q l e r. places_more ps n x (λ y. ready_place K m ps y ≡ Some g → NoLater (f, x.number) g y.number) at (λ w. own g (ready_only g w)) (λ i y k u w. old best h b g i y k u w) j q l e r)
      where
        own : (g : ℕ) → f ≡ g → NoLater (f, x.number) g x.number
        own g e = omega arith

        chain : (p : Pair) (g k : ℕ) → (f ≤ p.0) × (f ≡ p.0 → x.number < p.1) → NoLater p g k → NoLater (f, x.number) g k
        chain p g k u w = omega arith

        old : (best : Option Candidate) → improves_on best (f, x.number) ≡ true → BestTo K m ps n best → (g i : ℕ) (y : Place) → i < n → slice_get ps i ≡ Some y → ready_place K m ps y ≡ Some g → NoLater (f, x.number) g y.number
        old None h b g i y k u w = absurd (none-some _ (sym (b i y k u) ∙ w))
        old (Some c) h b g i y k u w =
            chain c.pair g y.number (earlier_prior (f, x.number) c.pair (earlier_true (f, x.number) c.pair h)) (b.4 i g y k u w)
