-- The scan for the earliest ready command finds what the model's search by issue number finds.
use Rattle.std.proofs.lemmas.Option.{none-some, slice_get_within}
use Rattle.std.proofs.Common.{◌≡◌, ℕ, suc, ◌<◌, ◌≤◌, true, cond, length, Some, None, Option, sym, refl, ap, ◌∙◌, subst, arith}
use Rattle.std.specs.List.{slice_get}
use Rattle.line.specs.declared.parts.Tables.{Tables}
use Rattle.open_commands.specs.declared.parts.OpenCommand.{OpenCommand as Place}
use Rattle.open_commands.specs.declared.table.Candidate.{Candidate}
use Rattle.open_commands.specs.Lists.{lookup_by, mapped}
use Rattle.open_commands.specs.Views.{number_of, view_open}
use Rattle.line.specs.Tables.{view_tables, Good}
use Rattle.open_commands.specs.Places.{all_pass, ready_in, ready_place, BestTo}
use Rattle.open_commands.proofs.Keyed.{lookup_place, lookup_own}
use Rattle.open_commands.proofs.Lists.{all_of_lem, each_of}
use Rattle.line.proofs.SeatViews.{same_tests}
use Rattle.machine.specs.declared.command.Command.{Command}
use Rattle.machine.specs.Kinds.{Kind}
use Rattle.ordering.proofs.Bounded.{all_each, all_from}
use Rattle.ordering.proofs.Ready.{earliest_found, earliest_least, earliest_some}
use Rattle.ordering.specs.Searches.{Pair, earliest_below}
use Rattle.ordering.specs.Steps.{passes, unhindered, ready_at, ready_if, settled_as}

module _ (K : Kind) (b : Tables) (g : Good b) (m : ℕ) where
  found : (i : ℕ) (o : Place) → slice_get b.commands.0 i ≡ Some o → lookup_by number_of b.commands.0 o.number ≡ Some o
  found i o at = lookup_own number_of b.commands.0 i o g.fits.distinct at

  pub numbered : (i : ℕ) (o : Place) → slice_get b.commands.0 i ≡ Some o → o.number ≤ b.issued
  numbered i o at = (g.sound.numbered o.number (view_open o) (ap (mapped view_open) (found i o at))).1

  pass_view : (p : Pair) (c : Command) → unhindered K (view_tables b) m p c ≡ all_pass K m p c b.commands.0
  pass_view p c = same_tests _ _ there back
    where
      there : unhindered K (view_tables b) m p c ≡ true → all_pass K m p c b.commands.0 ≡ true
      there h =
          all_of_lem (λ o. passes K m p c o.number (Some (view_open o))) b.commands.0 (length b.commands.0) (omega arith) (λ i o l at. subst (λ x. passes K m p c o.number x ≡ true) (ap (mapped view_open) (found i o at)) (all_each (suc b.issued) (λ j. passes K m p c j ((view_tables b).table j)) h o.number (let w = numbered i o at in omega arith)))

      one : all_pass K m p c b.commands.0 ≡ true → (j : ℕ) (o : Option Place) → lookup_by number_of b.commands.0 j ≡ o → passes K m p c j (mapped view_open o) ≡ true
      one h j None e = refl
      one h j (Some o) e =
          let w = lookup_place number_of b.commands.0 j o e in
          subst (λ x. passes K m p c x (Some (view_open o)) ≡ true) w.2 (each_of (λ q. passes K m p c q.number (Some (view_open q))) b.commands.0 h w.0 o w.1)

      back : all_pass K m p c b.commands.0 ≡ true → unhindered K (view_tables b) m p c ≡ true
      back h =
          all_from (suc b.issued) (λ j. passes K m p c j ((view_tables b).table j)) (λ j l. one h j (lookup_by number_of b.commands.0 j) refl)

  ready_view : (o : Place) → ready_if K (view_tables b) m o.number (Some (view_open o)) (settled_as m (Some (view_open o))) ≡ ready_place K m b.commands.0 o
  ready_view o = go (settled_as m (Some (view_open o)))
    where
      go : (f : Option ℕ) → ready_if K (view_tables b) m o.number (Some (view_open o)) f ≡ ready_in K m b.commands.0 o f
      go None = refl
      go (Some f) = ap (λ t. cond t (Some f) None) (pass_view (f, o.number) o.command)

  ready_at_lem : (i : ℕ) (o : Place) → slice_get b.commands.0 i ≡ Some o → ready_at K (view_tables b) m o.number ≡ ready_place K m b.commands.0 o
  ready_at_lem i o at =
      ap (λ x. ready_if K (view_tables b) m o.number x (settled_as m x)) (ap (mapped view_open) (found i o at)) ∙ ready_view o

  -- Whatever is ready by its number is ready at a place.
  record Placed (k f : ℕ) : Type 0 where
    i : ℕ
    o : Place
    at : slice_get b.commands.0 i ≡ Some o
    number : o.number ≡ k
    ready : ready_place K m b.commands.0 o ≡ Some f

  placed : (k f : ℕ) → ready_at K (view_tables b) m k ≡ Some f → Placed k f
  placed k f h = go (lookup_by number_of b.commands.0 k) refl
    where
      go : (x : Option Place) → lookup_by number_of b.commands.0 k ≡ x → Placed k f
      go None e = absurd (none-some _ (sym (ap (λ y. ready_if K (view_tables b) m k (mapped view_open y) (settled_as m (mapped view_open y))) e) ∙ h))
      go (Some o) e =
          let w = lookup_place number_of b.commands.0 k o e in
          record {
            i = w.0;
            o = o;
            at = w.1;
            number = w.2;
            ready = sym (ready_at_lem w.0 o w.1) ∙ (ap (ready_at K (view_tables b) m) w.2 ∙ h);
          }

  used_length : (i : ℕ) (o : Place) → slice_get b.commands.0 i ≡ Some o → i < (length b.commands.0)
  used_length i o at = slice_get_within b.commands.0 i o at

  pub none_ready : BestTo K m b.commands.0 (length b.commands.0) None → earliest_below (suc b.issued) (ready_at K (view_tables b) m) ≡ None
  none_ready best = go (earliest_below (suc b.issued) (ready_at K (view_tables b) m)) refl
    where
      go : (e : Option Pair) → earliest_below (suc b.issued) (ready_at K (view_tables b) m) ≡ e → e ≡ None
      go None e = refl
      go (Some p) e =
          let w = earliest_found (suc b.issued) (ready_at K (view_tables b) m) p e in
          let q = placed p.1 p.0 w.1 in
          absurd (none-some _ (sym (best q.i q.o (used_length q.i q.o q.at) q.at) ∙ q.ready))

  pub one_ready : (c : Candidate) → BestTo K m b.commands.0 (length b.commands.0) (Some c) → earliest_below (suc b.issued) (ready_at K (view_tables b) m) ≡ Some c.pair
  one_ready c best =
      let o = best.0 in
      let k = o.number in
      let here : ready_at K (view_tables b) m o.number ≡ Some c.pair.0 = ready_at_lem c.place o best.1 ∙ best.3 in
      let l : o.number < suc b.issued = (let w = numbered c.place o best.1 in omega arith) in
      let e = earliest_some (suc b.issued) (ready_at K (view_tables b) m) o.number c.pair.0 l here in
      let least = earliest_least (suc b.issued) (ready_at K (view_tables b) m) e.0 o.number c.pair.0 e.1 l here in
      let f = earliest_found (suc b.issued) (ready_at K (view_tables b) m) e.0 e.1 in
      let q = placed e.0.1 e.0.0 f.1 in
      let most = best.4 q.i e.0.0 q.o (used_length q.i q.o q.at) q.at q.ready in
      e.1 ∙ ap Some (same e.0 c.pair o.number q.o.number best.2 q.number least most)
    where
      same : (p c : Pair) (k j : ℕ) → c.1 ≡ k → j ≡ p.1 → (p.0 ≤ c.0) × (p.0 ≡ c.0 → p.1 ≤ k) → (c.0 ≤ p.0) × (c.0 ≡ p.0 → c.1 ≤ j) → p ≡ c
      same p c k j u v x y = path p c (omega arith) (omega arith)
        where
          path : (p c : Pair) → p.0 ≡ c.0 → p.1 ≡ c.1 → p ≡ c
          path p c a b = λ i. (a i, b i)
