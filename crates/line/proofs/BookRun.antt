-- A run on the tables does what the model does: the command is marked as run, and leaves once it has run everywhere.
use Rattle.std.proofs.lemmas.Option.{slice_get_within}
use Rattle.std.proofs.Common.{◌≡◌, ℕ, zero, suc, ◌-◌, ◌<◌, ◌≤◌, Bool, true, false, cond, List, [], ◌∷◌, length, take, set, Some, None, Ok, Err, Option, Result, sym, refl, ap, ◌∙◌, subst, ⊎_elim, arith, length-set, length-take}
use Rattle.std.proofs.lemmas.Bool.{lt-ltb}
use Rattle.std.proofs.lemmas.List.{take_all}
use Rattle.std.specs.Option.{ok_or}
use Rattle.std.specs.List.{slice_get}
use Rattle.line.specs.declared.parts.Tables.{Tables}
use Rattle.open_commands.specs.declared.parts.OpenCommand.{OpenCommand as Place}
use Rattle.open_commands.specs.declared.table.Candidate.{Candidate}
use Rattle.open_commands.specs.Lists.{lookup_by, mapped, apart}
use Rattle.open_commands.specs.Views.{number_of, view_open, with_phase_in}
use Rattle.line.specs.Tables.{view_table, view_tables, with_place, removed_at, Fits, Good}
use Rattle.line.specs.Calls.{Releases, released_by}
use Rattle.open_commands.specs.Places.{BestTo, EarliestAt}
use Rattle.line.proofs.Done.{RunDone}
use Rattle.machine.specs.declared.command.Command.{Command}
use Rattle.open_commands.proofs.Keyed.{lookup_own, lookup_removed, apart_removed, slice_get-take}
use Rattle.line.proofs.Running.{none_ready, one_ready}
use Rattle.line.proofs.TableViews.{book_path, view_phase, view_place, fits_place, slice_get-set, slice_get-set_same, mapped-put}
use Rattle.machine.specs.Kinds.{Kind}
use Rattle.ordering.proofs.Accepted.{run_ok}
use Rattle.ordering.proofs.SoundSteps.{sound_run}
use Rattle.ordering.specs.declared.calls.Phase.TheVariants.{Run}
use Rattle.ordering.specs.declared.calls.Refusal.{Refusal}
use Rattle.ordering.specs.declared.calls.Refusal.TheVariants.{NoMember, NothingReady}
use Rattle.ordering.specs.Lines.{everywhere, is_run}
use Rattle.ordering.specs.Searches.{put, earliest_below}
use Rattle.ordering.specs.Steps.{demand, Ran, run, run_earliest, run_taken, ready_at, left, with_command, with_phase}

slice_get_there : {X : Type 0} (xs : List X) (i : ℕ) → i < length xs → (x : X) × (slice_get xs i ≡ Some x)
slice_get_there [] i l = absurd (omega arith)
slice_get_there (y ∷ ys) zero l = (y, refl)
slice_get_there (y ∷ ys) (suc i) l = slice_get_there ys i (omega arith)

-- The command at place i leaves.
module _ (b : Tables) (f : Fits b) (i : ℕ) (p l : Place) (used : i < (length b.commands.0)) (at : slice_get b.commands.0 i ≡ Some p) (last : slice_get b.commands.0 ((length b.commands.0) - 1) ≡ Some l) where
  live_suc : b.commands.0 ≡ take (suc (length b.commands.0 - 1)) b.commands.0
  live_suc = sym (take_all (suc (length b.commands.0 - 1)) b.commands.0 (omega arith))

  view_removed : (k : ℕ) → view_table ((removed_at b i l).commands.0) k ≡ put p.number None (view_table b.commands.0) k
  view_removed k =
      ap (mapped view_open) (lookup_removed number_of b.commands.0 ((length b.commands.0) - 1) i p l (subst (λ ps. apart number_of ps ≡ true) live_suc f.distinct) (subst (λ ps. slice_get ps i ≡ Some p) live_suc at) last (omega arith) k ∙ ap (λ ps. put p.number None (lookup_by number_of ps) k) (sym live_suc)) ∙ mapped-put view_open p.number k None (lookup_by number_of b.commands.0)

  fits_removed : Fits (removed_at b i l)
  fits_removed =
      record {
        few = let w : length b.commands.0 ≤ 32 = f.few in omega (arith, length-take (length b.commands.0 - 1) (set b.commands.0 i l), length-set b.commands.0 i l);
        seats = f.seats;
        numbers = f.numbers;
        lasts = f.lasts;
        distinct = apart_removed number_of b.commands.0 ((length b.commands.0) - 1) i p l (subst (λ ps. apart number_of ps ≡ true) live_suc f.distinct) (subst (λ ps. slice_get ps i ≡ Some p) live_suc at) last (omega arith);
        wide = λ j q e. ⊎_elim (λ w. subst (λ x. length x.destinations ≡ 16) w (f.wide ((length b.commands.0) - 1) l last)) (λ w. f.wide j q w) (slice_get-set b.commands.0 i j l q (slice_get-take (set b.commands.0 i l) (length b.commands.0 - 1) j q e));
        seated = f.seated;
      }

-- What the search answered, where it answered nothing and where it found one.
pub none_found : (r : Option Candidate) (e : Refusal) → ◌≡◌ {A = Result Candidate Refusal} (Err e) (ok_or r NothingReady) → (r ≡ None) × (e ≡ NothingReady)
none_found None e h = (refl, cc)
none_found (Some c) e h = absurd (cc)

module _ (K : Kind) (b : Tables) (g : Good b) (m : ℕ) (member : m < b.members) where
  -- The best candidate of the slice that was searched.
  pub best_of : (ps : List Place) (r s : Option Candidate) → ps ≡ b.commands.0 → r ≡ s → EarliestAt K m ps r → BestTo K m b.commands.0 (length b.commands.0) s
  best_of ps r s same is e =
      subst (BestTo K m b.commands.0 (length b.commands.0)) is (subst (λ x. BestTo K m x (length x) r) same (e.0 (let w : b.members ≤ 16 = g.sound.few in omega arith)))

  pub run_none : BestTo K m b.commands.0 (length b.commands.0) None → run K (view_tables b) m ≡ Err NothingReady
  run_none best =
      ap (λ t. demand t NoMember (run_earliest (view_tables b) m (earliest_below (suc b.issued) (ready_at K (view_tables b) m)))) (lt-ltb m b.members member) ∙ ap (run_earliest (view_tables b) m) (none_ready K b g m best)

  inside : m < 16
  inside = let w : b.members ≤ 16 = g.sound.few in omega arith

  module _ (c : Candidate) (best : BestTo K m b.commands.0 (length b.commands.0) (Some c)) where
    o : Place
    o = best.0

    pub place_used : c.place < (length b.commands.0)
    place_used = let w = slice_get_within b.commands.0 c.place best.0 best.1 in omega arith

    wide : length best.0.destinations ≡ 16
    wide = g.fits.wide c.place best.0 best.1

    -- the tables with the command marked as run
    abbrev marked : Place
    marked = with_phase_in best.0 m Run

    abbrev pub first : Tables
    first = with_place b c.place (with_phase_in best.0 m Run)

    pub first_fits : Fits first
    first_fits = fits_place b g.fits c.place best.0 marked place_used best.1 refl (length-set best.0.destinations m (record { phase = Run }) ∙ wide)

    pub first_used : c.place < length first.commands.0
    first_used = let w = length-set b.commands.0 c.place marked in let v = place_used in omega arith

    first_at : slice_get first.commands.0 c.place ≡ Some marked
    first_at =
        slice_get-set_same b.commands.0 c.place best.0 marked best.1

    seen : view_open marked ≡ with_phase (view_open best.0) m Run
    seen = view_phase best.0 m Run (let w = wide in let v = inside in omega arith)

    first_view : (k : ℕ) → view_table first.commands.0 k ≡ put c.pair.1 (Some (view_open marked)) (view_table b.commands.0) k
    first_view k =
        subst (λ n. view_table first.commands.0 k ≡ put n (Some (view_open marked)) (view_table b.commands.0) k) (sym best.2) (view_place b g.fits c.place best.0 marked place_used best.1 refl k)

    -- what is there afterwards, by whether the command leaves
    after_view : (t : Bool) → everywhere is_run (view_open marked) ≡ t → (b2 : Tables) → released_by t first c.place b2 → (view_tables b2 ≡ with_command (view_tables b) c.pair.1 (cond t None (Some (view_open marked)))) × Fits b2
    after_view true e b2 h =
        let last = slice_get_there first.commands.0 (length first.commands.0 - 1) (let u = first_used in omega arith) in
        let is : b2 ≡ removed_at first c.place last.0 = h last.0 last.1 in (
          ap view_tables is ∙ book_path (view_tables (removed_at first c.place last.0)) (with_command (view_tables b) c.pair.1 None) refl refl refl (λ k. gone last.0 last.1 k) (λ q. refl),
          subst Fits (sym is) (fits_removed first first_fits c.place marked last.0 first_used first_at last.1),
        )
      where
        gone : (l : Place) → slice_get first.commands.0 ((length first.commands.0) - 1) ≡ Some l → (k : ℕ) → view_table ((removed_at first c.place l).commands.0) k ≡ put c.pair.1 None (view_table b.commands.0) k
        gone l at k =
            view_removed first first_fits c.place marked l first_used first_at at k ∙ (ap (λ n. put n None (view_table first.commands.0) k) (sym best.2) ∙ twice)
          where
            open_both : (t : Bool) → cond t None (cond t (Some (view_open marked)) (view_table b.commands.0 k)) ≡ cond t None (view_table b.commands.0 k)
            open_both true = refl
            open_both false = refl

            twice : put c.pair.1 None (view_table first.commands.0) k ≡ put c.pair.1 None (view_table b.commands.0) k
            twice = ap (λ z. cond (lib.Dec.eqb c.pair.1 k) None z) (first_view k) ∙ open_both (lib.Dec.eqb c.pair.1 k)
    after_view false e b2 h = (
      ap view_tables h ∙ book_path (view_tables first) (with_command (view_tables b) c.pair.1 (Some (view_open marked))) refl refl refl first_view (λ q. refl),
      subst Fits (sym h) first_fits,
    )

    pub run_done : (b2 : Tables) → Releases first c.place b2 → RunDone (run K (view_tables b) m) c.pair best.0.command b2
    run_done b2 released =
        (same, record { fits = w.1; sound = sound_run K (view_tables b) m answer (run_ok K (view_tables b) m answer same) g.sound })
      where
        there : slice_get first.commands.0 c.place ≡ Some marked
        there = slice_get-set_same b.commands.0 c.place best.0 marked best.1

        w : (view_tables b2 ≡ with_command (view_tables b) c.pair.1 (cond (everywhere is_run (view_open marked)) None (Some (view_open marked)))) × Fits b2
        w = after_view (everywhere is_run (view_open marked)) refl b2 (released marked there)

        answer : Ran
        answer = record { pair = c.pair; command = best.0.command; book = view_tables b2 }

        table : (view_tables b).table c.pair.1 ≡ Some (view_open best.0)
        table = ap (λ n. view_table b.commands.0 n) best.2 ∙ ap (mapped view_open) (lookup_own number_of b.commands.0 c.place best.0 g.fits.distinct best.1)

        book : with_command (view_tables b) c.pair.1 (left (with_phase (view_open best.0) m Run)) ≡ view_tables b2
        book = ap (λ x. with_command (view_tables b) c.pair.1 (left x)) (sym seen) ∙ sym w.0

        same : run K (view_tables b) m ≡ Ok answer
        same =
            ap (λ t. demand t NoMember (run_earliest (view_tables b) m (earliest_below (suc b.issued) (ready_at K (view_tables b) m)))) (lt-ltb m b.members member)
            ∙ (ap (run_earliest (view_tables b) m) (one_ready K b g m c best)
            ∙ (ap (run_taken (view_tables b) m c.pair) table
            ∙ ap (λ y. Ok (record { pair = c.pair; command = best.0.command; book = y })) book))

    -- as the code has it: the tables as they were written, and the command as it was read
    pub run_fits : (b1 : Tables) → b1 ≡ first → c.place < length b1.commands.0
    run_fits b1 e = subst (λ x. c.place < length x.commands.0) (sym e) first_used

    pub run_answer_lem : (b1 b2 : Tables) (x : Command) (n : ℕ) → b1 ≡ first → Releases b1 c.place b2 → x ≡ best.0.command → m ≡ n → RunDone (run K (view_tables b) n) c.pair x b2
    run_answer_lem b1 b2 x n e released is same =
        subst (λ z. RunDone (run K (view_tables b) z) c.pair x b2) same (subst (λ z. RunDone (run K (view_tables b) m) c.pair z b2) (sym is) (run_done b2 (subst (λ z. Releases z c.place b2) e released)))
