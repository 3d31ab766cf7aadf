-- A hear, a gather and a settle on the tables do what the model does.
use Rattle.std.proofs.lemmas.Option.{same_Some}
use Rattle.std.proofs.Common.{◌≡◌, ℕ, ◌<◌, ◌≤◌, length, get_or, Some, None, Ok, Option, sym, refl, ap, ◌∙◌, subst, arith, length-set}
use Rattle.std.specs.List.{slice_get}
use Rattle.line.specs.declared.parts.Tables.{Tables}
use Rattle.line.specs.declared.parts.Member.{Member as Seat}
use Rattle.open_commands.specs.declared.parts.OpenCommand.{OpenCommand as Place}
use Rattle.open_commands.specs.declared.phases.Step.TheVariants.{Hear, Gather, Settle}
use Rattle.line.specs.Tables.{view_table, view_member, view_tables, with_place, with_seat, Fits, SeatFits, Good}
use Rattle.line.proofs.Done.{Done}
use Rattle.open_commands.specs.Phases.{next_phase}
use Rattle.line.specs.Places.{Reaches}
use Rattle.open_commands.specs.Views.{phase_in, view_open, with_phase_in, with_fixed_in}
use Rattle.line.specs.Views.{new_seat, proposal_in, lift_in, hear_in, settle_in}
use Rattle.line.proofs.SeatSteps.{Shows, Hears, hear_seat, hear_clock, settle_seat}
use Rattle.line.proofs.SeatViews.{Known}
use Rattle.line.proofs.TableViews.{book_path, view_phase, view_place, fits_place, view_seat, fits_seat}
use Rattle.machine.specs.Kinds.{Kind}
use Rattle.ordering.proofs.Accepted.{reach_ok, hear_ok, gather_ok, settle_ok}
use Rattle.ordering.proofs.Basics.{ok_inj, err_ok, absent_none}
use Rattle.ordering.proofs.SoundSteps.{sound_hear, sound_gather, sound_settle}
use Rattle.ordering.specs.declared.calls.Phase.{Phase}
use Rattle.ordering.specs.declared.calls.Phase.TheVariants.{Sent, Heard, Gathered, Settled, Run}
use Rattle.ordering.specs.Lines.{OpenCommand, Member, Book}
use Rattle.ordering.specs.Searches.{put}
use Rattle.ordering.specs.Steps.{Outcome, reach, hear, hear_at, hear_in as hear_by_phase, hearer, gather, gather_at, gather_in, gathered_now, final_of, settle, settle_at, settle_in as settle_by_phase, settler, settled_now, with_command, with_member, with_phase, with_fixed}

-- A call for a member and a number that has reached its place.
pub record At (b : Tables) (m k i : ℕ) : Type 0 where
  pub p : Place
  pub at : slice_get b.commands.0 i ≡ Some p
  pub number : p.number ≡ k
  pub reached : reach (view_tables b) m k ≡ Ok (view_open p)
  pub below : i < length b.commands.0
  pub member : m < b.members

pub at_of : (b : Tables) (m k i : ℕ) → Reaches b m k (Ok i) → At b m k i
at_of b m k i r =
    record { p = r.0; at = r.1; number = r.2; reached = r.3; below = r.4; member = r.5 }

module _ (b : Tables) (g : Good b) (m k i : ℕ) (r : At b m k i) where
  -- What was read at the place.
  pub read : (x : Place) → slice_get b.commands.0 i ≡ Some x → x ≡ r.p
  read x e = same_Some _ _ (sym e ∙ r.at)

  pub inside : m < 16
  inside = let w : b.members ≤ 16 = g.sound.few in let v : m < b.members = r.member in omega arith

  wide : length r.p.destinations ≡ 16
  wide = g.fits.wide i r.p r.at

  pub seat_fits : SeatFits (get_or b.roll m new_seat)
  seat_fits = g.fits.seated m inside

  pub seat_known : Known b.issued (get_or b.roll m new_seat)
  seat_known = g.sound.known m

  -- One phase moved on at the place: what the model sees of the table, and that the tables fit.
  moved_view : (x : Phase) (q : Place) → q.number ≡ r.p.number → (j : ℕ) → view_table ((with_place b i q).commands.0) j ≡ put k (Some (view_open q)) (view_table b.commands.0) j
  moved_view x q same j =
      subst (λ n. view_table ((with_place b i q).commands.0) j ≡ put n (Some (view_open q)) (view_table b.commands.0) j) r.number (view_place b g.fits i r.p q r.below r.at same j)

  pub phase_view : (x : Phase) → view_open (with_phase_in r.p m x) ≡ with_phase (view_open r.p) m x
  phase_view x = view_phase r.p m x (let w : length r.p.destinations ≡ 16 = wide in let v = inside in omega arith)

  pub phase_fits : (x : Phase) → Fits (with_place b i (with_phase_in r.p m x))
  phase_fits x =
      fits_place b g.fits i r.p (with_phase_in r.p m x) r.below r.at refl (length-set r.p.destinations m (record { phase = x }) ∙ wide)

  -- The tables with a phase moved on and a seat changed.
  pub after_seat : (x : Phase) (s : Seat) (t : Member) → view_member s ≡ t → view_tables (with_seat (with_place b i (with_phase_in r.p m x)) m s) ≡ with_member (with_command (view_tables b) k (Some (with_phase (view_open r.p) m x))) m t
  after_seat x s t e =
      book_path (view_tables (with_seat (with_place b i (with_phase_in r.p m x)) m s)) (with_member (with_command (view_tables b) k (Some (with_phase (view_open r.p) m x))) m t) refl refl refl
      (λ j. moved_view x (with_phase_in r.p m x) refl j ∙ ap (λ o. put k (Some o) (view_table b.commands.0) j) (phase_view x))
      (λ q. view_seat (with_place b i (with_phase_in r.p m x)) (phase_fits x) m s inside q ∙ ap (λ y. put m y (λ j. view_member (get_or b.roll j new_seat)) q) e)

  pub fits_both : (x : Phase) (s : Seat) → SeatFits s → Fits (with_seat (with_place b i (with_phase_in r.p m x)) m s)
  fits_both x s ok = fits_seat (with_place b i (with_phase_in r.p m x)) (phase_fits x) m s inside ok

  -- Hear

  hear_by : (K : Kind) (p : Phase) → phase_in r.p.destinations m ≡ p → hear K (view_tables b) m k ≡ hear_by_phase K (view_tables b) m k (view_open r.p) p
  hear_by K p was = ap (hear_at K (view_tables b) m k) r.reached ∙ ap (hear_by_phase K (view_tables b) m k (view_open r.p)) was

  hear_sent : (t : ℕ) (x : Phase) → next_phase (phase_in r.p.destinations m) (Hear t) ≡ Ok x → (phase_in r.p.destinations m ≡ Sent) × (Heard t ≡ x)
  hear_sent t x h = go (phase_in r.p.destinations m) refl h
    where
      go : (p : Phase) → phase_in r.p.destinations m ≡ p → next_phase p (Hear t) ≡ Ok x → (phase_in r.p.destinations m ≡ Sent) × (Heard t ≡ x)
      go Sent w h = (w, ok_inj h)
      go (Heard u) w h = absurd (err_ok h)
      go (Gathered u) w h = absurd (err_ok h)
      go Settled w h = absurd (err_ok h)
      go Run w h = absurd (err_ok h)

  -- the command is new to the member's memory while it is still to be heard
  new_there : (x : Phase) (t : ℕ) → next_phase (phase_in r.p.destinations m) (Hear t) ≡ Ok x → (view_member (get_or b.roll m new_seat)).remembers k ≡ None
  new_there x t h =
      let w = reach_ok (view_tables b) m k (view_open r.p) r.reached in
      absent_none ((view_member (get_or b.roll m new_seat)).remembers k) (g.sound.unheard m k (view_open r.p) w.there w.to (hear_sent t x h).0)

  hears : (K : Kind) (x : Phase) (t : ℕ) → next_phase (phase_in r.p.destinations m) (Hear t) ≡ Ok x → t ≡ proposal_in K (get_or b.roll m new_seat) r.p.command → Hears b.issued (get_or b.roll m new_seat) seat_fits seat_known K k r.p.command t
  hears K x t h is = hear_seat b.issued (get_or b.roll m new_seat) seat_fits seat_known K k r.p.command t is (new_there x t h)

  pub hear_room : (K : Kind) (x : Phase) (t : ℕ) → next_phase (phase_in r.p.destinations m) (Hear t) ≡ Ok x → t ≡ proposal_in K (get_or b.roll m new_seat) r.p.command → length (lift_in (get_or b.roll m new_seat) t).remembered.0 < 16
  hear_room K x t h is = (hears K x t h is).room

  pub hear_done : (K : Kind) (x : Phase) (t : ℕ) → next_phase (phase_in r.p.destinations m) (Hear t) ≡ Ok x → t ≡ proposal_in K (get_or b.roll m new_seat) r.p.command → Done (hear K (view_tables b) m k) t (with_seat (with_place b i (with_phase_in r.p m x)) m (hear_in (get_or b.roll m new_seat) k r.p.command t))
  hear_done K x t h is =
      (same, record { fits = fits_both x s w.shows.fits; sound = sound_hear K (view_tables b) m k (t, view_tables after) (hear_ok K (view_tables b) m k (t, view_tables after) same) g.sound })
    where
      s : Seat
      s = hear_in (get_or b.roll m new_seat) k r.p.command t

      after : Tables
      after = with_seat (with_place b i (with_phase_in r.p m x)) m s

      w : Hears b.issued (get_or b.roll m new_seat) seat_fits seat_known K k r.p.command t
      w = hears K x t h is

      q : Member
      q = hearer K b.issued k r.p.command (view_member (get_or b.roll m new_seat))

      clock : q.clock ≡ t
      clock = sym (ap (λ y. y.clock) w.shows.view) ∙ hear_clock b.issued (get_or b.roll m new_seat) seat_fits seat_known K k r.p.command t is

      book : with_member (with_command (view_tables b) k (Some (with_phase (view_open r.p) m (Heard q.clock)))) m q ≡ view_tables after
      book =
          ap (λ u. with_member (with_command (view_tables b) k (Some (with_phase (view_open r.p) m (Heard u)))) m q) clock ∙ (ap (λ y. with_member (with_command (view_tables b) k (Some (with_phase (view_open r.p) m y))) m q) (hear_sent t x h).1 ∙ sym (after_seat x s q w.shows.view))

      same : hear K (view_tables b) m k ≡ Ok (t, view_tables after)
      same = hear_by K Sent (hear_sent t x h).0 ∙ pair q.clock t (with_member (with_command (view_tables b) k (Some (with_phase (view_open r.p) m (Heard q.clock)))) m q) (view_tables after) clock book
        where
          pair : (u v : ℕ) (c d : Book) → u ≡ v → c ≡ d → ◌≡◌ {A = Outcome (ℕ × Book)} (Ok (u, c)) (Ok (v, d))
          pair u v c d e f = λ i. Ok (e i, f i)

  -- Gather

  gather_by : (p : Phase) → phase_in r.p.destinations m ≡ p → gather (view_tables b) m k ≡ gather_in (view_tables b) m k (view_open r.p) p
  gather_by p was = ap (gather_at (view_tables b) m k) r.reached ∙ ap (gather_in (view_tables b) m k (view_open r.p)) was

  gather_heard : (x : Phase) → next_phase (phase_in r.p.destinations m) Gather ≡ Ok x → (t : ℕ) × (phase_in r.p.destinations m ≡ Heard t) × (Gathered t ≡ x)
  gather_heard x h = go (phase_in r.p.destinations m) refl h
    where
      go : (p : Phase) → phase_in r.p.destinations m ≡ p → next_phase p Gather ≡ Ok x → (t : ℕ) × (phase_in r.p.destinations m ≡ Heard t) × (Gathered t ≡ x)
      go Sent w h = absurd (err_ok h)
      go (Heard u) w h = (u, w, ok_inj h)
      go (Gathered u) w h = absurd (err_ok h)
      go Settled w h = absurd (err_ok h)
      go Run w h = absurd (err_ok h)

  -- the command at the place, gathered and fixed
  abbrev pub fixed_at : Phase → Place
  fixed_at x = with_fixed_in (with_phase_in r.p m x) (final_of (view_open (with_phase_in r.p m x)))

  pub gather_done : (x : Phase) → next_phase (phase_in r.p.destinations m) Gather ≡ Ok x → Done (gather (view_tables b) m k) ((final_of (view_open (with_phase_in r.p m x)))) (with_place b i (fixed_at x))
  gather_done x h =
      (same, record { fits = fits_place b g.fits i r.p (fixed_at x) r.below r.at refl (length-set r.p.destinations m (record { phase = x }) ∙ wide); sound = sound_gather (view_tables b) m k (final_of (view_open (with_phase_in r.p m x)), view_tables after) (gather_ok (view_tables b) m k (final_of (view_open (with_phase_in r.p m x)), view_tables after) same) g.sound })
    where
      after : Tables
      after = with_place b i (fixed_at x)

      t : ℕ
      t = (gather_heard x h).0

      o : OpenCommand
      o = with_phase (view_open r.p) m (Gathered t)

      seen : o ≡ view_open (with_phase_in r.p m x)
      seen = ap (with_phase (view_open r.p) m) (gather_heard x h).2 ∙ sym (phase_view x)

      book : with_command (view_tables b) k (Some (with_fixed (view_open (with_phase_in r.p m x)) (final_of (view_open (with_phase_in r.p m x))))) ≡ view_tables after
      book =
          sym (book_path (view_tables after) (with_command (view_tables b) k (Some (with_fixed (view_open (with_phase_in r.p m x)) (final_of (view_open (with_phase_in r.p m x)))))) refl refl refl (λ j. moved_view x (fixed_at x) refl j) (λ q. refl))

      same : gather (view_tables b) m k ≡ Ok (final_of (view_open (with_phase_in r.p m x)), view_tables after)
      same =
          gather_by (Heard t) (gather_heard x h).1 ∙ (ap (λ y. Ok (gathered_now (view_tables b) k y)) seen ∙ ap (λ y. Ok (final_of (view_open (with_phase_in r.p m x)), y)) book)

  -- Settle

  settle_by : (f : Option ℕ) (p : Phase) → r.p.fixed ≡ f → phase_in r.p.destinations m ≡ p → settle (view_tables b) m k ≡ settle_by_phase (view_tables b) m k (view_open r.p) f p
  settle_by f p is was =
      ap (settle_at (view_tables b) m k) r.reached ∙ (ap (λ y. settle_by_phase (view_tables b) m k (view_open r.p) y (phase_in r.p.destinations m)) is ∙ ap (settle_by_phase (view_tables b) m k (view_open r.p) f) was)

  pub record Settleable (x : Phase) : Type 0 where
    pub f : ℕ
    pub t : ℕ
    pub final : r.p.fixed ≡ Some f
    pub was : phase_in r.p.destinations m ≡ Gathered t
    pub becomes : Settled ≡ x

  pub settleable : (x : Phase) → next_phase (phase_in r.p.destinations m) (Settle r.p.fixed) ≡ Ok x → Settleable x
  settleable x h = by_fixed r.p.fixed refl (phase_in r.p.destinations m) refl h
    where
      by_fixed : (f : Option ℕ) → r.p.fixed ≡ f → (p : Phase) → phase_in r.p.destinations m ≡ p → next_phase p (Settle f) ≡ Ok x → Settleable x
      by_fixed None v Sent w h = absurd (err_ok h)
      by_fixed None v (Heard u) w h = absurd (err_ok h)
      by_fixed None v (Gathered u) w h = absurd (err_ok h)
      by_fixed None v Settled w h = absurd (err_ok h)
      by_fixed None v Run w h = absurd (err_ok h)
      by_fixed (Some f) v Sent w h = absurd (err_ok h)
      by_fixed (Some f) v (Heard u) w h = absurd (err_ok h)
      by_fixed (Some f) v (Gathered u) w h = record { f = f; t = u; final = v; was = w; becomes = ok_inj h }
      by_fixed (Some f) v Settled w h = absurd (err_ok h)
      by_fixed (Some f) v Run w h = absurd (err_ok h)

  pub settle_done : (x : Phase) (f : ℕ) → next_phase (phase_in r.p.destinations m) (Settle r.p.fixed) ≡ Ok x → r.p.fixed ≡ Some f → Done (settle (view_tables b) m k) ((settle_in (get_or b.roll m new_seat) k r.p.command f).clock) (with_seat (with_place b i (with_phase_in r.p m x)) m (settle_in (get_or b.roll m new_seat) k r.p.command f))
  settle_done x f h final =
      (same, record { fits = fits_both x s w.fits; sound = sound_settle (view_tables b) m k (s.clock, view_tables after) (settle_ok (view_tables b) m k (s.clock, view_tables after) same) g.sound })
    where
      s : Seat
      s = settle_in (get_or b.roll m new_seat) k r.p.command f

      after : Tables
      after = with_seat (with_place b i (with_phase_in r.p m x)) m s

      w : Shows s (settler b.issued k r.p.command f (view_member (get_or b.roll m new_seat)))
      w = settle_seat b.issued (get_or b.roll m new_seat) seat_fits seat_known k r.p.command f

      u : Settleable x
      u = settleable x h

      same : settle (view_tables b) m k ≡ Ok (s.clock, view_tables after)
      same =
          settle_by (Some f) (Gathered u.t) final u.was ∙ (ap (λ q. Ok (settled_now (view_tables b) m k (view_open r.p) q)) (sym w.view) ∙ ap (λ y. Ok (s.clock, y)) (ap (λ y. with_member (with_command (view_tables b) k (Some (with_phase (view_open r.p) m y))) m (view_member s)) u.becomes ∙ sym (after_seat x s (view_member s) refl)))
