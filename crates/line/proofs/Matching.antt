-- What a function of the tables read before it wrote, in the words of its place.
use Rattle.std.proofs.Common.{◌≡◌, ℕ, ◌+◌, ◌*◌, ◌^◌, ◌<◌, ◌≤◌, length, get_or, set, Some, Ok, Option, sym, ap, ◌∙◌, subst, arith, length-set, get_or-set_same}
use Rattle.line.specs.declared.parts.Tables.{Tables}
use Rattle.line.specs.declared.parts.Member.{Member as Seat}
use Rattle.open_commands.specs.declared.parts.OpenCommand.{OpenCommand as Place}
use Rattle.open_commands.specs.declared.phases.Step.{Step}
use Rattle.open_commands.specs.declared.phases.Step.TheVariants.{Hear, Gather, Settle}
use Rattle.line.specs.Tables.{view_tables, with_place, with_seat, Good}
use Rattle.open_commands.specs.Phases.{next_phase}
use Rattle.line.proofs.Done.{Done}
use Rattle.open_commands.specs.Views.{phase_in, view_open, with_phase_in, with_fixed_in}
use Rattle.line.specs.Views.{new_seat, proposal_in, lift_in, hear_in, settle_in}
use Rattle.line.proofs.BookSteps.{At, read, hear_room, hear_done, gather_done, settle_done, inside}
use Rattle.machine.specs.declared.command.Command.{Command}
use Rattle.machine.specs.Kinds.{Kind}
use Rattle.line.proofs.TableViews.{any_default, slice_get-set_same, set_twice}
use Rattle.std.specs.List.{slice_get}
use Rattle.ordering.specs.declared.calls.Phase.{Phase}
use Rattle.ordering.specs.Kept.{owed}
use Rattle.ordering.specs.Steps.{Outcome, hear, gather, settle, final_of}

module _ (b : Tables) (g : Good b) (m k i : ℕ) (r : At b m k i) where
  -- The step that was matched, at the phase that was read.
  pub matched : (y : Place) (n : ℕ) (p : Phase) (s s' : Step) (x : Outcome Phase) → slice_get b.commands.0 i ≡ Some y → n ≡ m → p ≡ phase_in y.destinations n → s ≡ s' → x ≡ next_phase p s → next_phase (phase_in r.p.destinations m) s' ≡ x
  matched y n p s s' x e w is step says =
      sym (says ∙ (ap (λ z. next_phase z s) (is ∙ (ap (λ z. phase_in z.destinations n) (read b g m k i r y e) ∙ ap (phase_in r.p.destinations) w)) ∙ ap (next_phase (phase_in r.p.destinations m)) step))

  within : m < length b.roll
  within = let v : length b.roll ≡ 16 = g.fits.seats in let u : m < 16 = inside b g m k i r in omega arith

  -- The seat that was read, before and after the phase was written.
  seat_read : (n : ℕ) (d : Seat) → n ≡ m → get_or b.roll n d ≡ get_or b.roll m new_seat
  seat_read n d e = ap (λ z. get_or b.roll z d) e ∙ any_default b.roll m d new_seat within

  seat_after : (x : Phase) (n : ℕ) (d : Seat) (b1 : Tables) → n ≡ m → b1 ≡ with_place b i (with_phase_in r.p n x) → get_or b1.roll n d ≡ get_or b.roll m new_seat
  seat_after x n d b1 e w = ap (λ z. get_or z.roll n d) w ∙ seat_read n d e

  -- The member has a seat.
  pub seated : (n : ℕ) → n ≡ m → n < 16
  seated n e = subst (λ z. z < 16) (sym e) (inside b g m k i r)

  pub seated_after : (x : Phase) (n : ℕ) (b1 : Tables) → n ≡ m → b1 ≡ with_place b i (with_phase_in r.p n x) → n < length b1.roll
  seated_after x n b1 e w = subst (λ z. n < length z.roll) (sym w) (subst (λ z. z < length b.roll) (sym e) within)

  pub seated_written : (x : Phase) (n : ℕ) (b1 : Tables) (s : Seat) → n ≡ m → b1 ≡ with_place b i (with_phase_in r.p n x) → n < length (set b1.roll n s)
  seated_written x n b1 s e w = subst (λ z. n < z) (sym (length-set b1.roll n s)) (seated_after x n b1 e w)

  proposed : (K : Kind) (n t : ℕ) (d : Seat) (c : Command) → n ≡ m → c ≡ r.p.command → t ≡ proposal_in K (get_or b.roll n d) c → t ≡ proposal_in K (get_or b.roll m new_seat) r.p.command
  proposed K n t d c e f is = is ∙ (ap (λ z. proposal_in K z c) (seat_read n d e) ∙ ap (proposal_in K (get_or b.roll m new_seat)) f)

  pub hear_fits : (K : Kind) (x : Phase) (n t : ℕ) (d d1 : Seat) (c : Command) (b1 : Tables) → n ≡ m → c ≡ r.p.command → t ≡ proposal_in K (get_or b.roll n d) c → next_phase (phase_in r.p.destinations m) (Hear t) ≡ Ok x → b1 ≡ with_place b i (with_phase_in r.p n x) → length (lift_in (get_or b1.roll n d1) t).remembered.0 < 16
  hear_fits K x n t d d1 c b1 e f is h w =
      subst (λ z. length (lift_in z t).remembered.0 < 16) (sym (seat_after x n d1 b1 e w)) (hear_room b g m k i r K x t h (proposed K n t d c e f is))

  pub hear_answer_lem : (K : Kind) (x : Phase) (n t : ℕ) (d d1 : Seat) (c : Command) (b1 : Tables) (s : Seat) → n ≡ m → c ≡ r.p.command → t ≡ proposal_in K (get_or b.roll n d) c → next_phase (phase_in r.p.destinations m) (Hear t) ≡ Ok x → b1 ≡ with_place b i (with_phase_in r.p n x) → s ≡ hear_in (get_or b1.roll n d1) k c t → Done (hear K (view_tables b) m k) t (with_seat b1 n s)
  hear_answer_lem K x n t d d1 c b1 s e f is h w v =
      subst (Done (hear K (view_tables b) m k) t) (sym written) (hear_done b g m k i r K x t h (proposed K n t d c e f is))
    where
      seat : s ≡ hear_in (get_or b.roll m new_seat) k r.p.command t
      seat = v ∙ (ap (λ z. hear_in z k c t) (seat_after x n d1 b1 e w) ∙ ap (λ z. hear_in (get_or b.roll m new_seat) k z t) f)

      written : with_seat b1 n s ≡ with_seat (with_place b i (with_phase_in r.p m x)) m (hear_in (get_or b.roll m new_seat) k r.p.command t)
      written = ap (λ z. with_seat z n s) w ∙ (ap (λ z. with_seat (with_place b i (with_phase_in r.p z x)) z s) e ∙ ap (with_seat (with_place b i (with_phase_in r.p m x)) m) seat)

  -- The place is there after a write.
  pub below_after : (q : Place) (b1 : Tables) → b1 ≡ with_place b i q → i < length b1.commands.0
  below_after q b1 w = subst (λ z. i < length z.commands.0) (sym w) (let u = length-set b.commands.0 i q in let v : i < length b.commands.0 = r.below in omega arith)

  pub gather_answer_lem : (x : Phase) (n : ℕ) (v : Option ℕ) (b1 b2 : Tables) → n ≡ m → next_phase (phase_in r.p.destinations m) Gather ≡ Ok x → b1 ≡ with_place b i (with_phase_in r.p n x) → ((p : Place) → slice_get b1.commands.0 i ≡ Some p → (v ≡ final_of (view_open p)) × (b2 ≡ with_place b1 i (with_fixed_in p (final_of (view_open p))))) → Done (gather (view_tables b) m k) v b2
  gather_answer_lem x n v b1 b2 e h w f =
      subst (λ y. Done (gather (view_tables b) m k) y b2) (sym fixes.0) (subst (Done (gather (view_tables b) m k) ((final_of (view_open q)))) (sym written) (gather_done b g m k i r x h))
    where
      q : Place
      q = with_phase_in r.p m x

      first : b1 ≡ with_place b i q
      first = w ∙ ap (λ z. with_place b i (with_phase_in r.p z x)) e

      there : slice_get b1.commands.0 i ≡ Some q
      there = ap (λ z. slice_get z.commands.0 i) first ∙ slice_get-set_same b.commands.0 i r.p q (r.at)

      fixes : (v ≡ final_of (view_open q)) × (b2 ≡ with_place b1 i (with_fixed_in q (final_of (view_open q))))
      fixes = f q there

      written : b2 ≡ with_place b i (with_fixed_in q (final_of (view_open q)))
      written =
          fixes.1 ∙ (ap (λ z. with_place z i (with_fixed_in q (final_of (view_open q)))) first ∙ ap (λ cs. record { members = b.members; last = b.last; issued = b.issued; commands = (cs, b.commands.1); roll = b.roll }) (set_twice b.commands.0 i q (with_fixed_in q (final_of (view_open q)))))

  pub settle_answer_lem : (x : Phase) (n f : ℕ) (d1 d2 : Seat) (c : Command) (fixed : Option ℕ) (b1 : Tables) (s : Seat) (t : ℕ) → n ≡ m → c ≡ r.p.command → fixed ≡ r.p.fixed → fixed ≡ Some f → next_phase (phase_in r.p.destinations m) (Settle r.p.fixed) ≡ Ok x → b1 ≡ with_place b i (with_phase_in r.p n x) → s ≡ settle_in (get_or b1.roll n d1) k c f → t ≡ (get_or (set b1.roll n s) n d2).clock → Done (settle (view_tables b) m k) t (with_seat b1 n s)
  settle_answer_lem x n f d1 d2 c fixed b1 s t e is v v' h w u a =
      subst (λ y. Done (settle (view_tables b) m k) y (with_seat b1 n s)) (sym (a ∙ (ap (λ z. z.clock) (get_or-set_same b1.roll n s d2 (seated_after x n b1 e w)) ∙ ap (λ z. z.clock) seat))) (subst (Done (settle (view_tables b) m k) (settle_in (get_or b.roll m new_seat) k r.p.command f).clock) (sym written) (settle_done b g m k i r x f h (sym v ∙ v')))
    where
      seat : s ≡ settle_in (get_or b.roll m new_seat) k r.p.command f
      seat = u ∙ (ap (λ z. settle_in z k c f) (seat_after x n d1 b1 e w) ∙ ap (λ z. settle_in (get_or b.roll m new_seat) k z f) is)

      written : with_seat b1 n s ≡ with_seat (with_place b i (with_phase_in r.p m x)) m (settle_in (get_or b.roll m new_seat) k r.p.command f)
      written = ap (λ z. with_seat z n s) w ∙ (ap (λ z. with_seat (with_place b i (with_phase_in r.p z x)) z s) e ∙ ap (with_seat (with_place b i (with_phase_in r.p m x)) m) seat)

  -- A clock leaves room for one more.
  clock_room : (get_or b.roll m new_seat).clock + 1 < 2 ^ 64
  clock_room =
      let w : (get_or b.roll m new_seat).clock + owed (view_tables b) ≤ 32 * b.issued = g.sound.clocks m in
      let v : b.issued ≤ b.last = g.fits.numbers in
      let u : b.last ≤ 2 ^ 48 = g.fits.lasts in
      small (get_or b.roll m new_seat).clock (owed (view_tables b)) b.issued b.last w v u
    where
      small : (c o i l : ℕ) → c + o ≤ 32 * i → i ≤ l → l ≤ 2 ^ 48 → c + 1 < 2 ^ 64
      small c o i l x y z = omega arith

  pub clock_fits : (n : ℕ) (d : Seat) → n ≡ m → (get_or b.roll n d).clock + 1 < 2 ^ 64
  clock_fits n d e = subst (λ z. z.clock + 1 < 2 ^ 64) (sym (seat_read n d e)) clock_room

  pub clock_fits_after : (x : Phase) (n : ℕ) (d : Seat) (b1 : Tables) → n ≡ m → b1 ≡ with_place b i (with_phase_in r.p n x) → (get_or b1.roll n d).clock + 1 < 2 ^ 64
  clock_fits_after x n d b1 e w = subst (λ z. z.clock + 1 < 2 ^ 64) (sym (seat_after x n d b1 e w)) clock_room
