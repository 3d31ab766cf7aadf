-- A hear and a settle at one member, on its fixed places and in the model.
use Rattle.std.proofs.Common.{◌≡◌, ℕ, ◌+◌, ◌<◌, ◌≤◌, Bool, true, false, cond, not, ◌&&◌, eqb, ltb, leb, length, Some, None, Option, sym, refl, ap, ◌∙◌, subst, add-one, arith}
use Rattle.std.proofs.lemmas.Bool.{lt-ltb, le-ltb, ltb-true, leb-false, leb-true, or_parts, cond-true, cond-false, and_parts, not-true, false≢true}
use Rattle.line.specs.declared.parts.Member.{Member as Seat}
use Rattle.line.specs.Listings.{emptied}
use Rattle.line.specs.Tables.{view_member, SeatFits}
use Rattle.line.specs.Views.{any_number, any_clash, rises_in, proposal_in, risen_seat, lift_in, remember_in, hear_in, settle_in}
use Rattle.line.proofs.SeatViews.{Known, full_view, rises_view, number_view, remember_view, remember_fits}
use Rattle.line.proofs.TableViews.{member_path}
use Rattle.machine.specs.declared.command.Command.{Command}
use Rattle.machine.specs.Kinds.{Kind}
use Rattle.ordering.specs.Lines.{Member}
use Rattle.ordering.specs.Searches.{put, present}
use Rattle.ordering.specs.Steps.{is_full, must_rise, risen, remember, hearer, settler}

-- A seat with its clock at t and nothing remembered.
abbrev pub cleared : Seat → ℕ → Seat
cleared p t = record { clock = t; remembered = emptied p.remembered }

cleared_fits : (p : Seat) (t : ℕ) → SeatFits (cleared p t)
cleared_fits p t = record { few = omega arith; distinct = refl }

-- A seat that the model sees as x, within its places.
pub record Shows (p : Seat) (x : Member) : Type 0 where
  pub view : view_member p ≡ x
  pub fits : SeatFits p

-- Something new remembered.
remembered : (p : Seat) (x : Member) → Shows p x → (k : ℕ) (c : Command) → (length p.remembered.0) < 16 → x.remembers k ≡ None → Shows (remember_in p k c) (remember k c x)
remembered p x s k c few new =
    let none : (view_member p).remembers k ≡ None = ap (λ y. y.remembers k) s.view ∙ new in
    record {
      view = remember_view p few k c none ∙ ap (remember k c) s.view;
      fits = remember_fits p few k c s.fits.distinct none;
    }

module _ (issued : ℕ) (p : Seat) (f : SeatFits p) (known : Known issued p) where
  -- The member once a hear has raised its clock where that is due.
  ready : Bool → ℕ → Seat
  ready true t = cleared p t
  ready false t = p

  pub record Hears (K : Kind) (k : ℕ) (c : Command) (t : ℕ) : Type 0 where
    pub room : (length (lift_in p t).remembered.0) < 16
    pub shows : Shows (hear_in p k c t) (hearer K issued k c (view_member p))

  pub hear_seat : (K : Kind) (k : ℕ) (c : Command) (t : ℕ) → t ≡ proposal_in K p c → (view_member p).remembers k ≡ None → Hears K k c t
  hear_seat K k c t is new = go (rises_in K p c) refl
    where
      result : (q : Seat) → lift_in p t ≡ q → length q.remembered.0 < 16 → (r : Bool) → must_rise K issued c (view_member p) ≡ r → Shows q (cond r (risen (view_member p)) (view_member p)) → (cond r (risen (view_member p)) (view_member p)).remembers k ≡ None → Hears K k c t
      result q e few r rise s none =
          record {
            room = subst (λ x. (length x.remembered.0) < 16) (sym e) few;
            shows = subst (λ x. Shows (remember_in x k c) (hearer K issued k c (view_member p))) (sym e) (subst (λ x. Shows (remember_in q k c) (remember k c (cond x (risen (view_member p)) (view_member p)))) (sym rise) (remembered q (cond r (risen (view_member p)) (view_member p)) s k c few none));
          }

      up : rises_in K p c ≡ true → t ≡ p.clock + 1
      up e = is ∙ cond-true (rises_in K p c) (p.clock + 1) p.clock e

      level : rises_in K p c ≡ false → t ≡ p.clock
      level e = is ∙ cond-false (rises_in K p c) (p.clock + 1) p.clock e

      go : (r : Bool) → rises_in K p c ≡ r → Hears K k c t
      go true e =
          let w : t ≡ p.clock + 1 = up e in
          result (cleared p t) (cond-true (ltb p.clock t) (cleared p t) p (lt-ltb p.clock t (omega arith))) (omega arith) true (rises_view issued p f known K c ∙ e)
          (record { view = member_path (view_member (cleared p t)) (risen (view_member p)) (w ∙ add-one p.clock) (λ j. refl); fits = cleared_fits p t })
          refl
      go false e =
          let w : t ≡ p.clock = level e in
          let few : (length p.remembered.0) < 16 = leb-false 16 (length p.remembered.0) (or_parts (leb 16 (length p.remembered.0)) (any_clash K c p.remembered.0) e).0 in
          result p (cond-false (ltb p.clock t) (cleared p t) p (le-ltb p.clock t (omega arith))) few false (rises_view issued p f known K c ∙ e) (record { view = refl; fits = f }) new

  pub hear_clock : (K : Kind) (k : ℕ) (c : Command) (t : ℕ) → t ≡ proposal_in K p c → (hear_in p k c t).clock ≡ t
  hear_clock K k c t is = go (ltb p.clock t) refl
    where
      below : (r : Bool) → p.clock ≤ cond r (p.clock + 1) p.clock
      below true = omega arith
      below false = omega arith

      go : (r : Bool) → ltb p.clock t ≡ r → (cond r (cleared p t) p).clock ≡ t
      go true e = refl
      go false e =
          let l : p.clock ≤ t = subst (λ x. p.clock ≤ x) (sym is) (below (rises_in K p c)) in
          let g : t ≤ p.clock = Rattle.std.proofs.lemmas.Bool.ltb-false p.clock t e in
          omega arith

  pub settle_seat : (k : ℕ) (c : Command) (t : ℕ) → Shows (settle_in p k c t) (settler issued k c t (view_member p))
  settle_seat k c t = subst (Shows (settle_in p k c t)) (sym tests) (cases (ltb p.clock t) refl)
    where
      own : Shows p (view_member p)
      own = record { view = refl; fits = f }

      lift : ltb p.clock t ≡ true → lift_in p t ≡ cleared p t
      lift e = cond-true (ltb p.clock t) (cleared p t) p e

      lifted : ltb p.clock t ≡ true → Shows (remember_in (lift_in p t) k c) (record { clock = t; remembers = put k (Some c) (λ j. None) })
      lifted e =
          subst (λ q. Shows (remember_in q k c) (record { clock = t; remembers = put k (Some c) (λ j. None) })) (sym (lift e)) (remembered (cleared p t) (record { clock = t; remembers = λ j. None }) (record { view = refl; fits = cleared_fits p t }) k c (omega arith) refl)

      rising : Shows (risen_seat p) (risen (view_member p))
      rising =
          record { view = member_path (view_member (risen_seat p)) (risen (view_member p)) (add-one p.clock) (λ j. refl); fits = cleared_fits p (p.clock + 1) }

      absent : (o : Option Command) → not (present o) ≡ true → o ≡ None
      absent None h = refl
      absent (Some x) h = absurd (false≢true h)

      by_room : (view_member p).remembers k ≡ None → (r : Bool) → leb 16 (length p.remembered.0) ≡ r → Shows (cond r (risen_seat p) (remember_in p k c)) (cond r (risen (view_member p)) (remember k c (view_member p)))
      by_room new true e = rising
      by_room new false e = remembered p (view_member p) own k c (leb-false 16 (length p.remembered.0) e) new

      by_memory : (r : Bool) → (eqb t p.clock && not (any_number k p.remembered.0)) ≡ r → Shows (cond r (cond (leb 16 (length p.remembered.0)) (risen_seat p) (remember_in p k c)) p) (cond r (cond (leb 16 (length p.remembered.0)) (risen (view_member p)) (remember k c (view_member p))) (view_member p))
      by_memory true e =
          by_room (absent ((view_member p).remembers k) (ap not (number_view issued p f known k) ∙ (and_parts (eqb t p.clock) (not (any_number k p.remembered.0)) e).1)) (leb 16 (length p.remembered.0)) refl
      by_memory false e = own

      tests : settler issued k c t (view_member p) ≡ cond (ltb p.clock t) (record { clock = t; remembers = put k (Some c) (λ j. None) }) (cond (eqb t p.clock && not (any_number k p.remembered.0)) (cond (leb 16 (length p.remembered.0)) (risen (view_member p)) (remember k c (view_member p))) (view_member p))
      tests =
          ap (λ x. cond (ltb p.clock t) (record { clock = t; remembers = put k (Some c) (λ j. None) }) (cond (eqb t p.clock && not x) (cond (is_full issued (view_member p)) (risen (view_member p)) (remember k c (view_member p))) (view_member p))) (number_view issued p f known k)
          ∙ ap (λ x. cond (ltb p.clock t) (record { clock = t; remembers = put k (Some c) (λ j. None) }) (cond (eqb t p.clock && not (any_number k p.remembered.0)) (cond x (risen (view_member p)) (remember k c (view_member p))) (view_member p))) (full_view issued p f known)

      cases : (r : Bool) → ltb p.clock t ≡ r → Shows (cond r (remember_in (lift_in p t) k c) (cond (eqb t p.clock && not (any_number k p.remembered.0)) (cond (leb 16 (length p.remembered.0)) (risen_seat p) (remember_in p k c)) p)) (cond r (record { clock = t; remembers = put k (Some c) (λ j. None) }) (cond (eqb t p.clock && not (any_number k p.remembered.0)) (cond (leb 16 (length p.remembered.0)) (risen (view_member p)) (remember k c (view_member p))) (view_member p)))
      cases true e = lifted e
      cases false e = by_memory (eqb t p.clock && not (any_number k p.remembered.0)) refl
