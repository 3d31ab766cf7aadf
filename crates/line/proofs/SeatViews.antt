-- A member's clock and memory in fixed memory do what the model's do.
use Rattle.std.proofs.lemmas.Bool.{false≢true}
use Rattle.std.proofs.lemmas.Option.{none-some}
use Rattle.std.proofs.Common.{◌≡◌, ℕ, suc, ◌<◌, ◌≤◌, Bool, true, false, cond, ◌||◌, eqb, leb, List, [], ◌∷◌, length, Some, None, Option, sym, refl, ap, ◌∙◌, arith}
use Rattle.std.proofs.lemmas.List.{length-append}
use Rattle.std.specs.List.{slice_get}
use Rattle.line.specs.declared.parts.Member.{Member as Seat}
use Rattle.line.specs.declared.parts.Remembered.{Remembered}
use Rattle.open_commands.specs.Lists.{lookup_by, mapped, apart}
use Rattle.line.specs.Tables.{held_number, held_command, view_memory, view_member, SeatFits}
use Rattle.line.specs.Views.{any_clash, any_number, rises_in, remember_in}
use Rattle.open_commands.proofs.Keyed.{lookup_place, lookup_own, lookup_push, apart_push, count_keys}
use Rattle.open_commands.proofs.Lists.{any_at, some_of}
use Rattle.line.proofs.TableViews.{member_path, mapped-put}
use Rattle.machine.specs.declared.command.Command.{Command}
use Rattle.machine.specs.Kinds.{Kind}
use Rattle.ordering.proofs.Bounded.{any_found, any_none}
use Rattle.ordering.specs.Lines.{held_count}
use Rattle.ordering.specs.Searches.{present, any_below, count_below}
use Rattle.ordering.specs.Steps.{clashes, is_full, must_rise, remember}

pub mapped-present : {X Y : Type 0} (f : X → Y) (o : Option X) → present (mapped f o) ≡ present o
mapped-present f None = refl
mapped-present f (Some x) = refl

pub count_same : (n : ℕ) (f g : ℕ → Bool) → ((k : ℕ) → f k ≡ g k) → count_below n f ≡ count_below n g
count_same n f g h = ap (count_below n) (λ i k. h k i)

pub same_tests : (x y : Bool) → (x ≡ true → y ≡ true) → (y ≡ true → x ≡ true) → x ≡ y
same_tests true true f g = refl
same_tests true false f g = sym (f refl)
same_tests false true f g = g refl
same_tests false false f g = refl

-- The numbers that a member remembers are issued.
abbrev pub Known : ℕ → Seat → Type 0
Known issued p = (k : ℕ) (c : Command) → (view_member p).remembers k ≡ Some c → k ≤ issued

module _ (issued : ℕ) (p : Seat) (f : SeatFits p) (known : Known issued p) where
  held_known : (i : ℕ) (r : Remembered) → slice_get p.remembered.0 i ≡ Some r → held_number r < suc issued
  held_known i r at =
      let w : held_number r ≤ issued = known (held_number r) (held_command r) (ap (mapped held_command) (lookup_own held_number p.remembered.0 i r f.distinct at)) in
      omega arith

  held_count_lem : held_count issued (view_member p) ≡ (length p.remembered.0)
  held_count_lem =
      count_same (suc issued) (λ k. present (view_memory p.remembered.0 k)) (λ k. present (lookup_by held_number p.remembered.0 k)) (λ k. mapped-present held_command (lookup_by held_number p.remembered.0 k)) ∙ count_keys held_number (suc issued) p.remembered.0 f.distinct held_known

  pub full_view : is_full issued (view_member p) ≡ leb 16 (length p.remembered.0)
  full_view = ap (leb 16) held_count_lem

  -- A remembered command conflicts, by the list or by the numbers.
  clash_view : (K : Kind) (c : Command) → any_below (suc issued) (λ k. clashes K c (view_memory p.remembered.0 k)) ≡ any_clash K c p.remembered.0
  clash_view K c = same_tests _ _ there back
    where
      found : (k : ℕ) (o : Option Remembered) → lookup_by held_number p.remembered.0 k ≡ o → clashes K c (mapped held_command o) ≡ true → any_clash K c p.remembered.0 ≡ true
      found k None e h = absurd (false≢true h)
      found k (Some r) e h =
          let w = lookup_place held_number p.remembered.0 k r e in
          any_at (λ x. K.conflict x.command c) p.remembered.0 w.0 r w.1 h

      there : any_below (suc issued) (λ k. clashes K c (view_memory p.remembered.0 k)) ≡ true → any_clash K c p.remembered.0 ≡ true
      there h =
          let w = any_found (suc issued) (λ k. clashes K c (view_memory p.remembered.0 k)) h in
          found w.0 (lookup_by held_number p.remembered.0 w.0) refl w.2

      back : any_clash K c p.remembered.0 ≡ true → any_below (suc issued) (λ k. clashes K c (view_memory p.remembered.0 k)) ≡ true
      back h = go (any_below (suc issued) (λ k. clashes K c (view_memory p.remembered.0 k))) refl
        where
          w : (i : ℕ) × (x : Remembered) × (slice_get p.remembered.0 i ≡ Some x) × (K.conflict x.command c ≡ true)
          w = some_of (λ x. K.conflict x.command c) p.remembered.0 h

          go : (t : Bool) → any_below (suc issued) (λ k. clashes K c (view_memory p.remembered.0 k)) ≡ t → t ≡ true
          go true e = refl
          go false e =
              absurd (false≢true (sym (any_none (suc issued) (λ k. clashes K c (view_memory p.remembered.0 k)) e (held_number w.1) (held_known w.0 w.1 w.2)) ∙ (ap (λ o. clashes K c (mapped held_command o)) (lookup_own held_number p.remembered.0 w.0 w.1 f.distinct w.2) ∙ w.3)))

  pub rises_view : (K : Kind) (c : Command) → must_rise K issued c (view_member p) ≡ rises_in K p c
  rises_view K c = ap (λ t. t || any_below (suc issued) (λ k. clashes K c (view_memory p.remembered.0 k))) full_view ∙ ap (λ t. leb 16 (length p.remembered.0) || t) (clash_view K c)

  pub number_view : (k : ℕ) → present ((view_member p).remembers k) ≡ any_number k p.remembered.0
  number_view k = mapped-present held_command (lookup_by held_number p.remembered.0 k) ∙ go p.remembered.0
    where
      go : (rs : List Remembered) → present (lookup_by held_number rs k) ≡ any_number k rs
      go [] = refl
      go (r ∷ rs) = step (eqb (held_number r) k) (go rs)
        where
          step : (t : Bool) → present (lookup_by held_number rs k) ≡ any_number k rs → present (cond t (Some r) (lookup_by held_number rs k)) ≡ (t || any_number k rs)
          step true e = refl
          step false e = e

unmapped : {X Y : Type 0} (f : X → Y) (o : Option X) → mapped f o ≡ None → o ≡ None
unmapped f None e = refl
unmapped f (Some r) e = absurd (none-some _ (sym e))

-- A command put into the memory.
module _ (p : Seat) (few : length p.remembered.0 < 16) (k : ℕ) (c : Command) where
  pub remember_view : (view_member p).remembers k ≡ None → view_member (remember_in p k c) ≡ remember k c (view_member p)
  remember_view new =
      member_path (view_member (remember_in p k c)) (remember k c (view_member p)) refl (λ j. ap (mapped held_command) (lookup_push held_number p.remembered.0 (record { number = k; command = c }) (unmapped held_command (lookup_by held_number p.remembered.0 k) new) j) ∙ mapped-put held_command k j (Some (record { number = k; command = c })) (lookup_by held_number p.remembered.0))

  pub remember_fits : apart held_number p.remembered.0 ≡ true → (view_member p).remembers k ≡ None → SeatFits (remember_in p k c)
  remember_fits distinct new =
      record {
        few = let w = length-append p.remembered.0 (record { number = k; command = c } ∷ []) in omega arith;
        distinct = apart_push held_number p.remembered.0 (record { number = k; command = c }) distinct (unmapped held_command (lookup_by held_number p.remembered.0 k) new);
      }
