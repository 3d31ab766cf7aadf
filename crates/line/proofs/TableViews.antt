-- One place or one seat of the tables changed: what the model sees, and that the tables still fit.
use Rattle.std.proofs.lemmas.Option.{none-some, same_Some}
use Rattle.std.proofs.Common.{◌≡◌, ℕ, zero, suc, ◌<◌, ◌≤◌, Bool, true, false, cond, eqb, ◌≢◌, ◌⊎◌, List, [], ◌∷◌, length, get_or, set, Some, Option, sym, refl, ap, ◌∙◌, subst, inl, inr, ⊎_elim, arith, length-set, get_or-set_other, get_or-set_same}
use Rattle.std.specs.List.{slice_get}
use Rattle.line.specs.declared.parts.Tables.{Tables}
use Rattle.line.specs.declared.parts.Member.{Member as Seat}
use Rattle.open_commands.specs.declared.parts.OpenCommand.{OpenCommand as Place}
use Rattle.open_commands.specs.Lists.{lookup_by, mapped}
use Rattle.open_commands.specs.Views.{number_of, phase_in, unsent, view_open, with_phase_in}
use Rattle.line.specs.Tables.{view_table, view_member, with_place, with_seat, Fits, SeatFits}
use Rattle.line.specs.Views.{new_seat}
use Rattle.open_commands.proofs.Keyed.{lookup_set, apart_set}
use Rattle.ordering.proofs.Basics.{put_cases}
use Rattle.ordering.specs.declared.calls.Phase.{Phase}
use Rattle.ordering.specs.Lines.{OpenCommand, Member, Book}
use Rattle.ordering.specs.Searches.{put}
use Rattle.ordering.specs.Steps.{with_phase}

pub open_path : (o o' : OpenCommand) → o.sender ≡ o'.sender → o.set ≡ o'.set → o.command ≡ o'.command → o.fixed ≡ o'.fixed → ((q : ℕ) → o.phase q ≡ o'.phase q) → o ≡ o'
open_path o o' a b c d e = λ i. record { sender = a i; set = b i; command = c i; fixed = d i; phase = λ q. e q i }

pub member_path : (p p' : Member) → p.clock ≡ p'.clock → ((k : ℕ) → p.remembers k ≡ p'.remembers k) → p ≡ p'
member_path p p' a b = λ i. record { clock = a i; remembers = λ k. b k i }

pub book_path : (b b' : Book) → b.members ≡ b'.members → b.last ≡ b'.last → b.issued ≡ b'.issued → ((k : ℕ) → b.table k ≡ b'.table k) → ((m : ℕ) → b.member m ≡ b'.member m) → b ≡ b'
book_path b b' p q r t u = λ i. record { members = p i; last = q i; issued = r i; table = λ k. t k i; member = λ m. u m i }

-- A list written at one place, read at any.
pub get_d_set : {X : Type 0} (xs : List X) (i j : ℕ) (x d : X) → i < length xs → get_or (set xs i x) j d ≡ put i x (λ k. get_or xs k d) j
get_d_set xs i j x d l =
    put_cases i j x (λ k. get_or xs k d) (λ y. get_or (set xs i x) j d ≡ y) (λ e. subst (λ k. get_or (set xs i x) k d ≡ x) e (get_or-set_same xs i x d l)) (λ n. other n)
  where
    other : (i ≡ j → ⊥) → get_or (set xs i x) j d ≡ get_or xs j d
    other n = let ne : j ≢ i = λ e. n (sym e) in get_or-set_other xs i j x d ne

-- What is read within a list depends on no default.
pub any_default : {X : Type 0} (xs : List X) (i : ℕ) (d e : X) → i < length xs → get_or xs i d ≡ get_or xs i e
any_default [] i d e l = absurd (omega arith)
any_default (x ∷ xs) zero d e l = refl
any_default (x ∷ xs) (suc i) d e l = any_default xs i d e (omega arith)

pub view_phase : (p : Place) (m : ℕ) (x : Phase) → m < length p.destinations → view_open (with_phase_in p m x) ≡ with_phase (view_open p) m x
view_phase p m x l =
    open_path (view_open (with_phase_in p m x)) (with_phase (view_open p) m x) refl refl refl refl (λ q. ap (λ d. d.phase) (get_d_set p.destinations m q (record { phase = x }) unsent l) ∙ through q)
  where
    through : (q : ℕ) → (put m (record { phase = x }) (λ k. get_or p.destinations k unsent) q).phase ≡ put m x (phase_in p.destinations) q
    through q = go (eqb m q)
      where
        go : (t : Bool) → (cond t (record { phase = x }) (get_or p.destinations q unsent)).phase ≡ cond t x (get_or p.destinations q unsent).phase
        go true = refl
        go false = refl

pub mapped-put : {X Y : Type 0} (f : X → Y) (k j : ℕ) (o : Option X) (g : ℕ → Option X) → mapped f (put k o g j) ≡ put k (mapped f o) (λ i. mapped f (g i)) j
mapped-put f k j o g = go (eqb k j)
  where
    go : (t : Bool) → mapped f (cond t o (g j)) ≡ cond t (mapped f o) (mapped f (g j))
    go true = refl
    go false = refl

-- What stands in a list written at one place: the new element, or what stood there.
pub slice_get-set : {X : Type 0} (xs : List X) (i j : ℕ) (x y : X) → slice_get (set xs i x) j ≡ Some y → (x ≡ y) ⊎ (slice_get xs j ≡ Some y)
slice_get-set [] i j x y h = absurd (none-some _ h)
slice_get-set (z ∷ zs) zero zero x y h = inl (same_Some _ _ h)
slice_get-set (z ∷ zs) zero (suc j) x y h = inr h
slice_get-set (z ∷ zs) (suc i) zero x y h = inr h
slice_get-set (z ∷ zs) (suc i) (suc j) x y h = slice_get-set zs i j x y h

pub slice_get-set_same : {X : Type 0} (xs : List X) (i : ℕ) (x y : X) → slice_get xs i ≡ Some x → slice_get (set xs i y) i ≡ Some y
slice_get-set_same [] i x y h = absurd (none-some _ h)
slice_get-set_same (z ∷ zs) zero x y h = refl
slice_get-set_same (z ∷ zs) (suc i) x y h = slice_get-set_same zs i x y h

pub set_twice : {X : Type 0} (xs : List X) (i : ℕ) (x y : X) → set (set xs i x) i y ≡ set xs i y
set_twice [] i x y = refl
set_twice (z ∷ zs) zero x y = refl
set_twice (z ∷ zs) (suc i) x y = ap (λ ys. z ∷ ys) (set_twice zs i x y)

module _ (b : Tables) (f : Fits b) (i : ℕ) (p p' : Place) (l : i < (length b.commands.0)) (at : slice_get b.commands.0 i ≡ Some p) (same : p'.number ≡ p.number) where
  pub view_place : (k : ℕ) → view_table ((with_place b i p').commands.0) k ≡ put p.number (Some (view_open p')) (view_table b.commands.0) k
  view_place k =
      ap (mapped view_open) (lookup_set number_of b.commands.0 i p p' f.distinct at same k) ∙ mapped-put view_open p.number k (Some p') (lookup_by number_of b.commands.0)

  pub fits_place : length p'.destinations ≡ 16 → Fits (with_place b i p')
  fits_place wide =
      record {
        few = let w = length-set b.commands.0 i p' in let v : length b.commands.0 ≤ 32 = f.few in omega arith;
        seats = f.seats;
        numbers = f.numbers;
        lasts = f.lasts;
        distinct = apart_set number_of b.commands.0 i p p' f.distinct at same;
        wide = λ j q e. ⊎_elim (λ w. subst (λ x. length x.destinations ≡ 16) w wide) (λ w. f.wide j q w) (slice_get-set b.commands.0 i j p' q e);
        seated = f.seated;
      }

module _ (b : Tables) (f : Fits b) (m : ℕ) (s : Seat) (l : m < 16) where
  seats : m < length b.roll
  seats = let w : length b.roll ≡ 16 = f.seats in omega arith

  pub view_seat : (q : ℕ) → view_member (get_or (set b.roll m s) q new_seat) ≡ put m (view_member s) (λ i. view_member (get_or b.roll i new_seat)) q
  view_seat q = ap view_member (get_d_set b.roll m q s new_seat seats) ∙ through (eqb m q)
    where
      through : (t : Bool) → view_member (cond t s (get_or b.roll q new_seat)) ≡ cond t (view_member s) (view_member (get_or b.roll q new_seat))
      through true = refl
      through false = refl

  pub fits_seat : SeatFits s → Fits (with_seat b m s)
  fits_seat ok =
      record {
        few = f.few;
        seats = length-set b.roll m s ∙ f.seats;
        numbers = f.numbers;
        lasts = f.lasts;
        distinct = f.distinct;
        wide = f.wide;
        seated = λ q k. subst SeatFits (sym (get_d_set b.roll m q s new_seat seats)) (put_cases m q s (λ i. get_or b.roll i new_seat) SeatFits (λ e. ok) (λ n. f.seated q k));
      }
