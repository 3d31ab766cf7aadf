-- A call with the one station that it concerns is a call with all of them.
use Rattle.std.proofs.Common.{◌≡◌, ℕ, zero, suc, ◌<◌, ◌≤◌, Bool, true, false, cond, eqb, List, [], ◌∷◌, length, get_or, set, Some, None, Option, sym, refl, ap, ◌∙◌, subst, ⊎_elim, arith, get_or-set_same, zero-add}
use Rattle.std.specs.List.{slice_get, range_with_len}
use Rattle.std.proofs.lemmas.List.{get_or-map, length-map, length-set}
use Rattle.std.proofs.lemmas.List.FromFn.{length-range_with_len, get_or-range_with_len}
use Rattle.std.proofs.lemmas.Option.{slice_get-get_or}
use Rattle.std.proofs.Math.Seq.{map-set_same}
use Rattle.std.proofs.lemmas.Bool.{cases_eq, eqb-true}
use Rattle.line.proofs.Asking.{Mover, mover}
use Rattle.line.specs.Asking.{call_at, Asked}
use Rattle.line.specs.Promises.{cells_after}
use Rattle.machine.specs.Kinds.{Kind}
use Rattle.ordering.proofs.Basics.{put_same, put_other}
use Rattle.ordering.specs.declared.calls.Answer.{Answer}
use Rattle.ordering.specs.declared.calls.Call.{Call}
use Rattle.ordering.specs.declared.calls.Call.TheVariants.{Open, Send, Hear, Gather, Settle, Run}
use Rattle.ordering.specs.Lines.{Line}
use Rattle.ordering.specs.Searches.{put}
use Rattle.ordering.specs.Steps.{Outcome}
use Rattle.ordering.specs.Worlds.{Move, step, moved}
use Rattle.line.specs.declared.state.Station.{Station}
use Rattle.stations.specs.Held.{AskedAll, member_of}
use Rattle.stations.specs.Together.{OneEach, cells_in, held_by}

-- A run is for the member that it names.
pub call_own : (c : Call) → call_at c (member_of c) ≡ c
call_own (Open n last) = refl
call_own (Send sender set c) = refl
call_own (Hear q k) = refl
call_own (Gather q k) = refl
call_own (Settle q k) = refl
call_own (Run q) = refl

module _ (K : Kind) (held : ℕ → List ℕ) (m : ℕ) where
  at_own : (v : Option Move) → Mover m v → moved K v held m ≡ cells_after K v (held m)
  at_own None h = refl
  at_own (Some v) h =
      subst (λ q. put q (K.next (held q) v.command) held m ≡ K.next (held m) v.command) (sym h) (put_same m (K.next (held m) v.command) held)

  at_other : (v : Option Move) (q : ℕ) → Mover m v → (m ≡ q → ⊥) → moved K v held q ≡ held q
  at_other None q h n = refl
  at_other (Some v) q h n = put_other v.member q (K.next (held v.member) v.command) held (λ e. n (sym h ∙ e))

-- The station of the member is changed, and no other.
pub asked_here : (K : Kind) (l : Line) (c : Call) (m : ℕ) (s : List ℕ) (r : Outcome Answer) (l' : Line) (s' : List ℕ) (held held' : ℕ → List ℕ) → m ≡ member_of c → Asked K l (call_at c m) s r l' s' → held m ≡ s → held' m ≡ s' → ((q : ℕ) → (m ≡ q → ⊥) → held' q ≡ held q) → AskedAll K l c held r l' held'
asked_here K l c m s r l' s' held held' is a before after others =
    record { answer = b.answer; line = b.line; cells = λ q near. ⊎_elim (λ e. subst (λ i. moved K (step K l c).move held i ≡ held' i) e own) (λ n. at_other K held m (step K l c).move q move n ∙ sym (others q n)) (cases_eq m q) }
  where
    same : call_at c m ≡ c
    same = ap (call_at c) is ∙ call_own c

    b : Asked K l c s r l' s'
    b = subst (λ z. Asked K l z s r l' s') same a

    move : Mover m (step K l c).move
    move = subst (λ z. Mover m (step K l z).move) same (mover K l c m)

    own : moved K (step K l c).move held m ≡ held' m
    own = at_own K held m (step K l c).move move ∙ (ap (cells_after K (step K l c).move) before ∙ (b.cells ∙ sym after))

-- A member that no line has: no station is changed.
pub asked_spare : (K : Kind) (l : Line) (c : Call) (m : ℕ) (s : List ℕ) (r : Outcome Answer) (l' : Line) (s' : List ℕ) (held : ℕ → List ℕ) → 16 ≤ m → m ≡ member_of c → Asked K l (call_at c m) s r l' s' → AskedAll K l c held r l' held
asked_spare K l c m s r l' s' held far is a =
    record { answer = b.answer; line = b.line; cells = λ q near. at_other K held m (step K l c).move q move (λ e. absurd (apart e near)) }
  where
    same : call_at c m ≡ c
    same = ap (call_at c) is ∙ call_own c

    b : Asked K l c s r l' s'
    b = subst (λ z. Asked K l z s r l' s') same a

    move : Mover m (step K l c).move
    move = subst (λ z. Mover m (step K l z).move) same (mover K l c m)

    apart : {q : ℕ} → m ≡ q → q < 16 → ⊥
    apart {q} e near = omega arith

-- The same of the stations in one list, as one of them is lent to the call.
set_elsewhere : {X : Type 0} (xs : List X) (i j : ℕ) (x : X) → (i ≡ j → ⊥) → slice_get (set xs i x) j ≡ slice_get xs j
set_elsewhere [] i j x n = refl
set_elsewhere (y ∷ ys) zero zero x n = absurd (n refl)
set_elsewhere (y ∷ ys) zero (suc j) x n = refl
set_elsewhere (y ∷ ys) (suc i) zero x n = refl
set_elsewhere (y ∷ ys) (suc i) (suc j) x n = set_elsewhere ys i j x (λ e. n (ap suc e))

module _ {M : Type 0} (stations : List (Station M)) (each : OneEach stations) where
  pub sixteen : length stations ≡ 16
  sixteen = sym (length-map stations (λ s. s.member)) ∙ (ap length each ∙ length-range_with_len 0 16)

  module _ (place : ℕ) (blank new : Station M) (within : place < length stations) where
    abbrev pub old : Station M
    old = get_or stations place blank

    owner : old.member ≡ place
    owner =
        let near : place < 16 = subst (λ n. place < n) sixteen within in
        let e : get_or (range_with_len 0 16) place 0 ≡ place = get_or-range_with_len 0 16 place 0 near ∙ zero-add place in
        sym (get_or-map (λ s. s.member) stations place blank 0 within) ∙ (ap (λ ms. get_or ms place 0) each ∙ e)

    pub still_each : new.member ≡ (get_or stations place blank).member → OneEach (set stations place new)
    still_each stays = map-set_same (λ s. s.member) stations place new blank stays ∙ each

    pub asked_place : (cells : M → List ℕ) (K : Kind) (l : Line) (c : Call) (r : Outcome Answer) (l' : Line) → place ≡ member_of c → Asked K l (call_at c (get_or stations place blank).member) (cells (get_or stations place blank).machine) r l' (cells new.machine) → AskedAll K l c (held_by cells stations) r l' (held_by cells (set stations place new))
    asked_place cells K l c r l' mine a =
        asked_here K l c place (cells old.machine) r l' (cells new.machine) (held_by cells stations) (held_by cells (set stations place new)) mine (subst (λ m. Asked K l (call_at c m) (cells old.machine) r l' (cells new.machine)) owner a)
        (ap (cells_in cells) (slice_get-get_or stations place blank within))
        (ap (cells_in cells) (slice_get-get_or (set stations place new) place new (subst (λ n. place < n) (sym (length-set stations place new)) within) ∙ ap Some (get_or-set_same stations place new new within)))
        (λ q n. ap (cells_in cells) (set_elsewhere stations place q new n))

-- Stations with the same cells have the same cells after a move.
pub moved_alike : (K : Kind) (cells held : ℕ → List ℕ) → ((q : ℕ) → q < 16 → cells q ≡ held q) → (v : Option Move) (m : ℕ) → m < 16 → moved K v cells m ≡ moved K v held m
moved_alike K cells held same None m near = same m near
moved_alike K cells held same (Some v) m near = go (eqb v.member m) refl
  where
    go : (t : Bool) → eqb v.member m ≡ t → cond t (K.next (cells v.member) v.command) (cells m) ≡ cond t (K.next (held v.member) v.command) (held m)
    go true e = ap (λ z. K.next z v.command) (same v.member (subst (λ q. q < 16) (sym (eqb-true v.member m e)) near))
    go false e = same m near
