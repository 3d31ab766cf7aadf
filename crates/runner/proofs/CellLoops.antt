-- The cells of one station, and of all, written one by one.
use Rattle.std.proofs.Common.{◌≡◌, ℕ, suc, ◌+◌, ◌-◌, ◌^◌, ◌<◌, ◌≤◌, cond, ltb, List, ◌∷◌, ◌++◌, length, get_or, drop, Some, None, Ok, Err, Option, sym, refl, ap, ◌∙◌, subst, add-one, arith, drop-cons}
use Rattle.std.proofs.lemmas.Bool.{lt-ltb}
use Rattle.std.proofs.lemmas.Option.{slice_get-get_or}
use Rattle.std.specs.List.{slice_get}
use Rattle.ordering.proofs.Basics.{some_inj}
use Rattle.ordering.specs.declared.calls.Call.{Call}
use Rattle.script.specs.declared.faults.Fault.{Fault}
use Rattle.trace.proofs.Lengths.{cell_record_fits}
use Rattle.trace.specs.Appending.{Adds}
use Rattle.trace.specs.Records.{cell_record}
use Rattle.trace.specs.declared.Trace.{Trace}
use Rattle.runner.specs.Cells.{station_records, cell_records}
use Rattle.runner.specs.Runs.{Outcome, ended, writes_all}
use Rattle.runner.specs.Writing.{Sofar, Wrote, WroteRecords, room_of}
use Rattle.runner.proofs.Written.{sofar_start, sofar_more, record_written, no_room, wrote_all, wrote_faulty}

-- The cells below i are written.
abbrev pub AtCell : Fault → ℕ → List ℕ → Trace → Trace → ℕ → Type 0
AtCell full m cells t₀ t i =
    (cs : List Call) (more : List (List ℕ)) → Sofar (writes_all cs full (room_of t₀) (station_records m 0 cells ++ more)) (writes_all cs full (room_of t) (station_records m i (drop i cells) ++ more)) t₀ t

-- What is read at a place of a list.
pub read_there : (m : ℕ) (cells : List ℕ) (i : ℕ) (r : Option ℕ) → m < 16 → i < length cells → r ≡ cond (ltb m 16) (slice_get cells i) None → r ≡ Some (get_or cells i 0)
read_there m cells i r near lt is = is ∙ (ap (λ b. cond b (slice_get cells i) None) (lt-ltb m 16 near) ∙ slice_get-get_or cells i 0 lt)

module _ (full : Fault) (m : ℕ) (cells : List ℕ) (t₀ t : Trace) (i : ℕ) (s : AtCell full m cells t₀ t i) (lt : i < length cells) where
  next_record : station_records m i (drop i cells) ≡ cell_record m i (get_or cells i 0) ∷ station_records m (suc i) (drop (suc i) cells)
  next_record = ap (station_records m i) (drop-cons cells i 0 lt)

  here : (cs : List Call) (more : List (List ℕ)) → Sofar (writes_all cs full (room_of t₀) (station_records m 0 cells ++ more)) (writes_all cs full (room_of t) (cell_record m i (get_or cells i 0) ∷ (station_records m (suc i) (drop (suc i) cells) ++ more))) t₀ t
  here cs more =
      subst (λ rs. Sofar (writes_all cs full (room_of t₀) (station_records m 0 cells ++ more)) (writes_all cs full (room_of t) (rs ++ more)) t₀ t) next_record (s cs more)

  pub cell_full : room_of t < 48 → WroteRecords full (station_records m 0 cells) t₀ t (Err full)
  cell_full none =
      (refl, λ cs more. no_room (writes_all cs full (room_of t₀) (station_records m 0 cells ++ more)) cs full (cell_record m i (get_or cells i 0)) (station_records m (suc i) (drop (suc i) cells) ++ more) t₀ t (here cs more) none)

  pub cell_written : (x : ℕ) (t' : Trace) → 48 ≤ room_of t → m < 256 → i < 2 ^ 64 → x < 2 ^ 32 → Some x ≡ Some (get_or cells i 0) → Adds t (cell_record m i x) t' → AtCell full m cells t₀ t' (i + 1)
  cell_written x t' room small index word is a =
      subst (λ k. AtCell full m cells t₀ t' k) (sym (add-one i))
      (λ cs more. record_written (writes_all cs full (room_of t₀) (station_records m 0 cells ++ more)) cs full (cell_record m i (get_or cells i 0)) (station_records m (suc i) (drop (suc i) cells) ++ more) t₀ t t' (here cs more) room (subst (λ z. length (cell_record m i z) ≤ 48) (some_inj is) (cell_record_fits m i x small index word)) (subst (λ z. Adds t (cell_record m i z) t') (some_inj is) a))

-- The stations of the members below m are written.
abbrev pub AtMember : Fault → (ℕ → List ℕ) → ℕ → Trace → Trace → ℕ → Type 0
AtMember full cells n t₀ t m =
    (cs : List Call) → Sofar (writes_all cs full (room_of t₀) (cell_records cells 0 n)) (writes_all cs full (room_of t) (cell_records cells m (n - m))) t₀ t

pub member_first : (full : Fault) (cells : ℕ → List ℕ) (n : ℕ) (t : Trace) → AtMember full cells n t t 0
member_first full cells n t cs =
    let e : n ≡ n - 0 = omega arith in
    subst (λ k. Sofar (writes_all cs full (room_of t) (cell_records cells 0 n)) (writes_all cs full (room_of t) (cell_records cells 0 k)) t t) e (sofar_start (writes_all cs full (room_of t) (cell_records cells 0 n)) t)

-- What was written before, and then more.
both : (o mid left : Outcome) (t₀ t t' : Trace) → Sofar o mid t₀ t → Sofar mid left t t' → Sofar o left t₀ t'
both o mid left t₀ t t' s r = sofar_more o r.done left t₀ t t' (subst (λ z. Sofar o z t₀ t) r.same s) r.adds r.fits

module _ (full : Fault) (cells : ℕ → List ℕ) (n : ℕ) (t₀ t t' : Trace) (m : ℕ) (s : AtMember full cells n t₀ t m) (lt : m < n) where
  next_station : cell_records cells m (n - m) ≡ station_records m 0 (cells m) ++ cell_records cells (suc m) (n - suc m)
  next_station = let e : n - m ≡ suc (n - suc m) = omega arith in ap (cell_records cells m) e

  there : (cs : List Call) → Sofar (writes_all cs full (room_of t₀) (cell_records cells 0 n)) (writes_all cs full (room_of t) (station_records m 0 (cells m) ++ cell_records cells (suc m) (n - suc m))) t₀ t
  there cs = subst (λ rs. Sofar (writes_all cs full (room_of t₀) (cell_records cells 0 n)) (writes_all cs full (room_of t) rs) t₀ t) next_station (s cs)

  pub station_written : WroteRecords full (station_records m 0 (cells m)) t t' (Ok tt) → AtMember full cells n t₀ t' (m + 1)
  station_written w =
      subst (λ k. AtMember full cells n t₀ t' k) (sym (add-one m))
      (λ cs. both (writes_all cs full (room_of t₀) (cell_records cells 0 n)) (writes_all cs full (room_of t) (station_records m 0 (cells m) ++ cell_records cells (suc m) (n - suc m))) (writes_all cs full (room_of t') (cell_records cells (suc m) (n - suc m))) t₀ t t' (there cs) (w cs (cell_records cells (suc m) (n - suc m))))

  pub station_full : (f : Fault) → WroteRecords full (station_records m 0 (cells m)) t t' (Err f) → (cs : List Call) → Wrote (writes_all cs full (room_of t₀) (cell_records cells 0 n)) t₀ t' (Err f)
  station_full f w cs =
      subst (λ z. Wrote (writes_all cs full (room_of t₀) (cell_records cells 0 n)) t₀ t' (Err z)) (sym w.0)
      (wrote_faulty (writes_all cs full (room_of t₀) (cell_records cells 0 n)) cs full t₀ t' (both (writes_all cs full (room_of t₀) (cell_records cells 0 n)) (writes_all cs full (room_of t) (station_records m 0 (cells m) ++ cell_records cells (suc m) (n - suc m))) (ended cs (Some full)) t₀ t t' (there cs) (w.1 cs (cell_records cells (suc m) (n - suc m)))))

pub stations_end : (full : Fault) (cells : ℕ → List ℕ) (n : ℕ) (t₀ t : Trace) (m : ℕ) → AtMember full cells n t₀ t m → n ≤ m → (cs : List Call) → Wrote (writes_all cs full (room_of t₀) (cell_records cells 0 n)) t₀ t (Ok tt)
stations_end full cells n t₀ t m s le cs =
    let e : n - m ≡ 0 = omega arith in
    wrote_all (writes_all cs full (room_of t₀) (cell_records cells 0 n)) cs t₀ t (subst (λ k. Sofar (writes_all cs full (room_of t₀) (cell_records cells 0 n)) (writes_all cs full (room_of t) (cell_records cells m k)) t₀ t) e (s cs))
