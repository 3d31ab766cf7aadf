-- Records written one behind the other, while there is room.
use Rattle.std.proofs.Common.{◌≡◌, ℕ, ◌+◌, ◌-◌, ◌<◌, ◌≤◌, min, cond, List, [], ◌∷◌, ◌++◌, length, take, drop, Some, None, Ok, Err, Option, Result, sym, refl, ap, ◌∙◌, subst, append_assoc, append-nil, add-zero, arith}
use Rattle.std.proofs.lemmas.List.{length-append, length-drop, length-take, take-append-drop}
use Rattle.std.proofs.lemmas.Bool.{lt-ltb, le-ltb}
use Rattle.std.proofs.Math.Seq.{take-nil}
use Rattle.std.specs.Result.{result_err}
use Rattle.ordering.specs.declared.calls.Call.{Call}
use Rattle.script.specs.declared.faults.Fault.{Fault}
use Rattle.trace.proofs.Appending.{whole, then}
use Rattle.trace.specs.Appending.{Adds, Appended, fitting}
use Rattle.trace.specs.declared.Trace.{Trace}
use Rattle.runner.specs.Runs.{Outcome, ended, writes, writes_all}
use Rattle.runner.specs.Writing.{Sofar, Wrote, room_of}

-- Nothing is added.
pub adds_nothing : (t : Trace) → Adds t [] t
adds_nothing t =
    record {
      text = record { bytes = sym (ap (λ z. take t.used t.bytes.now ++ (z ++ drop (t.used + length z) t.bytes.now)) none ∙ (ap (λ n. take t.used t.bytes.now ++ drop n t.bytes.now) (add-zero t.used) ∙ take-append-drop t.used t.bytes.now)); count = sym (ap (λ z. t.used + length z) none ∙ add-zero t.used) };
      lender = refl;
    }
  where
    none : fitting t.bytes.now t.used [] ≡ []
    none = take-nil (length t.bytes.now - t.used)

-- As many bytes as before, and so much less room.
same_length : (before : List ℕ) (used : ℕ) (new after : List ℕ) (used' : ℕ) → Appended before used new after used' → length after ≡ length before
same_length before used new after used' a =
    let fit : List ℕ = fitting before used new in
    let left : List ℕ = drop (used + length fit) before in
    let p = length-take used before in
    let q : length fit ≡ min (length before - used) (length new) = length-take (length before - used) new in
    let r : length left ≡ length before - (used + length fit) = length-drop (used + length fit) before in
    let s = length-append (take used before) (fit ++ left) in
    let u = length-append fit left in
    let e : length after ≡ length (take used before ++ (fit ++ left)) = ap length a.bytes in
    omega arith

pub less_room : (t : Trace) (new : List ℕ) (t' : Trace) → Adds t new t' → length new ≤ room_of t → room_of t' ≡ room_of t - length new
less_room t new t' a fits =
    let e : length t'.bytes.now ≡ length t.bytes.now = same_length t.bytes.now t.used new t'.bytes.now t'.used a.text in
    let u : t'.used ≡ t.used + length new = (whole t.bytes.now t.used new t'.bytes.now t'.used fits a.text).1 in
    omega arith

pub room_left : (whole rest : Outcome) (t₀ t : Trace) (s : Sofar whole rest t₀ t) → room_of t ≡ room_of t₀ - length s.done
room_left whole rest t₀ t s = less_room t₀ s.done t s.adds s.fits

pub sofar_start : (o : Outcome) (t : Trace) → Sofar o o t t
sofar_start o t = record { done = []; adds = adds_nothing t; fits = omega arith; same = refl }

pub sofar_more : (o : Outcome) (r : List ℕ) (rest : Outcome) (t₀ t t' : Trace) → Sofar o (writes r rest) t₀ t → Adds t r t' → length r ≤ room_of t → Sofar o rest t₀ t'
sofar_more o r rest t₀ t t' s a fits =
    record {
      done = s.done ++ r;
      adds = then t₀ s.done t r t' s.adds a;
      fits = let e = room_left o (writes r rest) t₀ t s in let w = length-append s.done r in let f = s.fits in omega arith;
      same = s.same ∙ ap (λ z. record { calls = rest.calls; trace = z; fault = rest.fault }) (sym (append_assoc s.done r rest.trace));
    }

-- Nothing is left.
sofar_ended : (o : Outcome) (cs : List Call) (f : Option Fault) (t₀ t : Trace) (r : Result (Unit {0}) Fault) → result_err r ≡ f → Sofar o (ended cs f) t₀ t → Wrote o t₀ t r
sofar_ended o cs f t₀ t r is s =
    let e : o.trace ≡ s.done = ap (λ z. z.trace) s.same ∙ append-nil s.done in
    record { adds = subst (λ z. Adds t₀ z t) (sym e) s.adds; fits = subst (λ z. length z ≤ room_of t₀) (sym e) s.fits; fault = is ∙ sym (ap (λ z. z.fault) s.same) }

pub wrote_all : (o : Outcome) (cs : List Call) (t₀ t : Trace) → Sofar o (ended cs None) t₀ t → Wrote o t₀ t (Ok tt)
wrote_all o cs t₀ t s = sofar_ended o cs None t₀ t (Ok tt) refl s

pub wrote_faulty : (o : Outcome) (cs : List Call) (f : Fault) (t₀ t : Trace) → Sofar o (ended cs (Some f)) t₀ t → Wrote o t₀ t (Err f)
wrote_faulty o cs f t₀ t s = sofar_ended o cs (Some f) t₀ t (Err f) refl s

-- What was written before, and then the rest.
pub wrote_after : (o left : Outcome) (t₀ t t' : Trace) (r : Result (Unit {0}) Fault) → Sofar o left t₀ t → Wrote left t t' r → Wrote o t₀ t' r
wrote_after o left t₀ t t' r s w =
    record {
      adds = subst (λ z. Adds t₀ z t') (sym (ap (λ z. z.trace) s.same)) (then t₀ s.done t left.trace t' s.adds w.adds);
      fits = let e : length o.trace ≡ length (s.done ++ left.trace) = ap (λ z. length z.trace) s.same in let a = length-append s.done left.trace in let b = room_left o left t₀ t s in let f = w.fits in let g = s.fits in omega arith;
      fault = w.fault ∙ sym (ap (λ z. z.fault) s.same);
    }

-- One record of many, where there is room for it, and where there is none.
pub record_written : (o : Outcome) (cs : List Call) (full : Fault) (r : List ℕ) (rs : List (List ℕ)) (t₀ t t' : Trace) → Sofar o (writes_all cs full (room_of t) (r ∷ rs)) t₀ t → 48 ≤ room_of t → length r ≤ 48 → Adds t r t' → Sofar o (writes_all cs full (room_of t') rs) t₀ t'
record_written o cs full r rs t₀ t t' s room short a =
    let fits : length r ≤ room_of t = omega arith in
    let on : writes_all cs full (room_of t) (r ∷ rs) ≡ writes r (writes_all cs full (room_of t') rs) =
    ap (λ b. cond b (ended cs (Some full)) (writes r (writes_all cs full (room_of t - length r) rs))) (le-ltb (room_of t) 48 room) ∙ ap (λ n. writes r (writes_all cs full n rs)) (sym (less_room t r t' a fits)) in
    sofar_more o r (writes_all cs full (room_of t') rs) t₀ t t' (subst (λ z. Sofar o z t₀ t) on s) a fits

pub no_room : (o : Outcome) (cs : List Call) (full : Fault) (r : List ℕ) (rs : List (List ℕ)) (t₀ t : Trace) → Sofar o (writes_all cs full (room_of t) (r ∷ rs)) t₀ t → room_of t < 48 → Sofar o (ended cs (Some full)) t₀ t
no_room o cs full r rs t₀ t s lt =
    subst (λ z. Sofar o z t₀ t) (ap (λ b. cond b (ended cs (Some full)) (writes r (writes_all cs full (room_of t - length r) rs))) (lt-ltb (room_of t) 48 lt)) s
