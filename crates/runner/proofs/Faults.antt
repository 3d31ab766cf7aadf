-- What is known of a fault that is answered, and where there was room for a record.
use Rattle.std.proofs.Common.{◌≡◌, ℕ, ◌<◌, ◌≤◌, Bool, true, false, cond, ltb, Ok, Err, Result, IsErrAnd, refl, ap, ◌∙◌}
use Rattle.std.proofs.lemmas.Bool.{ltb-true, ltb-false}
use Rattle.std.proofs.lemmas.Result.{err_from_is_err_and}
use Rattle.script.specs.declared.faults.Fault.{Fault}

pub fault_is : {A : Type 0} {r : Result A Fault} {f : Fault} → IsErrAnd r (λ e. e ≡ f) → r ≡ Err f
fault_is {A} {r} {f} h = let p = err_from_is_err_and r h in p.1 ∙ ap Err p.2

pub full_trace : {r : Result (Unit {0}) Fault} {full f : Fault} {room : ℕ} → IsErrAnd r (λ e. e ≡ f) → Err f ≡ cond (ltb room 48) (Err full) (Ok (tt {0})) → (room < 48) × (r ≡ Err full)
full_trace {r} {full} {f} {room} is h = go (ltb room 48) refl h
  where
    go : (t : Bool) → ltb room 48 ≡ t → Err f ≡ cond t (Err full) (Ok (tt {0})) → (room < 48) × (r ≡ Err full)
    go true e h = (ltb-true room 48 e, fault_is is ∙ h)
    go false e h = cc

pub room_left : (full : Fault) {room : ℕ} → Ok (tt {0}) ≡ cond (ltb room 48) (Err full) (Ok (tt {0})) → 48 ≤ room
room_left full {room} h = go (ltb room 48) refl h
  where
    go : (t : Bool) → ltb room 48 ≡ t → Ok (tt {0}) ≡ cond t (Err full) (Ok (tt {0})) → 48 ≤ room
    go true e h = cc
    go false e h = ltb-false room 48 e
