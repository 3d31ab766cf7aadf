-- The axis bank keeps the laws of a kind. Every command is, where it acts, one write of one axis. Two that act and do not
-- conflict are two Shifts, which are additions, or neither touches the axis that the other writes.
use Rattle.std.specs.Prelude.{◌≡◌, ℕ, ◌+◌, ◌^◌, ◌<◌, Bool, true, false, cond, ◌&&◌, ◌||◌, ◌≢◌, List, length, Some, ◌==◌, nat_lt, slice_index, slice_set, refl}
use Rattle.std.proofs.Math.Bool.{and_comm, or_comm}
use Rattle.std.proofs.Common.{⊎_elim, ◌∙◌, arith}
use Rattle.std.proofs.lemmas.List.{set_comm, get_or-set_other}
use Rattle.std.proofs.lemmas.Bool.{false≢true, ltb-true, eqb-false, cases_Bool, cond-true, cond-false, cond_both, and_parts, or_parts}
use Rattle.machine.specs.declared.command.Command.{Command}
use Rattle.machine.specs.declared.command.Command.TheVariants.{Set, Shift, Couple, Mark}
use Rattle.machine.specs.AxisBanks.{axes, writes, touches, touched_by, is_shift, bank_conflict, bank_next, axis_bank}
use Rattle.machine.specs.Kinds.{Laws}
use Rattle.machine.specs.Words.{wrap, words, word_cells}
use Rattle.machine.specs.Additions.{added, additions_commute}
use Rattle.machine.specs.WordsLemmas.{wrap_below, cells_length, cells_words, cells_set, get_d_below}

-- Whether a command changes a position, of which axis, and to what.
abbrev acts : Command → Bool
acts (Set axis value) = nat_lt axis axes
acts (Shift axis amount) = nat_lt axis axes
acts (Couple from to) = nat_lt from axes && nat_lt to axes
acts (Mark code) = false

abbrev target : Command → ℕ
target (Set axis value) = axis
target (Shift axis amount) = axis
target (Couple from to) = to
target (Mark code) = 0

abbrev result : List ℕ → Command → ℕ
result s (Set axis value) = wrap value
result s (Shift axis amount) = wrap (slice_index s axis + amount)
result s (Couple from to) = slice_index s from
result s (Mark code) = 0

written : (s : List ℕ) (c : Command) → bank_next s c ≡ cond (acts c) (slice_set s (target c) (result s c)) s
written s (Set axis value) = refl
written s (Shift axis amount) = refl
written s (Couple from to) = refl
written s (Mark code) = refl

idle : (s : List ℕ) (c : Command) → acts c ≡ false → bank_next s c ≡ s
idle s c h = written s c ∙ cond-false _ _ _ h

active : (s : List ℕ) (c : Command) → acts c ≡ true → bank_next s c ≡ slice_set s (target c) (result s c)
active s c h = written s c ∙ cond-true _ _ _ h

-- A command that acts writes its target, an axis of the bank.
target_below : (c : Command) → acts c ≡ true → target c < 8
target_below (Set axis value) h = ltb-true axis 8 h
target_below (Shift axis amount) h = ltb-true axis 8 h
target_below (Couple from to) h = ltb-true to 8 (and_parts (nat_lt from 8) (nat_lt to 8) h).1
target_below (Mark code) h = absurd (false≢true h)

writes_target : (c : Command) → acts c ≡ true → writes c ≡ Some (target c)
writes_target (Set axis value) h = refl
writes_target (Shift axis amount) h = refl
writes_target (Couple from to) h = refl
writes_target (Mark code) h = absurd (false≢true h)

-- A command that does not touch an axis writes another one, and what it writes does not come from there.
other_target : (c : Command) (x : ℕ) → acts c ≡ true → touches c x ≡ false → target c ≢ x
other_target (Set axis value) x h t = eqb-false axis x t
other_target (Shift axis amount) x h t = eqb-false axis x t
other_target (Couple from to) x h t = eqb-false to x (or_parts (from == x) (to == x) t).1
other_target (Mark code) x h t = absurd (false≢true h)

other_result : (s : List ℕ) (c : Command) (x v : ℕ) → touches c x ≡ false → result (slice_set s x v) c ≡ result s c
other_result s (Set axis value) x v t = refl
other_result s (Shift axis amount) x v t = let n : axis ≢ x = eqb-false axis x t in rw get_or-set_other
other_result s (Couple from to) x v t = let n : from ≢ x = eqb-false from x (or_parts (from == x) (to == x) t).0 in rw get_or-set_other
other_result s (Mark code) x v t = refl

apart_commute :
    (s : List ℕ) (a b : Command) → acts a ≡ true → acts b ≡ true → touches b (target a) ≡ false → touches a (target b) ≡ false →
    bank_next (bank_next s a) b ≡ bank_next (bank_next s b) a
apart_commute s a b p q f g =
    rw (
      active s a p,
      active s b q,
      active (slice_set s (target a) (result s a)) b q,
      active (slice_set s (target b) (result s b)) a p,
      other_result s b (target a) (result s a) f,
      other_result s a (target b) (result s b) g,
    )
    (set_comm s (target a) (target b) (result s a) (result s b) (other_target a (target b) p g))

-- A Shift that acts is an addition.
abbrev amount : Command → ℕ
amount (Set axis value) = 0
amount (Shift axis by) = by
amount (Couple from to) = 0
amount (Mark code) = 0

shifted : (s : List ℕ) (c : Command) → is_shift c ≡ true → acts c ≡ true → bank_next s c ≡ added s (target c) (amount c)
shifted s (Set axis value) i h = absurd (false≢true i)
shifted s (Shift axis by) i h = cond-true _ _ _ h
shifted s (Couple from to) i h = absurd (false≢true i)
shifted s (Mark code) i h = absurd (false≢true i)

shifts_commute :
    (s : List ℕ) (a b : Command) → length s ≡ 8 → is_shift a ≡ true → is_shift b ≡ true → acts a ≡ true → acts b ≡ true →
    bank_next (bank_next s a) b ≡ bank_next (bank_next s b) a
shifts_commute s a b l i j p q =
    rw (shifted s a i p, shifted s b j q, shifted (added s (target a) (amount a)) b j q, shifted (added s (target b) (amount b)) a i p)
    (additions_commute s (target a) (target b) (amount a) (amount b) (omega (arith, target_below a p)))

-- Two that act.
untouched : (a b : Command) → acts a ≡ true → acts b ≡ true → (is_shift a && is_shift b) ≡ false → bank_conflict a b ≡ false → (touches b (target a) || touches a (target b)) ≡ false
untouched a b p q e h = rw (e, writes_target a p, writes_target b q) at h

active_commute :
    (s : List ℕ) (a b : Command) → length s ≡ 8 → bank_conflict a b ≡ false → acts a ≡ true → acts b ≡ true →
    bank_next (bank_next s a) b ≡ bank_next (bank_next s b) a
active_commute s a b l h p q =
    ⊎_elim
    (λ (e : (is_shift a && is_shift b) ≡ true). let i = and_parts (is_shift a) (is_shift b) e in shifts_commute s a b l i.0 i.1 p q)
    (λ (e : (is_shift a && is_shift b) ≡ false).
    let t = or_parts (touches b (target a)) (touches a (target b)) (untouched a b p q e h) in apart_commute s a b p q t.0 t.1)
    (cases_Bool (is_shift a && is_shift b))

bank_commuting : (s : List ℕ) (a b : Command) → word_cells axes s ≡ true → bank_conflict a b ≡ false → bank_next (bank_next s a) b ≡ bank_next (bank_next s b) a
bank_commuting s a b w h =
    ⊎_elim
    (λ (p : acts a ≡ true).
    ⊎_elim
    (λ (q : acts b ≡ true). active_commute s a b (cells_length 8 s w) h p q)
    (λ (q : acts b ≡ false). rw (idle s b q, idle (bank_next s a) b q))
    (cases_Bool (acts b)))
    (λ (p : acts a ≡ false). rw (idle s a p, idle (bank_next s b) a p))
    (cases_Bool (acts a))

result_below : (s : List ℕ) (c : Command) → words s ≡ true → result s c < 2 ^ 32
result_below s (Set axis value) w = wrap_below value
result_below s (Shift axis by) w = wrap_below (slice_index s axis + by)
result_below s (Couple from to) w = get_d_below s from w
result_below s (Mark code) w = omega arith

bank_keeps : (s : List ℕ) (c : Command) → word_cells axes s ≡ true → word_cells axes (bank_next s c) ≡ true
bank_keeps s c w =
    rw (written s c)
    (cond_both (acts c) (slice_set s (target c) (result s c)) s (λ t. word_cells axes t ≡ true)
    (λ _. cells_set axes s (target c) (result s c) (result_below s c (cells_words axes s w)) w) (λ _. w))

bank_symmetric : (a b : Command) → bank_conflict a b ≡ bank_conflict b a
bank_symmetric a b = rw (and_comm (is_shift a) (is_shift b), or_comm (touched_by b (writes a)) (touched_by a (writes b)))

pub bank_laws : Laws axis_bank
bank_laws =
    record {
      symmetric = bank_symmetric;
      commuting = bank_commuting;
      starts = refl;
      keeps = bank_keeps;
      counted = λ s h. cells_length axes s h;
    }
