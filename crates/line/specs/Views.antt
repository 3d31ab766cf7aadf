-- What a member holds, and what a step does to it.
use Rattle.std.specs.Prelude.{ℕ, ◌+◌, Bool, cond, not, ◌&&◌, ◌||◌, List, [], length, replicate, ◌==◌, nat_eq, nat_le, nat_lt}
use Rattle.line.specs.declared.parts.Member.{Member as Seat}
use Rattle.line.specs.declared.parts.Remembered.{Remembered}
use Rattle.machine.specs.declared.command.Command.{Command}
use Rattle.machine.specs.Kinds.{Kind}
use Rattle.line.specs.Listings.{emptied, pushed}
use Rattle.machine.specs.declared.command.Command.TheVariants.{Set}
use Rattle.std.specs.List.{list_any}

abbrev pub blank_remembered : Remembered
blank_remembered = record { number = 0; command = Set 0 0 }

-- A member at clock 0 that remembers nothing.
abbrev pub new_seat : Seat
new_seat = record { clock = 0; remembered = ([], replicate 16 blank_remembered) }

-- The commands that a member remembers.
abbrev pub memory : Seat → List Remembered
memory p = p.remembered.0

abbrev pub any_clash : Kind → Command → List Remembered → Bool
any_clash K c = list_any (λ r. K.conflict r.command c)

abbrev pub any_number : ℕ → List Remembered → Bool
any_number k = list_any (λ r. nat_eq r.number k)

abbrev pub risen_seat : Seat → Seat
risen_seat p = record { clock = p.clock + 1; remembered = emptied p.remembered }

abbrev pub remember_in : Seat → ℕ → Command → Seat
remember_in p k c =
    record { clock = p.clock; remembered = pushed p.remembered (record { number = k; command = c }) }

abbrev pub rises_in : Kind → Seat → Command → Bool
rises_in K p c = nat_le 16 (length (memory p)) || any_clash K c (memory p)

abbrev pub proposal_in : Kind → Seat → Command → ℕ
proposal_in K p c = cond (rises_in K p c) (p.clock + 1) p.clock

abbrev pub lift_in : Seat → ℕ → Seat
lift_in p t = cond (nat_lt p.clock t) (record { clock = t; remembered = emptied p.remembered }) p

abbrev pub hear_in : Seat → ℕ → Command → ℕ → Seat
hear_in p k c t = remember_in (lift_in p t) k c

abbrev pub settle_in : Seat → ℕ → Command → ℕ → Seat
settle_in p k c f =
    cond (nat_lt p.clock f)
    (remember_in (lift_in p f) k c)
    (cond (f == p.clock && not (any_number k (memory p))) (cond (nat_le 16 (length (memory p))) (risen_seat p) (remember_in p k c)) p)
