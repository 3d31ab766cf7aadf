-- What the searches over open commands answer, by places.
use Rattle.std.specs.Prelude.{◌≡◌, ℕ, ◌<◌, ◌≤◌, Bool, true, false, cond, ◌&&◌, List, length, Some, None, Ok, Err, Option, Result, nat_lt}
use Rattle.std.specs.List.{slice_get, list_all}
use Rattle.open_commands.specs.declared.parts.Address.{Address}
use Rattle.open_commands.specs.declared.parts.OpenCommand.{OpenCommand as Place}
use Rattle.open_commands.specs.declared.table.Candidate.{Candidate}
use Rattle.open_commands.specs.Lists.{lookup_by}
use Rattle.open_commands.specs.Views.{number_of, view_open}
use Rattle.machine.specs.declared.command.Command.{Command}
use Rattle.machine.specs.Kinds.{Kind}
use Rattle.ordering.specs.declared.calls.Refusal.{Refusal}
use Rattle.ordering.specs.declared.calls.Refusal.TheVariants.{NoMember, BadSet}
use Rattle.ordering.specs.Searches.{Pair, earlier}
use Rattle.ordering.specs.Steps.{lawful_set, passes, settled_as}

-- The place of the command with number k.
abbrev pub FoundAt : List Place → ℕ → Option ℕ → Type 0
FoundAt ps k None = lookup_by number_of ps k ≡ None
FoundAt ps k (Some i) = (i < length ps) × (lookup_by number_of ps k ≡ slice_get ps i)

-- Every place passes the pair and the command at member m.
abbrev pub all_pass : Kind → ℕ → Pair → Command → List Place → Bool
all_pass K m p c = list_all (λ o. passes K m p c o.number (Some (view_open o)))

-- The final timestamp of the command at a place, if it is ready at member m.
abbrev pub ready_in : Kind → ℕ → List Place → Place → Option ℕ → Option ℕ
ready_in K m ps o None = None
ready_in K m ps o (Some f) = cond (all_pass K m (f, o.number) o.command ps) (Some f) None

abbrev pub ready_place : Kind → ℕ → List Place → Place → Option ℕ
ready_place K m ps o = ready_in K m ps o (settled_as m (Some (view_open o)))

-- A pair is earlier than that of the candidate, where there is one.
abbrev pub improves_on : Option Candidate → Pair → Bool
improves_on None p = true
improves_on (Some c) p = earlier p c.pair

-- Of the commands below place n, the candidate is the earliest ready one.
abbrev pub BestTo : Kind → ℕ → List Place → ℕ → Option Candidate → Type 0
BestTo K m ps n None = (j : ℕ) (q : Place) → j < n → slice_get ps j ≡ Some q → ready_place K m ps q ≡ None
BestTo K m ps n (Some c) =
    (o : Place) × (slice_get ps c.place ≡ Some o) × (c.pair.1 ≡ o.number) × (ready_place K m ps o ≡ Some c.pair.0) × ((j g : ℕ) (q : Place) → j < n → slice_get ps j ≡ Some q → ready_place K m ps q ≡ Some g → (c.pair.0 ≤ g) × (c.pair.0 ≡ g → c.pair.1 ≤ q.number))

-- The address of a lawful sender and set, or why there is none.
abbrev pub AddressMade : ℕ → ℕ → ℕ → Result Address Refusal → Type 0
AddressMade n sender set (Ok a) =
    (a.sender ≡ sender) × (a.set ≡ set) × (nat_lt sender n ≡ true) × (lawful_set n set ≡ true)
AddressMade n sender set (Err e) =
    (e ≡ cond (nat_lt sender n) BadSet NoMember) × ((nat_lt sender n && lawful_set n set) ≡ false)

-- The earliest ready command at a member below 16, and none at another.
abbrev pub EarliestAt : Kind → ℕ → List Place → Option Candidate → Type 0
EarliestAt K m ps r = (m < 16 → BestTo K m ps (length ps) r) × (16 ≤ m → r ≡ None)
