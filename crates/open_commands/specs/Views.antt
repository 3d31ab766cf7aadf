-- An open command as the model has it.
use Rattle.std.specs.Prelude.{ℕ, Bool, cond, not, ◌||◌, List, replicate, Some, None, Option, slice_index_or, slice_set}
use Rattle.open_commands.specs.declared.parts.Address.{Address}
use Rattle.open_commands.specs.declared.parts.Destination.{Destination}
use Rattle.open_commands.specs.declared.parts.OpenCommand.{OpenCommand as Place}
use Rattle.machine.specs.declared.command.Command.{Command}
use Rattle.ordering.specs.declared.calls.Phase.{Phase}
use Rattle.ordering.specs.declared.calls.Phase.TheVariants.{Sent, Heard, Gathered, Settled, Run}
use Rattle.ordering.specs.Lines.{OpenCommand, is_run}
use Rattle.ordering.specs.Searches.{names}

abbrev pub unsent : Destination
unsent = record { phase = Sent }

abbrev pub phase_in : List Destination → ℕ → Phase
phase_in ds q = (slice_index_or ds q unsent).phase

abbrev pub view_open : Place → OpenCommand
view_open p =
    record { sender = p.address.sender; set = p.address.set; command = p.command; fixed = p.fixed; phase = phase_in p.destinations }

abbrev pub new_place : ℕ → Address → Command → Place
new_place k a c = record { number = k; address = a; command = c; fixed = None; destinations = replicate 16 unsent }

abbrev pub with_phase_in : Place → ℕ → Phase → Place
with_phase_in p q x =
    record { number = p.number; address = p.address; command = p.command; fixed = p.fixed; destinations = slice_set p.destinations q (record { phase = x }) }

abbrev pub with_fixed_in : Place → Option ℕ → Place
with_fixed_in p f =
    record { number = p.number; address = p.address; command = p.command; fixed = f; destinations = p.destinations }

abbrev pub gathered_by : Phase → Option ℕ
gathered_by Sent = None
gathered_by (Heard t) = None
gathered_by (Gathered t) = Some t
gathered_by Settled = None
gathered_by Run = None

-- The member's proposal once it is gathered, and 0 where it is no destination.
abbrev pub gathered_at : OpenCommand → ℕ → Option ℕ
gathered_at o q = cond (names o.set q) (gathered_by (o.phase q)) (Some 0)

-- The member has run the command or is no destination.
abbrev pub done_at : OpenCommand → ℕ → Bool
done_at o q = not (names o.set q) || is_run (o.phase q)

abbrev pub number_of : Place → ℕ
number_of p = p.number
