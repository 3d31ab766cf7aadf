-- A line's tables as the model has them: by issue number, without places.
use Rattle.std.specs.Prelude.{◌≡◌, ℕ, ◌^◌, ◌<◌, ◌≤◌, true, List, length, Some, Option, slice_index_or, slice_set}
use Rattle.std.specs.List.{slice_get}
use Rattle.line.specs.declared.parts.Tables.{Tables}
use Rattle.line.specs.declared.parts.Member.{Member as Seat}
use Rattle.open_commands.specs.declared.parts.OpenCommand.{OpenCommand as Place}
use Rattle.line.specs.declared.parts.Remembered.{Remembered}
use Rattle.open_commands.specs.Views.{number_of, view_open}
use Rattle.line.specs.Listings.{written, moved_last}
use Rattle.line.specs.Views.{new_seat, memory}
use Rattle.machine.specs.declared.command.Command.{Command}
use Rattle.ordering.specs.Kept.{Sound}
use Rattle.ordering.specs.Lines.{OpenCommand, Member, Book}
use Rattle.open_commands.specs.Lists.{lookup_by, mapped, apart}

abbrev pub held_number : Remembered → ℕ
held_number r = r.number

abbrev pub held_command : Remembered → Command
held_command r = r.command

-- The open commands.
abbrev pub live : Tables → List Place
live b = b.commands.0

abbrev pub view_table : List Place → ℕ → Option OpenCommand
view_table ps k = mapped view_open (lookup_by number_of ps k)

abbrev pub view_memory : List Remembered → ℕ → Option Command
view_memory rs k = mapped held_command (lookup_by held_number rs k)

abbrev pub view_member : Seat → Member
view_member p = record { clock = p.clock; remembers = view_memory (memory p) }

abbrev pub view_tables : Tables → Book
view_tables b =
    record {
      members = b.members;
      last = b.last;
      issued = b.issued;
      table = view_table (live b);
      member = λ m. view_member (slice_index_or b.roll m new_seat);
    }

abbrev pub with_place : Tables → ℕ → Place → Tables
with_place b i p =
    record { members = b.members; last = b.last; issued = b.issued; commands = written b.commands i p; roll = b.roll }

abbrev pub with_seat : Tables → ℕ → Seat → Tables
with_seat b m p =
    record { members = b.members; last = b.last; issued = b.issued; commands = b.commands; roll = slice_set b.roll m p }

-- The last open command moved to place i, and one place fewer.
abbrev pub removed_at : Tables → ℕ → Place → Tables
removed_at b i p =
    record { members = b.members; last = b.last; issued = b.issued; commands = moved_last b.commands i p; roll = b.roll }

-- A member's memory is within its places, and its numbers are apart.
pub record SeatFits (p : Seat) : Type 0 where
  pub few : length (memory p) ≤ 16
  pub distinct : apart held_number (memory p) ≡ true

-- The tables are within their places, and the numbers are apart.
pub record Fits (b : Tables) : Type 0 where
  pub few : length (live b) ≤ 32
  pub seats : length b.roll ≡ 16
  pub numbers : b.issued ≤ b.last
  pub lasts : b.last ≤ 2 ^ 48
  pub distinct : apart number_of (live b) ≡ true
  pub wide : (i : ℕ) (p : Place) → slice_get (live b) i ≡ Some p → length p.destinations ≡ 16
  pub seated : (m : ℕ) → m < 16 → SeatFits (slice_index_or b.roll m new_seat)

-- What every open line carries in its type.
pub record Good (b : Tables) : Type 0 where
  pub fits : Fits b
  pub sound : Sound (view_tables b)
