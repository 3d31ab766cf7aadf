-- What a call finds in the tables, by places.
use Rattle.std.specs.Prelude.{◌≡◌, ℕ, ◌<◌, length, Some, Ok, Err, Result}
use Rattle.std.specs.List.{slice_get}
use Rattle.line.specs.declared.parts.Tables.{Tables}
use Rattle.open_commands.specs.declared.parts.OpenCommand.{OpenCommand as Place}
use Rattle.open_commands.specs.Views.{view_open}
use Rattle.line.specs.Tables.{live, view_tables}
use Rattle.ordering.specs.declared.calls.Refusal.{Refusal}
use Rattle.ordering.specs.Steps.{reach}

-- The place that a call for a member and a number reaches, or the refusal.
abbrev pub Reaches : Tables → ℕ → ℕ → Result ℕ Refusal → Type 0
Reaches b m k (Ok i) = (p : Place) × (slice_get (live b) i ≡ Some p) × (p.number ≡ k) × (reach (view_tables b) m k ≡ Ok (view_open p)) × (i < length (live b)) × (m < b.members)
Reaches b m k (Err e) = reach (view_tables b) m k ≡ Err e
