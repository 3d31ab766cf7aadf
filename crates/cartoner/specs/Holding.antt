-- Commands that a value can hold.
use Rattle.std.specs.Prelude.{◌<◌}
use Rattle.machine.specs.declared.command.Command.{Command}
use Rattle.machine.specs.declared.command.Command.TheVariants.{Set, Shift, Couple, Mark}

-- The axes that the command names are bytes.
abbrev pub ByteAxes : Command → Type 0
ByteAxes (Set axis value) = axis < 256
ByteAxes (Shift axis amount) = axis < 256
ByteAxes (Couple from to) = (from < 256) × (to < 256)
ByteAxes (Mark code) = Unit {0}
