-- The layer and the number of each fault.
use Rattle.std.specs.Prelude.{ℕ}
use Rattle.script.specs.declared.faults.Cause.{Cause}
use Rattle.script.specs.declared.faults.Cause.TheVariants.{ScriptTooLong, BadText, FieldCount, UnknownLetter, BadNumber, NotEmpty, TraceFull}
use Rattle.script.specs.declared.faults.Layer.{Layer}
use Rattle.script.specs.declared.faults.Layer.TheVariants.{Text, Step, Trace}

abbrev pub row : Cause → Layer × ℕ
row ScriptTooLong = (Trace, 20)
row BadText = (Text, 21)
row FieldCount = (Step, 22)
row UnknownLetter = (Step, 23)
row BadNumber = (Step, 24)
row NotEmpty = (Step, 25)
row TraceFull = (Trace, 26)
