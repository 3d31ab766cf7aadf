use Rattle.trace.proofs.Appending.{then}
use Rattle.trace.specs.Records.{fields_record}
use Rattle.trace.proofs.Trace.fields.Goals as goal

pub returns : goal.returns
unfolding fields_record
returns c =
    then _ _ _ _ _ c.field.ensures (then _ _ _ _ _ c.field-2.ensures (then _ _ _ _ _ c.field-3.ensures (then _ _ _ _ _ c.byte.ensures c.byte-2.ensures)))
