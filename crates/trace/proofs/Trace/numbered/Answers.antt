use Rattle.trace.proofs.Appending.{then}
use Rattle.trace.specs.Records.{fields_record}
use Rattle.trace.proofs.Trace.numbered.Goals as goal

pub returns : goal.returns
unfolding fields_record
returns c = then _ _ _ _ _ c.decimal.ensures c.fields.ensures
