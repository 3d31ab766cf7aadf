use Rattle.std.proofs.Common.{refl}
use Rattle.ordering.proofs.Table.{cases_hold}
use Rattle.ordering.proofs.cases.cases_stand.Goals as goal

pub returns : goal.returns
returns c = record { stands = cases_hold; idle = refl }
