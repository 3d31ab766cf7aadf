use Rattle.std.proofs.Common.{refl}
use Rattle.ordering.proofs.Always.{ordered_always}
use Rattle.ordering.proofs.ordered.ordering_stands.Goals as goal

pub returns : goal.returns
returns g c = record { stands = ordered_always g.M.Machine.kind g.met.M.Machine.lawful; idle = refl }
