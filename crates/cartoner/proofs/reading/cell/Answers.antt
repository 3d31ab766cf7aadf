use Rattle.std.proofs.Common.{rules}
use Rattle.std.proofs.lemmas.Option.{unwrap_or-slice_get}
use Rattle.cartoner.proofs.reading.cell.Goals as goal

pub returns : goal.returns
returns g c = search (rules, unwrap_or-slice_get)
