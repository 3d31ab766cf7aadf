use Rattle.std.proofs.Common.{rules}
use Rattle.cartoner.proofs.Neighbours.{pairs_from}
use Rattle.cartoner.proofs.conflicts.neighbours_in_conflict.Goals as goal

pub returns-in-Some : goal.returns-in-Some
returns-in-Some g c = search (rules, pairs_from)
