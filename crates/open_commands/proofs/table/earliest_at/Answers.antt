use Rattle.std.proofs.Common.{subst, arith}
use Rattle.open_commands.specs.Places.{BestTo}
use Rattle.open_commands.proofs.table.earliest_at.Goals as goal

pub returns : goal.returns
returns g c =
    subst (λ n. BestTo g.M.Machine.kind c.args.member c.args.commands.now n c.loop-place.best) (omega arith) c.loop-place.invariant
