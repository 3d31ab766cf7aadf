use Rattle.std.proofs.Common.{rules}
use Rattle.example_runs.proofs.Shared.{shared_same, shared_ends}
use Rattle.example_runs.proofs.first_difference.Goals as goal

pub returns-else-eq : goal.returns-else-eq
returns-else-eq c = rw c.shared_len.ensures (shared_same c.args.a.now c.args.b.now, shared_ends c.args.a.now c.args.b.now (search rules))
