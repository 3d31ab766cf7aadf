use Rattle.std.proofs.Common.{sym, ◌∙◌, arith}
use Rattle.open_commands.specs.Views.{view_open}
use Rattle.open_commands.proofs.Destinations.{final_stop, final_all}
use Rattle.open_commands.proofs.parts.OpenCommand.final_timestamp.Goals as goal

pub returns : goal.returns
returns c = final_all (view_open c.args.self.now) c.loop-q.q c.loop-q.greatest (omega arith) c.loop-q.invariant

pub returns-in_err-gathered : goal.returns-in_err-gathered
returns-in_err-gathered c =
    c.from_residual.ensures ∙ final_stop (view_open c.args.self.now) c.loop-q.q (omega arith) (sym c.gathered.ensures ∙ c.in_err-gathered.was)
