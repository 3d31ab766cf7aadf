use Rattle.std.proofs.Common.{sym, ap, ◌∙◌}
use Rattle.open_commands.specs.Places.{ready_in}
use Rattle.open_commands.proofs.Best.{best_skip, best_keep, best_blocked, best_take}
use Rattle.open_commands.proofs.table.better.Goals as goal

pub returns-in_default : goal.returns-in_default
returns-in_default g c b =
    best_skip g.M.Machine.kind c.args.member c.args.commands.now c.args.place c.args.command.now c.requires c.args.best (ap (ready_in g.M.Machine.kind c.args.member c.args.commands.now c.args.command.now) (sym c.settled.ensures ∙ c.in_default.is)) b

pub returns-then-not-improves : goal.returns-then-not-improves
returns-then-not-improves g c b =
    best_keep g.M.Machine.kind c.args.member c.args.commands.now c.args.place c.args.command.now c.requires c.in-Some.timestamp (sym c.settled.ensures ∙ c.in-Some.is) c.args.best (sym c.improves.ensures ∙ c.if-not-improves.true) b

pub returns-then-not-all_pass : goal.returns-then-not-all_pass
returns-then-not-all_pass g c b =
    best_blocked g.M.Machine.kind c.args.member c.args.commands.now c.args.place c.args.command.now c.requires c.in-Some.timestamp (sym c.settled.ensures ∙ c.in-Some.is) c.args.best (sym c.all_pass.ensures ∙ c.if-not-all_pass.true) b

pub returns : goal.returns
returns g c b =
    best_take g.M.Machine.kind c.args.member c.args.commands.now c.args.place c.args.command.now c.requires c.in-Some.timestamp (sym c.settled.ensures ∙ c.in-Some.is) c.args.best (sym c.improves.ensures ∙ c.if-not-improves.false) (sym c.all_pass.ensures ∙ c.if-not-all_pass.false) b
