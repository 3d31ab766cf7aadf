use Rattle.std.proofs.Common.{length}
use Rattle.runner.specs.Scripts.{kind_of_script, outcome}
use Rattle.runner.proofs.Reporting.{made_ordered, outcome_told}
use Rattle.runner.proofs.run.run_script.Goals as goal

pub returns-clause-told : goal.returns-clause-told
returns-clause-told c = outcome_told c.args.script.now (length c.args.trace.now)

pub returns-clause-ordered : goal.returns-clause-ordered
returns-clause-ordered c =
    made_ordered (kind_of_script c.args.script.now) (outcome c.args.script.now (length c.args.trace.now)).calls
