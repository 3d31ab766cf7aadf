use Rattle.script.specs.declared.faults.Cause.TheVariants.{TraceFull}
use Rattle.runner.specs.Runs.{fault_as}
use Rattle.runner.proofs.CellLoops.{AtMember}
use Rattle.runner.proofs.cells.write_cells.Given as goal

abbrev pub invariant-loop-member : goal.invariant-loop-member
invariant-loop-member g l =
    AtMember (fault_as TraceFull 0 l.end) (g.S.Stations.held l.stations) l.members l.initial.trace l.trace l.member
