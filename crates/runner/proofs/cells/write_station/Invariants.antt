use Rattle.script.specs.declared.faults.Cause.TheVariants.{TraceFull}
use Rattle.runner.specs.Runs.{fault_as}
use Rattle.runner.proofs.CellLoops.{AtCell}
use Rattle.runner.proofs.cells.write_station.Given as goal

abbrev pub invariant-loop-i : goal.invariant-loop-i
invariant-loop-i g l =
    AtCell (fault_as TraceFull 0 l.end) l.member (g.S.Stations.held l.stations l.member) l.initial.trace l.trace l.i
