use Rattle.std.proofs.Common.{◌≡◌, ◌-◌, length}
use Rattle.line.specs.Books.{view_line}
use Rattle.runner.proofs.StepLoop.{Going}
use Rattle.runner.proofs.steps.run_steps.Given as goal

abbrev pub invariant-loop-records : goal.invariant-loop-records
invariant-loop-records g l =
    record {
      same : l.records.script.bytes.now ≡ l.script.bytes.now;
      going : Going g.S.Kind.Machine.kind l.script.bytes.now l.initial.trace l.trace l.records.at l.records.number (view_line l.line.book) (g.S.Stations.held l.stations);
    }

abbrev pub decreases-loop-records : goal.decreases-loop-records
decreases-loop-records g l = length l.records.script.bytes.now - l.records.at
