use Rattle.std.proofs.Common.{sym, subst}
use Rattle.script.specs.declared.faults.Cause.TheVariants.{TraceFull}
use Rattle.runner.specs.Runs.{fault_as, writes_all}
use Rattle.runner.specs.Cells.{cell_records}
use Rattle.runner.specs.Writing.{Wrote, room_of}
use Rattle.runner.proofs.Faults.{fault_is}
use Rattle.runner.proofs.CellLoops.{member_first, station_written, station_full, stations_end}
use Rattle.runner.proofs.cells.write_cells.Goals as goal

pub loop-member-init : goal.loop-member-init
loop-member-init g c = member_first (fault_as TraceFull 0 c.args.end) (g.S.Stations.held c.args.stations.now) c.args.members c.args.trace.now

pub returns-in_err-write_station : goal.returns-in_err-write_station
returns-in_err-write_station g c cs =
    subst (Wrote (writes_all cs (fault_as TraceFull 0 c.args.end) (room_of c.args.trace.now) (cell_records (g.S.Stations.held c.args.stations.now) 0 c.args.members)) c.args.trace.now c.write_station.new.trace) (sym (fault_is c.from_residual.ensures.1))
    (station_full (fault_as TraceFull 0 c.args.end) (g.S.Stations.held c.args.stations.now) c.args.members c.args.trace.now c.loop-member.trace c.write_station.new.trace c.loop-member.member c.loop-member.invariant c.loop-member-test.true c.in_err-write_station.field-0.0 c.in_err-write_station.ensures cs)

pub loop-member-preserved : goal.loop-member-preserved
loop-member-preserved g c =
    station_written (fault_as TraceFull 0 c.args.end) (g.S.Stations.held c.args.stations.now) c.args.members c.args.trace.now c.loop-member.trace c.write_station.new.trace c.loop-member.member c.loop-member.invariant c.loop-member-test.true c.in_ok-write_station.ensures

pub returns : goal.returns
returns g c =
    stations_end (fault_as TraceFull 0 c.args.end) (g.S.Stations.held c.args.stations.now) c.args.members c.args.trace.now c.loop-member.trace c.loop-member.member c.loop-member.invariant c.loop-member-test.false
