use Rattle.std.proofs.lemmas.Option.{none-some}
use Rattle.std.proofs.Common.{◌+◌, ◌<◌, ◌≤◌, length, sym, ◌∙◌, subst, arith, rules}
use Rattle.script.specs.declared.faults.Cause.TheVariants.{TraceFull}
use Rattle.runner.specs.Runs.{fault_as}
use Rattle.runner.specs.Cells.{station_records}
use Rattle.runner.specs.Writing.{WroteRecords, room_of}
use Rattle.runner.proofs.Faults.{full_trace, room_left}
use Rattle.runner.proofs.CellLoops.{AtCell, read_there, cell_full, cell_written}
use Rattle.runner.proofs.cells.write_station.Goals.{in-Some, in_default}
use Rattle.runner.proofs.cells.write_station.Goals as goal

pub returns-in_err-room_for_record : goal.returns-in_err-room_for_record
returns-in_err-room_for_record g c =
    let lt : c.loop-i.i < length (g.S.Stations.held c.args.stations.now c.args.member) = let a = c.loop-i-test.true in let b = c.CELLS-i-end.ensures in let q = g.met.S.Kind.Machine.counted in let d = c.requires.counted in omega arith in
    let e = full_trace {full = fault_as TraceFull 0 c.args.end} c.from_residual.ensures.1 c.in_err-room_for_record.ensures in
    subst (WroteRecords (fault_as TraceFull 0 c.args.end) (station_records c.args.member 0 (g.S.Stations.held c.args.stations.now c.args.member)) c.args.trace.now c.loop-i.trace) (sym e.1)
    (cell_full (fault_as TraceFull 0 c.args.end) c.args.member (g.S.Stations.held c.args.stations.now c.args.member) c.args.trace.now c.loop-i.trace c.loop-i.i c.loop-i.invariant lt e.0)

pub loop-i-preserved : goal.loop-i-preserved
loop-i-preserved g c =
    let lt : c.loop-i.i < length (g.S.Stations.held c.args.stations.now c.args.member) = let a = c.loop-i-test.true in let b = c.CELLS-i-end.ensures in let q = g.met.S.Kind.Machine.counted in let d = c.requires.counted in omega arith in
    let there = read_there c.args.member (g.S.Stations.held c.args.stations.now c.args.member) c.loop-i.i c.read.result c.requires.near lt c.read.ensures in
    let room : 48 ≤ room_of c.loop-i.trace = room_left _ c.in_ok-room_for_record.ensures in
    elim c.match-read.branch [
      | in-Some w ↦
          subst (λ t. AtCell (fault_as TraceFull 0 c.args.end) c.args.member (g.S.Stations.held c.args.stations.now c.args.member) c.args.trace.now t (c.loop-i.i + 1)) (sym w.trace-is)
          (cell_written (fault_as TraceFull 0 c.args.end) c.args.member (g.S.Stations.held c.args.stations.now c.args.member) c.args.trace.now c.loop-i.trace c.loop-i.i c.loop-i.invariant lt w.in-Some.value w.cell.new.self room (let a = c.requires.near in omega arith) (let a = c.loop-i-test.true in let b = c.CELLS-i-end.type_inv in omega arith) (search rules) (sym w.in-Some.is ∙ there) w.cell.ensures)
      | in_default w ↦ absurd (none-some _ (sym w.in_default.is ∙ there))
    ]
