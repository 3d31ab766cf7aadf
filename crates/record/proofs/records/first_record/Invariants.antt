use Rattle.std.proofs.Common.{map, length}
use Rattle.record.specs.Bytes.{piece_of}
use Rattle.record.proofs.Loop.{Going}
use Rattle.record.proofs.records.first_record.Given as goal

abbrev pub invariant-loop-cut : goal.invariant-loop-cut
invariant-loop-cut l =
    Going l.script.bytes.now l.script.at (map piece_of l.initial.fields) l.left.0.now l.left.1.0 l.count (map piece_of l.fields)

abbrev pub decreases-loop-cut : goal.decreases-loop-cut
decreases-loop-cut l = length l.left.0.now
