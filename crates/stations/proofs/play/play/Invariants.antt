use Rattle.std.proofs.Common.{take}
use Rattle.line.specs.Books.{view_line}
use Rattle.stations.proofs.Playing.{SoFar}
use Rattle.stations.proofs.play.play.Given as goal

abbrev pub invariant-loop-i : goal.invariant-loop-i
invariant-loop-i g l =
    SoFar g.S.Kind.Machine.kind (take l.i l.calls) l.initial.answers l.answers (view_line l.line.book) (g.S.Stations.held l.stations)
