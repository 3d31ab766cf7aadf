use Rattle.std.proofs.Common.{◌≡◌}
use Rattle.runner.proofs.Seeking.{Seeking}
use Rattle.runner.proofs.kinds.kind_of.Given as goal

abbrev pub invariant-loop-record : goal.invariant-loop-record
invariant-loop-record l =
    record {
      can : (goal.iterator-loop-record).can_next l.record-iterator;
      finite : (goal.iterator-loop-record).is_finite l.record-iterator;
      same : l.record-iterator.script.bytes.now ≡ l.script.bytes.now;
      seeking : Seeking l.script.bytes.now l.record-iterator.at;
    }
