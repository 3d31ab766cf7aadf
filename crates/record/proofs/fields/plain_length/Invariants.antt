use Rattle.std.proofs.Common.{◌≡◌, ◌+◌, drop}
use Rattle.std.specs.List.{prefix_len}
use Rattle.record.specs.Bytes.{textdata}
use Rattle.record.proofs.fields.plain_length.Given as goal

abbrev pub invariant-loop-i : goal.invariant-loop-i
invariant-loop-i l = prefix_len textdata l.bytes ≡ l.i + prefix_len textdata (drop l.i l.bytes)
