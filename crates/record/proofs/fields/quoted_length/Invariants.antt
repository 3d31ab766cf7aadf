use Rattle.std.proofs.Common.{◌≡◌, ◌+◌, ◌≤◌, length}
use Rattle.record.specs.Cut.{inside}
use Rattle.record.proofs.fields.quoted_length.Given as goal

-- what was passed, and what is text of the rest
abbrev pub invariant-loop-more : goal.invariant-loop-more
invariant-loop-more l = (inside l.bytes + length l.rest ≡ length l.bytes + inside l.rest) × (length l.rest ≤ length l.bytes)

abbrev pub decreases-loop-more : goal.decreases-loop-more
decreases-loop-more l = length l.rest
