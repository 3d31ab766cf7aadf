use Rattle.std.proofs.Common.{arith}
use Rattle.line.proofs.Opening.{opens}
use Rattle.line.proofs.book.Book.new.Goals as goal

pub returns : goal.returns
returns c = (opens c.args.members c.args.last c.empty.result c.empty.ensures (omega arith) (omega arith) (omega arith) (omega arith)).0

pub invariant_of-result : goal.invariant_of-result
invariant_of-result c = record { good = ∣ (opens c.args.members c.args.last c.empty.result c.empty.ensures (omega arith) (omega arith) (omega arith) (omega arith)).1 ∣₁ }
