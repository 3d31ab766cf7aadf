use Rattle.script.proofs.Digits.{Reading}
use Rattle.script.proofs.numbers.read_digits.Given as goal

abbrev pub invariant-loop-b : goal.invariant-loop-b
invariant-loop-b l = Reading l.text l.b-index l.number
