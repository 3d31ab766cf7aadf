-- The numbers of the refusals, in the order of checking.
use Rattle.std.specs.Prelude.{ℕ}
use Rattle.ordering.specs.declared.calls.Refusal.{Refusal}
use Rattle.ordering.specs.declared.calls.Refusal.TheVariants.{AlreadyOpen, BadMemberCount, BadLastNumber, Closed, NoMember, BadSet, NumbersUsedUp, TableFull, NoCommand, NoDestination, TooEarly, AlreadyDone, NothingReady}

abbrev pub refusal_number : Refusal → ℕ
refusal_number AlreadyOpen = 1
refusal_number BadMemberCount = 2
refusal_number BadLastNumber = 3
refusal_number Closed = 4
refusal_number NoMember = 5
refusal_number BadSet = 6
refusal_number NumbersUsedUp = 7
refusal_number TableFull = 8
refusal_number NoCommand = 9
refusal_number NoDestination = 10
refusal_number TooEarly = 11
refusal_number AlreadyDone = 12
refusal_number NothingReady = 13
