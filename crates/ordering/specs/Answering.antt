-- The answer of a call as one value: what it comes to, or why it is refused.
use Rattle.std.specs.Prelude.{Ok, Err}
use Rattle.ordering.specs.declared.calls.Answer.{Answer}
use Rattle.ordering.specs.declared.calls.Answer.TheVariants.{Opened, Issued, Proposed, Fixed, Clock, Ran}
use Rattle.ordering.specs.Histories.{Event, opening, sending, hearing, gathering, settling, running}
use Rattle.ordering.specs.Steps.{Outcome}

-- What is answered of a call's own outcome. A refusal stays as it is.
abbrev pub answered : {A : Type 0} → (A → Answer) → Outcome A → Outcome Answer
answered f (Ok a) = Ok (f a)
answered f (Err e) = Err e

-- What the call of an event answered.
abbrev pub answer_of : Event → Outcome Answer
answer_of (opening n last r) = answered (λ u. Opened) r
answer_of (sending sender set c r) = answered Issued r
answer_of (hearing m k r) = answered Proposed r
answer_of (gathering m k r) = answered Fixed r
answer_of (settling m k r) = answered Clock r
answer_of (running m r) = answered Ran r
