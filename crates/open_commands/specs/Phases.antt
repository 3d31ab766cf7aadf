-- What a step does to the phase of a destination.
use Rattle.std.specs.Prelude.{Some, None, Ok, Err}
use Rattle.open_commands.specs.declared.phases.Step.{Step}
use Rattle.open_commands.specs.declared.phases.Step.TheVariants.{Hear, Gather, Settle}
use Rattle.ordering.specs.declared.calls.Phase.{Phase}
use Rattle.ordering.specs.declared.calls.Phase.TheVariants.{Sent, Heard, Gathered, Settled, Run}
use Rattle.ordering.specs.declared.calls.Refusal.TheVariants.{TooEarly, AlreadyDone}
use Rattle.ordering.specs.Steps.{Outcome}

abbrev pub next_phase : Phase → Step → Outcome Phase
next_phase Sent (Hear t) = Ok (Heard t)
next_phase (Heard u) (Hear t) = Err AlreadyDone
next_phase (Gathered u) (Hear t) = Err AlreadyDone
next_phase Settled (Hear t) = Err AlreadyDone
next_phase Run (Hear t) = Err AlreadyDone
next_phase Sent Gather = Err TooEarly
next_phase (Heard u) Gather = Ok (Gathered u)
next_phase (Gathered u) Gather = Err AlreadyDone
next_phase Settled Gather = Err AlreadyDone
next_phase Run Gather = Err AlreadyDone
next_phase Sent (Settle None) = Err TooEarly
next_phase (Heard u) (Settle None) = Err TooEarly
next_phase (Gathered u) (Settle None) = Err TooEarly
next_phase Settled (Settle None) = Err TooEarly
next_phase Run (Settle None) = Err TooEarly
next_phase Sent (Settle (Some f)) = Err TooEarly
next_phase (Heard u) (Settle (Some f)) = Err TooEarly
next_phase (Gathered u) (Settle (Some f)) = Ok Settled
next_phase Settled (Settle (Some f)) = Err AlreadyDone
next_phase Run (Settle (Some f)) = Err AlreadyDone
