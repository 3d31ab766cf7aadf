-- What every line keeps, whatever calls it is asked.
use Rattle.std.specs.Prelude.{List}
use Rattle.machine.specs.Kinds.{Kind}
use Rattle.ordering.specs.declared.calls.Call.{Call}
use Rattle.ordering.specs.Kept.{SoundLine, KeepsLine}
use Rattle.ordering.specs.Lines.{Line}
use Rattle.ordering.specs.Worlds.{after, step}

-- After any calls of a new line what is kept holds; and each call, accepted or refused, keeps the whole of it.
pub record EveryLineKeeps : Type 0 where
  pub lines : (K : Kind) (cs : List Call) → KeepsLine (after K cs).line
  pub steps : (K : Kind) (l : Line) (c : Call) → SoundLine l → SoundLine (step K l c).line
