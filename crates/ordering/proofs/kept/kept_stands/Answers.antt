use Rattle.std.proofs.Common.{refl}
use Rattle.ordering.specs.Worlds.{after}
use Rattle.ordering.proofs.SoundSteps.{sound_step, sound_after, keeps_line}
use Rattle.ordering.proofs.kept.kept_stands.Goals as goal

pub returns : goal.returns
returns c = record { stands = record { lines = λ K cs. keeps_line (after K cs).line (sound_after K cs); steps = sound_step }; idle = refl }
