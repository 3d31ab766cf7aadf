-- The array has eight places, and the numbers of the command at hand are below 2^32.
use Rattle.std.proofs.Common.{◌∷◌, ◌+◌, ◌%◌, ap, arith}
use Rattle.machine.specs.Entries.{moved_on}
use Rattle.machine.proofs.recorder.RecorderMachine.run.Goals as goal

pub returns : goal.returns
returns c =
    ap (λ cells. (c.args.self.now.count + 1) % 4294967296 ∷ cells) (moved_on c.args.self.now.latest c.args.command (omega arith) c.fits_words.ensures)
