use Rattle.std.proofs.Common.{◌^◌, not, sym, ap, arith, pow_mono}
use Rattle.std.proofs.lemmas.Bool.{lt-ltb}
use Rattle.open_commands.proofs.address.names_others.Goals as goal

pub returns-then-members-ge16 : goal.returns-then-members-ge16
returns-then-members-ge16 c =
    sym (ap not (lt-ltb c.args.set (2 ^ c.args.members) (omega (arith, pow_mono c.if-members-ge16.true))))
