-- Below the last member the bit is read, and past it a set of sixteen members has none.
use Rattle.std.proofs.Common.{◌/◌, ◌^◌, ◌<◌, ◌&&◌, eqb, sym, ap, ◌∙◌, rules}
use Rattle.std.proofs.lemmas.Bool.{lt-ltb, le-ltb}
use lib.Bits.{and_mask}
use Rattle.open_commands.proofs.Destinations.{names_none}
use Rattle.ordering.specs.Searches.{names}
use Rattle.open_commands.proofs.parts.Address.names.Goals as goal

pub returns-then-member-lt-MEMBERS-clause-bit : goal.returns-then-member-lt-MEMBERS-clause-bit
unfolding names
returns-then-member-lt-MEMBERS-clause-bit c = ap (λ x. eqb x 1) (and_mask (c.args.self.set / 2 ^ c.args.member) 1)

pub returns-then-member-lt-MEMBERS-clause-within : goal.returns-then-member-lt-MEMBERS-clause-within
returns-then-member-lt-MEMBERS-clause-within c =
    returns-then-member-lt-MEMBERS-clause-bit c ∙ sym (ap (λ t. t && names c.args.self.set c.args.member) (lt-ltb _ _ c.if-member-lt-MEMBERS.true))

pub returns-else-member-lt-MEMBERS-clause-bit : goal.returns-else-member-lt-MEMBERS-clause-bit
returns-else-member-lt-MEMBERS-clause-bit c =
    let small : c.args.self.set < 2 ^ 16 = search rules in
    le-ltb _ _ c.if-member-lt-MEMBERS.false ∙ sym (names_none c.args.self.set c.args.member small c.if-member-lt-MEMBERS.false)
