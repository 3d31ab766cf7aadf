use Rattle.std.proofs.Common.{ap, ◌∙◌, arith}
use Rattle.open_commands.specs.Views.{with_phase_in}
use Rattle.line.specs.Tables.{with_place}
use Rattle.line.proofs.FixedLists.{lent, given_back}
use Rattle.line.proofs.parts.Tables.put_phase.Goals as goal

pub returns : goal.returns
returns c p at =
    let l = c.commands.inside in
    ap (λ cs. record { members = c.args.self.now.members; last = c.args.self.now.last; issued = c.args.self.now.issued; commands = cs; roll = c.args.self.now.roll }) (given_back l.places l.len c.args.self.now.commands c.commands.view_is (omega (arith, c.commands.invariant)) c.args.place c.put_phase.new.self)
    ∙ ap (with_place c.args.self.now c.args.place) (c.put_phase.ensures ∙ ap (λ x. with_phase_in x c.args.member c.args.phase) (lent l.places l.len c.args.self.now.commands c.commands.view_is c.args.place p c.index-open-place.result at))
