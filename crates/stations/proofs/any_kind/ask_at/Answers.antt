use Rattle.std.proofs.Common.{◌≤◌, length, sym, ◌∙◌, subst}
use Rattle.line.specs.Books.{view_line}
use Rattle.stations.proofs.Together.{sixteen, still_each, asked_place, asked_spare}
use Rattle.stations.proofs.any_kind.ask_at.Goals as goal

pub returns-then-place-stations-clause-asked : goal.returns-then-place-stations-clause-asked
returns-then-place-stations-clause-asked g c =
    asked_place c.args.stations.now c.requires c.from-place.result c.index-stations-place.result c.ask.new.station c.if-place-stations.true g.M.Machine.cells g.M.Machine.kind (view_line c.args.line.now.book) c.args.call c.ask.result (view_line c.ask.new.self.book) (c.from-place.ensures ∙ c.member_of-member.ensures) c.ask.ensures.steps

pub returns-then-place-stations-clause-each : goal.returns-then-place-stations-clause-each
returns-then-place-stations-clause-each g c =
    still_each c.args.stations.now c.requires c.from-place.result c.index-stations-place.result c.ask.new.station c.if-place-stations.true c.ask.ensures.stays

pub returns-else-place-stations-clause-asked : goal.returns-else-place-stations-clause-asked
returns-else-place-stations-clause-asked g c =
    let far : 16 ≤ c.new.result.member = subst (λ n. n ≤ c.new.result.member) (sixteen c.args.stations.now c.requires) (subst (λ m. length c.args.stations.now ≤ m) (c.from-place.ensures ∙ sym c.new.ensures.of) c.if-place-stations.false) in
    asked_spare g.M.Machine.kind (view_line c.args.line.now.book) c.args.call c.new.result.member _ c.ask-else-place-stations.result _ _ _ far (c.new.ensures.of ∙ c.member_of-member.ensures) c.ask-else-place-stations.ensures.steps
