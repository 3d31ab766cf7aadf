use Rattle.std.proofs.Common.{refl, ap}
use Rattle.line.proofs.BookSteps.{at_of, read}
use Rattle.line.proofs.Matching.{matched, clock_fits, seated, seated_after, hear_fits, hear_answer_lem}
use Rattle.line.proofs.OneProof.{carried}
use Rattle.line.proofs.book.Book.hear.Goals as goal

pub proposal-proposal-requires : goal.proposal-proposal-requires
proposal-proposal-requires g c =
    let b = c.args.self.now.tables in
    let sound = carried b c.args.self.now.good in
    let r = at_of b c.args.member c.args.number c.in_ok-place.place c.in_ok-place.ensures in
    clock_fits b sound c.args.member c.args.number c.in_ok-place.place r c.from-member.result c.index-self-member.result c.from-member.ensures

pub listed-2 : goal.listed-2
listed-2 g c =
    let b = c.args.self.now.tables in
    let sound = carried b c.args.self.now.good in
    let r = at_of b c.args.member c.args.number c.in_ok-place.place c.in_ok-place.ensures in
    seated_after b sound c.args.member c.args.number c.in_ok-place.place r c.in_ok-phase.phase c.from-member.result c.put_phase.new.self c.from-member.ensures (c.put_phase.ensures r.p r.at)

pub bounds-tables-member : goal.bounds-tables-member
bounds-tables-member g c =
    let b = c.args.self.now.tables in
    let sound = carried b c.args.self.now.good in
    let r = at_of b c.args.member c.args.number c.in_ok-place.place c.in_ok-place.ensures in
    seated b sound c.args.member c.args.number c.in_ok-place.place r c.from-member.result c.from-member.ensures

pub hear-requires : goal.hear-requires
hear-requires g c =
    let b = c.args.self.now.tables in
    let sound = carried b c.args.self.now.good in
    let r = at_of b c.args.member c.args.number c.in_ok-place.place c.in_ok-place.ensures in
    let h = matched b sound c.args.member c.args.number c.in_ok-place.place r c.at-open.result.now c.from-member.result c.phase-phase.result _ _ _ c.at-open.ensures c.from-member.ensures c.phase-phase.ensures refl c.in_ok-phase.ensures in
    hear_fits b sound c.args.member c.args.number c.in_ok-place.place r g.M.Machine.kind c.in_ok-phase.phase c.from-member.result c.proposal-proposal.result c.index-self-member.result c.index-tables-member.result _ c.put_phase.new.self c.from-member.ensures (ap (λ z. z.command) (read b sound c.args.member c.args.number c.in_ok-place.place r c.at-open.result.now c.at-open.ensures)) c.proposal-proposal.ensures h (c.put_phase.ensures r.p r.at)

pub invariant_of-self : goal.invariant_of-self
invariant_of-self g c =
    let b = c.args.self.now.tables in
    let sound = carried b c.args.self.now.good in
    let r = at_of b c.args.member c.args.number c.in_ok-place.place c.in_ok-place.ensures in
    let h = matched b sound c.args.member c.args.number c.in_ok-place.place r c.at-open.result.now c.from-member.result c.phase-phase.result _ _ _ c.at-open.ensures c.from-member.ensures c.phase-phase.ensures refl c.in_ok-phase.ensures in
    record { good = ∣ (hear_answer_lem b sound c.args.member c.args.number c.in_ok-place.place r g.M.Machine.kind c.in_ok-phase.phase c.from-member.result c.proposal-proposal.result c.index-self-member.result c.index-tables-member.result _ c.put_phase.new.self c.hear.new.self c.from-member.ensures (ap (λ z. z.command) (read b sound c.args.member c.args.number c.in_ok-place.place r c.at-open.result.now c.at-open.ensures)) c.proposal-proposal.ensures h (c.put_phase.ensures r.p r.at) c.hear.ensures).1 ∣₁ }

pub returns : goal.returns
returns g c =
    let b = c.args.self.now.tables in
    let sound = carried b c.args.self.now.good in
    let r = at_of b c.args.member c.args.number c.in_ok-place.place c.in_ok-place.ensures in
    let h = matched b sound c.args.member c.args.number c.in_ok-place.place r c.at-open.result.now c.from-member.result c.phase-phase.result _ _ _ c.at-open.ensures c.from-member.ensures c.phase-phase.ensures refl c.in_ok-phase.ensures in
    (hear_answer_lem b sound c.args.member c.args.number c.in_ok-place.place r g.M.Machine.kind c.in_ok-phase.phase c.from-member.result c.proposal-proposal.result c.index-self-member.result c.index-tables-member.result _ c.put_phase.new.self c.hear.new.self c.from-member.ensures (ap (λ z. z.command) (read b sound c.args.member c.args.number c.in_ok-place.place r c.at-open.result.now c.at-open.ensures)) c.proposal-proposal.ensures h (c.put_phase.ensures r.p r.at) c.hear.ensures).0
