use Rattle.std.proofs.Common.{refl, ap}
use Rattle.open_commands.specs.declared.phases.Step.TheVariants.{Settle}
use Rattle.line.proofs.BookSteps.{at_of, read}
use Rattle.line.proofs.Matching.{matched, seated, seated_written, clock_fits_after, settle_answer_lem}
use Rattle.line.proofs.OneProof.{carried}
use Rattle.line.proofs.book.Book.settle.Goals as goal

pub listed-2 : goal.listed-2
listed-2 c =
    let b = c.args.self.now.tables in
    let sound = carried b c.args.self.now.good in
    let r = at_of b c.args.member c.args.number c.in_ok-place.place c.in_ok-place.ensures in
    seated_written b sound c.args.member c.args.number c.in_ok-place.place r c.in_ok-phase.phase c.from-member.result c.put_phase.new.self _ c.from-member.ensures (c.put_phase.ensures r.p r.at)

pub bounds-tables-member-2 : goal.bounds-tables-member-2
bounds-tables-member-2 c =
    let b = c.args.self.now.tables in
    let sound = carried b c.args.self.now.good in
    let r = at_of b c.args.member c.args.number c.in_ok-place.place c.in_ok-place.ensures in
    seated b sound c.args.member c.args.number c.in_ok-place.place r c.from-member.result c.from-member.ensures

pub settle-requires : goal.settle-requires
settle-requires c =
    let b = c.args.self.now.tables in
    let sound = carried b c.args.self.now.good in
    let r = at_of b c.args.member c.args.number c.in_ok-place.place c.in_ok-place.ensures in
    clock_fits_after b sound c.args.member c.args.number c.in_ok-place.place r c.in_ok-phase.phase c.from-member.result c.index-tables-member.result c.put_phase.new.self c.from-member.ensures (c.put_phase.ensures r.p r.at)

pub invariant_of-self : goal.invariant_of-self
invariant_of-self c =
    let b = c.args.self.now.tables in
    let sound = carried b c.args.self.now.good in
    let r = at_of b c.args.member c.args.number c.in_ok-place.place c.in_ok-place.ensures in
    let own = read b sound c.args.member c.args.number c.in_ok-place.place r c.at-open.result.now c.at-open.ensures in
    let h = matched b sound c.args.member c.args.number c.in_ok-place.place r c.at-open.result.now c.from-member.result c.phase.result _ (Settle r.p.fixed) _ c.at-open.ensures c.from-member.ensures c.phase.ensures (ap (λ z. Settle z.fixed) own) c.in_ok-phase.ensures in
    record { good = ∣ (settle_answer_lem b sound c.args.member c.args.number c.in_ok-place.place r c.in_ok-phase.phase c.from-member.result c.unwrap-timestamp.result c.index-tables-member.result c.index-tables-member-2.result _ _ c.put_phase.new.self c.settle.new.self _ c.from-member.ensures (ap (λ z. z.command) own) (ap (λ z. z.fixed) own) c.unwrap-timestamp.ensures h (c.put_phase.ensures r.p r.at) c.settle.ensures refl).1 ∣₁ }

pub returns : goal.returns
returns c =
    let b = c.args.self.now.tables in
    let sound = carried b c.args.self.now.good in
    let r = at_of b c.args.member c.args.number c.in_ok-place.place c.in_ok-place.ensures in
    let own = read b sound c.args.member c.args.number c.in_ok-place.place r c.at-open.result.now c.at-open.ensures in
    let h = matched b sound c.args.member c.args.number c.in_ok-place.place r c.at-open.result.now c.from-member.result c.phase.result _ (Settle r.p.fixed) _ c.at-open.ensures c.from-member.ensures c.phase.ensures (ap (λ z. Settle z.fixed) own) c.in_ok-phase.ensures in
    (settle_answer_lem b sound c.args.member c.args.number c.in_ok-place.place r c.in_ok-phase.phase c.from-member.result c.unwrap-timestamp.result c.index-tables-member.result c.index-tables-member-2.result _ _ c.put_phase.new.self c.settle.new.self _ c.from-member.ensures (ap (λ z. z.command) own) (ap (λ z. z.fixed) own) c.unwrap-timestamp.ensures h (c.put_phase.ensures r.p r.at) c.settle.ensures refl).0
