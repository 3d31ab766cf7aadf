use Rattle.std.proofs.Common.{refl}
use Rattle.line.proofs.BookSteps.{at_of}
use Rattle.line.proofs.Matching.{matched, below_after, gather_answer_lem}
use Rattle.line.proofs.OneProof.{carried}
use Rattle.line.proofs.book.Book.gather.Goals as goal

pub fix-requires : goal.fix-requires
fix-requires c =
    let b = c.args.self.now.tables in
    let sound = carried b c.args.self.now.good in
    let r = at_of b c.args.member c.args.number c.in_ok-place.place c.in_ok-place.ensures in
    below_after b sound c.args.member c.args.number c.in_ok-place.place r _ c.put_phase.new.self (c.put_phase.ensures r.p r.at)

pub invariant_of-self : goal.invariant_of-self
invariant_of-self c =
    let b = c.args.self.now.tables in
    let sound = carried b c.args.self.now.good in
    let r = at_of b c.args.member c.args.number c.in_ok-place.place c.in_ok-place.ensures in
    let h = matched b sound c.args.member c.args.number c.in_ok-place.place r c.at-open.result.now c.from-member.result c.phase.result _ _ _ c.at-open.ensures c.from-member.ensures c.phase.ensures refl c.in_ok-phase.ensures in
    record { good = ∣ (gather_answer_lem b sound c.args.member c.args.number c.in_ok-place.place r c.in_ok-phase.phase c.from-member.result c.fix.result c.put_phase.new.self c.fix.new.self c.from-member.ensures h (c.put_phase.ensures r.p r.at) c.fix.ensures).1 ∣₁ }

pub returns : goal.returns
returns c =
    let b = c.args.self.now.tables in
    let sound = carried b c.args.self.now.good in
    let r = at_of b c.args.member c.args.number c.in_ok-place.place c.in_ok-place.ensures in
    let h = matched b sound c.args.member c.args.number c.in_ok-place.place r c.at-open.result.now c.from-member.result c.phase.result _ _ _ c.at-open.ensures c.from-member.ensures c.phase.ensures refl c.in_ok-phase.ensures in
    (gather_answer_lem b sound c.args.member c.args.number c.in_ok-place.place r c.in_ok-phase.phase c.from-member.result c.fix.result c.put_phase.new.self c.fix.new.self c.from-member.ensures h (c.put_phase.ensures r.p r.at) c.fix.ensures).0
