use Rattle.std.proofs.lemmas.Option.{same_Some}
use Rattle.std.proofs.Common.{◌<◌, Some, None, Err, arith, sym, refl, ap, ◌∙◌, subst}
use Rattle.std.proofs.lemmas.Result.{err_from_is_err_and}
use Rattle.line.specs.Tables.{view_tables}
use Rattle.line.proofs.BookRun.{best_of, none_found, place_used, run_none, run_fits, run_answer_lem}
use Rattle.line.proofs.OneProof.{carried}
use Rattle.ordering.specs.Steps.{run}
use Rattle.line.proofs.book.Book.run.Goals as goal

pub returns-in_err-earliest : goal.returns-in_err-earliest
returns-in_err-earliest g c =
    let b = c.args.self.now.tables in
    let inside : c.from-member.result < b.members = subst (λ n. n < b.members) (sym c.from-member.ensures) c.if-member-self.false in
    let q = err_from_is_err_and c.from_residual.result c.from_residual.ensures.1 in
    let n = none_found c.earliest_ready.result _ c.in_err-earliest.ensures.value in
    let best = best_of g.M.Machine.kind b (carried b c.args.self.now.good) c.from-member.result inside c.as_slice.result.now c.earliest_ready.result None c.as_slice.ensures n.0 c.earliest_ready.ensures in
    rw (q.1, q.2) (
      ap (run g.M.Machine.kind (view_tables b)) (sym c.from-member.ensures) ∙ (run_none g.M.Machine.kind b (carried b c.args.self.now.good) c.from-member.result inside best ∙ ap Err (sym n.1)),
      refl,
    )

pub at-requires : goal.at-requires
at-requires g c =
    let b = c.args.self.now.tables in
    let inside : c.from-member.result < b.members = subst (λ n. n < b.members) (sym c.from-member.ensures) c.if-member-self.false in
    let best = best_of g.M.Machine.kind b (carried b c.args.self.now.good) c.from-member.result inside c.as_slice.result.now c.earliest_ready.result (Some c.in_ok-earliest.earliest) c.as_slice.ensures c.in_ok-earliest.ensures.ok_part c.earliest_ready.ensures in
    (omega arith, place_used g.M.Machine.kind b (carried b c.args.self.now.good) c.from-member.result inside c.in_ok-earliest.earliest best)

pub put_phase-requires : goal.put_phase-requires
put_phase-requires g c =
    let b = c.args.self.now.tables in
    let inside : c.from-member.result < b.members = subst (λ n. n < b.members) (sym c.from-member.ensures) c.if-member-self.false in
    let best = best_of g.M.Machine.kind b (carried b c.args.self.now.good) c.from-member.result inside c.as_slice.result.now c.earliest_ready.result (Some c.in_ok-earliest.earliest) c.as_slice.ensures c.in_ok-earliest.ensures.ok_part c.earliest_ready.ensures in
    place_used g.M.Machine.kind b (carried b c.args.self.now.good) c.from-member.result inside c.in_ok-earliest.earliest best

pub release-requires : goal.release-requires
release-requires g c =
    let b = c.args.self.now.tables in
    let inside : c.from-member.result < b.members = subst (λ n. n < b.members) (sym c.from-member.ensures) c.if-member-self.false in
    let best = best_of g.M.Machine.kind b (carried b c.args.self.now.good) c.from-member.result inside c.as_slice.result.now c.earliest_ready.result (Some c.in_ok-earliest.earliest) c.as_slice.ensures c.in_ok-earliest.ensures.ok_part c.earliest_ready.ensures in
    let put = c.put_phase.ensures best.0 best.1 in
    run_fits g.M.Machine.kind b (carried b c.args.self.now.good) c.from-member.result inside c.in_ok-earliest.earliest best c.put_phase.new.self put

pub invariant_of-self : goal.invariant_of-self
invariant_of-self g c =
    let b = c.args.self.now.tables in
    let inside : c.from-member.result < b.members = subst (λ n. n < b.members) (sym c.from-member.ensures) c.if-member-self.false in
    let best = best_of g.M.Machine.kind b (carried b c.args.self.now.good) c.from-member.result inside c.as_slice.result.now c.earliest_ready.result (Some c.in_ok-earliest.earliest) c.as_slice.ensures c.in_ok-earliest.ensures.ok_part c.earliest_ready.ensures in
    let put = c.put_phase.ensures best.0 best.1 in
    record { good = ∣ (run_answer_lem g.M.Machine.kind b (carried b c.args.self.now.good) c.from-member.result inside c.in_ok-earliest.earliest best c.put_phase.new.self c.release.new.self _ c.args.member put c.release.ensures (ap (λ p. p.command) (same_Some _ _ (sym c.at.ensures ∙ best.1))) c.from-member.ensures).1 ∣₁ }

pub returns : goal.returns
returns g c =
    let b = c.args.self.now.tables in
    let inside : c.from-member.result < b.members = subst (λ n. n < b.members) (sym c.from-member.ensures) c.if-member-self.false in
    let best = best_of g.M.Machine.kind b (carried b c.args.self.now.good) c.from-member.result inside c.as_slice.result.now c.earliest_ready.result (Some c.in_ok-earliest.earliest) c.as_slice.ensures c.in_ok-earliest.ensures.ok_part c.earliest_ready.ensures in
    let put = c.put_phase.ensures best.0 best.1 in
    (run_answer_lem g.M.Machine.kind b (carried b c.args.self.now.good) c.from-member.result inside c.in_ok-earliest.earliest best c.put_phase.new.self c.release.new.self _ c.args.member put c.release.ensures (ap (λ p. p.command) (same_Some _ _ (sym c.at.ensures ∙ best.1))) c.from-member.ensures).0
