use Rattle.std.proofs.Common.{Err, sym, ap, ◌∙◌, subst}
use Rattle.std.proofs.lemmas.Result.{err_from_is_err_and}
use Rattle.record.proofs.Loop.{Finished, stored_plainly, going_start, going_more, going_less, going_done, going_faulty}
use Rattle.record.proofs.records.first_record.Goals as goal

pub loop-cut-init : goal.loop-cut-init
loop-cut-init c = going_start _ _ _

pub loop-cut-smaller : goal.loop-cut-smaller
loop-cut-smaller c = going_less _ _ _ _ _ _ _ c.loop-cut.invariant _ c.in-Comma.is c.in_ok-cut.ensures.answers

pub loop-cut-preserved : goal.loop-cut-preserved
loop-cut-preserved c =
    going_more _ _ _ _ _ _ _ c.loop-cut.invariant _ _ c.in-Comma.is c.in_ok-cut.ensures.answers (stored_plainly _ _ _ _ c.store.ensures)

pub returns-in-Last : goal.returns-in-Last
returns-in-Last c =
    let f = going_done _ _ _ _ _ _ _ c.loop-cut.invariant _ _ _ c.in-Last.is c.in_ok-cut.ensures.answers (stored_plainly _ _ _ _ c.store.ensures) in
    record { answers = f.answers; holds = f.holds; rfc = f.rfc; within = f.within }

pub returns-in_err-cut : goal.returns-in_err-cut
returns-in_err-cut c =
    let p = err_from_is_err_and c.from_residual.result c.from_residual.ensures.1 in
    let fault = going_faulty _ _ _ _ _ _ _ c.loop-cut.invariant c.in_err-cut.field-0.0 c.in_err-cut.ensures.answers in
    let f = subst (Finished _ _ _ _) (sym (p.1 ∙ ap Err p.2)) fault in
    record { answers = f.answers; holds = f.holds; rfc = f.rfc; within = f.within }
