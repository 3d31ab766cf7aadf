use Rattle.std.proofs.Common.{drop, Err, sym, refl, ap, ◌∙◌, subst}
use Rattle.std.proofs.lemmas.Result.{err_from_is_err_and}
use Rattle.record.specs.Cut.{cut_record}
use Rattle.script.specs.Texts.{Means}
use Rattle.script.proofs.Cutting.{broken, read}
use Rattle.script.proofs.Means.{means}
use Rattle.script.proofs.records.read_step.Goals as goal

pub returns-in_err-step-clause-answers : goal.returns-in_err-step-clause-answers
returns-in_err-step-clause-answers c =
    let p = err_from_is_err_and c.from_residual-in_err-step.result c.from_residual-in_err-step.ensures.1 in
    p.1 ∙ (ap Err p.2 ∙ broken _ c.in_ok-cut.cut c.args.start c.in_ok-cut.ensures.answers c.if-cut-ne-FIELDS.false _ _ refl c.in_ok-cut.ensures.holds c.in_err-step.field-0.0 c.in_err-step.ensures)

pub returns-in_err-step-clause-means : goal.returns-in_err-step-clause-means
returns-in_err-step-clause-means c =
    subst (Means (cut_record (drop c.args.start c.args.script.now) c.args.start)) (sym (returns-in_err-step-clause-answers c)) (means _ c.args.start)

pub returns-clause-answers : goal.returns-clause-answers
returns-clause-answers c =
    read _ c.in_ok-cut.cut c.args.start c.in_ok-cut.ensures.answers c.if-cut-ne-FIELDS.false _ _ refl c.in_ok-cut.ensures.holds c.in_ok-step.step c.in_ok-step.ensures

pub returns-clause-means : goal.returns-clause-means
returns-clause-means c =
    subst (Means (cut_record (drop c.args.start c.args.script.now) c.args.start)) (sym (returns-clause-answers c)) (means _ c.args.start)
