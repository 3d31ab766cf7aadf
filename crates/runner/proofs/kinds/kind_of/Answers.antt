use Rattle.std.proofs.Common.{sym, ap, ◌∙◌, subst}
use Rattle.runner.proofs.Following.{follows}
use Rattle.runner.proofs.Seeking.{Seeking, seeking_start, record_found, record_passed}
use Rattle.runner.proofs.kinds.kind_of.Goals as goal

pub loop-record-init : goal.loop-record-init
loop-record-init c =
    let e = c.into_iter-record-iterator.ensures.into_iter_gives in
    record {
      can = tt;
      finite = tt;
      same = ap (λ s. s.script.bytes.now) e ∙ c.of-record-items.ensures.whole;
      seeking = subst (Seeking c.args.script.bytes.now) (sym (ap (λ s. s.at) e ∙ c.of-record-items.ensures.first)) (seeking_start c.args.script.bytes.now);
    }

pub returns-in-Some-fixed_kind : goal.returns-in-Some-fixed_kind
returns-in-Some-fixed_kind c =
    record_found c.loop-record.invariant.seeking (follows c.loop-record.invariant.same c.in-Some.ensures.steps) c.in-Some-fixed_kind.kind (sym c.in-Some-fixed_kind.is ∙ c.fixed_kind.ensures)

pub loop-record-preserved : goal.loop-record-preserved
loop-record-preserved c =
    let f = follows c.loop-record.invariant.same c.in-Some.ensures.steps in
    record {
      can = tt;
      finite = tt;
      same = f.same;
      seeking = record_passed c.loop-record.invariant.seeking f (sym c.in_default.is ∙ c.fixed_kind.ensures);
    }
