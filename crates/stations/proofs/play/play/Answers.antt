use Rattle.std.proofs.Common.{◌≡◌, ◌<◌, ◌≤◌, [], ◌∷◌, ◌++◌, length, get_or, take, sym, subst}
use Rattle.std.proofs.lemmas.List.{take_more, take_all, length-take-le}
use Rattle.line.specs.Books.{view_line}
use Rattle.ordering.specs.declared.calls.Call.TheVariants.{Open}
use Rattle.stations.proofs.Playing.{SoFar, one_more, no_room, all_made}
use Rattle.stations.proofs.play.play.Goals as goal
use Rattle.stations.proofs.play.play.Goals.{then-i-answers, else-i-answers}

pub loop-i-preserved : goal.loop-i-preserved
loop-i-preserved g c =
    let size : length (take c.loop-i.i c.args.calls.now) ≡ c.loop-i.i = length-take-le c.loop-i.i c.args.calls.now c.loop-i.auto.i-end in
    subst (λ cs. SoFar g.S.Kind.Machine.kind cs c.args.answers.now c.if-i-answers.answers (view_line c.ask-answer.new.line.book) (g.S.Stations.held c.ask-answer.new.self)) (sym (take_more c.args.calls.now c.loop-i.i (Open 0 0) c.loop-i-test.true))
    (elim c.if-i-answers.branch [
      | then-i-answers w ↦
          subst (λ now. SoFar g.S.Kind.Machine.kind (take c.loop-i.i c.args.calls.now ++ get_or c.args.calls.now c.loop-i.i (Open 0 0) ∷ []) c.args.answers.now now (view_line c.ask-answer.new.line.book) (g.S.Stations.held c.ask-answer.new.self)) (sym w.answers-is)
          (one_more c.loop-i.invariant c.ask-answer.ensures c.loop-i.i (sym size) (subst (λ n. c.loop-i.i < n) c.loop-i.auto.answers w.if-i-answers.true))
      | else-i-answers w ↦
          subst (λ now. SoFar g.S.Kind.Machine.kind (take c.loop-i.i c.args.calls.now ++ get_or c.args.calls.now c.loop-i.i (Open 0 0) ∷ []) c.args.answers.now now (view_line c.ask-answer.new.line.book) (g.S.Stations.held c.ask-answer.new.self)) (sym w.answers-is)
          (no_room c.loop-i.invariant c.ask-answer.ensures c.loop-i.i (sym size) (subst (λ n. n ≤ c.loop-i.i) c.loop-i.auto.answers w.if-i-answers.false))
    ])

pub returns : goal.returns
returns g c =
    all_made g.met.S.Kind.Machine.lawful (subst (λ cs. SoFar g.S.Kind.Machine.kind cs c.args.answers.now c.loop-i.answers (view_line c.loop-i.line.book) (g.S.Stations.held c.loop-i.stations)) (take_all c.loop-i.i c.args.calls.now c.loop-i-test.false) c.loop-i.invariant)
