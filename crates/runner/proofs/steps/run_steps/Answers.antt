use Rattle.std.proofs.Common.{◌≡◌, ◌<◌, ◌≤◌, Bool, false, true, leb, length, List, ℕ, suc, sym, ap, ◌∙◌, subst, rules}
use Rattle.std.proofs.lemmas.Bool.{leb-false, leb-true}
use Rattle.script.specs.declared.faults.Cause.TheVariants.{TraceFull}
use Rattle.runner.specs.Cells.{cell_records}
use Rattle.runner.specs.Runs.{fault_as, next_step, runs, writes_all}
use Rattle.runner.specs.Writing.{Wrote, room_of}
use Rattle.runner.proofs.Faults.{fault_is}
use Rattle.runner.proofs.Following.{follows}
use Rattle.runner.proofs.StepLoop.{going_start, going_faulty, going_more, going_done, going_few, going_counted}
use Rattle.runner.proofs.steps.run_steps.Goals as goal

-- What the test for a record that is left says of the script.
left : (bytes script : List ℕ) (at : ℕ) (t : Bool) → bytes ≡ script → t ≡ leb (length bytes) at → t ≡ false → at < length script
left bytes script at t same is e = subst (λ b. at < length b) same (leb-false (length bytes) at (sym is ∙ e))

done : (bytes script : List ℕ) (at : ℕ) (t : Bool) → bytes ≡ script → t ≡ leb (length bytes) at → t ≡ true → length script ≤ at
done bytes script at t same is e = subst (λ b. length b ≤ at) same (leb-true (length bytes) at (sym is ∙ e))

pub loop-records-init : goal.loop-records-init
loop-records-init g c =
    record {
      same = c.of-records.ensures.whole;
      going = going_start c.of-records.ensures.first c.of-records.ensures.none_read c.new-line.ensures.leads c.fresh-stations.ensures;
    }

pub returns-in_err-call : goal.returns-in_err-call
returns-in_err-call g c =
    let s = c.loop-records.records in
    let more = left s.script.bytes.now c.args.script.bytes.now s.at c.is_empty.result c.loop-records.invariant.same c.is_empty.ensures c.loop-records-test.true in
    subst (Wrote (runs g.S.Kind.Machine.kind c.args.script.bytes.now (room_of c.args.trace.now)) c.args.trace.now c.loop-records.trace) (sym (fault_is c.from_residual.ensures.1))
    (going_faulty s c.loop-records.invariant.going more c.in_err-call.field-0.0 (c.in_err-call.ensures.answers ∙ ap (λ b. next_step b (room_of c.loop-records.trace) (suc s.number) s.at) c.loop-records.invariant.same))

pub loop-records-preserved : goal.loop-records-preserved
loop-records-preserved g c =
    let s = c.loop-records.records in
    let more = left s.script.bytes.now c.args.script.bytes.now s.at c.is_empty.result c.loop-records.invariant.same c.is_empty.ensures c.loop-records-test.true in
    let f = follows c.loop-records.invariant.same c.in_ok-call.ensures.behind.1 in
    record {
      same = f.same;
      going = going_more s c.loop-records.invariant.going more f c.args.script.short s.counted (c.in_ok-call.ensures.answers ∙ ap (λ b. next_step b (room_of c.loop-records.trace) (suc s.number) s.at) c.loop-records.invariant.same) c.ask-answer.ensures c.step.ensures (λ k e. search rules);
    }

pub write_cells-requires : goal.write_cells-requires
write_cells-requires g c =
    record {
      few = subst (λ n. n ≤ 16) (sym c.members.ensures) (going_few c.loop-records.invariant.going);
      counted = going_counted c.loop-records.invariant.going g.met.S.Kind.Machine.lawful;
    }

pub returns : goal.returns
returns g c =
    let s = c.loop-records.records in
    let all = done s.script.bytes.now c.args.script.bytes.now s.at c.is_empty.result c.loop-records.invariant.same c.is_empty.ensures c.loop-records-test.false in
    let within : s.at ≤ length c.args.script.bytes.now = subst (λ b. s.at ≤ length b) c.loop-records.invariant.same s.within in
    going_done c.loop-records.invariant.going all within
    (λ cs. subst (λ n. Wrote (writes_all cs (fault_as TraceFull 0 (length c.args.script.bytes.now)) (room_of c.loop-records.trace) (cell_records (g.S.Stations.held c.loop-records.stations) 0 n)) c.loop-records.trace c.write_cells.new.trace c.write_cells.result) c.members.ensures (c.write_cells.ensures cs))
