-- The steps of a script, one by one.
use Rattle.std.proofs.Common.{◌≡◌, ℕ, zero, suc, ◌+◌, ◌-◌, ◌^◌, ◌<◌, ◌≤◌, cond, List, [], ◌∷◌, ◌++◌, length, drop, Some, Ok, Err, Result, sym, refl, ap, ◌∙◌, subst, arith}
use Rattle.std.proofs.lemmas.Bool.{le-leb, lt-leb}
use Rattle.line.specs.Counts.{member_count}
use Rattle.machine.specs.Kinds.{Kind, Laws}
use Rattle.ordering.specs.declared.calls.Answer.{Answer}
use Rattle.ordering.specs.declared.calls.Call.{Call}
use Rattle.ordering.specs.Answering.{answer_of}
use Rattle.ordering.specs.Lines.{Line}
use Rattle.ordering.specs.Steps.{Outcome as Answered}
use Rattle.ordering.specs.Worlds.{after, step, moved}
use Rattle.script.specs.declared.faults.Cause.TheVariants.{TraceFull}
use Rattle.script.specs.declared.faults.Fault.{Fault}
use Rattle.script.specs.declared.steps.StepRead.{StepRead}
use Rattle.script.specs.Steps.{step_at}
use Rattle.stations.proofs.Together.{moved_alike}
use Rattle.stations.specs.Held.{AskedAll}
use Rattle.trace.proofs.Lengths.{step_record_fits}
use Rattle.trace.specs.Appending.{Adds}
use Rattle.trace.specs.Records.{shown_number, shown_time, step_record}
use Rattle.trace.specs.declared.Trace.{Trace}
use Rattle.runner.specs.Cells.{cell_records, station_records}
use Rattle.runner.specs.declared.records.Record.{Record}
use Rattle.runner.specs.declared.records.Records.{Records}
use Rattle.runner.specs.Following.{Follows, end_of}
use Rattle.runner.specs.Runs.{answer_to, fault_as, finish, next_step, runs, runs_from, steps, writes, writes_all}
use Rattle.runner.specs.Writing.{Sofar, Wrote, room_of}
use Rattle.runner.proofs.Bounds.{cell_count, few_members, shown_small}
use Rattle.runner.proofs.StepBounds.{Taken, taken}
use Rattle.runner.proofs.Written.{less_room, sofar_more, sofar_start, wrote_after, wrote_faulty}

-- n records are read, up to an offset; these calls are made, and the line and the stations are where they lead.
pub record Going (K : Kind) (script : List ℕ) (t₀ t : Trace) (at n : ℕ) (l : Line) (held : ℕ → List ℕ) : Type 0 where
  pub calls : List Call
  pub fuel : ℕ
  pub sofar : Sofar (runs K script (room_of t₀)) (runs_from K script fuel (room_of t) calls (suc n) at) t₀ t
  pub enough : length script < at + fuel
  pub line : (after K calls).line ≡ l
  pub cells : (m : ℕ) → m < 16 → (after K calls).cells m ≡ held m

whole_run : (K : Kind) (script : List ℕ) (room : ℕ) → runs K script room ≡ runs_from K script (suc (length script)) room [] 1 0
unfolding runs
whole_run K script room = refl

pub going_start : {K : Kind} {script : List ℕ} {t : Trace} {at n : ℕ} {l : Line} {held : ℕ → List ℕ} → at ≡ 0 → n ≡ 0 → (after K []).line ≡ l → ((m : ℕ) → m < 16 → held m ≡ K.starting) → Going K script t t at n l held
going_start {K} {script} {t} {at} {n} {l} {held} first none is fresh =
    record {
      calls = [];
      fuel = suc (length script);
      sofar = subst (λ o. Sofar (runs K script (room_of t)) o t t) (whole_run K script (room_of t) ∙ (λ i. runs_from K script (suc (length script)) (room_of t) [] (suc (sym none i)) (sym first i))) (sofar_start (runs K script (room_of t)) t);
      enough = omega arith;
      line = is;
      cells = λ m near. sym (fresh m near);
    }

-- A record comes next, and there is room for its record in the trace or not.
module _ {K : Kind} {script : List ℕ} {t₀ t : Trace} (s : Records) {l : Line} {held : ℕ → List ℕ} (w : Going K script t₀ t s.at s.number l held) (left : s.at < length script) where
  record Next : Type 0 where
    fuel : ℕ
    enough : length script ≤ s.at + fuel
    sofar : Sofar (runs K script (room_of t₀)) (steps (runs_from K script fuel) K (room_of t) w.calls (suc s.number) (next_step script (room_of t) (suc s.number) s.at)) t₀ t

  next : Next
  next = go w.fuel w.enough w.sofar
    where
      go : (fuel : ℕ) → length script < s.at + fuel → Sofar (runs K script (room_of t₀)) (runs_from K script fuel (room_of t) w.calls (suc s.number) s.at) t₀ t → Next
      go zero e z = absurd (omega arith)
      go (suc fuel) e z =
          record { fuel = fuel; enough = omega arith; sofar = subst (λ b. Sofar (runs K script (room_of t₀)) (cond b (finish K script (room_of t) w.calls) (steps (runs_from K script fuel) K (room_of t) w.calls (suc s.number) (next_step script (room_of t) (suc s.number) s.at))) t₀ t) (lt-leb (length script) s.at left) z }

  pub going_faulty : (e : Fault) → Err e ≡ next_step script (room_of t) (suc s.number) s.at → Wrote (runs K script (room_of t₀)) t₀ t (Err e)
  going_faulty e h =
      wrote_faulty (runs K script (room_of t₀)) w.calls e t₀ t
      (subst (λ z. Sofar (runs K script (room_of t₀)) (steps (runs_from K script next.fuel) K (room_of t) w.calls (suc s.number) z) t₀ t) (sym h) next.sofar)

  module _ {x : StepRead} {r : Record} {u : Records} (f : Follows script s r u) (short : length script ≤ 65536) (counted : s.number ≤ s.at) (read_next : Ok x ≡ next_step script (room_of t) (suc s.number) s.at) {a : Answered Answer} {l' : Line} {held' : ℕ → List ℕ} {t' : Trace} (asked : AskedAll K l x.step.call held a l' held') (adds : Adds t (step_record u.number x.step.call a) t') (time : (k : ℕ) → shown_time a ≡ Some k → k < 2 ^ 64) where
    answers : answer_to K w.calls x.step.call ≡ a
    answers = ap (λ z. answer_of (step K z x.step.call).event) w.line ∙ asked.answer

    took : Taken (room_of t) (step_at (drop s.at script) s.at) x
    took = taken script (room_of t) (suc s.number) s.at x read_next

    behind : x.next ≡ u.at
    behind = sym (f.next ∙ ap (end_of (length script)) (f.read ∙ took.is))

    added : Adds t (step_record (suc s.number) x.step.call a) t'
    added = subst (λ k. Adds t (step_record k x.step.call a) t') f.counted adds

    fits : length (step_record (suc s.number) x.step.call a) ≤ room_of t
    fits =
        let lt = left in
        let p : suc s.number < 10 ^ 5 = omega arith in
        let small = took.small in
        let q = step_record_fits (suc s.number) x.step.call a p (subst (λ z. (k : ℕ) → shown_number x.step.call z ≡ Some k → k < 10 ^ 16) answers (shown_small K w.calls x.step.call (λ k e. let y = small k e in omega arith))) time in
        let e = took.enough in
        omega arith

    unfolds : steps (runs_from K script next.fuel) K (room_of t) w.calls (suc s.number) (next_step script (room_of t) (suc s.number) s.at) ≡ writes (step_record (suc s.number) x.step.call a) (runs_from K script next.fuel (room_of t') (x.step.call ∷ w.calls) (suc (suc s.number)) x.next)
    unfolds =
        ap (steps (runs_from K script next.fuel) K (room_of t) w.calls (suc s.number)) (sym read_next)
        ∙ (ap (λ z. writes (step_record (suc s.number) x.step.call z) (runs_from K script next.fuel (room_of t - length (step_record (suc s.number) x.step.call z)) (x.step.call ∷ w.calls) (suc (suc s.number)) x.next)) answers
        ∙ ap (λ k. writes (step_record (suc s.number) x.step.call a) (runs_from K script next.fuel k (x.step.call ∷ w.calls) (suc (suc s.number)) x.next)) (sym (less_room t (step_record (suc s.number) x.step.call a) t' added fits)))

    pub going_more : Going K script t₀ t' u.at u.number l' held'
    going_more =
        subst (λ k. Going K script t₀ t' u.at k l' held') (sym f.counted)
        (subst (λ n. Going K script t₀ t' n (suc s.number) l' held') behind
        (record {
          calls = x.step.call ∷ w.calls;
          fuel = next.fuel;
          sofar = sofar_more (runs K script (room_of t₀)) (step_record (suc s.number) x.step.call a) (runs_from K script next.fuel (room_of t') (x.step.call ∷ w.calls) (suc (suc s.number)) x.next) t₀ t t' (subst (λ o. Sofar (runs K script (room_of t₀)) o t₀ t) unfolds next.sofar) added fits;
          enough = let e = next.enough in let v = f.onward in let b = behind in omega arith;
          line = ap (λ z. (step K z x.step.call).line) w.line ∙ asked.line;
          cells = λ m near. ap (λ z. moved K (step K z x.step.call).move (after K w.calls).cells m) w.line ∙ (moved_alike K (after K w.calls).cells held w.cells (step K l x.step.call).move m near ∙ asked.cells m near);
        }))

-- The script is read to its last byte.
module _ {K : Kind} {script : List ℕ} {t₀ t : Trace} {at n : ℕ} {l : Line} {held : ℕ → List ℕ} (w : Going K script t₀ t at n l held) where
  same_cells : (m k : ℕ) → m + k ≤ 16 → cell_records (after K w.calls).cells m k ≡ cell_records held m k
  same_cells m zero le = refl
  same_cells m (suc k) le = λ i. (station_records m 0 (w.cells m (omega arith) i)) ++ same_cells (suc m) k (omega arith) i

  finished : length script ≤ at → at ≤ length script → Sofar (runs K script (room_of t₀)) (writes_all w.calls (fault_as TraceFull 0 (length script)) (room_of t) (cell_records held 0 (member_count l))) t₀ t
  finished le within = go w.fuel w.enough w.sofar
    where
      count : member_count (after K w.calls).line ≡ member_count l
      count = ap member_count w.line

      same : cell_records (after K w.calls).cells 0 (member_count (after K w.calls).line) ≡ cell_records held 0 (member_count l)
      same = same_cells 0 (member_count (after K w.calls).line) (let f = few_members K w.calls in omega arith) ∙ ap (cell_records held 0) count

      go : (f : ℕ) → length script < at + f → Sofar (runs K script (room_of t₀)) (runs_from K script f (room_of t) w.calls (suc n) at) t₀ t → Sofar (runs K script (room_of t₀)) (writes_all w.calls (fault_as TraceFull 0 (length script)) (room_of t) (cell_records held 0 (member_count l))) t₀ t
      go zero e s = absurd (omega arith)
      go (suc f) e s =
          subst (λ rs. Sofar (runs K script (room_of t₀)) (writes_all w.calls (fault_as TraceFull 0 (length script)) (room_of t) rs) t₀ t) same
          (subst (λ b. Sofar (runs K script (room_of t₀)) (cond b (finish K script (room_of t) w.calls) (steps (runs_from K script f) K (room_of t) w.calls (suc n) (next_step script (room_of t) (suc n) at))) t₀ t) (le-leb (length script) at le) s)

  pub going_done : length script ≤ at → at ≤ length script → {t' : Trace} {r : Result (Unit {0}) Fault} → ((cs : List Call) → Wrote (writes_all cs (fault_as TraceFull 0 (length script)) (room_of t) (cell_records held 0 (member_count l))) t t' r) → Wrote (runs K script (room_of t₀)) t₀ t' r
  going_done le within {t'} {r} wrote =
      wrote_after (runs K script (room_of t₀)) (writes_all w.calls (fault_as TraceFull 0 (length script)) (room_of t) (cell_records held 0 (member_count l))) t₀ t t' r (finished le within) (wrote w.calls)

  pub going_few : member_count l ≤ 16
  going_few = subst (λ z. member_count z ≤ 16) w.line (few_members K w.calls)

  pub going_counted : Laws K → (m : ℕ) → m < 16 → length (held m) ≡ K.count
  going_counted L m near = ap length (sym (w.cells m near)) ∙ cell_count K L w.calls m
