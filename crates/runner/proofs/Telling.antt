-- The trace of a run tells its calls with their answers, and then cells.
use Rattle.std.proofs.lemmas.Option.{none-some}
use Rattle.std.proofs.Common.{◌≡◌, ℕ, zero, suc, ◌-◌, Bool, true, false, cond, ltb, leb, List, [], ◌∷◌, ◌++◌, map, reverse, length, Some, None, Ok, Err, Result, sym, refl, ap, ◌∙◌, append_assoc, append-nil, arith}
use Rattle.std.proofs.lemmas.List.{map-append, reverse-append}
use Rattle.line.specs.Counts.{member_count}
use Rattle.machine.specs.Kinds.{Kind}
use Rattle.ordering.proofs.Basics.{some_inj}
use Rattle.ordering.specs.Answering.{answer_of}
use Rattle.ordering.specs.declared.calls.Answer.{Answer}
use Rattle.ordering.specs.declared.calls.Call.{Call}
use Rattle.ordering.specs.Steps.{Outcome as Answered}
use Rattle.ordering.specs.Worlds.{after, step}
use Rattle.script.specs.declared.faults.Cause.TheVariants.{TraceFull}
use Rattle.script.specs.declared.faults.Fault.{Fault}
use Rattle.script.specs.declared.steps.StepRead.{StepRead}
use Rattle.stations.specs.Played.{answers_to}
use Rattle.trace.specs.Records.{step_record}
use Rattle.runner.specs.Cells.{cell_records}
use Rattle.runner.specs.Runs.{Outcome, answer_to, ended, fault_as, finish, next_step, runs, runs_from, steps, writes, writes_all}
use Rattle.std.specs.List.{flat_map}
use Rattle.runner.specs.Told.{Told, step_records}

-- The answers to calls that come after others.
answers_from : Kind → List Call → List Call → List (Answered Answer)
answers_from K cs [] = []
answers_from K cs (c ∷ more) = answer_to K cs c ∷ answers_from K (c ∷ cs) more

turn : (c : Call) (more cs : List Call) → reverse (c ∷ more) ++ cs ≡ reverse more ++ (c ∷ cs)
turn c more cs = ap (λ xs. xs ++ cs) (reverse-append (c ∷ []) more) ∙ append_assoc (reverse more) (c ∷ []) cs

all_answers : (K : Kind) (cs more : List Call) → map answer_of (reverse (after K (reverse more ++ cs)).history) ≡ map answer_of (reverse (after K cs).history) ++ answers_from K cs more
unfolding answers_from
all_answers K cs [] = sym (append-nil (map answer_of (reverse (after K cs).history)))
all_answers K cs (c ∷ more) =
    ap (λ xs. map answer_of (reverse (after K xs).history)) (turn c more cs)
    ∙ (all_answers K (c ∷ cs) more
    ∙ (ap (λ xs. xs ++ answers_from K (c ∷ cs) more) (ap (map answer_of) (reverse-append ((step K (after K cs).line c).event ∷ []) (after K cs).history) ∙ map-append answer_of (reverse (after K cs).history) ((step K (after K cs).line c).event ∷ []))
    ∙ append_assoc (map answer_of (reverse (after K cs).history)) (answer_to K cs c ∷ []) (answers_from K (c ∷ cs) more)))

-- What a run tells that comes after calls, the record n next.
record Tells (K : Kind) (cs : List Call) (n : ℕ) (o : Outcome) : Type 0 where
  more : List Call
  calls : o.calls ≡ reverse more ++ cs
  shown : List (List ℕ)
  unshown : List (List ℕ)
  cells : shown ++ unshown ≡ cell_records (after K o.calls).cells 0 (member_count (after K o.calls).line)
  trace : o.trace ≡ step_records n more (answers_from K cs more) ++ flat_map (λ r. r) shown
  all : o.fault ≡ None → unshown ≡ []
  none : (f : Fault) (k : ℕ) → o.fault ≡ Some f → f.«record» ≡ suc k → shown ≡ []

-- Nothing more is told: a fault in a record.
stops : (K : Kind) (cs : List Call) (n : ℕ) (f : Fault) → Tells K cs n (ended cs (Some f))
unfolding answers_from
stops K cs n f =
    record { more = []; calls = refl; shown = []; unshown = cell_records (after K cs).cells 0 (member_count (after K cs).line); cells = refl; trace = refl; all = λ e. absurd (none-some _ (sym e)); none = λ g k e r. refl }

-- The cells, while there is room.
record Shows (cs : List Call) (full : Fault) (rs : List (List ℕ)) (o : Outcome) : Type 0 where
  calls : o.calls ≡ cs
  shown : List (List ℕ)
  unshown : List (List ℕ)
  cells : shown ++ unshown ≡ rs
  trace : o.trace ≡ flat_map (λ r. r) shown
  all : o.fault ≡ None → unshown ≡ []
  fault : (f : Fault) → o.fault ≡ Some f → full ≡ f

shows : (cs : List Call) (full : Fault) (room : ℕ) (rs : List (List ℕ)) → Shows cs full rs (writes_all cs full room rs)
shows cs full room [] = record { calls = refl; shown = []; unshown = []; cells = refl; trace = refl; all = λ e. refl; fault = λ f e. absurd (none-some _ e) }
shows cs full room (r ∷ rs) = go (ltb room 48) (shows cs full (room - length r) rs)
  where
    go : (t : Bool) → Shows cs full rs (writes_all cs full (room - length r) rs) → Shows cs full (r ∷ rs) (cond t (ended cs (Some full)) (writes r (writes_all cs full (room - length r) rs)))
    go true s = record { calls = refl; shown = []; unshown = r ∷ rs; cells = refl; trace = refl; all = λ e. absurd (none-some _ (sym e)); fault = λ f e. some_inj e }
    go false s =
        record { calls = s.calls; shown = r ∷ s.shown; unshown = s.unshown; cells = ap (λ xs. r ∷ xs) s.cells; trace = ap (λ xs. r ++ xs) s.trace; all = s.all; fault = s.fault }

finishes : (K : Kind) (script : List ℕ) (room : ℕ) (cs : List Call) (n : ℕ) → Tells K cs n (finish K script room cs)
unfolding answers_from
finishes K script room cs n =
    let s = shows cs (fault_as TraceFull 0 (length script)) room (cell_records (after K cs).cells 0 (member_count (after K cs).line)) in
    record {
      more = [];
      calls = s.calls;
      shown = s.shown;
      unshown = s.unshown;
      cells = s.cells ∙ ap (λ xs. cell_records (after K xs).cells 0 (member_count (after K xs).line)) (sym s.calls);
      trace = s.trace;
      all = s.all;
      none = λ f k e r. let w : 0 ≡ suc k = ap (λ z. z.«record») (s.fault f e) ∙ r in absurd (omega arith);
    }

goes_on : (K : Kind) (cs : List Call) (n : ℕ) (c : Call) (o : Outcome) → Tells K (c ∷ cs) (suc n) o → Tells K cs n (writes (step_record n c (answer_to K cs c)) o)
unfolding answers_from
goes_on K cs n c o t =
    record {
      more = c ∷ t.more;
      calls = t.calls ∙ sym (turn c t.more cs);
      shown = t.shown;
      unshown = t.unshown;
      cells = t.cells;
      trace = ap (λ xs. step_record n c (answer_to K cs c) ++ xs) t.trace ∙ sym (append_assoc (step_record n c (answer_to K cs c)) (step_records (suc n) t.more (answers_from K (c ∷ cs) t.more)) (flat_map (λ r. r) t.shown));
      all = t.all;
      none = t.none;
    }

-- One record more, by what was read.
stepping : (K : Kind) (cs : List Call) (n room : ℕ) (more : ℕ → List Call → ℕ → ℕ → Outcome) (r : Result StepRead Fault) → ((room : ℕ) (cs : List Call) (n at : ℕ) → Tells K cs n (more room cs n at)) → Tells K cs n (steps more K room cs n r)
stepping K cs n room more (Err f) h = stops K cs n f
stepping K cs n room more (Ok s) h =
    goes_on K cs n s.step.call (more (room - length (step_record n s.step.call (answer_to K cs s.step.call))) (s.step.call ∷ cs) (suc n) s.next) (h (room - length (step_record n s.step.call (answer_to K cs s.step.call))) (s.step.call ∷ cs) (suc n) s.next)

telling : (K : Kind) (script : List ℕ) (fuel room : ℕ) (cs : List Call) (n at : ℕ) → Tells K cs n (runs_from K script fuel room cs n at)
telling K script zero room cs n at = finishes K script room cs n
telling K script (suc fuel) room cs n at = go (λ r ds k o. telling K script fuel r ds k o) (leb (length script) at)
  where
    go : ((r : ℕ) (ds : List Call) (k o : ℕ) → Tells K ds k (runs_from K script fuel r ds k o)) → (t : Bool) → Tells K cs n (cond t (finish K script room cs) (steps (runs_from K script fuel) K room cs n (next_step script room n at)))
    go h true = finishes K script room cs n
    go h false = stepping K cs n room (runs_from K script fuel) (next_step script room n at) h

-- The same from the first record on.
told_from : (K : Kind) (o : Outcome) → Tells K [] 1 o → Told K o
told_from K o t =
    record {
      steps = t.more;
      calls = calls;
      shown = t.shown;
      unshown = t.unshown;
      cells = t.cells ∙ ap (λ xs. cell_records (after K xs).cells 0 (member_count (after K xs).line)) calls;
      trace = t.trace ∙ ap (λ xs. step_records 1 t.more xs ++ flat_map (λ r. r) t.shown) (sym answers);
      all = t.all;
      none = t.none;
    }
  where
    calls : o.calls ≡ reverse t.more
    calls = t.calls ∙ append-nil (reverse t.more)

    answers : answers_to K t.more ≡ answers_from K [] t.more
    answers = ap (λ xs. map answer_of (reverse (after K xs).history)) (sym (append-nil (reverse t.more))) ∙ all_answers K [] t.more

pub told_runs : (K : Kind) (script : List ℕ) (room : ℕ) → Told K (runs K script room)
unfolding runs
told_runs K script room = told_from K (runs_from K script (suc (length script)) room [] 1 0) (telling K script (suc (length script)) room [] 1 0)

-- A script that is too long tells nothing.
pub told_nothing : (K : Kind) (f : Fault) → Told K (ended [] (Some f))
told_nothing K f = told_from K (ended [] (Some f)) (stops K [] 1 f)
