-- A call given as a value does what its own call does, and what it leads to is ordered.
use Rattle.std.proofs.Common.{◌≡◌, ℕ, List, ◌∷◌, Some, None, Ok, Err, Option, sym, refl, ap, ◌∙◌, subst}
use Rattle.line.specs.Asking.{call_at, Asked, Leads, LeadsOn}
use Rattle.line.specs.Promises.{cells_after}
use Rattle.machine.specs.Kinds.{Kind, Laws}
use Rattle.ordering.proofs.Always.{ordered_always}
use Rattle.ordering.proofs.Basics.{put_same}
use Rattle.ordering.specs.Answering.{answer_of}
use Rattle.ordering.specs.declared.calls.Answer.{Answer}
use Rattle.ordering.specs.declared.calls.Call.{Call}
use Rattle.ordering.specs.declared.calls.Call.TheVariants.{Open, Send, Hear, Gather, Settle, Run}
use Rattle.ordering.specs.Histories.{Event, sending, hearing, gathering, settling}
use Rattle.ordering.specs.Lines.{Book, Line, closed, opened}
use Rattle.ordering.specs.Steps.{Outcome, Ran as RunResult, open_closed, send, hear, gather, settle, run}
use Rattle.ordering.specs.Worlds.{Move, open_turn, book_turn, run_turn, step, moved, after}

book_still : {A : Type 0} (event : Outcome A → Event) (b : Book) (x : Outcome (A × Book)) → (book_turn event b x).move ≡ None
book_still event b (Ok r) = refl
book_still event b (Err e) = refl

open_still : (n last : ℕ) (x : Outcome Book) → (open_turn n last x).move ≡ None
open_still n last (Ok b) = refl
open_still n last (Err e) = refl

-- Only a run moves a station, and only its own.
abbrev pub Mover : ℕ → Option Move → Type 0
Mover m None = Unit {0}
Mover m (Some v) = v.member ≡ m

run_mover : (m : ℕ) (b : Book) (x : Outcome RunResult) → Mover m (run_turn m b x).move
run_mover m b (Ok r) = refl
run_mover m b (Err e) = tt

still_mover : (m : ℕ) (v : Option Move) → v ≡ None → Mover m v
still_mover m v e = subst (Mover m) (sym e) tt

pub mover : (K : Kind) (l : Line) (c : Call) (m : ℕ) → Mover m (step K l (call_at c m)).move
mover K closed (Open n last) m = still_mover m _ (open_still n last (open_closed n last))
mover K closed (Send sender set c) m = tt
mover K closed (Hear q k) m = tt
mover K closed (Gather q k) m = tt
mover K closed (Settle q k) m = tt
mover K closed (Run q) m = tt
mover K (opened b) (Open n last) m = tt
mover K (opened b) (Send sender set c) m = still_mover m _ (book_still (sending sender set c) b (send b sender set c))
mover K (opened b) (Hear q k) m = still_mover m _ (book_still (hearing q k) b (hear K b q k))
mover K (opened b) (Gather q k) m = still_mover m _ (book_still (gathering q k) b (gather b q k))
mover K (opened b) (Settle q k) m = still_mover m _ (book_still (settling q k) b (settle b q k))
mover K (opened b) (Run q) m = run_mover m b (run K b m)

-- One call more.
pub leads_on : (K : Kind) → Laws K → (l : Line) (call : Call) (m : ℕ) (s : List ℕ) (r : Outcome Answer) (l' : Line) (s' : List ℕ) → Asked K l (call_at call m) s r l' s' → (cs : List Call) → Leads K cs l m s → LeadsOn K (call_at call m) cs l' m s' r
leads_on K L l call m s r l' s' a cs w =
    record {
      leads = record { line = ap (λ z. (step K z (call_at call m)).line) w.line ∙ a.line; cells = cells ∙ a.cells };
      answer = ap (λ z. answer_of (step K z (call_at call m)).event) w.line ∙ a.answer;
      ordered = ordered_always K L (call_at call m ∷ cs);
    }
  where
    own : (v : Option Move) → Mover m v → moved K v (after K cs).cells m ≡ cells_after K v ((after K cs).cells m)
    own None h = refl
    own (Some v) h =
        subst (λ q. moved K (Some (record { member = q; command = v.command })) (after K cs).cells m ≡ K.next ((after K cs).cells m) v.command) (sym h) (put_same m (K.next ((after K cs).cells m) v.command) (after K cs).cells)

    cells : moved K (step K (after K cs).line (call_at call m)).move (after K cs).cells m ≡ cells_after K (step K l (call_at call m)).move s
    cells =
        own (step K (after K cs).line (call_at call m)).move (mover K (after K cs).line call m) ∙ (ap (λ z. cells_after K (step K z (call_at call m)).move ((after K cs).cells m)) w.line ∙ ap (cells_after K (step K l (call_at call m)).move) w.cells)
