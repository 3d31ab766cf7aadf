-- Calls with their answers, and what is read from them.
use Rattle.std.specs.Prelude.{ℕ, suc, Bool, true, false, List, [], ◌∷◌, Some, None, Ok, Err, Option}
use Rattle.machine.specs.declared.command.Command.{Command}
use Rattle.ordering.specs.Searches.{Pair, put}
use Rattle.ordering.specs.Steps.{Outcome}

-- A call with its answer.
pub data Event : Type 0 where
  opening : ℕ → ℕ → Outcome (Unit {0}) → Event
  sending : ℕ → ℕ → Command → Outcome ℕ → Event
  hearing : ℕ → ℕ → Outcome ℕ → Event
  gathering : ℕ → ℕ → Outcome (Option ℕ) → Event
  settling : ℕ → ℕ → Outcome ℕ → Event
  running : ℕ → Outcome Pair → Event

-- An accepted send.
pub record Issue : Type 0 where
  pub sender : ℕ
  pub set : ℕ
  pub command : Command

-- What a history says: how each number was sent; what each member answered to its hear; whether it was gathered and
-- settled there; the numbers that ran at each member, the latest first; and how many hears, gathers, settles and
-- runs of each number were accepted.
pub record Account : Type 0 where
  pub sent_as : ℕ → Option Issue
  pub heard_at : ℕ → ℕ → Option ℕ
  pub gathered_at : ℕ → ℕ → Bool
  pub settled_at : ℕ → ℕ → Bool
  pub runs_at : ℕ → List ℕ
  pub steps_of : ℕ → ℕ

abbrev pub blank : Account
blank =
    record {
      sent_as = λ k. None;
      heard_at = λ k m. None;
      gathered_at = λ k m. false;
      settled_at = λ k m. false;
      runs_at = λ m. [];
      steps_of = λ k. 0;
    }

-- f, but x at i and j.
abbrev pub put_twice : {X : Type 0} → ℕ → ℕ → X → (ℕ → ℕ → X) → ℕ → ℕ → X
put_twice i j x f = put i (put j x (f i)) f

abbrev pub one_more : ℕ → (ℕ → ℕ) → ℕ → ℕ
one_more k f = put k (suc (f k)) f

abbrev pub note_send : Account → ℕ → Issue → Account
note_send a k d =
    record {
      sent_as = put k (Some d) a.sent_as;
      heard_at = a.heard_at;
      gathered_at = a.gathered_at;
      settled_at = a.settled_at;
      runs_at = a.runs_at;
      steps_of = a.steps_of;
    }

abbrev pub note_hear : Account → ℕ → ℕ → ℕ → Account
note_hear a m k t =
    record {
      sent_as = a.sent_as;
      heard_at = put_twice k m (Some t) a.heard_at;
      gathered_at = a.gathered_at;
      settled_at = a.settled_at;
      runs_at = a.runs_at;
      steps_of = one_more k a.steps_of;
    }

abbrev pub note_gather : Account → ℕ → ℕ → Account
note_gather a m k =
    record {
      sent_as = a.sent_as;
      heard_at = a.heard_at;
      gathered_at = put_twice k m true a.gathered_at;
      settled_at = a.settled_at;
      runs_at = a.runs_at;
      steps_of = one_more k a.steps_of;
    }

abbrev pub note_settle : Account → ℕ → ℕ → Account
note_settle a m k =
    record {
      sent_as = a.sent_as;
      heard_at = a.heard_at;
      gathered_at = a.gathered_at;
      settled_at = put_twice k m true a.settled_at;
      runs_at = a.runs_at;
      steps_of = one_more k a.steps_of;
    }

abbrev pub note_run : Account → ℕ → ℕ → Account
note_run a m k =
    record {
      sent_as = a.sent_as;
      heard_at = a.heard_at;
      gathered_at = a.gathered_at;
      settled_at = a.settled_at;
      runs_at = put m (k ∷ a.runs_at m) a.runs_at;
      steps_of = one_more k a.steps_of;
    }

-- A refused call says nothing.
abbrev pub note : Event → Account → Account
note (opening n last r) a = a
note (sending sender set c (Ok k)) a = note_send a k (record { sender = sender; set = set; command = c })
note (sending sender set c (Err e)) a = a
note (hearing m k (Ok t)) a = note_hear a m k t
note (hearing m k (Err e)) a = a
note (gathering m k (Ok f)) a = note_gather a m k
note (gathering m k (Err e)) a = a
note (settling m k (Ok t)) a = note_settle a m k
note (settling m k (Err e)) a = a
note (running m (Ok p)) a = note_run a m p.1
note (running m (Err e)) a = a

-- What the history says, the latest event first.
abbrev pub read : List Event → Account
read [] = blank
read (e ∷ es) = note e (read es)
