-- One record of a script after the other.
use Rattle.std.specs.Prelude.{◌≡◌, ℕ, suc, ◌<◌, ◌≤◌, List, length, drop, Some, None, Ok, Err, Option}
use Rattle.script.specs.declared.steps.StepRead.{StepRead}
use Rattle.script.specs.Fields.{Read}
use Rattle.script.specs.Steps.{step_at}
use Rattle.runner.specs.declared.records.Record.{Record}
use Rattle.runner.specs.declared.records.Records.{Records}

-- Where a record ends that was read. One that cannot be read is the last, whatever comes behind it.
abbrev pub end_of : ℕ → Read StepRead → ℕ
end_of size (Ok s) = s.next
end_of size (Err e) = size

-- The record r is the next of the records s of a script, and the records t are left behind it.
pub record Follows (script : List ℕ) (s : Records) (r : Record) (t : Records) : Type 0 where
  pub left : s.at < length script
  pub number : r.number ≡ suc s.number
  pub at : r.at ≡ s.at
  pub read : r.read ≡ step_at (drop s.at script) s.at
  pub same : t.script.bytes.now ≡ script
  pub counted : t.number ≡ suc s.number
  pub next : t.at ≡ end_of (length script) r.read
  pub onward : s.at < t.at

-- A record is next where bytes are left.
abbrev pub NextRecord : Records → Option Record → Records → Type 0
NextRecord s None t = length s.script.bytes.now ≤ s.at
NextRecord s (Some r) t = Follows s.script.bytes.now s r t
