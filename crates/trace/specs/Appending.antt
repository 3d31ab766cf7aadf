-- Bytes behind those that are used, as far as there is room.
use Rattle.std.specs.Prelude.{◌≡◌, ℕ, ◌+◌, ◌-◌, List, ◌++◌, length, take, drop}
use Rattle.trace.specs.declared.Trace.{Trace}

-- As many of the new bytes as there is room for behind the used ones.
abbrev pub fitting : List ℕ → ℕ → List ℕ → List ℕ
fitting before used new = take (length before - used) new

-- The new bytes that fit stand behind the used ones, and are used now; all other bytes are as they were.
pub record Appended (before : List ℕ) (used : ℕ) (new after : List ℕ) (used' : ℕ) : Type 0 where
  pub bytes : after ≡ take used before ++ (fitting before used new ++ drop (used + length (fitting before used new)) before)
  pub count : used' ≡ used + length (fitting before used new)

-- The same of a trace, whose bytes stay the caller's.
pub record Adds (t : Trace) (new : List ℕ) (t' : Trace) : Type 0 where
  pub text : Appended t.bytes.now t.used new t'.bytes.now t'.used
  pub lender : t'.bytes.ghost_name ≡ t.bytes.ghost_name
