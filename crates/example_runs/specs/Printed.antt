-- What is printed of an outcome.
use Rattle.std.specs.Prelude.{ℕ, List, [], ◌++◌, Some, None, Option}
use Rattle.script.specs.declared.faults.Fault.{Fault}
use Rattle.trace.specs.Records.{fault_record}
use Rattle.runner.specs.Runs.{Outcome}

-- The record of a fault, if there is one.
abbrev pub fault_part : Option Fault → List ℕ
fault_part None = []
fault_part (Some f) = fault_record f

-- The trace, and the record of the fault behind it.
abbrev pub printed : Outcome → List ℕ
printed o = o.trace ++ fault_part o.fault
