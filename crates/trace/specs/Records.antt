-- The records of a trace: four fields joined by commas, and CR LF.
use Rattle.std.specs.Prelude.{ℕ, List, [], ◌∷◌, ◌++◌, Some, None, Ok, Err, decimal, Option, Result}
use Rattle.ordering.specs.Refusals.{refusal_number}
use Rattle.ordering.specs.declared.calls.Answer.{Answer}
use Rattle.ordering.specs.declared.calls.Answer.TheVariants.{Opened, Issued, Proposed, Fixed, Clock, Ran}
use Rattle.ordering.specs.declared.calls.Call.{Call}
use Rattle.ordering.specs.declared.calls.Refusal.{Refusal}
use Rattle.ordering.specs.declared.calls.Call.TheVariants.{Open, Send, Hear, Gather, Settle, Run}
use Rattle.script.specs.Faults.{row}
use Rattle.script.specs.declared.faults.Fault.{Fault}

-- The issue number that a call names.
abbrev pub named : Call → Option ℕ
named (Open members last) = None
named (Send sender set command) = None
named (Hear member number) = Some number
named (Gather member number) = Some number
named (Settle member number) = Some number
named (Run member) = None

-- 0 for an accepted call, else the number of the refusal.
abbrev pub verdict : Result Answer Refusal → ℕ
verdict (Ok answer) = 0
verdict (Err refusal) = refusal_number refusal

-- The issue number that a step's record shows: the one issued, the one named, or the one that ran.
abbrev pub shown_number : Call → Result Answer Refusal → Option ℕ
shown_number call (Ok Opened) = None
shown_number call (Ok (Issued number)) = Some number
shown_number call (Ok (Proposed time)) = named call
shown_number call (Ok (Fixed final)) = named call
shown_number call (Ok (Clock time)) = named call
shown_number call (Ok (Ran key)) = Some key.1
shown_number call (Err refusal) = None

-- The timestamp that a step's record shows: a proposal, a final one, or the clock after a settle.
abbrev pub shown_time : Result Answer Refusal → Option ℕ
shown_time (Ok Opened) = None
shown_time (Ok (Issued number)) = None
shown_time (Ok (Proposed time)) = Some time
shown_time (Ok (Fixed final)) = final
shown_time (Ok (Clock time)) = Some time
shown_time (Ok (Ran key)) = Some key.0
shown_time (Err refusal) = None

-- A number's field: its decimal digits, or nothing.
abbrev pub field : Option ℕ → List ℕ
field None = []
field (Some n) = decimal n

-- Four fields, joined by commas (44) and ended by CR LF (13, 10).
unfoldable pub fields_record : List ℕ → List ℕ → List ℕ → List ℕ → List ℕ
fields_record a b c d = a ++ (44 ∷ (b ++ (44 ∷ (c ++ (44 ∷ (d ++ (13 ∷ 10 ∷ [])))))))

-- The record of a step: its number, the verdict, the issue number, the timestamp.
abbrev pub step_record : ℕ → Call → Result Answer Refusal → List ℕ
step_record number call answer = fields_record (decimal number) (decimal (verdict answer)) (field (shown_number call answer)) (field (shown_time answer))

-- The record of a cell: C (67), the member, the cell's index, the cell.
abbrev pub cell_record : ℕ → ℕ → ℕ → List ℕ
cell_record member index cell = fields_record (67 ∷ []) (decimal member) (decimal index) (decimal cell)

-- The record of a fault: F (70), its number, the record, the byte offset.
abbrev pub fault_record : Fault → List ℕ
fault_record fault = fields_record (70 ∷ []) (decimal (row fault.cause).1) (decimal fault.record) (decimal fault.at)
