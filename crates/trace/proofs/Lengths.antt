-- 48 bytes are enough for one record.
use Rattle.std.proofs.Common.{◌≡◌, ℕ, ◌+◌, ◌^◌, ◌<◌, ◌≤◌, List, [], ◌∷◌, ◌++◌, length, Some, None, decimal, Option, Result, refl, arith}
use Rattle.ordering.specs.declared.calls.Answer.{Answer}
use Rattle.ordering.specs.declared.calls.Call.{Call}
use Rattle.ordering.specs.declared.calls.Refusal.{Refusal}
use Rattle.script.specs.Faults.{row}
use Rattle.script.specs.declared.faults.Cause.{Cause}
use Rattle.script.specs.declared.faults.Fault.{Fault}
use Rattle.std.proofs.lemmas.Fmt.{length-decimal-le}
use Rattle.std.proofs.lemmas.List.{length-append}
use Rattle.trace.specs.Records.{cell_record, fault_record, field, fields_record, shown_number, shown_time, step_record, verdict}

-- A record is its four fields, three commas and CR LF.
length_record : (a b c d : List ℕ) → length (fields_record a b c d) ≡ length a + length b + length c + length d + 5
unfolding fields_record
length_record a b c d =
    omega (arith, length-append a (44 ∷ (b ++ (44 ∷ (c ++ (44 ∷ (d ++ (13 ∷ 10 ∷ []))))))), length-append b (44 ∷ (c ++ (44 ∷ (d ++ (13 ∷ 10 ∷ []))))), length-append c (44 ∷ (d ++ (13 ∷ 10 ∷ []))), length-append d (13 ∷ 10 ∷ []))

-- A field is no longer than the numbers that it may show.
length-field : (width : ℕ) (o : Option ℕ) → 0 < width → ((k : ℕ) → o ≡ Some k → (k < 10 ^ width) × (k < 2 ^ 64)) → length (field o) ≤ width
length-field width None some h = omega arith
length-field width (Some n) some h = length-decimal-le width n some (h n refl).0 (h n refl).1

verdict_small : (a : Result Answer Refusal) → verdict a < 100
verdict_small a = grind arith

cause_small : (c : Cause) → (row c).1 < 100
cause_small c = grind arith

-- A step with a number of five digits at most, an issue number of sixteen, and a timestamp of 64 bits.
pub step_record_fits : (number : ℕ) (call : Call) (answer : Result Answer Refusal) → number < 10 ^ 5 → ((k : ℕ) → shown_number call answer ≡ Some k → k < 10 ^ 16) → ((t : ℕ) → shown_time answer ≡ Some t → t < 2 ^ 64) → length (step_record number call answer) ≤ 48
step_record_fits number call answer n k t =
    let a : length (decimal number) ≤ 5 = length-decimal-le 5 number (omega arith) n (omega arith) in
    let v : verdict answer < 100 = verdict_small answer in
    let b : length (decimal (verdict answer)) ≤ 2 = length-decimal-le 2 (verdict answer) (omega arith) (omega arith) (omega arith) in
    let c : length (field (shown_number call answer)) ≤ 16 = length-field 16 (shown_number call answer) (omega arith) (λ j e. (k j e, omega (arith, k j e))) in
    let d : length (field (shown_time answer)) ≤ 20 = length-field 20 (shown_time answer) (omega arith) (λ j e. (omega (arith, t j e), t j e)) in
    omega (arith, length_record (decimal number) (decimal (verdict answer)) (field (shown_number call answer)) (field (shown_time answer)))

-- A cell of 32 bits, of any index.
pub cell_record_fits : (member index cell : ℕ) → member < 256 → index < 2 ^ 64 → cell < 2 ^ 32 → length (cell_record member index cell) ≤ 48
cell_record_fits member index cell m i c =
    let a : length (decimal member) ≤ 3 = length-decimal-le 3 member (omega arith) (omega arith) (omega arith) in
    let b : length (decimal index) ≤ 20 = length-decimal-le 20 index (omega arith) (omega arith) i in
    let d : length (decimal cell) ≤ 10 = length-decimal-le 10 cell (omega arith) (omega arith) (omega arith) in
    omega (arith, length_record (67 ∷ []) (decimal member) (decimal index) (decimal cell))

-- Every fault.
pub fault_record_fits : (fault : Fault) → fault.record < 2 ^ 64 → fault.at < 2 ^ 64 → length (fault_record fault) ≤ 48
fault_record_fits fault r o =
    let v : (row fault.cause).1 < 100 = cause_small fault.cause in
    let a : length (decimal (row fault.cause).1) ≤ 2 = length-decimal-le 2 (row fault.cause).1 (omega arith) (omega arith) (omega arith) in
    let b : length (decimal fault.record) ≤ 20 = length-decimal-le 20 fault.record (omega arith) (omega arith) r in
    let c : length (decimal fault.at) ≤ 20 = length-decimal-le 20 fault.at (omega arith) (omega arith) o in
    omega (arith, length_record (70 ∷ []) (decimal (row fault.cause).1) (decimal fault.record) (decimal fault.at))
