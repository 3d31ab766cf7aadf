-- What a step looks like in a script: the texts of its seven fields. Nothing here says how they are read.
use Rattle.std.specs.Prelude.{◌≡◌, ℕ, ◌^◌, ◌<◌, ◌≤◌, List, [], ◌∷◌, map, Some, Ok, decimal}
use Rattle.machine.specs.declared.command.Command.{Command}
use Rattle.machine.specs.declared.command.Command.TheVariants.{Set, Shift, Couple, Mark}
use Rattle.ordering.specs.declared.calls.Call.TheVariants.{Open, Send, Hear, Gather, Settle, Run}
use Rattle.record.specs.Bytes.{Piece}
use Rattle.record.specs.Cut.{Cutting, Ended}
use Rattle.script.specs.declared.steps.MachineKind.{MachineKind}
use Rattle.script.specs.declared.steps.MachineKind.TheVariants.{AxisBank, Recorder, Tally}
use Rattle.script.specs.declared.steps.Step.{Step}
use Rattle.script.specs.declared.steps.StepRead.{StepRead}
use Rattle.script.specs.Fields.{Read}
use Rattle.script.specs.Steps.{asks}

abbrev pub kind_number : MachineKind → ℕ
kind_number AxisBank = 1
kind_number Recorder = 2
kind_number Tally = 3

-- A command as class, first and second.
pub data CommandText : Command → List ℕ → List ℕ → List ℕ → Type 0 where
  set : {axis value : ℕ} → axis ≤ 255 → value ≤ 4294967295 → CommandText (Set axis value) (decimal 1) (decimal axis) (decimal value)
  shift : {axis amount : ℕ} → axis ≤ 255 → amount ≤ 4294967295 → CommandText (Shift axis amount) (decimal 2) (decimal axis) (decimal amount)
  couple : {source to : ℕ} → source ≤ 255 → to ≤ 255 → CommandText (Couple source to) (decimal 3) (decimal source) (decimal to)
  mark : {code : ℕ} → code ≤ 4294967295 → CommandText (Mark code) (decimal 4) (decimal code) []

-- A step as the letter (O 79, S 83, H 72, G 71, T 84, R 82), member, number, set, class, first and second.
pub data StepText : Step → List (List ℕ) → Type 0 where
  opens : {n last : ℕ} {k : MachineKind} → n ≤ 255 → last < 10 ^ 15 → StepText (record { call = Open n last; kind = Some k }) ((79 ∷ []) ∷ decimal n ∷ decimal last ∷ [] ∷ decimal (kind_number k) ∷ [] ∷ [] ∷ [])
  sends : {sender to : ℕ} {c : Command} {class first second : List ℕ} → sender ≤ 255 → to ≤ 65535 → CommandText c class first second → StepText (asks (Send sender to c)) ((83 ∷ []) ∷ decimal sender ∷ [] ∷ decimal to ∷ class ∷ first ∷ second ∷ [])
  hears : {m k : ℕ} → m ≤ 255 → k < 10 ^ 15 → StepText (asks (Hear m k)) ((72 ∷ []) ∷ decimal m ∷ decimal k ∷ [] ∷ [] ∷ [] ∷ [] ∷ [])
  gathers : {m k : ℕ} → m ≤ 255 → k < 10 ^ 15 → StepText (asks (Gather m k)) ((71 ∷ []) ∷ decimal m ∷ decimal k ∷ [] ∷ [] ∷ [] ∷ [] ∷ [])
  settles : {m k : ℕ} → m ≤ 255 → k < 10 ^ 15 → StepText (asks (Settle m k)) ((84 ∷ []) ∷ decimal m ∷ decimal k ∷ [] ∷ [] ∷ [] ∷ [] ∷ [])
  runs : {m : ℕ} → m ≤ 255 → StepText (asks (Run m)) ((82 ∷ []) ∷ decimal m ∷ [] ∷ [] ∷ [] ∷ [] ∷ [] ∷ [])

abbrev pub texts : List Piece → List (List ℕ)
texts ps = map (λ p. p.text) ps

-- What an answer has to do with the record that is cut there: a step is read exactly where the record's texts write it,
-- and it ends where the record does.
pub record Means (k : Cutting) (r : Read StepRead) : Type 0 where
  pub reads : (s : StepRead) → r ≡ Ok s → StepText s.step (texts k.pieces) × (e : Ended) × (k.outcome ≡ Ok e) × (s.next ≡ e.next)
  pub written : (s : Step) (e : Ended) → k.outcome ≡ Ok e → StepText s (texts k.pieces) → r ≡ Ok (record { step = s; next = e.next })
