-- The step that the seven fields of a record ask for.
use Rattle.std.specs.Prelude.{ℕ, ◌+◌, ◌<◌, ◌≤◌, cond, List, [], length, Some, None, Ok, Err, Result, ◌==◌, slice_index, slice_index_or}
use Rattle.machine.specs.declared.command.Command.{Command}
use Rattle.machine.specs.declared.command.Command.TheVariants.{Set, Shift, Couple, Mark}
use Rattle.ordering.specs.declared.calls.Call.{Call}
use Rattle.ordering.specs.declared.calls.Call.TheVariants.{Open, Send, Hear, Gather, Settle, Run}
use Rattle.record.specs.Bytes.{Piece, piece, piece_of}
use Rattle.record.specs.Cut.{Ended, cut_record}
use Rattle.record.specs.declared.TextFault.{TextFault}
use Rattle.script.specs.declared.faults.Cause.TheVariants.{BadText, FieldCount, UnknownLetter}
use Rattle.script.specs.declared.operands.Operands.{Operands}
use Rattle.script.specs.declared.steps.CommandKind.{CommandKind}
use Rattle.script.specs.declared.steps.CommandKind.TheVariants.{Set as SetKind, Shift as ShiftKind, Couple as CoupleKind, Mark as MarkKind}
use Rattle.script.specs.declared.steps.Letter.{Letter}
use Rattle.script.specs.declared.steps.Letter.TheVariants.{O, S, H, G, T, R}
use Rattle.script.specs.declared.steps.Step.{Step}
use Rattle.script.specs.declared.steps.StepRead.{StepRead}
use Rattle.script.specs.Fields.{Read, fault, number_as, any_number, up_to, empty, kind_of, command_kind}

-- One field first, and then what it leads to: fields are read from left to right, and the first fault stands.
abbrev pub and_then : {A B : Type 0} → Read A → (A → Read B) → Read B
and_then (Ok x) more = more x
and_then (Err e) more = Err e

-- A field that must be empty, and then the next.
abbrev pub blank : {A : Type 0} → Piece → Read A → Read A
blank p more = and_then (empty p) (λ _. more)

-- The fields behind the letter.
pub record Pieces : Type 0 where
  pub member : Piece
  pub number : Piece
  pub set : Piece
  pub class : Piece
  pub first : Piece
  pub second : Piece

abbrev pub pieces_of : Operands → Pieces
pieces_of f =
    record { member = piece_of f.member; number = piece_of f.number; set = piece_of f.set; class = piece_of f.class; first = piece_of f.first; second = piece_of f.second }

-- A step that is no open names no kind.
abbrev pub asks : Call → Step
asks c = record { call = c; kind = None }

-- O uses member as the member count, number as the last issue number, class as the kind of the machines.
abbrev pub open_step : Pieces → Read Step
open_step f =
    and_then (up_to 255 f.member) (λ n. and_then (any_number f.number) (λ last. blank f.set (and_then (kind_of f.class) (λ k. blank f.first (blank f.second (Ok (record { call = Open n last; kind = Some k })))))))

-- The command of a send, by its class: Set and Shift have an axis and a word, Couple two axes, Mark one word.
abbrev pub axis_and_word : Pieces → Read (ℕ × ℕ)
axis_and_word f = and_then (up_to 255 f.first) (λ axis. and_then (up_to 4294967295 f.second) (λ w. Ok (axis, w)))

abbrev pub two_axes : Pieces → Read Command
two_axes f = and_then (up_to 255 f.first) (λ source. and_then (up_to 255 f.second) (λ to. Ok (Couple source to)))

abbrev pub word_alone : Pieces → Read Command
word_alone f = and_then (up_to 4294967295 f.first) (λ code. blank f.second (Ok (Mark code)))

abbrev pub command_by : CommandKind → Pieces → Read Command
command_by SetKind f = and_then (axis_and_word f) (λ d. Ok (Set d.0 d.1))
command_by ShiftKind f = and_then (axis_and_word f) (λ d. Ok (Shift d.0 d.1))
command_by CoupleKind f = two_axes f
command_by MarkKind f = word_alone f

abbrev pub command_of : Pieces → Read Command
command_of f = and_then (number_as command_kind f.class) (λ k. command_by k f)

-- S uses member as the sender, set, class, first and second.
abbrev pub send_step : Pieces → Read Step
send_step f =
    and_then (up_to 255 f.member) (λ sender. blank f.number (and_then (up_to 65535 f.set) (λ set. and_then (command_of f) (λ c. Ok (asks (Send sender set c))))))

-- H, G and T use member and number.
abbrev pub destination_of : Pieces → Read (ℕ × ℕ)
destination_of f =
    and_then (up_to 255 f.member) (λ m. and_then (any_number f.number) (λ k. blank f.set (blank f.class (blank f.first (blank f.second (Ok (m, k)))))))

abbrev pub named_step : (ℕ → ℕ → Call) → Pieces → Read Step
named_step make f = and_then (destination_of f) (λ d. Ok (asks (make d.0 d.1)))

-- R uses member.
abbrev pub run_step : Pieces → Read Step
run_step f =
    and_then (up_to 255 f.member) (λ m. blank f.number (blank f.set (blank f.class (blank f.first (blank f.second (Ok (asks (Run m))))))))

abbrev pub step_by : Letter → Pieces → Read Step
step_by O f = open_step f
step_by S f = send_step f
step_by H f = named_step Hear f
step_by G f = named_step Gather f
step_by T f = named_step Settle f
step_by R f = run_step f

-- The letter: one byte, and one of the six.
abbrev pub letter_of : Piece → Read Letter
letter_of p =
    cond (length p.text == 1)
    (cond (slice_index p.text 0 == 79) (Ok O)
    (cond (slice_index p.text 0 == 83) (Ok S)
    (cond (slice_index p.text 0 == 72) (Ok H)
    (cond (slice_index p.text 0 == 71) (Ok G)
    (cond (slice_index p.text 0 == 84) (Ok T)
    (cond (slice_index p.text 0 == 82) (Ok R)
    (Err (fault UnknownLetter p.at))))))))
    (Err (fault UnknownLetter p.at))

-- The step of seven fields, the letter first.
abbrev pub no_piece : Piece
no_piece = piece [] 0

abbrev pub behind_letter : List Piece → Pieces
behind_letter ps =
    record { member = slice_index_or ps 1 no_piece; number = slice_index_or ps 2 no_piece; set = slice_index_or ps 3 no_piece; class = slice_index_or ps 4 no_piece; first = slice_index_or ps 5 no_piece; second = slice_index_or ps 6 no_piece }

abbrev pub step_of : List Piece → Read Step
step_of ps = and_then (letter_of (slice_index_or ps 0 no_piece)) (λ l. step_by l (behind_letter ps))

-- The step of a record that begins at an offset: its text is cut, it has seven fields, and these ask for a step.
abbrev pub step_within : ℕ → List Piece → Result Ended TextFault → Read StepRead
step_within start ps (Err f) = Err (fault BadText f.at)
step_within start ps (Ok e) =
    cond (length ps == 7) (and_then (step_of ps) (λ s. Ok (record { step = s; next = e.next }))) (Err (fault FieldCount start))

abbrev pub step_at : List ℕ → ℕ → Read StepRead
step_at bs start = step_within start (cut_record bs start).pieces (cut_record bs start).outcome

-- Where a step that was read ends: not before its record begins, no further than the bytes do, and behind a byte where one is left.
abbrev pub Ends : ℕ → List ℕ → Read StepRead → Type 0
Ends start bs (Ok r) = (start ≤ r.next) × (r.next ≤ start + length bs) × (0 < length bs → start < r.next)
Ends start bs (Err e) = Unit {0}
