-- What the cutter answers, as values of the bytes that are left and their offset.
use Rattle.std.specs.Prelude.{ℕ, zero, suc, ◌+◌, ◌-◌, ◌<◌, ◌≤◌, cond, ◌&&◌, List, [], ◌∷◌, length, take, drop, Ok, Err, Result, ◌==◌, nat_lt, slice_index}
use Rattle.std.specs.List.{prefix_len}
use Rattle.record.specs.declared.Cut.{Cut}
use Rattle.record.specs.declared.FieldCut.{FieldCut}
use Rattle.record.specs.declared.FieldEnd.{FieldEnd}
use Rattle.record.specs.declared.FieldEnd.TheVariants.{Comma, Last}
use Rattle.record.specs.declared.RecordEnd.{RecordEnd}
use Rattle.record.specs.declared.RecordEnd.TheVariants.{CrLf, Script}
use Rattle.record.specs.declared.TextFault.{TextFault}
use Rattle.record.specs.Bytes.{textdata, Piece, piece, piece_of}

-- A text fault at an offset.
abbrev pub fault_at : ℕ → TextFault
fault_at at = record { at = at }

-- One field cut off: its text and offset, what ended it, what is left behind that end, and the offset of what is left.
pub record FieldSeen : Type 0 where
  pub field : Piece
  pub end : FieldEnd
  pub rest : List ℕ
  pub next : ℕ

-- What the code hands out for one field, as a plain value.
abbrev pub seen : Result FieldCut TextFault → Result FieldSeen TextFault
seen (Ok c) = Ok (record { field = piece_of c.field; end = c.end; rest = c.rest.now; next = c.next })
seen (Err f) = Err f

-- A field that is done.
abbrev pub ended : Piece → FieldEnd → List ℕ → ℕ → Result FieldSeen TextFault
ended p e rest next = Ok (record { field = p; end = e; rest = rest; next = next })

-- The bytes from place k on.
abbrev pub onwards : ℕ → List ℕ → List ℕ
onwards k bs = take (length bs - k) (drop k bs)

-- What ends a field, plain or quoted, by the bytes behind it: a comma, CR LF, or the end of the script. Any other byte is a fault.
-- (Past the end `slice_index` gives 0, which is none of these bytes.)
abbrev pub closed : Piece → List ℕ → ℕ → Result FieldSeen TextFault
closed p bs at =
    cond (slice_index bs 0 == 44) (ended p Comma (onwards 1 bs) (at + 1))
    (cond (slice_index bs 0 == 13 && slice_index bs 1 == 10) (ended p (Last CrLf) (onwards 2 bs) (at + 2))
    (cond (length bs == 0) (ended p (Last Script) [] at) (Err (fault_at at))))

-- How many bytes the next piece of text between quotes takes: two for a doubled quote, none at the closing quote and at the end, else one.
abbrev pub text_step : List ℕ → ℕ
text_step bs =
    cond (length bs == 0) 0 (cond (slice_index bs 0 == 34) (cond (nat_lt 1 (length bs) && slice_index bs 1 == 34) 2 0) 1)

-- How many bytes of text stand first between quotes: up to the closing quote, or to the end where there is none.
unfoldable pub inside : List ℕ → ℕ
inside [] = 0
inside (b ∷ []) = cond (b == 34) 0 1
inside (b ∷ c ∷ bs) = cond (b == 34) (cond (c == 34) (2 + inside bs) 0) (1 + inside (c ∷ bs))

-- A plain field: its text is the first n bytes.
abbrev pub plain_field : List ℕ → ℕ → ℕ → Result FieldSeen TextFault
plain_field bs at n = closed (piece (take n bs) at) (drop n bs) (at + n)

-- A quoted field: the bytes behind its opening quote, the offset of that quote, and how many bytes of text stand first. Behind these stands the closing quote, or it is not closed.
abbrev pub quoted_field : List ℕ → ℕ → ℕ → Result FieldSeen TextFault
quoted_field bs at n =
    cond (slice_index (drop n bs) 0 == 34) (closed (piece (take n bs) at) (onwards 1 (drop n bs)) (at + n + 2)) (Err (fault_at at))

-- The field that the bytes begin with.
abbrev pub cut_field : List ℕ → ℕ → Result FieldSeen TextFault
cut_field bs at =
    cond (slice_index bs 0 == 34) (quoted_field (onwards 1 bs) at (inside (onwards 1 bs))) (plain_field bs at (prefix_len textdata bs))

-- What cutting one record comes to: the fields met, up to the record's end or to the fault; and that end, with the offset and the bytes behind it.
pub record Ended : Type 0 where
  pub end : RecordEnd
  pub next : ℕ
  pub rest : List ℕ

pub record Cutting : Type 0 where
  pub pieces : List Piece
  pub outcome : Result Ended TextFault

abbrev pub behind : Piece → Cutting → Cutting
behind p c = record { pieces = p ∷ c.pieces; outcome = c.outcome }

-- After one field: the next one behind a comma, or the end of the record.
abbrev pub go_on : (List ℕ → ℕ → Cutting) → FieldEnd → FieldSeen → Cutting
go_on more Comma s = behind s.field (more s.rest s.next)
go_on more (Last e) s =
    record { pieces = s.field ∷ []; outcome = Ok (record { end = e; next = s.next; rest = s.rest }) }

abbrev pub step : (List ℕ → ℕ → Cutting) → Result FieldSeen TextFault → Cutting
step more (Err f) = record { pieces = []; outcome = Err f }
step more (Ok s) = go_on more s.end s

-- At most `fuel` fields; a record has fewer than two more than it has bytes, so `cut_record` gives enough.
abbrev pub cut_by : ℕ → List ℕ → ℕ → Cutting
cut_by zero bs at = record { pieces = []; outcome = Err (fault_at at) }
cut_by (suc fuel) bs at = step (cut_by fuel) (cut_field bs at)

-- The record that the bytes begin with.
unfoldable pub cut_record : List ℕ → ℕ → Cutting
cut_record bs at = cut_by (suc (length bs)) bs at

-- What the code answers for it.
abbrev pub answered : ℕ → Result Ended TextFault → Result Cut TextFault
answered n (Ok e) = Ok (record { fields = n; end = e.end; next = e.next })
answered n (Err f) = Err f

abbrev pub answer : Cutting → Result Cut TextFault
answer c = answered (length c.pieces) c.outcome

-- Where an answer lies: a record has a field, ends no further than the bytes do, and takes a byte where one is left; a fault is at one of the bytes.
abbrev pub Within : ℕ → List ℕ → Result Cut TextFault → Type 0
Within start bs (Ok c) = (0 < c.fields) × (start ≤ c.next) × (c.next ≤ start + length bs) × (0 < length bs → start < c.next)
Within start bs (Err f) = (start ≤ f.at) × (f.at < start + length bs)

-- What the places hold once fields were put there, one by one while there are places; behind them what was there.
abbrev pub placed : List Piece → List Piece → List Piece
placed [] places = places
placed (p ∷ ps) [] = []
placed (p ∷ ps) (old ∷ places) = p ∷ placed ps places
