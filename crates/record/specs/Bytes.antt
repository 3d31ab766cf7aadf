-- The bytes that have a meaning in RFC 4180 text, and the plain values that stand for what the code holds by reference.
use Rattle.std.specs.Prelude.{ℕ, Bool, not, ◌&&◌, List, [], ◌∷◌, ◌==◌}
use Rattle.record.specs.declared.Field.{Field}
use Rattle.record.specs.declared.RecordEnd.{RecordEnd}
use Rattle.record.specs.declared.RecordEnd.TheVariants.{CrLf, Script}
use Rattle.record.specs.declared.FieldEnd.{FieldEnd}
use Rattle.record.specs.declared.FieldEnd.TheVariants.{Comma, Last}

-- Text outside quotes: every byte but comma (44), quote (34), CR (13) and LF (10).
abbrev pub textdata : ℕ → Bool
textdata b = not (b == 44) && (not (b == 34) && (not (b == 13) && not (b == 10)))

-- The bytes that end a record.
abbrev pub record_end_bytes : RecordEnd → List ℕ
record_end_bytes CrLf = 13 ∷ 10 ∷ []
record_end_bytes Script = []

-- The bytes that end a field.
abbrev pub field_end_bytes : FieldEnd → List ℕ
field_end_bytes Comma = 44 ∷ []
field_end_bytes (Last e) = record_end_bytes e

-- A field as a plain value: its text and its offset.
pub record Piece : Type 0 where
  pub text : List ℕ
  pub at : ℕ

abbrev pub piece : List ℕ → ℕ → Piece
piece t at = record { text = t; at = at }

abbrev pub piece_of : Field → Piece
piece_of f = piece f.text.now f.at
