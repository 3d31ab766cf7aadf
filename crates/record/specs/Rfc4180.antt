-- RFC 4180's grammar over lists of bytes, as relations: what a field and a record are, and where one stands.
-- Nothing here says how they are found.
use Rattle.std.specs.Prelude.{◌≡◌, ℕ, ◌+◌, true, false, ◌≢◌, List, [], ◌∷◌, ◌++◌, length, Ok, Err, Result}
use Rattle.record.specs.declared.Cut.{Cut}
use Rattle.record.specs.declared.TextFault.{TextFault}
use Rattle.record.specs.declared.FieldEnd.{FieldEnd}
use Rattle.record.specs.declared.FieldEnd.TheVariants.{Last}
use Rattle.record.specs.declared.RecordEnd.{RecordEnd}
use Rattle.record.specs.declared.RecordEnd.TheVariants.{Script}
use Rattle.record.specs.Bytes.{textdata, Piece, piece, field_end_bytes, record_end_bytes}
use Rattle.record.specs.Cut.{FieldSeen, placed}

-- non-escaped = *TEXTDATA: bytes other than comma, quote, CR and LF.
pub data PlainText : List ℕ → Type 0 where
  none : PlainText []
  more : {b : ℕ} {bs : List ℕ} → textdata b ≡ true → PlainText bs → PlainText (b ∷ bs)

-- What stands between quotes, *(TEXTDATA / COMMA / CR / LF / 2DQUOTE): any bytes, but quotes only in pairs.
pub data QuotedText : List ℕ → Type 0 where
  nothing : QuotedText []
  other : {b : ℕ} {bs : List ℕ} → b ≢ 34 → QuotedText bs → QuotedText (b ∷ bs)
  doubled : {bs : List ℕ} → QuotedText bs → QuotedText (34 ∷ 34 ∷ bs)

-- field = (escaped / non-escaped), escaped = DQUOTE .. DQUOTE: the bytes as they are written, and the field's text.
pub data FieldIs : List ℕ → List ℕ → Type 0 where
  plain : {text : List ℕ} → PlainText text → FieldIs text text
  escaped : {text : List ℕ} → QuotedText text → FieldIs (34 ∷ (text ++ (34 ∷ []))) text

-- record = field *(COMMA field): written from an offset on, with each field's text and the offset where it is written.
pub data RecordIs : ℕ → List ℕ → List Piece → Type 0 where
  last : {at : ℕ} {written text : List ℕ} → FieldIs written text → RecordIs at written (piece text at ∷ [])
  comma : {at : ℕ} {written text others : List ℕ} {ps : List Piece} → FieldIs written text → RecordIs (at + length written + 1) others ps → RecordIs at (written ++ (44 ∷ others)) (piece text at ∷ ps)

-- A field stands at the front of the bytes: it, then what ends it, and then the rest. Where the end of the script ends it, nothing is left.
pub record FieldStands (bs text : List ℕ) (end : FieldEnd) (rest : List ℕ) : Type 0 where
  pub written : List ℕ
  pub is_field : FieldIs written text
  pub splits : bs ≡ written ++ (field_end_bytes end ++ rest)
  pub nothing_left : end ≡ Last Script → rest ≡ []

-- A record stands at the front of the bytes, which begin at an offset: it, then its end, and then the rest.
pub record Stands (at : ℕ) (bs : List ℕ) (ps : List Piece) (end : RecordEnd) (rest : List ℕ) : Type 0 where
  pub written : List ℕ
  pub is_record : RecordIs at written ps
  pub splits : bs ≡ written ++ (record_end_bytes end ++ rest)
  pub nothing_left : end ≡ Script → rest ≡ []

-- Bytes that end no field: neither a comma nor CR LF stands first.
pub record EndsNone (bs : List ℕ) : Type 0 where
  pub no_comma : (rest : List ℕ) → bs ≢ 44 ∷ rest
  pub no_line_end : (rest : List ℕ) → bs ≢ 13 ∷ 10 ∷ rest

-- Where a field that begins at an offset breaks a rule.
--   unclosed: a quote that is not closed, at that quote.
--   behind_plain: a byte behind plain text that is not text and ends no field, at that byte; a quote that is the first byte opens the field.
--   behind_quoted: a byte behind a closing quote that ends no field, at that byte; one more quote there would double the first.
pub data FieldFault : ℕ → List ℕ → ℕ → Type 0 where
  unclosed : {at : ℕ} {text : List ℕ} → QuotedText text → FieldFault at (34 ∷ text) at
  behind_plain : {at : ℕ} {text : List ℕ} {b : ℕ} {rest : List ℕ} → PlainText text → textdata b ≡ false → ((others : List ℕ) → text ++ (b ∷ rest) ≢ 34 ∷ others) → EndsNone (b ∷ rest) → FieldFault at (text ++ (b ∷ rest)) (at + length text)
  behind_quoted : {at : ℕ} {text : List ℕ} {b : ℕ} {rest : List ℕ} → QuotedText text → b ≢ 34 → EndsNone (b ∷ rest) → FieldFault at (34 ∷ (text ++ (34 ∷ (b ∷ rest)))) (at + length text + 2)

-- Where a record that begins at an offset breaks a rule, with the fields before: in its first field, or in a later one.
pub data RecordFault : ℕ → List ℕ → List Piece → ℕ → Type 0 where
  here : {at : ℕ} {bs : List ℕ} {k : ℕ} → FieldFault at bs k → RecordFault at bs [] k
  later : {at : ℕ} {written text others : List ℕ} {ps : List Piece} {k : ℕ} → FieldIs written text → RecordFault (at + length written + 1) others ps k → RecordFault at (written ++ (44 ∷ others)) (piece text at ∷ ps) k

-- What an answer about one field has to do with the field that stands there: that one is handed out, and a fault is at the byte that breaks a rule.
pub record FieldAnswer (at : ℕ) (bs : List ℕ) (r : Result FieldSeen TextFault) : Type 0 where
  pub found : (text : List ℕ) (end : FieldEnd) (rest : List ℕ) (s : FieldStands bs text end rest) → r ≡ Ok (record { field = piece text at; end = end; rest = rest; next = at + length s.written + length (field_end_bytes end) })
  pub stands : (s : FieldSeen) → r ≡ Ok s → FieldStands bs s.field.text s.end s.rest
  pub breaks : (f : TextFault) → r ≡ Err f → FieldFault at bs f.at
  pub broken : (k : ℕ) → FieldFault at bs k → r ≡ Err (record { at = k })

-- What an answer about one record, and what the places then hold, have to do with the record that stands there.
pub record RecordAnswer (at : ℕ) (bs : List ℕ) (before after : List Piece) (r : Result Cut TextFault) : Type 0 where
  -- a record that stands there is the one handed out: its fields, its end, and the offset behind that
  pub found : (ps : List Piece) (end : RecordEnd) (rest : List ℕ) (s : Stands at bs ps end rest) → (r ≡ Ok (record { fields = length ps; end = end; next = at + length s.written + length (record_end_bytes end) })) × (after ≡ placed ps before)
  -- an answer with no fault says that a record stands there
  pub stands : (cut : Cut) → r ≡ Ok cut → (ps : List Piece) × (rest : List ℕ) × Stands at bs ps cut.end rest
  -- at most one record stands there
  pub only : (ps qs : List Piece) (end end' : RecordEnd) (rest rest' : List ℕ) → Stands at bs ps end rest → Stands at bs qs end' rest' → (ps ≡ qs) × (end ≡ end') × (rest ≡ rest')
  -- a fault says that none does
  pub none_stands : (f : TextFault) → r ≡ Err f → (ps : List Piece) (end : RecordEnd) (rest : List ℕ) → Stands at bs ps end rest → ⊥
  -- and where none does, the answer is a fault
  pub faulty : ((ps : List Piece) (end : RecordEnd) (rest : List ℕ) → Stands at bs ps end rest → ⊥) → (f : TextFault) × (r ≡ Err f)
  -- a fault is at the byte that breaks a rule, and the fields before it are handed out
  pub breaks : (f : TextFault) → r ≡ Err f → (ps : List Piece) × RecordFault at bs ps f.at
  pub broken : (ps : List Piece) (k : ℕ) → RecordFault at bs ps k → (r ≡ Err (record { at = k })) × (after ≡ placed ps before)
