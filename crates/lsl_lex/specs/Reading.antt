-- What the reading of one piece finds. No public clause cites these: they are proved to find the pieces.
use Rattle.std.specs.Prelude.{◌≡◌, ℕ, ◌+◌, ◌==◌, Bool, true, false, cond, ◌&&◌, List, [], ◌∷◌, length, take, drop, bytes_eq, slice_index, Option, Some, None, unwrap_or, Result, Ok, Err}
use Rattle.std.specs.List.{prefix_len}
use Rattle.std.specs.Str.{chars}
use Rattle.lsl_text.specs.Number.{is_blank, begins_hexadecimal, leading_integer_of}
use Rattle.lsl_text.specs.declared.cursor.Cursor.{Cursor}
use Rattle.lsl_text.specs.declared.Refusal.{Refusal}
use Rattle.lsl_text.specs.declared.Refusal.TheVariants.{Fault, NoMemory}
use Rattle.lsl_lex.specs.Bytes.{is_letter, is_decimal, is_hexadecimal, is_name_byte, is_in_line}
use Rattle.lsl_lex.specs.Strings.{escapes_read}
use Rattle.lsl_lex.specs.Tokens.{words, pair_signs, single_signs}
use Rattle.lsl_lex.specs.declared.faults.LexFault.{LexFault}
use Rattle.lsl_lex.specs.declared.faults.LexKind.{LexKind}
use Rattle.lsl_lex.specs.declared.faults.LexKind.TheVariants.{StringEnd, CommentEnd, FloatLiteral, StrayCharacter}
use Rattle.lsl_lex.specs.declared.token_types.Sort.{Sort}
use Rattle.lsl_lex.specs.declared.token_types.Sort.TheVariants.{Name, Int, Str}
use Rattle.lsl_lex.specs.declared.piece.Piece.{Piece}

-- a piece that gives this and its number of bytes, or a fault
abbrev pub Found : Type 0
Found = Result (Option Sort × ℕ) LexKind

abbrev pub row_of : List (List ℕ × Sort) → List ℕ → Option Sort
row_of [] bytes = None
row_of (row ∷ rows) bytes = cond (bytes_eq bytes row.0) (Some row.1) (row_of rows bytes)

-- the rows whose spellings have this many bytes
abbrev pub rows_of : ℕ → List (List ℕ × Sort) → List (List ℕ × Sort)
rows_of n [] = []
rows_of n (row ∷ rows) = cond (length row.0 == n) (row ∷ rows_of n rows) (rows_of n rows)

-- the words of this many bytes
abbrev pub words_of : ℕ → List (List ℕ × Sort)
words_of n = rows_of n words

-- one byte more, and n more
abbrev pub counted : ℕ → Option ℕ → Option ℕ
counted n None = None
counted n (Some m) = Some (n + m)

-- how many bytes a block comment has, up to its end
abbrev pub close_of : List ℕ → Option ℕ
close_of [] = None
close_of (b ∷ []) = None
close_of (b ∷ c ∷ bytes) = cond (b == 42 && c == 47) (Some 2) (counted 1 (close_of (c ∷ bytes)))

-- how many bytes the first part of a string's body has
abbrev pub part_of : List ℕ → ℕ
part_of (b ∷ c ∷ bytes) = cond (b == 92) 2 1
part_of _ = 1

-- how many bytes precede the quote that ends a string
abbrev pub quote_of : List ℕ → Option ℕ
quote_of [] = None
quote_of (b ∷ []) = cond (b == 34) (Some 0) None
quote_of (b ∷ c ∷ bytes) = cond (b == 34) (Some 0)
    (cond (b == 92) (counted 2 (quote_of bytes)) (counted 1 (quote_of (c ∷ bytes))))

unfoldable pub name : List ℕ → Found
name text =
    let n = prefix_len is_name_byte text in
    let bytes = take n text in
    Ok (Some (unwrap_or (row_of words bytes) (Name bytes)), n)

unfoldable pub number : List ℕ → Found
number text =
    let n = prefix_len is_decimal text in
    cond (begins_hexadecimal text) (Ok (
      Some (Int (leading_integer_of text)),
      prefix_len is_hexadecimal
          (drop 2 text) + 2,
    ))
    (cond (slice_index text n == 46) (Err FloatLiteral) (Ok (Some (Int (leading_integer_of text)), n)))

unfoldable pub string : List ℕ → Found
string text = elim (quote_of (drop 1 text)) [
  | None ↦ Err StringEnd
  | Some n ↦ Ok (Some (Str (escapes_read (chars (take n (drop 1 text))))), n + 2)
]

-- a comment, where one begins
unfoldable pub block_comment : List ℕ → Found
block_comment text = elim (close_of (drop 2 text)) [ None ↦ Err CommentEnd | Some n ↦ Ok (None, n + 2) ]

unfoldable pub line_comment : List ℕ → Found
line_comment text = Ok (None, prefix_len is_in_line (drop 2 text) + 2)

abbrev pub stray : List ℕ → Found
stray text = cond (slice_index text 0 == 46 && is_decimal (slice_index text 1)) (Err FloatLiteral) (Err StrayCharacter)

unfoldable pub sign : List ℕ → Found
sign text = elim (row_of pair_signs (take 2 text)) [
  | Some pair ↦ Ok (Some pair, 2)
  | None ↦ elim (row_of single_signs (take 1 text)) [ Some single ↦ Ok (Some single, 1) | None ↦ stray text ]
]

-- the piece at the front of a text that isn't empty
unfoldable pub piece : List ℕ → Found
piece text =
    let b = slice_index text 0 in
    cond (is_blank b) (Ok (None, 1))
    (cond (b == 47 && slice_index text 1 == 42) (block_comment text)
    (cond (b == 47 && slice_index text 1 == 47) (line_comment text)
    (cond (is_letter b) (name text)
    (cond (is_decimal b) (number text)
    (cond (b == 34) (string text) (sign text))))))

-- whether a piece that gives this has no line feed, whatever its bytes are
abbrev pub keeps_line : Option Sort → Bool
keeps_line None = false
keeps_line (Some (Str text)) = false
keeps_line (Some sort) = true

-- a fault at the cursor, with an empty span
abbrev pub fault_of : LexKind → Cursor → LexFault
fault_of kind cursor = record {
  kind = kind;
  span = record { start = cursor.offset; end = cursor.offset; line = cursor.line; col = cursor.col };
}

abbrev pub refusal_of : Cursor → Refusal LexKind → Refusal LexFault
refusal_of cursor (Fault kind) = Fault (fault_of kind cursor)
refusal_of cursor NoMemory = NoMemory

-- what the code found is this, or it ran out of memory
abbrev pub Finds : Result Piece (Refusal LexKind) → Found → Type 0
Finds (Ok p) found = found ≡ Ok (p.gives, p.length)
Finds (Err (Fault kind)) found = found ≡ Err kind
Finds (Err NoMemory) found = Unit {0}
