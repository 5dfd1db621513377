-- Places of a text: lines and columns, counted from 1, and the cursor at a place.
use Rattle.std.specs.Prelude.{◌≡◌, ℕ, ◌+◌, ◌≤◌, ◌==◌, Bool, not, List, ◌++◌, length, take, count_by}
use Rattle.std.specs.List.{suffix_len}
use Rattle.lsl_text.specs.declared.Span.{Span}
use Rattle.lsl_text.specs.declared.cursor.Cursor.{Cursor}

abbrev pub is_line_feed : ℕ → Bool
is_line_feed b = b == 10

-- the line after these bytes: one more than the line feeds among them
abbrev pub line_behind : List ℕ → ℕ
line_behind front = count_by is_line_feed front + 1

-- the column after these bytes: one more than the bytes after their last line feed
abbrev pub column_behind : List ℕ → ℕ
column_behind front = suffix_len (λ b. not (is_line_feed b)) front + 1

-- the part of a text after this prefix
abbrev pub span_of : List ℕ → List ℕ → Span
span_of front part = record {
  start = length front;
  end = length (front ++ part);
  line =
      line_behind front;
  col = column_behind front;
}

-- the cursor is right after these bytes
pub record IsBehind (front : List ℕ) (cursor : Cursor) : Type 0 where
  pub offset : cursor.offset ≡ length front
  pub line : cursor.line ≡ line_behind front
  pub col : cursor.col ≡ column_behind front

-- the cursor is at a place of the text, which may be its end
pub record IsAt (text : List ℕ) (cursor : Cursor) : Type 0 where
  pub within : cursor.offset ≤ length text
  pub behind : IsBehind (take cursor.offset text) cursor
