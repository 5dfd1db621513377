-- What the lines of a trace are.
use Rattle.std.specs.Prelude.{ℕ, ◌-◌, ◌==◌, nat_le, Bool, cond, ◌&&◌, List, codes, length, slice_index, slice_range, Option, Some, None, option_map}
use Rattle.std.specs.Str.{bytes_eq}
use Rattle.lsl_seek.specs.Bytes.{◌>>=◌, before, after, number_at}
use Rattle.lsl_seek.specs.Entries.{at_of, said_of, set_words}
use Rattle.lsl_seek.specs.Tables.{Place, Variable, mark_of, name_of, place, variable}
use Rattle.lsl_seek.specs.Aims.{is_quoted}
use Rattle.lsl_seek.specs.declared.tables.Word.{Word}
use Rattle.lsl_seek.specs.declared.tables.Word.TheVariants.{Set as OfSet, At as OfAt, Said as OfSaid, File as OfFile, Script as OfScript, Global as OfGlobal, Mark as OfMark, Name as OfName}
use Rattle.lsl_seek.specs.declared.tables.Row.{Row as TheRow}
use Rattle.lsl_seek.specs.declared.tables.Row.TheVariants.{Entry, Value, File, Script, Global, Mark, Name}

-- a quoted name, a space and a digit from 0 to 4
abbrev pub is_file_end : List ℕ → Bool
is_file_end text = nat_le 3 (length text) && (slice_index text 0 == 34 && (slice_index text (length text - 2) == 32
    && (nat_le 48 (slice_index text (length text - 1)) && nat_le (slice_index text (length text - 1)) 52)))

-- N "FILE" TIER
unfoldable pub file_of : List ℕ → Option (List ℕ)
file_of text = number_at text >>= λ number.
    cond (is_file_end number.1) (Some (slice_range number.1 0 (length number.1 - 2))) None

-- N UNIT "NAME"
unfoldable pub script_of : List ℕ → Option ℕ
script_of text = number_at text >>= λ number. number_at number.1 >>= λ unit. cond (is_quoted unit.1) (Some unit.0) None

-- what a line of a trace is
pub data Row : Type 0 where
  AnEntry : Row
  AValue : Row
  AFile : List ℕ → Row
  AScript : ℕ → Row
  AGlobal : Variable → Row
  AMark : Place → Row
  AName : Variable → Row

abbrev pub row : TheRow → Row
row Entry = AnEntry
row Value = AValue
row (File name) = AFile name.now
row (Script unit) = AScript unit
row (Global name) = AGlobal (variable name)
row (Mark mark) = AMark (place mark)
row (Name name) = AName (variable name)

-- the first word of a line
abbrev pub long_word_of : List ℕ → Option Word
long_word_of text =
    cond (bytes_eq text (codes "script")) (Some OfScript) (cond (bytes_eq text (codes "global")) (Some OfGlobal) None)

abbrev pub word_of : List ℕ → Option Word
word_of text =
    cond (bytes_eq text (codes "set")) (Some OfSet)
    (cond (bytes_eq text (codes "at")) (Some OfAt)
    (cond (bytes_eq text (codes "said")) (Some OfSaid)
    (cond (bytes_eq text (codes "file")) (Some OfFile)
    (cond (bytes_eq text (codes "mark")) (Some OfMark)
    (cond (bytes_eq text (codes "name")) (Some OfName) (long_word_of text))))))

-- what the line is that has this first word, and this after it
abbrev pub row_after : Word → List ℕ → Option Row
row_after OfSet rest = option_map (λ it. AValue) (set_words rest)
row_after OfAt rest = option_map (λ it. AnEntry) (at_of rest)
row_after OfSaid rest = option_map (λ it. AnEntry) (said_of rest)
row_after OfFile rest = option_map AFile (file_of rest)
row_after OfScript rest = option_map AScript (script_of rest)
row_after OfGlobal rest = option_map AGlobal (name_of rest)
row_after OfMark rest = option_map AMark (mark_of rest)
row_after OfName rest = option_map AName (name_of rest)

-- what a line is, if it is one of a trace
abbrev pub row_of : List ℕ → Option Row
row_of text = word_of (before 32 text) >>= λ first. row_after first (after 32 text)
