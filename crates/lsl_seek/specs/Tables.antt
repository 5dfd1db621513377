-- The lines of the tables.
use Rattle.std.specs.Prelude.{ℕ, cond, List, Option, Some, None}
use Rattle.lsl_seek.specs.Bytes.{◌>>=◌, is_word, word_at, number_of, number_at}
use Rattle.lsl_seek.specs.Entries.{mark_sort, slot_of}
use Rattle.lsl_seek.specs.declared.entry.Slot.{Slot}
use Rattle.lsl_seek.specs.declared.entry.Sort.{Sort}
use Rattle.lsl_seek.specs.declared.tables.Mark.{Mark}
use Rattle.lsl_seek.specs.declared.tables.Name.{Name}

-- a place of a script's text, as its line has it
pub record Place : Type 0 where
  pub unit : ℕ
  pub routine : List ℕ
  pub sort : Sort
  pub line : ℕ

abbrev pub place : Mark → Place
place mark = record { unit = mark.unit; routine = mark.routine.now; sort = mark.sort; line = mark.line }

-- a variable of a file or of a mark, as its line has it
pub record Variable : Type 0 where
  pub of : ℕ
  pub slot : Slot
  pub kind : List ℕ
  pub name : List ℕ

abbrev pub variable : Name → Variable
variable it = record { of = it.of; slot = it.slot; kind = it.kind.now; name = it.name.now }

-- N SLOT KIND NAME
unfoldable pub name_of : List ℕ → Option Variable
name_of text = number_at text >>= λ of. word_at of.1 >>= λ slot. word_at slot.1 >>= λ kind. slot_of slot.0 >>= λ it.
    cond (is_word kind.1) (Some (record { of = of.0; slot = it; kind = kind.0; name = kind.1 })) None

-- N UNIT ROUTINE SORT FIRST LAST
unfoldable pub mark_of : List ℕ → Option Place
mark_of text = number_at text >>= λ number. number_at number.1 >>= λ unit. word_at unit.1 >>= λ routine.
    word_at routine.1 >>= λ sort. number_at sort.1 >>= λ first. number_of first.1 >>= λ last.
    mark_sort sort.0 >>= λ it.
    Some (record { unit = unit.0; routine = routine.0; sort = it; line = first.0 })
