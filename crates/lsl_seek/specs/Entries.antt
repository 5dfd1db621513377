-- The lines of entries, and of the values that they set.
use Rattle.std.specs.Prelude.{ℕ, Bool, true, false, cond, List, [], ◌∷◌, codes, map, Option, Some, None}
use Rattle.std.specs.Str.{bytes_eq}
use Rattle.lsl_seek.specs.Bytes.{◌>>=◌, before, after, word_at, number_of, number_at, line_starts}
use Rattle.lsl_seek.specs.declared.entry.Entry.{Entry}
use Rattle.lsl_seek.specs.declared.entry.Set.{Set}
use Rattle.lsl_seek.specs.declared.entry.Slot.{Slot}
use Rattle.lsl_seek.specs.declared.entry.Slot.TheVariants.{Number, Result}
use Rattle.lsl_seek.specs.declared.entry.Sort.{Sort}
use Rattle.lsl_seek.specs.declared.entry.Sort.TheVariants.{Enter, Statement, Again, Leave, Note, Took, Done, Fault, Speech, Apart, Other}

-- what an entry's line says, wherever it lies in memory
pub record Line : Type 0 where
  pub step : ℕ
  pub segment : ℕ
  pub script : ℕ
  pub mark : ℕ
  pub serial : ℕ
  pub outer : ℕ
  pub said : List ℕ

abbrev pub line : Entry → Line
line entry = record {
  step = entry.step;
  segment = entry.segment;
  script = entry.script;
  mark = entry.mark;
  serial = entry.serial;
  outer = entry.outer;
  said = entry.said.now;
}

-- STEP SEGMENT SCRIPT N SERIAL OUTER
unfoldable pub at_of : List ℕ → Option Line
at_of text = number_at text >>= λ step. number_at step.1 >>= λ segment. number_at segment.1 >>= λ script.
    number_at script.1 >>= λ mark. number_at mark.1 >>= λ serial. number_of serial.1 >>= λ outer.
    Some (record {
      step = step.0;
      segment = segment.0;
      script = script.0;
      mark = mark.0;
      serial = serial.0;
      outer = outer;
      said = [];
    })

-- STEP SEGMENT LINE. The line's second word is the script, but for a line of an object
unfoldable pub said_of : List ℕ → Option Line
said_of text = number_at text >>= λ step. number_at step.1 >>= λ segment. word_at segment.1 >>= λ first.
    number_at first.1 >>= λ owner.
    Some (record {
      step = step.0;
      segment = segment.0;
      script = cond (bytes_eq first.0 (codes "home")) 0 owner.0;
      mark = 0;
      serial = 0;
      outer = 0;
      said = segment.1;
    })

-- the entry of a line, if it is one of an entry
unfoldable pub entry_of : List ℕ → Option Line
entry_of text = cond (bytes_eq (before 32 text) (codes "at")) (at_of (after 32 text))
    (cond (bytes_eq (before 32 text) (codes "said")) (said_of (after 32 text)) None)

-- the sort of a line of the journal with this first word
abbrev pub sort_of_word : List ℕ → Sort
sort_of_word word =
    cond (bytes_eq word (codes "took")) Took
    (cond (bytes_eq word (codes "done")) Done
    (cond (bytes_eq word (codes "fault")) Fault
    (cond (bytes_eq word (codes "chat")) Speech
    (cond (bytes_eq word (codes "owner")) Speech
    (cond (bytes_eq word (codes "home")) Apart
    (cond (bytes_eq word (codes "drop")) Apart Other))))))

-- the sort of a mark
abbrev pub mark_sort : List ℕ → Option Sort
mark_sort word =
    cond (bytes_eq word (codes "enter")) (Some Enter)
    (cond (bytes_eq word (codes "stmt")) (Some Statement)
    (cond (bytes_eq word (codes "again")) (Some Again)
    (cond (bytes_eq word (codes "leave")) (Some Leave)
    (cond (bytes_eq word (codes "note")) (Some Note) None))))

-- whether one can stop there
abbrev pub is_stop : Sort → Bool
is_stop Statement = true
is_stop Again = true
is_stop Leave = true
is_stop Fault = true
is_stop _ = false

-- whether it is a line of the journal
abbrev pub is_said : Sort → Bool
is_said Enter = false
is_said Statement = false
is_said Again = false
is_said Leave = false
is_said Note = false
is_said _ = true

abbrev pub slot_of : List ℕ → Option Slot
slot_of word = cond (bytes_eq word (codes "result")) (Some Result) (number_of word >>= λ n. Some (Number n))

-- a variable's value, as the line of an entry's value has it
pub record Value : Type 0 where
  pub serial : ℕ
  pub slot : Slot
  pub value : List ℕ

abbrev pub value : Set → Value
value it = record { serial = it.serial; slot = it.slot; value = it.value.now }

-- SERIAL SLOT VALUE
unfoldable pub set_words : List ℕ → Option Value
set_words text = number_at text >>= λ serial. word_at serial.1 >>= λ word. slot_of word.0 >>= λ slot.
    Some (record { serial = serial.0; slot = slot; value = word.1 })

-- the value of a line, if it is one of a value
unfoldable pub set_of : List ℕ → Option Value
set_of text = cond (bytes_eq (before 32 text) (codes "set")) (set_words (after 32 text)) None

-- those before the first that is none
abbrev pub leading : {A : Type 0} → List (Option A) → List A
leading [] = []
leading (None ∷ rest) = []
leading (Some x ∷ rest) = x ∷ leading rest

-- the values of the lines at the front
abbrev pub sets_of : List ℕ → List Value
sets_of text = leading (map (λ start. set_of (before 10 start)) (line_starts text))
