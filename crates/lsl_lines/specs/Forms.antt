-- The forms of a line: its first word says which, and the others are its fields.
use Rattle.std.specs.Prelude.{ℕ, ◌==◌, nat_le, nat_lt, cond, ◌&&◌, List, [], ◌∷◌, length, codes, Result, Ok, Err}
use Rattle.std.specs.Str.{bytes_eq, is_utf8}
use Rattle.lsl_lines.specs.Checks.{◌>>=◌, fault_unless}
use Rattle.lsl_lines.specs.Fields.{plain_of, quoted_of, natural_of, integer_of, key_of, name_of}
use Rattle.lsl_lines.specs.Words.{Word, words_of}
use Rattle.lsl_lines.specs.declared.faults.FileKind.{FileKind}
use Rattle.lsl_lines.specs.declared.faults.FileKind.TheVariants.{BadLine}
use Rattle.lsl_lines.specs.declared.file.Step.{Step as TheStep}
use Rattle.lsl_lines.specs.declared.file.Step.TheVariants.{Clock, Say, Touch, Changed, Rez, Go, Run, Pause, Cross}
use Rattle.lsl_lines.specs.declared.forms.Line.{Line}
use Rattle.lsl_lines.specs.declared.forms.Line.TheVariants.{Object, Prim, Script, Note, Begin, Step, End}

-- the number of an object, a script or a prim
abbrev pub number_of : Word → Result ℕ FileKind
number_of word = natural_of 4294967295 word

-- a count of segments
abbrev pub ticks_of : Word → Result ℕ FileKind
ticks_of word = natural_of 1000000 word

-- object KEY NAME OWNER REGION
abbrev pub object_of : List Word → Result Line FileKind
object_of (id ∷ label ∷ owner ∷ region ∷ []) =
    key_of id >>= λ k. name_of label >>= λ n. key_of owner >>= λ o. name_of region >>= λ r.
    Ok (Object k n o r)
object_of _ = Err BadLine

-- prim KEY NAME
abbrev pub prim_of : List Word → Result Line FileKind
prim_of (id ∷ label ∷ []) = key_of id >>= λ k. name_of label >>= λ n. Ok (Prim k n)
prim_of _ = Err BadLine

-- script NAME FILE
abbrev pub script_of : List Word → Result Line FileKind
script_of (label ∷ file ∷ []) = name_of label >>= λ n. name_of file >>= λ f. Ok (Script n f)
script_of _ = Err BadLine

-- note NAME FILE
abbrev pub note_of : List Word → Result Line FileKind
note_of (label ∷ file ∷ []) = name_of label >>= λ n. name_of file >>= λ f. Ok (Note n f)
note_of _ = Err BadLine

-- begin, and end
abbrev pub alone_of : List Word → Line → Result Line FileKind
alone_of [] form = Ok form
alone_of (word ∷ words) form = Err BadLine

-- clock MS
abbrev pub clock_of : List Word → Result TheStep FileKind
clock_of (time ∷ []) = natural_of 2147483647999 time >>= λ ms. Ok (Clock ms)
clock_of _ = Err BadLine

-- say CHANNEL NAME KEY TEXT
abbrev pub say_of : List Word → Result TheStep FileKind
say_of (channel ∷ speaker ∷ id ∷ text ∷ []) =
    integer_of channel >>= λ c. name_of speaker >>= λ n. key_of id >>= λ k. quoted_of text >>= λ t.
    Ok (Say c n k t)
say_of _ = Err BadLine

-- touch OBJECT LINK KEY NAME
abbrev pub touch_of : List Word → Result TheStep FileKind
touch_of (object ∷ link ∷ id ∷ toucher ∷ []) =
    number_of object >>= λ o. number_of link >>= λ l. key_of id >>= λ k. name_of toucher >>= λ n.
    Ok (Touch o l k n)
touch_of _ = Err BadLine

-- changed OBJECT FLAGS
abbrev pub changed_of : List Word → Result TheStep FileKind
changed_of (object ∷ flags ∷ []) = number_of object >>= λ o. integer_of flags >>= λ f. Ok (Changed o f)
changed_of _ = Err BadLine

-- rez OBJECT N
abbrev pub rez_of : List Word → Result TheStep FileKind
rez_of (object ∷ start ∷ []) = number_of object >>= λ o. integer_of start >>= λ n. Ok (Rez o n)
rez_of _ = Err BadLine

-- go SCRIPT TICKS
abbrev pub go_of : List Word → Result TheStep FileKind
go_of (script ∷ ticks ∷ []) = number_of script >>= λ s. ticks_of ticks >>= λ t. Ok (Go s t)
go_of _ = Err BadLine

-- run TICKS
abbrev pub run_of : List Word → Result TheStep FileKind
run_of (ticks ∷ []) = ticks_of ticks >>= λ t. Ok (Run t)
run_of _ = Err BadLine

-- cross OBJECT REGION
abbrev pub cross_of : List Word → Result TheStep FileKind
cross_of (object ∷ region ∷ []) = number_of object >>= λ o. name_of region >>= λ r. Ok (Cross o r)
cross_of _ = Err BadLine

-- a gap is at least 1
abbrev pub gap_of : Word → Result ℕ FileKind
gap_of word = ticks_of word >>= λ n. fault_unless (nat_lt 0 n) BadLine (Ok n)

abbrev pub each_gap : List Word → Result (List ℕ) FileKind
each_gap [] = Ok []
each_gap (word ∷ words) = gap_of word >>= λ gap. each_gap words >>= λ gaps. Ok (gap ∷ gaps)

-- 1 to 16 gaps
abbrev pub gaps_of : List Word → Result (List ℕ) FileKind
gaps_of words = fault_unless (nat_lt 0 (length words) && nat_le (length words) 16) BadLine (each_gap words)

-- pause GAPS, or 0 alone
abbrev pub pause_of : List Word → Result TheStep FileKind
pause_of (word ∷ []) =
    ticks_of word >>= λ n.
    cond (n == 0) (Ok (Pause [])) (gaps_of (word ∷ []) >>= λ gaps. Ok (Pause gaps))
pause_of words = gaps_of words >>= λ gaps. Ok (Pause gaps)

-- the step of this word and these fields
unfoldable pub step_of : List ℕ → List Word → Result TheStep FileKind
step_of word fields =
    cond (bytes_eq word (codes "clock")) (clock_of fields)
    (cond (bytes_eq word (codes "say")) (say_of fields)
    (cond (bytes_eq word (codes "touch")) (touch_of fields)
    (cond (bytes_eq word (codes "changed")) (changed_of fields)
    (cond (bytes_eq word (codes "rez")) (rez_of fields)
    (cond (bytes_eq word (codes "go")) (go_of fields)
    (cond (bytes_eq word (codes "run")) (run_of fields)
    (cond (bytes_eq word (codes "pause")) (pause_of fields)
    (cond (bytes_eq word (codes "cross")) (cross_of fields) (Err BadLine)))))))))

-- the form of this first word and these fields
unfoldable pub row_of : List ℕ → List Word → Result Line FileKind
row_of word fields =
    cond (bytes_eq word (codes "object")) (object_of fields)
    (cond (bytes_eq word (codes "prim")) (prim_of fields)
    (cond (bytes_eq word (codes "script")) (script_of fields)
    (cond (bytes_eq word (codes "note")) (note_of fields)
    (cond (bytes_eq word (codes "begin")) (alone_of fields Begin)
    (cond (bytes_eq word (codes "end")) (alone_of fields End)
    (step_of word fields >>= λ step. Ok (Step step)))))))

-- bytes of UTF-8
abbrev pub utf8_of : List ℕ → Result (List ℕ) FileKind
utf8_of bytes = fault_unless (is_utf8 bytes) BadLine (Ok bytes)

abbrev pub form_of_words : List Word → Result Line FileKind
form_of_words [] = Err BadLine
form_of_words (word ∷ fields) = plain_of word >>= λ bytes. utf8_of bytes >>= λ first. row_of first fields

-- what the line says; one that isn't UTF-8 says nothing
unfoldable pub form_of : List ℕ → Result Line FileKind
form_of line = utf8_of line >>= λ bytes. words_of bytes >>= form_of_words
