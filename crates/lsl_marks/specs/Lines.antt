-- The lines of entries.
use Rattle.std.specs.Prelude.{ℕ, ◌+◌, ◌-◌, min, nat_lt, List, [], ◌∷◌, ◌++◌, length, slice_range, codes, decimal, if◌then◌else◌, ◌==◌, ◌&&◌}
use Rattle.lsl_value.specs.declared.tagged.Kind.{Kind}
use Rattle.lsl_value.specs.declared.tagged.Kind.TheVariants.{Int, Str, Key, List as ListKind}
use Rattle.lsl_marks.specs.declared.entries.Arrival.{Arrival}
use Rattle.lsl_marks.specs.declared.entries.Entry.{Entry}
use Rattle.lsl_marks.specs.declared.entries.Value.{Value}
use Rattle.lsl_marks.specs.declared.entries.What.{What}
use Rattle.lsl_marks.specs.declared.entries.What.TheVariants.{At, Set, Said}
use Rattle.lsl_marks.specs.declared.variables.Slot.{Slot}
use Rattle.lsl_marks.specs.declared.variables.Slot.TheVariants.{Local, Global, Result}

-- a word after a space
abbrev pub spaced : List ℕ → List ℕ
spaced word = 32 ∷ word

-- what is at a place is numbered from 1; a number stays at its type's end
abbrev pub number_after : ℕ → ℕ
number_after place = min (place + 1) 18446744073709551615

abbrev pub slot_word : Slot → List ℕ
slot_word (Local place) = decimal place
slot_word (Global place) = decimal place
slot_word Result = codes "result"

-- a reported text without its quotes
abbrev pub within_quotes : List ℕ → List ℕ
within_quotes told = if nat_lt (length told) 2 then told else slice_range told 1 (length told - 1)

-- how many bytes a text has of which these are the quoted ones
abbrev pub told_length : List ℕ → ℕ
told_length [] = 0
told_length (b ∷ []) = 1
told_length (b ∷ c ∷ rest) = if b == 92 then told_length rest + 1 else told_length (c ∷ rest) + 1

-- what follows a byte, and the byte that it escapes
abbrev pub after_byte : ℕ → List ℕ → List ℕ
after_byte b [] = []
after_byte b (c ∷ rest) = if b == 92 then rest else c ∷ rest

-- two dots where a text may have been truncated
abbrev pub cut_of : List ℕ → List ℕ
cut_of inner = if nat_lt (told_length inner) 1021 then [] else 46 ∷ 46 ∷ []

-- quotes end, and others begin, in place of each broken bar
abbrev pub parted : List ℕ → List ℕ
parted [] = []
parted (b ∷ []) = b ∷ []
parted (b ∷ c ∷ rest) = if (b == 194) && (c == 166) then 34 ∷ 44 ∷ 32 ∷ 34 ∷ parted rest else b ∷ parted (c ∷ rest)

abbrev pub elements_of : List ℕ → List ℕ
elements_of [] = []
elements_of (b ∷ rest) = 34 ∷ (parted (b ∷ rest) ++ 34 ∷ [])

-- a value as a word
abbrev pub value_word : Kind → List ℕ → List ℕ
value_word Int told = within_quotes told
value_word Str told = told ++ cut_of (within_quotes told)
value_word Key told = told ++ cut_of (within_quotes told)
value_word ListKind told = 91 ∷ (elements_of (within_quotes told) ++ cut_of (within_quotes told) ++ 93 ∷ [])

abbrev pub at_words : ℕ → ℕ → Arrival → List ℕ
at_words step segment a =
    codes "at" ++ spaced (decimal step) ++ spaced (decimal segment) ++ spaced (decimal a.script)
    ++ spaced (decimal (number_after a.marker)) ++ spaced (decimal a.serial) ++ spaced (decimal a.outer)

abbrev pub set_words : Value → List ℕ
set_words v =
    codes "set" ++ spaced (decimal v.serial) ++ spaced (slot_word v.variable.slot)
    ++ spaced (value_word v.variable.kind v.told.now)

abbrev pub said_words : ℕ → ℕ → List ℕ → List ℕ
said_words step segment line = codes "said" ++ spaced (decimal step) ++ spaced (decimal segment) ++ spaced line

abbrev pub words_of : ℕ → ℕ → What → List ℕ
words_of step segment (At arrival) = at_words step segment arrival
words_of step segment (Set value) = set_words value
words_of step segment (Said line) = said_words step segment line.now

-- the line of an entry, with its end
abbrev pub line_of : Entry → List ℕ
line_of e = words_of e.step e.segment e.what ++ 10 ∷ []
