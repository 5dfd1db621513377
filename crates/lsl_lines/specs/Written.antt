-- The text of a world: a line for each object, prim, script, notecard and step, with one space between words.
use Rattle.std.specs.Prelude.{ℕ, zero, suc, ◌+◌, ◌==◌, ℤ, cond, List, [], ◌∷◌, ◌++◌, length, map, get_or, codes, decimal}
use Rattle.std.specs.List.{flat_map}
use Rattle.lsl_text.specs.Number.{decimal_of}
use Rattle.lsl_lines.specs.Journal.{joined, text_word}
use Rattle.lsl_lines.specs.declared.file.NoteLine.{NoteLine}
use Rattle.lsl_lines.specs.declared.file.ObjectLine.{ObjectLine}
use Rattle.lsl_lines.specs.declared.file.PrimLine.{PrimLine}
use Rattle.lsl_lines.specs.declared.file.ScriptLine.{ScriptLine}
use Rattle.lsl_lines.specs.declared.file.Step.{Step as TheStep}
use Rattle.lsl_lines.specs.declared.file.Step.TheVariants.{Clock, Say, Touch, Changed, Rez, Go, Run, Pause, Cross}
use Rattle.lsl_lines.specs.declared.file.WorldFile.{WorldFile}
use Rattle.lsl_lines.specs.declared.forms.Line.{Line}
use Rattle.lsl_lines.specs.declared.forms.Line.TheVariants.{Object, Prim, Script, Note, Begin, Step, End}
use Rattle.lsl_lines.specs.Words.{Word, Plain, Quoted}

abbrev pub written : Word → List ℕ
written (Plain bytes) = bytes
written (Quoted text) = text_word text

abbrev pub number : ℕ → Word
number n = Plain (decimal n)

abbrev pub integer : ℤ → Word
integer n = Plain (decimal_of n)

-- gaps, or 0 where there is none
abbrev pub gap_words : List ℕ → List Word
gap_words [] = number 0 ∷ []
gap_words (gap ∷ gaps) = map number (gap ∷ gaps)

-- the words of a step
abbrev pub step_words : TheStep → List Word
step_words (Clock ms) = Plain (codes "clock") ∷ number ms ∷ []
step_words (Say channel name key text) =
    Plain (codes "say") ∷ integer channel ∷ Quoted name ∷ Plain key ∷ Quoted text ∷ []
step_words (Touch object link key name) =
    Plain (codes "touch") ∷ number object ∷ number link ∷ Plain key ∷ Quoted name ∷ []
step_words (Changed object flags) = Plain (codes "changed") ∷ number object ∷ integer flags ∷ []
step_words (Rez object n) = Plain (codes "rez") ∷ number object ∷ integer n ∷ []
step_words (Go script ticks) = Plain (codes "go") ∷ number script ∷ number ticks ∷ []
step_words (Run ticks) = Plain (codes "run") ∷ number ticks ∷ []
step_words (Pause gaps) = Plain (codes "pause") ∷ gap_words gaps
step_words (Cross object region) = Plain (codes "cross") ∷ number object ∷ Quoted region ∷ []

-- the words of a line
abbrev pub line_words : Line → List Word
line_words (Object key name owner region) =
    Plain (codes "object") ∷ Plain key ∷ Quoted name ∷ Plain owner ∷ Quoted region ∷ []
line_words (Prim key name) = Plain (codes "prim") ∷ Plain key ∷ Quoted name ∷ []
line_words (Script name file) = Plain (codes "script") ∷ Quoted name ∷ Quoted file ∷ []
line_words (Note name file) = Plain (codes "note") ∷ Quoted name ∷ Quoted file ∷ []
line_words Begin = Plain (codes "begin") ∷ []
line_words (Step step) = step_words step
line_words End = Plain (codes "end") ∷ []

-- a line without its line feed
abbrev pub line_text : Line → List ℕ
line_text line = joined (map written (line_words line))

-- a script, whose file is one of these
abbrev pub script_line : List (List ℕ) → ScriptLine → Line
script_line files script = Script script.name (get_or files script.file [])

abbrev pub script_lines : List (List ℕ) → PrimLine → List Line
script_lines files prim = map (script_line files) prim.scripts

-- a notecard, whose file is one of these
abbrev pub note_line : List (List ℕ) → NoteLine → Line
note_line cards note = Note note.name (get_or cards note.file [])

-- the notecards at the head of these that lie in the prim of this number, and those after them
abbrev pub lying_in : ℕ → List NoteLine → List NoteLine
lying_in prim [] = []
lying_in prim (note ∷ notes) = cond (note.prim == prim) (note ∷ lying_in prim notes) []

abbrev pub left_by : ℕ → List NoteLine → List NoteLine
left_by prim [] = []
left_by prim (note ∷ notes) = cond (note.prim == prim) (left_by prim notes) (note ∷ notes)

-- those that are left by `count` prims, from this number on
abbrev pub left_by_prims : (prim count : ℕ) → List NoteLine → List NoteLine
left_by_prims prim zero notes = notes
left_by_prims prim (suc count) notes = left_by_prims (prim + 1) count (left_by prim notes)

abbrev pub note_lines : WorldFile → ℕ → List NoteLine → List Line
note_lines file prim notes = map (note_line file.cards) (lying_in prim notes)

-- child prims from this number on, each with its scripts and those of these notecards that lie in it
abbrev pub prim_lines : WorldFile → ℕ → List NoteLine → List PrimLine → List Line
prim_lines file prim notes [] = []
prim_lines file prim notes (p ∷ prims) =
    Prim p.key p.name ∷ (script_lines file.files p
    ++ (note_lines file prim notes ++ prim_lines file (prim + 1) (left_by prim notes) prims))

-- the prims of an object of this owner in this region, the root first
abbrev pub rooted_lines : WorldFile → ℕ → List NoteLine → List ℕ → List ℕ → List PrimLine → List Line
rooted_lines file prim notes owner region [] = []
rooted_lines file prim notes owner region (root ∷ prims) =
    Object root.key root.name owner region ∷ (script_lines file.files root
    ++ (note_lines file prim notes ++ prim_lines file (prim + 1) (left_by prim notes) prims))

abbrev pub object_lines : WorldFile → ℕ → List NoteLine → List ObjectLine → List Line
object_lines file prim notes [] = []
object_lines file prim notes (o ∷ objects) =
    rooted_lines file prim notes o.owner o.region o.prims
    ++ object_lines file (prim + length o.prims) (left_by_prims prim (length o.prims) notes) objects

-- the lines of a world, in their order
abbrev pub lines_of_world : WorldFile → List Line
lines_of_world file =
    object_lines file 1 file.notes file.objects ++ Begin ∷ (map (λ step. Step step) file.steps ++ End ∷ [])

-- each line ends with a line feed
abbrev pub text_of_world : WorldFile → List ℕ
text_of_world file = flat_map (λ line. line ++ 10 ∷ []) (map line_text (lines_of_world file))
