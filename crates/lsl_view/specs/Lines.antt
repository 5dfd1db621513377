-- The lines that show where scripts are in their text: `script NUMBER "NAME" STATE REST QUEUED`, and then for each
-- active call, the innermost first, `call NAME LINE VALUES`.
use Rattle.std.specs.Prelude.{ℕ, suc, List, [], ◌∷◌, ◌++◌, codes, decimal, map}
use Rattle.std.specs.List.{flat_map}
use Rattle.std.specs.Str.{encode_utf8_all}
use Rattle.lsl_value.specs.declared.tagged.Value.{Value}
use Rattle.lsl_lines.specs.Journal.{joined, text_word}
use Rattle.lsl_view.specs.Values.{value_word}

-- an active call: the name of its function or event, its current line in the text, and its slots
pub record ShownCall : Type 0 where
  pub name : List ℕ
  pub line : ℕ
  pub slots : List Value

-- a script: its name, that of its state, what it rests in as a word, how many events wait, and its active calls
pub record ShownScript : Type 0 where
  pub name : List ℕ
  pub state : List ℕ
  pub rest : List ℕ
  pub queued : ℕ
  pub calls : List ShownCall

abbrev pub call_words : ShownCall → List (List ℕ)
call_words c = codes "call" ∷ encode_utf8_all c.name ∷ decimal c.line ∷ map value_word c.slots

abbrev pub call_line : ShownCall → List ℕ
call_line c = joined (call_words c) ++ 10 ∷ []

abbrev pub script_words : (number : ℕ) → ShownScript → List (List ℕ)
script_words number s =
    codes "script" ∷ decimal number ∷ text_word s.name ∷ encode_utf8_all s.state ∷ s.rest ∷ decimal s.queued ∷ []

-- the line of a script, and those of its calls
abbrev pub script_lines : (number : ℕ) → ShownScript → List ℕ
script_lines number s = joined (script_words number s) ++ 10 ∷ flat_map call_line s.calls

-- of scripts that follow this many others
abbrev pub lines_behind : ℕ → List ShownScript → List ℕ
lines_behind before [] = []
lines_behind before (s ∷ more) = script_lines (suc before) s ++ lines_behind (suc before) more

-- of all scripts, numbered from 1
abbrev pub lines_of : List ShownScript → List ℕ
lines_of scripts = lines_behind 0 scripts
