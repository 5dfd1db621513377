-- The worlds that have a text: what a world file can say.
use Rattle.std.specs.Prelude.{◌≡◌, true, ℕ, suc, ◌+◌, ◌<◌, ◌≤◌, max, ℤ, pos, negsuc, List, [], ◌∷◌, length, map}
use Rattle.std.specs.Char.{to_ascii_lowercase}
use Rattle.std.specs.List.{AllByRecursion, IsDistinct, flat_map}
use Rattle.std.specs.Str.{bytes_eq, encode_utf8_all}
use Rattle.lsl_value.specs.Key.{is_valid_key}
use Rattle.lsl_value.specs.Text.{IsText}
use Rattle.lsl_lines.specs.Reading.{clock_behind, has_link, has_number}
use Rattle.lsl_lines.specs.World.{IsWorld}
use Rattle.lsl_lines.specs.Written.{text_of_world}
use Rattle.lsl_lines.specs.declared.file.NoteLine.{NoteLine}
use Rattle.lsl_lines.specs.declared.file.ObjectLine.{ObjectLine}
use Rattle.lsl_lines.specs.declared.file.PrimLine.{PrimLine}
use Rattle.lsl_lines.specs.declared.file.ScriptLine.{ScriptLine}
use Rattle.lsl_lines.specs.declared.file.Step.{Step}
use Rattle.lsl_lines.specs.declared.file.Step.TheVariants.{Clock, Say, Touch, Changed, Rez, Go, Run, Pause, Cross}
use Rattle.lsl_lines.specs.declared.file.WorldFile.{WorldFile}

-- a text of at most 255 bytes
pub record IsName (name : List ℕ) : Type 0 where
  pub text : IsText name
  pub short : length (encode_utf8_all name) ≤ 255

-- a valid key in lower case
pub record IsLowerKey (key : List ℕ) : Type 0 where
  pub valid : is_valid_key key ≡ true
  pub lower : map to_ascii_lowercase key ≡ key

-- an integer of 32 bits
abbrev pub IsInteger : ℤ → Type 0
IsInteger (pos n) = n ≤ 2147483647
IsInteger (negsuc n) = suc n ≤ 2147483648

abbrev pub IsGap : ℕ → Type 0
IsGap gap = (0 < gap) × (gap ≤ 1000000)

-- the scripts of objects, and the keys of their prims, in their order
abbrev pub scripts_in : List ObjectLine → List ScriptLine
scripts_in objects = flat_map (λ (o : ObjectLine). flat_map (λ (p : PrimLine). p.scripts) o.prims) objects

abbrev pub keys_in : List ObjectLine → List (List ℕ)
keys_in objects = flat_map (λ (o : ObjectLine). map (λ (p : PrimLine). p.key) o.prims) objects

abbrev pub HasName : ScriptLine → Type 0
HasName script = IsName script.name

abbrev pub HasNoteName : NoteLine → Type 0
HasNoteName note = IsName note.name

pub record IsWritablePrim (prim : PrimLine) : Type 0 where
  pub key : IsLowerKey prim.key
  pub name : IsName prim.name
  pub scripts : AllByRecursion HasName prim.scripts

-- a root at least
pub record IsWritableObject (object : ObjectLine) : Type 0 where
  pub owner : IsLowerKey object.owner
  pub region : IsName object.region
  pub rooted : 0 < length object.prims
  pub few : length object.prims ≤ 255
  pub prims : AllByRecursion IsWritablePrim object.prims

-- a step of these objects and `count` scripts
abbrev pub IsWritableStep : List ObjectLine → ℕ → Step → Type 0
IsWritableStep objects scripts (Clock ms) = ms ≤ 2147483647999
IsWritableStep objects scripts (Say channel name key text) =
    IsInteger channel × IsName name × IsLowerKey key × IsText text
IsWritableStep objects scripts (Touch object link key name) =
    (has_link objects object link ≡ true) × IsLowerKey key × IsName name
IsWritableStep objects scripts (Changed object flags) =
    (has_number (length objects) object ≡ true) × IsInteger flags
IsWritableStep objects scripts (Rez object n) = (has_number (length objects) object ≡ true) × IsInteger n
IsWritableStep objects scripts (Go script ticks) = (has_number scripts script ≡ true) × (ticks ≤ 1000000)
IsWritableStep objects scripts (Run ticks) = ticks ≤ 1000000
IsWritableStep objects scripts (Pause gaps) = (length gaps ≤ 16) × AllByRecursion IsGap gaps
IsWritableStep objects scripts (Cross object region) =
    (has_number (length objects) object ≡ true) × IsName region

-- the number of files named after these scripts, where `count` were named before
abbrev pub named_behind : ℕ → List ScriptLine → ℕ
named_behind count [] = count
named_behind count (script ∷ scripts) = named_behind (max count (script.file + 1)) scripts

-- each script names a file that was named before it, or the next one
abbrev pub NameInTurn : ℕ → List ScriptLine → Type 0
NameInTurn count [] = Unit {0}
NameInTurn count (script ∷ scripts) = (script.file ≤ count) × NameInTurn (max count (script.file + 1)) scripts

-- a notecard names its file as a script does
abbrev pub as_script : NoteLine → ScriptLine
as_script note = record { name = note.name; file = note.file }

-- each notecard lies in a prim of these numbers, and in none before that of the last one
abbrev pub LieInTurn : (least most : ℕ) → List NoteLine → Type 0
LieInTurn least most [] = Unit {0}
LieInTurn least most (note ∷ notes) = (least ≤ note.prim) × (note.prim ≤ most) × LieInTurn note.prim most notes

-- no clock is below the last one
abbrev pub ClocksRise : ℕ → List Step → Type 0
ClocksRise clock [] = Unit {0}
ClocksRise clock (step ∷ steps) = (clock ≤ clock_behind clock step) × ClocksRise (clock_behind clock step) steps

-- a world that a text can describe
pub record IsWritable (file : WorldFile) : Type 0 where
  pub few_objects : length file.objects ≤ 64
  pub few_scripts : length (scripts_in file.objects) ≤ 256
  pub few_steps : length file.steps ≤ 100000
  pub objects : AllByRecursion IsWritableObject file.objects
  pub keys_differ : IsDistinct bytes_eq (keys_in file.objects)
  pub files : AllByRecursion IsName file.files
  pub files_differ : IsDistinct bytes_eq file.files
  pub in_turn : NameInTurn 0 (scripts_in file.objects)
  pub all_named : named_behind 0 (scripts_in file.objects) ≡ length file.files
  pub few_notes : length file.notes ≤ 256
  pub notes : AllByRecursion HasNoteName file.notes
  pub in_prims : LieInTurn 1 (length (keys_in file.objects)) file.notes
  pub cards : AllByRecursion IsName file.cards
  pub cards_differ : IsDistinct bytes_eq file.cards
  pub cards_in_turn : NameInTurn 0 (map as_script file.notes)
  pub all_cards_named : named_behind 0 (map as_script file.notes) ≡ length file.cards
  pub steps : AllByRecursion (IsWritableStep file.objects (length (scripts_in file.objects))) file.steps
  pub clocks_rise : ClocksRise 0 file.steps
  pub short : length (text_of_world file) ≤ 1048576

-- each such world is that of its text
abbrev pub EachIsRead : Type 0
EachIsRead = (file : WorldFile) → IsWritable file → IsWorld (text_of_world file) file
