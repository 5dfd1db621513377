-- The files from which a world can be made: their counts and places are in their ranges, and their steps name nothing
-- that isn't there.
use Rattle.std.specs.Prelude.{◌≡◌, true, ℕ, ◌<◌, ◌≤◌, List, length, All}
use Rattle.lsl_value.specs.Key.{is_valid_key}
use Rattle.lsl_lines.specs.World.{IsWorld}
use Rattle.lsl_lines.specs.declared.file.NoteLine.{NoteLine}
use Rattle.lsl_lines.specs.declared.file.ObjectLine.{ObjectLine}
use Rattle.lsl_lines.specs.declared.file.PrimLine.{PrimLine}
use Rattle.lsl_lines.specs.declared.file.ScriptLine.{ScriptLine}
use Rattle.lsl_lines.specs.declared.file.WorldFile.{WorldFile}
use Rattle.lsl_world.specs.Sizes.{IsStepOf, scripts_of, size_of_file}

-- a script's file is one of `count`
abbrev pub HasFile : ℕ → ScriptLine → Type 0
HasFile files script = script.file < files

-- a notecard's file is one of `count`
abbrev pub HasCard : ℕ → NoteLine → Type 0
HasCard cards note = note.file < cards

-- a prim's key is a valid one
abbrev pub HasKey : PrimLine → Type 0
HasKey prim = is_valid_key prim.key ≡ true

-- at least a root, each prim with a key, and scripts of this many files
pub record IsObjectOf (files : ℕ) (object : ObjectLine) : Type 0 where
  pub rooted : 0 < length object.prims
  pub few : length object.prims ≤ 255
  pub keyed : All HasKey object.prims
  pub files_there : All (λ (p : PrimLine). All (HasFile files) p.scripts) object.prims

pub record IsInRange (file : WorldFile) : Type 0 where
  pub few_objects : length file.objects ≤ 64
  pub few_scripts : scripts_of file.objects ≤ 256
  pub objects_fit : All (IsObjectOf (length file.files)) file.objects
  pub few_notes : length file.notes ≤ 256
  pub notes_fit : All (HasCard (length file.cards)) file.notes
  pub few_steps : length file.steps ≤ 100000
  pub steps_fit : All (IsStepOf (size_of_file file)) file.steps

-- a good file is of this kind
abbrev pub GoodFilesAreInRange : Type 0
GoodFilesAreInRange = (text : List ℕ) (file : WorldFile) → IsWorld text file → IsInRange file
