-- What is played: the world of a file, or the one that `once` makes for a script; from where, and what is printed at
-- its end.
use Rattle.std.specs.Prelude.{ℕ, codes, List, [], ◌∷◌, Option, map}
use Rattle.std.specs.Str.{encode_utf8_all}
use Rattle.lsl_lines.specs.declared.file.PrimLine.{PrimLine}
use Rattle.lsl_lines.specs.declared.file.Step.TheVariants.{Run}
use Rattle.lsl_lines.specs.declared.file.Step.{Step}
use Rattle.lsl_lines.specs.declared.file.WorldFile.{WorldFile}
use Rattle.lsl_view.specs.Names.{script_names}
use Rattle.lsl_view.specs.declared.known.Names.{Names}
use Rattle.lsl_top.specs.Positions.{steps_until}
use Rattle.lsl_top.specs.declared.positions.Position.{Position}

-- what is printed at the end of a run
pub data Last : Type 0 where
  -- where each object is
  Homes : Last
  -- the world, frozen
  Frozen : Last
  -- all that the world holds, with these names of scripts and globals
  Inspected : (names : Names) → Last

-- how a world is played
pub data Mode : Type 0 where
  -- from its start; then prints where each object is
  Whole : Mode
  -- from its start, where objects are handed over by notes; then prints where each object is
  Handing : Mode
  -- from its start; then freezes the world
  Freezing : Mode
  -- from its start up to a position, or to the end of its steps; then shows all that the world holds
  Inspecting : (at : Option Position) → Mode
  -- from the frozen world of this file; then prints where each object is
  Thawing : (frozen : List ℕ) → Mode
  -- runs nothing: shows where the scripts of the frozen world of this file are in their code
  Viewing : (frozen : List ℕ) → Mode

-- a world, the names of the files of its scripts and of its notecards, each once, in the order of their first naming,
-- and how it is played
pub record Play : Type 0 where
  pub names : List (List ℕ)
  pub cards : List (List ℕ)
  pub world : WorldFile
  pub mode : Mode

-- what was read of a play's files: the texts of its scripts' and of its notecards' files, in order, and the frozen text
pub record Read : Type 0 where
  pub texts : List (List ℕ)
  pub notes : List (List ℕ)
  pub frozen : List ℕ

-- the names of the files of a world's scripts
abbrev pub names_in : WorldFile → List (List ℕ)
names_in file = map encode_utf8_all file.files

-- and of its notecards
abbrev pub cards_in : WorldFile → List (List ℕ)
cards_in file = map encode_utf8_all file.cards

abbrev pub played : Mode → (names cards : List (List ℕ)) → WorldFile → Play
played mode names cards file = record { names = names; cards = cards; world = file; mode = mode }

-- the steps of a file that are played
abbrev pub steps_in : Mode → List Step → List Step
steps_in Whole steps = steps
steps_in Handing steps = steps
steps_in Freezing steps = steps
steps_in (Inspecting at) steps = steps_until at steps
steps_in (Thawing frozen) steps = steps
steps_in (Viewing frozen) steps = steps

-- the file as it is played
abbrev pub file_in : Mode → WorldFile → WorldFile
file_in mode file = record {
  objects = file.objects;
  files = file.files;
  cards = file.cards;
  notes = file.notes;
  steps = steps_in mode file.steps;
}

-- all that a world of the file holds, with the globals of these names
abbrev pub inspected : WorldFile → (globals : List (List (List ℕ))) → Last
inspected file globals = Inspected (record { scripts = script_names file; globals = globals })

abbrev pub play_of : Mode → WorldFile → Play
play_of mode file = played mode (names_in file) (cards_in file) file

-- one script in an object of its own, run for 1,000,000 segments; the name of its file isn't in it
abbrev pub once_prim : PrimLine
once_prim = record {
  key = codes "00000000-0000-0000-0000-000000000001";
  name = codes "Object";
  scripts = record { name = codes "New Script"; file = 0 } ∷ [];
}

abbrev pub once_world : WorldFile
once_world = record {
  objects = record {
    owner = codes "00000000-0000-0000-0000-000000000002";
    region = codes "here";
    prims = once_prim ∷ [];
  } ∷ [];
  files = [] ∷ [];
  cards = [];
  notes = [];
  steps = Run 1000000 ∷ [];
}

abbrev pub play_of_once : List ℕ → Play
play_of_once name = record { names = name ∷ []; cards = []; world = once_world; mode = Whole }
