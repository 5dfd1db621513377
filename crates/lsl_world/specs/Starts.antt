-- The world of a file at its start: the clock is 0, and each script is in its first state, with `state_entry` posted.
use Rattle.std.specs.Prelude.{ℕ, suc, List, [], ◌∷◌, ◌++◌, map}
use Rattle.lsl_lines.specs.declared.file.ObjectLine.{ObjectLine}
use Rattle.lsl_lines.specs.declared.file.PrimLine.{PrimLine}
use Rattle.lsl_lines.specs.declared.file.ScriptLine.{ScriptLine}
use Rattle.lsl_lines.specs.declared.file.WorldFile.{WorldFile}
use Rattle.lsl_notes.specs.declared.cards.Notecard.{Notecard}
use Rattle.lsl_script.specs.Rules.{Rules}
use Rattle.lsl_script.specs.Scripts.{new_script}
use Rattle.lsl_region.specs.declared.objects.Linkset.{Linkset}
use Rattle.lsl_region.specs.declared.objects.Primitive.{Primitive}
use Rattle.lsl_region.specs.Worlds.{Member, World}

abbrev pub prim_of_line : PrimLine → Primitive
prim_of_line line = record { key = line.key; name = line.name }

abbrev pub object_of_line : ObjectLine → Linkset
object_of_line line = record {
  owner = line.owner;
  region = line.region;
  prims = map prim_of_line line.prims;
  store = [];
}

-- the script of a line, in the prim at this place of the object at this place
abbrev pub member_of_line : Rules → ℕ → ℕ → ScriptLine → Member
member_of_line r object prim line =
    record { object = object; prim = prim; name = line.name; script = new_script r line.file }

-- the scripts of that prim
abbrev pub members_of_prim : Rules → ℕ → ℕ → List ScriptLine → List Member
members_of_prim r object prim lines = map (member_of_line r object prim) lines

-- of these prims, numbered from this place on
abbrev pub members_of_prims : Rules → ℕ → ℕ → List PrimLine → List Member
members_of_prims r object prim [] = []
members_of_prims r object prim (line ∷ lines) =
    members_of_prim r object prim line.scripts ++ members_of_prims r object (suc prim) lines

-- of these objects, numbered from this place on
abbrev pub members_of_objects : Rules → ℕ → List ObjectLine → List Member
members_of_objects r object [] = []
members_of_objects r object (line ∷ lines) =
    members_of_prims r object 0 line.prims ++ members_of_objects r (suc object) lines

-- with these notecards, by prims that are numbered from 1 on through all objects
abbrev pub start : Rules → WorldFile → List Notecard → World
start r file cards = record {
  clock = 0;
  objects = map object_of_line file.objects;
  members = members_of_objects r 0 file.objects;
  cards = cards;
}
