-- A frozen world: its parts and their image, and the worlds that an image can be of where a file gives the objects.
use Rattle.std.specs.Prelude.{◌≡◌, ℕ, List, length, map, Some, slice_get}
use Rattle.std.specs.List.{flat_map}
use Rattle.lsl_code.specs.declared.woven_units.Woven.{Woven as Code}
use Rattle.lsl_image.specs.declared.parts.Shape.{Shape}
use Rattle.lsl_image.specs.declared.parts.WorldParts.{WorldParts}
use Rattle.lsl_image.specs.Bytes.{world_image}
use Rattle.lsl_image.specs.Images.{WorldImage}
use Rattle.lsl_lines.specs.declared.file.ObjectLine.{ObjectLine}
use Rattle.lsl_lines.specs.declared.file.PrimLine.{PrimLine}
use Rattle.lsl_lines.specs.declared.file.ScriptLine.{ScriptLine}
use Rattle.lsl_lines.specs.declared.file.WorldFile.{WorldFile}
use Rattle.lsl_notes.specs.declared.cards.Notecard.{Notecard}
use Rattle.lsl_tree.specs.Program.{Program}
use Rattle.lsl_script.specs.Lawful.{Lawful}
use Rattle.lsl_region.specs.GridParts.{fixed_in, placed_in}
use Rattle.lsl_region.specs.Journeys.{contents_of}
use Rattle.lsl_region.specs.Worlds.{Member, World as SourceWorld, prim_at}
use Rattle.lsl_world.specs.Programs.{rules_of}
use Rattle.lsl_world.specs.Starts.{prim_of_line, start}
use Rattle.lsl_world.specs.declared.world.World.{World}

-- the parts of a world whose scripts have these units, and of a world in memory
abbrev pub parts_of_world : List Code → SourceWorld → WorldParts
parts_of_world codes w = record { clock = w.clock; objects = placed_in (contents_of codes w) }

abbrev pub parts_in : World → WorldParts
parts_in world = record { clock = world.clock; objects = placed_in world.grid }

-- the bytes of a frozen world, in version 2
abbrev pub frozen_image : List Code → SourceWorld → List ℕ
frozen_image codes w = world_image 2 codes (parts_of_world codes w)

-- what a file says of an object: its root's key, the number of its prims, and the places of its scripts' files
abbrev pub files_of_prim : PrimLine → List ℕ
files_of_prim prim = map (λ (s : ScriptLine). s.file) prim.scripts

abbrev pub shape_of_line : ObjectLine → Shape
shape_of_line line = record {
  key = (prim_at (map prim_of_line line.prims) 0).key;
  prims = length line.prims;
  units = flat_map files_of_prim line.prims;
}

abbrev pub shapes_of_file : WorldFile → List Shape
shapes_of_file file = map shape_of_line file.objects

-- the bytes are an image of these parts, where the file gives the objects
abbrev pub IsImageIn : List Code → WorldFile → WorldParts → List ℕ → Type 0
IsImageIn codes file parts bytes = WorldImage (shapes_of_file file) codes parts bytes

-- A world that agrees with a file, with scripts of these programs, and with these notecards: its owners, its prims'
-- keys, and of each script its prim, its name and its program are the file's. A handler in flight is one that its
-- script can have.
pub record AgreesWith (programs : List Program) (file : WorldFile) (cards : List Notecard) (w : SourceWorld) : Type 0
  where
    pub fixed : fixed_in w ≡ fixed_in (start (rules_of programs) file cards)
    pub lawful : (n : ℕ) (m : Member) → slice_get w.members n ≡ Some m → Lawful (rules_of programs) m.script
