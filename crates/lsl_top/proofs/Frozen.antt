-- A world that was frozen is one that can be thawed.
use Rattle.std.proofs.Common.{◌≡◌, ℕ, List, length, refl, sym, ◌∙◌, subst}
use Rattle.std.specs.Prelude.{All, map}
use Rattle.hex.specs.Hex.{IsBytes}
use Rattle.lsl_code.specs.declared.woven_units.Woven.{Woven as Code}
use Rattle.lsl_ports.specs.Trips.{Trip}
use Rattle.lsl_image.specs.declared.parts.Shape.{Shape}
use Rattle.lsl_image.specs.declared.parts.WorldParts.{WorldParts}
use Rattle.lsl_image.specs.Images.{WorldImage}
use Rattle.lsl_image.specs.Valid.{shapes_of}
use Rattle.lsl_lines.specs.declared.file.WorldFile.{WorldFile}
use Rattle.lsl_notes.specs.declared.cards.Notecard.{Notecard}
use Rattle.lsl_tree.specs.Program.{Program}
use Rattle.lsl_region.specs.GridParts.{fixed_in}
use Rattle.lsl_region.specs.Grids.{Contents}
use Rattle.lsl_region.specs.Journeys.{contents_of}
use Rattle.lsl_region.specs.Worlds.{World}
use Rattle.lsl_region.proofs.Thawed.{fixed-is, members-home}
use Rattle.lsl_world.specs.declared.world.World.{World as Memory}
use Rattle.lsl_world.specs.Codes.{AreRunBy}
use Rattle.lsl_world.specs.Frozen.{frozen_image, parts_in, parts_of_world, shapes_of_file}
use Rattle.lsl_world.specs.Programs.{rules_of}
use Rattle.lsl_world.specs.Ranges.{IsInRange, IsObjectOf}
use Rattle.lsl_world.specs.Seats.{seats_of_objects}
use Rattle.lsl_world.specs.Stands.{IsOf}
use Rattle.lsl_world.specs.Starts.{object_of_line, start}
use Rattle.lsl_world.specs.Travels.{travel}
use Rattle.lsl_world.proofs.FileShapes.{file-shapes}
use Rattle.lsl_world.proofs.Lawfulness.{script-meant}
use Rattle.lsl_world.proofs.Meanings.{meant}
use Rattle.lsl_world.proofs.Thawing.{start-fixed, start-home}
use Rattle.lsl_top.specs.Answers.{Lasts, Written}
use Rattle.lsl_top.specs.Goes.{IsFrozenWell, IsLast}
use Rattle.lsl_top.specs.Plays.{Last, Homes, Frozen, Inspected}
use Rattle.lsl_top.specs.Thaws.{CanThaw}
use Rattle.lsl_top.proofs.Fixed.{travel-keeps}
use Rattle.lsl_top.proofs.Shaped.{shapes-fixed}

-- what is frozen is the image of the world
pub frozen-well : (codes : List Code) (programs : List Program) (memory : Memory) (w : World) (image : List ℕ)
    → memory.units ≡ codes → IsOf programs memory w → image ≡ frozen_image codes w
    → parts_in memory ≡ parts_of_world codes w → WorldImage (shapes_of (parts_in memory)) codes (parts_in memory) image
    → IsBytes image → IsFrozenWell codes programs w
frozen-well codes programs memory w image units is same parts stands fits = record {
  lawful = λ n m at.
      let script = is.stands.scripts n m at in
      script-meant memory.units (meant programs memory.units is.runs) m.script script.known script.lawful;
  image = subst (λ (z : List ℕ). WorldImage (shapes_of (parts_of_world codes w)) codes (parts_of_world codes w) z) same
      (subst (λ (p : WorldParts). WorldImage (shapes_of p) codes p image) parts stands);
  bytes = subst IsBytes same fits;
}

module _ (codes : List Code) (programs : List Program) (file : WorldFile) (cards : List Notecard)
    (runs : AreRunBy programs codes)
    (range : IsInRange file) (many : length codes ≡ length file.files) where
  all-there : All (IsObjectOf (length codes)) file.objects
  all-there = subst (λ (n : ℕ). All (IsObjectOf n) file.objects) (sym many) range.objects_fit

  -- the grid of the file at its start
  abbrev first : Contents
  first = record {
    objects = map object_of_line file.objects;
    seats = seats_of_objects codes 0 file.objects;
    cards = cards;
  }

  -- a world of which the same stays has the shapes that the file gives
  shapes-told : (w : World) → fixed_in w ≡ fixed_in (start (rules_of programs) file cards)
      → shapes_of (parts_of_world codes w) ≡ shapes_of_file file
  shapes-told w fixed =
      shapes-fixed (contents_of codes w) first
      (fixed-is codes w ∙ fixed ∙ sym (start-fixed codes file cards first refl refl refl all-there programs runs))
      (members-home codes w.members) (start-home codes file cards first refl refl refl all-there)
      ∙ file-shapes codes file first refl refl

  can-thaw : (w : World) → fixed_in w ≡ fixed_in (start (rules_of programs) file cards) → IsFrozenWell codes programs w
      → CanThaw codes programs file cards w
  can-thaw w fixed well = record {
    agrees = record { fixed = fixed; lawful = well.lawful };
    image = subst (λ (z : List Shape). WorldImage z codes (parts_of_world codes w) (frozen_image codes w))
        (shapes-told w fixed) well.image;
    bytes = well.bytes;
  }

  -- so is a world that was frozen after the file's steps
  pub lasts-started : (last : Last) (trips : List Trip)
      → IsLast last codes programs (travel (rules_of programs) file.steps trips
      (start (rules_of programs) file cards)).value
      → Lasts Written last codes programs file cards
      (travel (rules_of programs) file.steps trips (start (rules_of programs) file cards)).value
  lasts-started Homes trips is = tt
  lasts-started (Inspected names) trips is = tt
  lasts-started Frozen trips is =
      can-thaw (travel (rules_of programs) file.steps trips (start (rules_of programs) file cards)).value
      (travel-keeps (rules_of programs) file.steps trips (start (rules_of programs) file cards)) is
