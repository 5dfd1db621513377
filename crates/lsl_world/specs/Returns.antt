-- Crossings from which an image came back that isn't the one that was sent, where its parts are those of a world of the
-- same programs: from there on the world in memory is that one.
use Rattle.std.specs.Prelude.{ℕ, ◌-◌, List, None, Some}
use Rattle.lsl_code.specs.declared.woven_units.Woven.{Woven as Code}
use Rattle.lsl_ports.specs.Trips.{Trip}
use Rattle.lsl_image.specs.declared.parts.ObjectParts.{ObjectParts}
use Rattle.lsl_lines.specs.declared.file.Step.{Step}
use Rattle.lsl_lines.specs.declared.file.Step.TheVariants.{Cross}
use Rattle.lsl_tree.specs.Program.{Program}
use Rattle.lsl_region.specs.Crossings.{Brings, IsOneTrip, image_in}
use Rattle.lsl_region.specs.Grids.{Contents, Stands}
use Rattle.lsl_region.specs.ObjectParts.{with_parts}
use Rattle.lsl_region.specs.Worlds.{World}
use Rattle.lsl_world.specs.Codes.{AreRunBy}

-- one trip was made, from which an image of the object came back; with its parts in the place of the object's, the grid
-- represents this world of these programs
pub record ComesBackAs (programs : List Program) (codes : List Code) (clock : ℕ) (grid : Contents) (object : ℕ)
    (trips : List Trip) (w : World) : Type 0 where
  pub back : List ℕ
  pub parts : ObjectParts
  pub trip : IsOneTrip trips (image_in codes grid (object - 1)) (Some back)
  pub brings : Brings codes grid (object - 1) parts back
  pub runs : AreRunBy programs codes
  pub stands : Stands codes None clock (with_parts grid (object - 1) parts) w

-- the step is such a crossing
abbrev pub Returns : List Program → List Code → ℕ → Contents → Step → List Trip → World → Type 0
Returns programs codes clock grid (Cross object region) trips w =
    ComesBackAs programs codes clock grid object trips w
Returns programs codes clock grid step trips w = ⊥
