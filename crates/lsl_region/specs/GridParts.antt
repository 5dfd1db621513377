-- The parts of all objects of a grid, with their regions; and what of a grid stays whatever its objects become.
use Rattle.std.specs.Prelude.{◌≡◌, ℕ, List, [], length, map, false, true, Some, slice_get}
use Rattle.std.specs.List.{range_with_len}
use Rattle.lsl_code.specs.declared.woven_units.Woven.{Woven as Code}
use Rattle.lsl_post.specs.declared.parts.ScriptParts.{ScriptParts}
use Rattle.lsl_image.specs.declared.parts.Placed.{Placed}
use Rattle.lsl_region.specs.declared.grid.Seat.{Seat}
use Rattle.lsl_region.specs.declared.objects.Linkset.{Linkset}
use Rattle.lsl_region.specs.Crossings.{region_in}
use Rattle.lsl_region.specs.Grids.{Contents, IsScript, nameless, seat_of, vacant}
use Rattle.lsl_region.specs.ObjectParts.{parts_of_object}
use Rattle.lsl_region.specs.Worlds.{Member, World}

-- the object at this place, and its region
abbrev pub placed_at : Contents → ℕ → Placed
placed_at grid place = record { region = region_in grid place; object = parts_of_object grid place }

-- all objects, in order
abbrev pub placed_in : Contents → List Placed
placed_in grid = map (placed_at grid) (range_with_len 0 (length grid.objects))

-- an object's owner, and its prims' keys
abbrev pub lasting : Linkset → Linkset
lasting object = record { owner = object.owner; region = []; prims = map nameless object.prims; store = [] }

-- what stays: the objects without their regions, their stores and their prims' names, and the seats without their
-- scripts
abbrev pub fixed_of : Contents → Contents
fixed_of grid = record { objects = map lasting grid.objects; seats = map vacant grid.seats; cards = grid.cards }

-- what stays of a world: owners, keys, and of each script its prim, its name and the number of its code
abbrev pub fixed_in : World → Contents
fixed_in w = record { objects = map lasting w.objects; seats = map (seat_of [] true) w.members; cards = w.cards }

-- the script of a seat is there, with the number of the seat's unit
abbrev pub IsHome : Seat → Type 0
IsHome seat = (parts : ScriptParts) × (seat.script ≡ Some parts) × (parts.unit ≡ seat.unit)

abbrev pub AreHome : List Seat → Type 0
AreHome seats = (n : ℕ) (seat : Seat) → slice_get seats n ≡ Some seat → IsHome seat

-- every script of a world is one of a code, and a handler in flight is one that it can have
abbrev pub AreScripts : List Code → World → Type 0
AreScripts codes w = (n : ℕ) (m : Member) → slice_get w.members n ≡ Some m → IsScript codes false m.script
