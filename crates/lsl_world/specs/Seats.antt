-- The seats that a file's scripts have at their start.
use Rattle.std.specs.Prelude.{◌≡◌, ℕ, ◌<◌, false, List, length, map, Some, slice_get}
use Rattle.lsl_code.specs.declared.woven_units.Woven.{Woven as Code}
use Rattle.lsl_lines.specs.declared.file.ObjectLine.{ObjectLine}
use Rattle.lsl_lines.specs.declared.file.PrimLine.{PrimLine}
use Rattle.lsl_lines.specs.declared.file.ScriptLine.{ScriptLine}
use Rattle.lsl_region.specs.declared.grid.Seat.{Seat}
use Rattle.lsl_region.specs.declared.objects.Linkset.{Linkset}
use Rattle.lsl_region.specs.Grids.{seat_of}
use Rattle.lsl_region.specs.Worlds.{Member}
use Rattle.lsl_script.specs.Codes.{rules_of}
use Rattle.lsl_world.specs.Starts.{member_of_line, members_of_objects, members_of_prim, members_of_prims}

-- an object has the prim at this place
pub record HasPrim (objects : List Linkset) (object prim : ℕ) : Type 0 where
  pub it : Linkset
  pub there : slice_get objects object ≡ Some it
  pub within : prim < length it.prims

abbrev pub seats_of : List Code → List Member → List Seat
seats_of codes members = map (seat_of codes false) members

-- of a line, and of the lines of a prim, of an object and of all objects
abbrev pub seat_of_line : List Code → ℕ → ℕ → ScriptLine → Seat
seat_of_line codes object prim line = seat_of codes false (member_of_line (rules_of codes) object prim line)

abbrev pub seats_of_prim : List Code → ℕ → ℕ → List ScriptLine → List Seat
seats_of_prim codes object prim lines = seats_of codes (members_of_prim (rules_of codes) object prim lines)

abbrev pub seats_of_prims : List Code → ℕ → ℕ → List PrimLine → List Seat
seats_of_prims codes object prim lines = seats_of codes (members_of_prims (rules_of codes) object prim lines)

abbrev pub seats_of_objects : List Code → ℕ → List ObjectLine → List Seat
seats_of_objects codes object lines = seats_of codes (members_of_objects (rules_of codes) object lines)
