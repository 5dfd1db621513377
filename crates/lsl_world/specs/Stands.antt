-- Which world of programs a world in memory is.
use Rattle.std.specs.Prelude.{ℕ, ◌≤◌, List, None, length, map}
use Rattle.lsl_post.specs.Timing.{latest_clock}
use Rattle.lsl_tree.specs.Program.{Program}
use Rattle.lsl_region.specs.declared.objects.Linkset.{Linkset}
use Rattle.lsl_region.specs.Grids.{AreSeated, Stands}
use Rattle.lsl_region.specs.Worlds.{World as SourceWorld}
use Rattle.lsl_world.specs.Codes.{AreRunBy}
use Rattle.lsl_world.specs.Sizes.{Size}
use Rattle.lsl_world.specs.Timers.{IsIndexOf, timings_of}
use Rattle.lsl_world.specs.declared.world.World.{World}

-- the world in memory is this one, with scripts that mean these programs: its units run them, its grid represents it,
-- its clock is in its range, and its due times are those of the scripts with a running timer
pub record IsOf (programs : List Program) (world : World) (w : SourceWorld) : Type 0 where
  pub runs : AreRunBy programs world.units
  pub seated : AreSeated world.units world.grid.seats
  pub timely : world.clock ≤ latest_clock
  pub stands : Stands world.units None world.clock world.grid w
  pub index : IsIndexOf (timings_of w) world.due

abbrev pub prims_of : Linkset → ℕ
prims_of object = length object.prims

-- how many objects, prims and scripts it has
abbrev pub size_of : World → Size
size_of world = record { prims = map prims_of world.grid.objects; scripts = length world.grid.seats }
