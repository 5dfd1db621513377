-- What a world in memory keeps, also where no run of programs leads to it.
use Rattle.std.specs.Prelude.{◌≤◌, length}
use Rattle.lsl_lines.specs.declared.file.Step.{Step}
use Rattle.lsl_lines.specs.declared.file.Step.TheVariants.{Cross}
use Rattle.lsl_post.specs.Timing.{latest_clock}
use Rattle.lsl_region.specs.Grids.{AreSeated}
use Rattle.lsl_world.specs.Timers.{AreNumbered, IsIndexIn}
use Rattle.lsl_world.specs.declared.world.World.{World}

-- its scripts are of its units, its clock is in its range, and its due times are those of scripts that are there; its
-- grid keeps the counts and places
pub record IsSound (world : World) : Type 0 where
  pub seated : AreSeated world.units world.grid.seats
  pub timely : world.clock ≤ latest_clock
  pub numbered : AreNumbered (length world.grid.seats) world.due

-- its due times are exactly those of the scripts in its seats with a running timer
abbrev pub IsIndexed : World → Type 0
IsIndexed world = IsIndexIn world.grid.seats world.due

-- the step is a crossing, with which an object may get timers that no step set
abbrev pub IsCrossing : Step → Type 0
IsCrossing (Cross object region) = Unit {0}
IsCrossing step = ⊥
