use Rattle.std.proofs.Common.{ℕ, ◌≤◌, List, length}
use Rattle.std.specs.Prelude.{None}
use Rattle.lsl_code.specs.declared.woven_units.Woven.{Woven as Code}
use Rattle.lsl_region.specs.Grids.{Stands}
use Rattle.lsl_region.specs.Worlds.{World as SourceWorld}
use Rattle.lsl_world.specs.Timers.{AreNumbered, timings_of}
use Rattle.lsl_world.proofs.Indexing.{IsNoted, IsNotedIn}
use Rattle.lsl_world.proofs.timers.note_timers.Given as goal

abbrev pub invariant-loop-place : goal.invariant-loop-place
invariant-loop-place l = record {
  few : l.place-end ≤ 256;
  numbered : AreNumbered (length l.grid.seats) l.due;
  noted : (codes : List Code) (clock : ℕ) (w : SourceWorld) → Stands codes None clock l.grid w
      → IsNoted (timings_of w) l.place l.due;
  seated : IsNotedIn l.grid.seats l.place l.due;
}
