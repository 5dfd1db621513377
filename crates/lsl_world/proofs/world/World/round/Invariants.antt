use Rattle.std.proofs.Common.{◌≡◌, ◌≤◌, List}
use Rattle.lsl_post.proofs.Amid.{Walk}
use Rattle.lsl_tree.specs.Program.{Program}
use Rattle.lsl_region.specs.Grids.{outline_of}
use Rattle.lsl_region.specs.Pausing.{Counts, Tally}
use Rattle.lsl_region.specs.Worlds.{World as SourceWorld}
use Rattle.lsl_world.specs.Programs.{rules_of}
use Rattle.lsl_world.specs.Saves.{counted_round, counted_turn_in}
use Rattle.lsl_world.specs.Sound.{IsSound}
use Rattle.lsl_world.specs.Stands.{IsOf, size_of}
use Rattle.lsl_world.specs.Steps.{round, turn_in}
use Rattle.lsl_world.proofs.Saving.{LeftCounted}
use Rattle.lsl_world.proofs.Walking.{Left}
use Rattle.lsl_world.proofs.world.World.round.Given as goal

abbrev pub invariant-loop-place : goal.invariant-loop-place
invariant-loop-place l = record {
  few : l.place-end ≤ 256;
  within : l.spare ≤ l.fn.left;
  units : l.self.units ≡ l.fn.self.units;
  regions : l.self.regions ≡ l.fn.self.regions;
  cards : l.self.cards ≡ l.fn.self.cards;
  outline : outline_of l.self.grid ≡ outline_of l.fn.self.grid;
  size : size_of l.self ≡ size_of l.fn.self;
  sound : IsSound l.self;
  walk : (programs : List Program) (w : SourceWorld) → IsOf programs l.fn.self w
      → Walk (Left programs l.self l.spare) (round (rules_of programs) (w, l.fn.left)) l.fn.out l.out
      (turn_in (rules_of programs)) l.place l.place-end;
  saves : (programs : List Program) (w : SourceWorld) (t : Tally) → IsOf programs l.fn.self w
      → Counts l.fn.self.pause t
      → Walk (LeftCounted programs l.self l.spare) (counted_round (rules_of programs) ((w, l.fn.left), t))
      l.fn.out l.out
      (counted_turn_in (rules_of programs)) l.place l.place-end;
}
