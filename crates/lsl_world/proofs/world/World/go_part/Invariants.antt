use Rattle.std.proofs.Common.{◌≡◌, ◌<◌, ◌≤◌, ◌-◌, List}
use Rattle.lsl_post.proofs.Amid.{Amid}
use Rattle.lsl_tree.specs.Program.{Program}
use Rattle.lsl_region.specs.Grids.{outline_of}
use Rattle.lsl_region.specs.Worlds.{World as SourceWorld}
use Rattle.lsl_world.specs.Programs.{rules_of}
use Rattle.lsl_world.specs.Sound.{IsSound}
use Rattle.lsl_world.specs.Stands.{IsOf}
use Rattle.lsl_world.proofs.Parted.{row}
use Rattle.lsl_world.proofs.world.World.go_part.Given as goal

abbrev pub invariant-rows : goal.invariant-rows
invariant-rows l = record {
  few : l.left ≤ l.most;
  some : 0 < l.row;
  short : l.row ≤ 16384;
  units : l.self.units ≡ l.fn.self.units;
  regions : l.self.regions ≡ l.fn.self.regions;
  cards : l.self.cards ≡ l.fn.self.cards;
  outline : outline_of l.self.grid ≡ outline_of l.fn.self.grid;
  sound : IsSound l.self;
  amid : (programs : List Program) (w : SourceWorld) → IsOf programs l.fn.self w
      → Amid (IsOf programs l.self) (row (rules_of programs) (l.script - 1) l.most w) l.fn.out l.out
      (row (rules_of programs) (l.script - 1) l.left);
}

abbrev pub decreases-rows : goal.decreases-rows
decreases-rows l = l.left
