use Rattle.std.proofs.Common.{◌≡◌, List, drop}
use Rattle.lsl_post.proofs.Amid.{Amid}
use Rattle.lsl_tree.specs.Program.{Program}
use Rattle.lsl_region.specs.Worlds.{World as SourceWorld}
use Rattle.lsl_world.specs.Programs.{rules_of}
use Rattle.lsl_world.specs.Sound.{IsSound}
use Rattle.lsl_world.specs.Stands.{IsOf, size_of}
use Rattle.lsl_world.proofs.Ripe.{rings}
use Rattle.lsl_world.proofs.world.World.read_timers.Given as goal

abbrev pub invariant-loop-script : goal.invariant-loop-script
invariant-loop-script l = record {
  units : l.self.units ≡ l.fn.self.units;
  pause : l.self.pause ≡ l.fn.self.pause;
  size : size_of l.self ≡ size_of l.fn.self;
  sound : IsSound l.self;
  amid : (programs : List Program) (w : SourceWorld) → IsOf programs l.fn.self w
      → Amid (IsOf programs l.self) (rings (rules_of programs) l.script-items w) l.fn.out l.out
      (rings (rules_of programs) (drop l.script-index l.script-items));
}
