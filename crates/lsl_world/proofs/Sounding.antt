-- Worlds of programs are sound.
use Rattle.std.specs.Prelude.{List, length}
use Rattle.lsl_tree.specs.Program.{Program}
use Rattle.lsl_region.specs.Worlds.{World as SourceWorld}
use Rattle.lsl_world.specs.declared.world.World.{World}
use Rattle.lsl_world.specs.Sound.{IsSound}
use Rattle.lsl_world.specs.Stands.{IsOf}
use Rattle.lsl_world.proofs.Indexing.{world-numbered}
use Rattle.lsl_world.proofs.Walking.{members-are}

pub of-sound : (programs : List Program) (world : World) (w : SourceWorld) → IsOf programs world w → IsSound world
of-sound programs world w is = record {
  seated = is.seated;
  timely = is.timely;
  numbered = world-numbered w (length world.grid.seats) world.due (members-are programs world w is) is.index;
}
