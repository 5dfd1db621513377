use Rattle.std.proofs.Common.{◌≡◌, ◌+◌, ◌≤◌, ℕ, Bool, false, List}
use Rattle.lsl_post.proofs.Amid.{Again}
use Rattle.lsl_post.specs.Told.{until}
use Rattle.lsl_tree.specs.Program.{Program}
use Rattle.lsl_region.specs.Grids.{outline_of}
use Rattle.lsl_region.specs.Worlds.{World as SourceWorld}
use Rattle.lsl_world.specs.Programs.{rules_of}
use Rattle.lsl_world.specs.Sound.{IsSound}
use Rattle.lsl_world.specs.Stands.{IsOf}
use Rattle.lsl_world.specs.Steps.{round_or_last}
use Rattle.lsl_world.proofs.Walking.{Going}
use Rattle.lsl_world.proofs.world.World.run_part.Given as goal

abbrev pub invariant-rounds : goal.invariant-rounds
invariant-rounds l = record {
  few : l.left + l.counter ≤ l.most;
  units : l.self.units ≡ l.fn.self.units;
  regions : l.self.regions ≡ l.fn.self.regions;
  cards : l.self.cards ≡ l.fn.self.cards;
  outline : outline_of l.self.grid ≡ outline_of l.fn.self.grid;
  sound : IsSound l.self;
  again : (programs : List Program) (w : SourceWorld) → IsOf programs l.fn.self w
      → Again (Going programs l.self l.left)
      (until (λ (x : SourceWorld × (ℕ × Bool)). x.1.1) (round_or_last (rules_of programs)) l.most (w, (l.most, false)))
      l.fn.out l.out (λ x. x.1.1) (round_or_last (rules_of programs)) l.counter l.most;
}
