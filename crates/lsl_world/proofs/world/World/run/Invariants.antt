use Rattle.std.proofs.Common.{◌≡◌, ℕ, Bool, false, List}
use Rattle.lsl_post.proofs.Amid.{Again}
use Rattle.lsl_post.specs.Told.{until}
use Rattle.lsl_tree.specs.Program.{Program}
use Rattle.lsl_region.specs.Pausing.{Counts, Tally}
use Rattle.lsl_region.specs.Worlds.{World as SourceWorld}
use Rattle.lsl_world.specs.Programs.{rules_of}
use Rattle.lsl_world.specs.Saves.{counted_round_or_last}
use Rattle.lsl_world.specs.Sound.{IsSound}
use Rattle.lsl_world.specs.Stands.{IsOf, size_of}
use Rattle.lsl_world.specs.Steps.{round_or_last}
use Rattle.lsl_world.proofs.Saving.{GoingCounted}
use Rattle.lsl_world.proofs.Walking.{Going}
use Rattle.lsl_world.proofs.world.World.run.Given as goal

abbrev pub invariant-loop : goal.invariant-loop
invariant-loop l = record {
  units : l.self.units ≡ l.fn.self.units;
  size : size_of l.self ≡ size_of l.fn.self;
  sound : IsSound l.self;
  again : (programs : List Program) (w : SourceWorld) → IsOf programs l.fn.self w
      → Again (Going programs l.self l.left)
      (until (λ (x : SourceWorld × (ℕ × Bool)). x.1.1) (round_or_last (rules_of programs)) l.most (w, (l.most, false)))
      l.fn.out l.out (λ x. x.1.1) (round_or_last (rules_of programs)) l.counter l.most;
  saves : (programs : List Program) (w : SourceWorld) (t : Tally) → IsOf programs l.fn.self w
      → Counts l.fn.self.pause t
      → Again (GoingCounted programs l.self l.left)
      (until (λ (x : (SourceWorld × (ℕ × Bool)) × Tally). x.0.1.1) (counted_round_or_last (rules_of programs)) l.most
      ((w, (l.most, false)), t)) l.fn.out l.out (λ x. x.0.1.1) (counted_round_or_last (rules_of programs)) l.counter
      l.most;
}
