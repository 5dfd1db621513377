use Rattle.std.proofs.Common.{◌≡◌, ℕ, ◌+◌}
use Rattle.lsl_post.proofs.Amid.{Amid}
use Rattle.lsl_script.specs.Codes.{Meant}
use Rattle.lsl_script.specs.Scripts.{Flight}
use Rattle.lsl_region.specs.Grids.{outline_of}
use Rattle.lsl_region.specs.Scenes.{IsAwakeIn, IsPaused}
use Rattle.lsl_region.specs.Segments.{asked}
use Rattle.lsl_region.specs.Turning.{InFlight, StandsAt, asks_left}
use Rattle.lsl_region.specs.Worlds.{World}
use Rattle.lsl_region.proofs.Flying.{still_asked}
use Rattle.lsl_region.proofs.grid.Grid.answer_all.Given as goal

abbrev pub invariant-asks : goal.invariant-asks
invariant-asks l =
    record {
      awake : IsAwakeIn l.scene l.self l.live;
      outline : outline_of l.self ≡ outline_of l.fn.self;
      stands : StandsAt l.scene.unit.now l.turn l.live;
      amid : (m : Meant l.scene.library.now) (f : Flight) (most : ℕ) (w : World)
          → IsPaused l.scene l.fn.self l.fn.live l.fn.turn f most w →
          Amid (λ (x : InFlight). IsPaused l.scene l.self l.live l.turn x.flight x.most x.world)
          (asked m.rules (most + 1) l.scene.place f w)
          l.fn.out l.out (still_asked m.rules l.scene.place);
    }

abbrev pub decreases-asks : goal.decreases-asks
decreases-asks l = asks_left l.scene.unit.now l.turn l.live
