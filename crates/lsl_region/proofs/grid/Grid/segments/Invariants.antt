use Rattle.std.proofs.Common.{◌≡◌, ◌+◌, ◌-◌, ◌≤◌}
use Rattle.std.specs.Prelude.{ℕ, not}
use Rattle.lsl_post.specs.Told.{as_value}
use Rattle.lsl_post.proofs.Amid.{Again}
use Rattle.lsl_script.specs.Codes.{Meant}
use Rattle.lsl_region.specs.Grids.{outline_of}
use Rattle.lsl_region.specs.Scenes.{ComesTo, IsHome, IsSet}
use Rattle.lsl_region.specs.Segments.{is_ready_at, segment, turn}
use Rattle.lsl_region.specs.Turning.{IsHeld}
use Rattle.lsl_region.specs.Worlds.{World}
use Rattle.lsl_region.proofs.grid.Grid.segments.Given as goal

abbrev pub invariant-segments : goal.invariant-segments
invariant-segments l =
    record {
      within : l.spent ≤ l.ticks;
      set : IsSet l.scene l.self;
      outline : outline_of l.self ≡ outline_of l.fn.self;
      held : IsHeld l.scene.unit.now l.live;
      again : (m : Meant l.scene.library.now) (w : World) → IsHome l.scene l.fn.self w →
          Again (λ (x : World × ℕ). ComesTo l.scene l.self l.live x l.spent)
          (turn m.rules l.ticks l.scene.place w) l.fn.out l.out
          (λ x. not (is_ready_at x.0 l.scene.place))
          (λ x. as_value (λ v. (v, x.1 + 1)) (segment m.rules l.scene.place x.0)) l.spent l.ticks;
    }

abbrev pub decreases-segments : goal.decreases-segments
decreases-segments l = l.ticks - l.spent
