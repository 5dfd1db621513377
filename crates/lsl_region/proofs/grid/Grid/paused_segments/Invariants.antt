use Rattle.std.proofs.Common.{◌≡◌, ◌+◌}
use Rattle.std.specs.Prelude.{ℕ, not}
use Rattle.lsl_post.specs.Told.{as_value}
use Rattle.lsl_post.proofs.Amid.{Again}
use Rattle.lsl_script.specs.Codes.{Meant}
use Rattle.lsl_region.specs.Grids.{outline_of}
use Rattle.lsl_region.specs.PausedTurns.{paused_for}
use Rattle.lsl_region.specs.Pausing.{Counts, Tally}
use Rattle.lsl_region.specs.Scenes.{ComesTo, IsHome, IsSet}
use Rattle.lsl_region.specs.Segments.{is_ready_at, segment, turn}
use Rattle.lsl_region.specs.Turning.{IsHeld}
use Rattle.lsl_region.specs.Worlds.{World}
use Rattle.lsl_region.proofs.grid.Grid.paused_segments.Given as goal

abbrev pub invariant-loop-spent : goal.invariant-loop-spent
invariant-loop-spent l =
    record {
      set : IsSet l.scene l.self;
      outline : outline_of l.self ≡ outline_of l.fn.self;
      held : IsHeld l.scene.unit.now l.live;
      again : (m : Meant l.scene.library.now) (w : World) → IsHome l.scene l.fn.self w →
          Again (λ (x : World × ℕ). ComesTo l.scene l.self l.live x l.spent
          × (x ≡ (turn m.rules l.spent l.scene.place w).value))
          (turn m.rules l.ticks l.scene.place w) l.fn.out l.out
          (λ x. not (is_ready_at x.0 l.scene.place))
          (λ x. as_value (λ v. (v, x.1 + 1)) (segment m.rules l.scene.place x.0)) l.spent l.ticks;
      gaps : l.pause.gaps ≡ l.fn.pause.gaps;
      counted : (m : Meant l.scene.library.now) (w : World) (t : Tally) → IsHome l.scene l.fn.self w →
          Counts l.fn.pause t → Counts l.pause (paused_for m.rules l.scene.place w l.spent t);
    }
