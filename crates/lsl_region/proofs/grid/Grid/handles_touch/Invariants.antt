use Rattle.std.proofs.Common.{◌≡◌, ℕ, drop, length}
use Rattle.std.specs.Prelude.{◌&&◌, None}
use Rattle.std.specs.List.{list_any}
use Rattle.lsl_script.specs.Codes.{Meant}
use Rattle.lsl_region.specs.Arrivals.{handles_touch, is_in_prim}
use Rattle.lsl_region.specs.Grids.{Stands}
use Rattle.lsl_region.specs.Worlds.{World}
use Rattle.lsl_region.proofs.grid.Grid.handles_touch.Given as goal

abbrev pub invariant-loop-place : goal.invariant-loop-place
invariant-loop-place l = record {
  end : l.place-end ≡ length l.self.seats;
  none : (m : Meant l.library) (clock : ℕ) (w : World) → Stands l.library None clock l.self w
      → list_any (λ n. is_in_prim l.object l.prim w n && handles_touch m.rules n) w.members
      ≡ list_any (λ n. is_in_prim l.object l.prim w n && handles_touch m.rules n) (drop l.place w.members);
}
