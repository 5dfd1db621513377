-- A script that is saved and restored in the middle of a turn.
use Rattle.std.proofs.Common.{◌≡◌, ℕ, ◌+◌, Bool, true, false, List, subst}
use Rattle.std.specs.Prelude.{◌&&◌, Some}
use Rattle.lsl_code.specs.declared.woven_units.Woven.{Woven as Code}
use Rattle.lsl_script.specs.declared.live.Live.{Live}
use Rattle.lsl_script.specs.Resting.{with_room}
use Rattle.lsl_script.proofs.Rested.{rests_in_room}
use Rattle.lsl_region.specs.Grids.{Contents}
use Rattle.lsl_region.specs.PausedTurns.{counted_segment, goes_on_at}
use Rattle.lsl_region.specs.Pausing.{Counts, Cursor, Tally, is_pausing, with_save, with_segment}
use Rattle.lsl_region.specs.TurnEnds.{IsBehind}
use Rattle.lsl_region.specs.Worlds.{World}
use Rattle.lsl_region.proofs.Gaps.{counts-quiet}

-- A script that was paused is after its segment as before.
pub paused-behind : (codes : List Code) (unit : Code) (clock place : ℕ) (grid : Contents) (w : World) (live : Live)
    (room : ℕ) → IsBehind codes unit clock place grid (Some live) w
    → IsBehind codes unit clock place grid (Some (with_room live room)) w
paused-behind codes unit clock place grid w live room d = (
  record {
    flight = d.0.flight;
    stands = d.0.stands;
    member = d.0.member;
    at = d.0.at;
    rests = rests_in_room codes unit d.0.member.script d.0.flight live room d.0.rests;
  },
  d.1,
)

-- What is counted of a segment.
module _ (c : Cursor) (t : Tally) (place : ℕ) (w : World) where
  -- where it wasn't a pausing one
  pub counted-on : false ≡ is_pausing t.gaps (t.passed + 1) → Counts c (with_segment t)
      → Counts c (counted_segment place w t)
  counted-on e k =
      subst (λ (b : Bool). Counts c (with_save (b && goes_on_at w place) (with_segment t))) e
      (counts-quiet c (with_segment t) k)

  -- where the script couldn't continue
  pub counted-stopped : true ≡ is_pausing t.gaps (t.passed + 1) → false ≡ goes_on_at w place
      → Counts c (with_segment t) → Counts c (counted_segment place w t)
  counted-stopped e f k =
      subst (λ (b : Bool). Counts c (with_save (b && goes_on_at w place) (with_segment t))) e
      (subst (λ (b : Bool). Counts c (with_save b (with_segment t))) f (counts-quiet c (with_segment t) k))

  -- where it was saved
  pub counted-saved : true ≡ is_pausing t.gaps (t.passed + 1) → true ≡ goes_on_at w place
      → Counts c (with_save true (with_segment t)) → Counts c (counted_segment place w t)
  counted-saved e f k =
      subst (λ (b : Bool). Counts c (with_save (b && goes_on_at w place) (with_segment t))) e
      (subst (λ (b : Bool). Counts c (with_save b (with_segment t))) f k)
