-- What is counted along a turn. The world and the number of segments are those of the turn, whatever the gaps.
use Rattle.std.specs.Prelude.{ℕ, ◌+◌, Bool, false, true, ◌&&◌, List, map, nat_lt, count_by, Option, Some, None, slice_get}
use Rattle.std.specs.List.{range_with_len}
use Rattle.lsl_script.specs.Rules.{Rules}
use Rattle.lsl_script.specs.Scripts.{Doing, Resting, Flying, Stopped}
use Rattle.lsl_region.specs.Pausing.{Tally, is_pausing, with_save, with_segment}
use Rattle.lsl_region.specs.Segments.{is_ready_at, turn}
use Rattle.lsl_region.specs.Worlds.{Member, World}

abbrev pub is_flying : Doing → Bool
is_flying Resting = false
is_flying (Flying f) = true
is_flying (Stopped fault) = false

abbrev pub flies_in : Option Member → Bool
flies_in None = false
flies_in (Some m) = is_flying m.script.doing

-- the script at this place is in flight
abbrev pub flies_at : World → ℕ → Bool
flies_at w place = flies_in (slice_get w.members place)

-- in flight and ready
abbrev pub goes_on_at : World → ℕ → Bool
goes_on_at w place = flies_at w place && is_ready_at w place

-- the segment of this number is pausing, and left the script at this place in flight and ready in this world
abbrev pub is_saved : List ℕ → ℕ → ℕ → World → Bool
is_saved gaps number place w = is_pausing gaps number && goes_on_at w place

-- a segment that leads to this world
abbrev pub counted_segment : ℕ → World → Tally → Tally
counted_segment place w t = with_save (is_saved t.gaps (t.passed + 1) place w) (with_segment t)

-- how many of the first segments of a turn were pausing and left their script in flight and ready, where `before` were
-- passed before the turn. A turn of at most n segments ends in the world after its n-th
unfoldable pub pauses_in : Rules → List ℕ → ℕ → ℕ → World → ℕ → ℕ
pauses_in r gaps passed place w count =
    count_by (λ saved. saved)
    (map (λ n. is_saved gaps (passed + n) place (turn r n place w).value.0) (range_with_len 1 count))

-- this many segments of a turn
unfoldable pub paused_for : Rules → ℕ → World → ℕ → Tally → Tally
paused_for r place w count t = record t {
  passed = t.passed + count;
  saves = t.saves + pauses_in r t.gaps t.passed place w count;
}

-- at least one segment, and the script at this place is in flight after them
abbrev pub ends_flying : World × ℕ → ℕ → Bool
ends_flying x place = nat_lt 0 x.1 && flies_at x.0 place

-- a turn: its pausing segments, and one save more where it ends in flight after at least one segment
unfoldable pub counted_turn : Rules → ℕ → ℕ → World → Tally → Tally
counted_turn r most place w t =
    let x = (turn r most place w).value in with_save (ends_flying x place) (paused_for r place w x.1 t)
