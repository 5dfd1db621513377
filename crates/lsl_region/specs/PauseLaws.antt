-- Which segments pause, in words of sums, and what is counted without gaps.
use Rattle.std.specs.Prelude.{◌≡◌, ℕ, ◌<◌, true, false, ◌↔◌, List, []}
use Rattle.lsl_script.specs.Rules.{Rules}
use Rattle.lsl_region.specs.PausedTurns.{counted_turn, ends_flying}
use Rattle.lsl_region.specs.Pausing.{AreGaps, Tally, is_pausing, sum_of_gaps, with_save}
use Rattle.lsl_region.specs.Segments.{turn}
use Rattle.lsl_region.specs.Worlds.{World}

-- a segment is pausing exactly where its number is the sum of some first gaps, the gaps being repeated
abbrev pub PausesAreSumsOfGaps : Type 0
PausesAreSumsOfGaps =
    (gaps : List ℕ) (number : ℕ) → AreGaps gaps → 0 < number
    → (is_pausing gaps number ≡ true) ↔ ((count : ℕ) × (number ≡ sum_of_gaps gaps count))

-- without gaps none is
abbrev pub NoneIsPausingWithoutGaps : Type 0
NoneIsPausingWithoutGaps = (number : ℕ) → is_pausing [] number ≡ false

-- and a turn counts its end alone
abbrev pub TurnsWithoutGapsCountTheirEnds : Type 0
TurnsWithoutGapsCountTheirEnds =
    (r : Rules) (most place : ℕ) (w : World) (t : Tally) → t.gaps ≡ []
    → (counted_turn r most place w t).saves
    ≡ (with_save (ends_flying (turn r most place w).value place) t).saves
