-- Where a segment ends, and the segments of a turn: the script is out exactly where its handler is in flight.
use Rattle.std.specs.Prelude.{◌≡◌, ℕ, is_some, List, Option}
use Rattle.lsl_code.specs.declared.woven_units.Woven.{Woven as Code}
use Rattle.lsl_script.specs.declared.live.Live.{Live}
use Rattle.lsl_region.specs.Grids.{Contents}
use Rattle.lsl_region.specs.PausedTurns.{ends_flying, flies_at}
use Rattle.lsl_region.specs.Turning.{InTurn}
use Rattle.lsl_region.specs.Worlds.{World}

-- after a segment
abbrev pub IsBehind : List Code → Code → (clock place : ℕ) → Contents → Option Live → World → Type 0
IsBehind codes unit clock place grid live w =
    InTurn codes unit clock place grid live w × (is_some live ≡ flies_at w place)

-- after `count` segments of a turn
abbrev pub CameTo : List Code → Code → (clock place : ℕ) → Contents → Option Live → World × ℕ → ℕ → Type 0
CameTo codes unit clock place grid live x count =
    InTurn codes unit clock place grid live x.0 × (count ≡ x.1) × (is_some live ≡ ends_flying x place)
