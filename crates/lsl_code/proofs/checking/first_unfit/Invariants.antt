use Rattle.std.proofs.Common.{ℕ, ◌+◌, drop, map, None}
use Rattle.lsl_code.specs.Frames.{FitFrames, FirstUnfit, points_of}
use Rattle.lsl_code.specs.WovenBodies.{woven_body}
use Rattle.lsl_code.proofs.checking.first_unfit.Given as goal

-- what holds of the frames from here on holds of all
abbrev pub invariant-loop-i : goal.invariant-loop-i
invariant-loop-i l =
    (FitFrames (points_of (map woven_body l.unit.functions)) l.handler l.callee (drop l.i l.sack)
    → FitFrames (points_of (map woven_body l.unit.functions)) l.handler None l.sack)
    × ((n : ℕ) → FirstUnfit (points_of (map woven_body l.unit.functions)) l.handler l.callee (drop l.i l.sack) n
    → FirstUnfit (points_of (map woven_body l.unit.functions)) l.handler None l.sack (l.i + n))
