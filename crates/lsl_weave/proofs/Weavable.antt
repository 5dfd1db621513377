-- Plain code with points at their instructions.
use Rattle.std.proofs.Common.{◌≡◌, ℕ, Some, true, slice_get}
use Rattle.lsl_code.specs.declared.functions.Point.{Point}
use Rattle.lsl_code.specs.declared.instructions.Instr.{Instr}
use Rattle.lsl_code.specs.Bodies.{Body}
use Rattle.lsl_code.specs.Fits.{is_plain}
use Rattle.lsl_code.specs.Standing.{point_instr}
use Rattle.lsl_weave.specs.Layout.{place_of}

abbrev pub Weavable : Body → Type 0
Weavable b =
    ((k : ℕ) (i : Instr) → slice_get b.code k ≡ Some i → is_plain i ≡ true)
    × ((p : ℕ) (pt : Point) → slice_get b.points p ≡ Some pt
    → slice_get b.code (place_of p b.code) ≡ Some (point_instr pt.calls p))
