-- Saved calls that are valid are at points of their unit.
use Rattle.std.proofs.Common.{◌≡◌, ◌∙◌, refl, sym, ap, ℕ, List, [], ◌∷◌, Option, Some, None, slice_get}
use Rattle.std.specs.Prelude.{map, option_map}
use Rattle.std.specs.List.{AllByRecursion}
use Rattle.std.proofs.lemmas.Option.{slice_get-map, slice_get_within}
use Rattle.lsl_value.specs.declared.tagged.Value.{Value}
use Rattle.lsl_code.specs.declared.frames.Frame.{Frame}
use Rattle.lsl_code.specs.declared.functions.Point.{Point}
use Rattle.lsl_code.specs.declared.woven_functions.WovenCode.{WovenCode}
use Rattle.lsl_code.specs.declared.woven_units.Woven.{Woven as Code}
use Rattle.lsl_code.specs.Bodies.{Body}
use Rattle.lsl_code.specs.Frames.{AreFrames, FitFrames, body_point, points_of}
use Rattle.lsl_code.specs.Naming.{HasPoint}
use Rattle.lsl_code.specs.WovenBodies.{woven_body}
use Rattle.lsl_post.specs.declared.parts.Rest.{Rest}
use Rattle.lsl_post.specs.declared.parts.Rest.TheVariants.{Idle, Saved, Dead}
use Rattle.lsl_post.specs.declared.parts.ScriptParts.{ScriptParts}
use Rattle.lsl_post.specs.Fitting.{CanRest, FitsUnit}
use Rattle.lsl_view.specs.Calls.{IsAt}
use Rattle.lsl_view.specs.Parts.{frames_in}

at-point : (functions : List WovenCode) (f p : ℕ) (point : Point)
    → points_of (map woven_body functions) f p ≡ Some point → HasPoint functions f p
at-point functions f p point e =
    go (slice_get functions f) refl
    (ap (λ (o : Option Body). body_point o p) (sym (slice_get-map woven_body functions f)) ∙ e)
  where
    go : (o : Option WovenCode) → slice_get functions f ≡ o → body_point (option_map woven_body o) p ≡ Some point
        → HasPoint functions f p
    go None is e = absurd cc
    go (Some code) is e = (code, is, slice_get_within code.points p point e)

frames-fit : (functions : List WovenCode) (handler : ℕ) (callee : Option ℕ) (frames : List Frame)
    → FitFrames (points_of (map woven_body functions)) handler callee frames → AllByRecursion (IsAt functions) frames
frames-fit functions handler callee [] fit = tt
frames-fit functions handler callee (frame ∷ outer) fit = (
  at-point functions frame.function frame.point fit.0.0.0 fit.0.0.1,
  frames-fit functions handler (Some frame.function) outer fit.1,
)

all-fit : (functions : List WovenCode) (handler : ℕ) (frames : List Frame)
    → AreFrames (points_of (map woven_body functions)) handler frames → AllByRecursion (IsAt functions) frames
all-fit functions handler [] fit = absurd fit
all-fit functions handler (frame ∷ outer) fit = frames-fit functions handler None (frame ∷ outer) fit

rest-fits : (unit : Code) (state : ℕ) (leaving : Option ℕ) (globals : List Value) (limit : ℕ) (rest : Rest)
    → CanRest unit state leaving globals limit rest → AllByRecursion (IsAt unit.functions) (frames_in rest)
rest-fits unit state leaving globals limit Idle can = tt
rest-fits unit state leaving globals limit (Saved event frames) can =
    all-fit unit.functions can.0 frames can.2.0
rest-fits unit state leaving globals limit (Dead fault) can = tt

pub calls-fit : (unit : Code) (s : ScriptParts) → FitsUnit unit s
    → AllByRecursion (IsAt unit.functions) (frames_in s.rest)
calls-fit unit s fits = rest-fits unit s.state s.leaving s.globals s.limit s.rest fits.rest
