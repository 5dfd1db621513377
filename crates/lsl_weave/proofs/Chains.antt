-- Frames that fit, as a chain from the innermost outwards.
use Rattle.std.proofs.Common.{◌≡◌, ℕ, List, [], ◌∷◌, Option, Some, None, refl, sym, ap, ◌∙◌}
use Rattle.std.specs.Prelude.{slice_get}
use Rattle.lsl_code.specs.declared.frames.Frame.{Frame}
use Rattle.lsl_code.specs.declared.functions.Point.{Point}
use Rattle.lsl_code.specs.Bodies.{Body}
use Rattle.lsl_code.specs.Frames.{body_point, points_of, IsAtPoint, EndsIn, FitFrames, AreFrames}

-- each frame is at a call of the function of the frame before it, and the last is the handler's
abbrev pub WaitFrames : List Body → ℕ → List Frame → ℕ → Type 0
WaitFrames bodies h [] g = g ≡ h
WaitFrames bodies h (fr ∷ frs) g = IsAtPoint (points_of bodies) (Some g) fr
    × WaitFrames bodies h frs fr.function

module _ (bodies : List Body) (h : ℕ) where
  fit_frames : (fr : Frame) (frs : List Frame) → WaitFrames bodies h frs fr.function → EndsIn h fr frs
      × FitFrames (points_of bodies) h (Some fr.function) frs
  fit_frames fr [] w = (w, tt)
  fit_frames fr (x ∷ frs) w =
      let r = fit_frames x frs w.1 in
      (tt, ((w.0, r.0), r.1))

  pub are_frames : (fr : Frame) (frs : List Frame) → IsAtPoint (points_of bodies) None fr
      → WaitFrames bodies h frs fr.function → AreFrames (points_of bodies) h (fr ∷ frs)
  are_frames fr frs fit w = let r = fit_frames fr frs w in ((fit, r.0), r.1)

  pub wait_frames : (fr : Frame) (frs : List Frame) → EndsIn h fr frs
      → FitFrames (points_of bodies) h (Some fr.function) frs → WaitFrames bodies h frs fr.function
  wait_frames fr [] ends fit = ends
  wait_frames fr (x ∷ frs) ends fit = (fit.0.0, wait_frames x frs fit.0.1 fit.1)

-- a frame at a point is one of a function
by_body : (o : Option Body) (p : ℕ) (point : Point) → body_point o p ≡ Some point → (w : Body) × (o ≡ Some w)
    × (slice_get w.points p ≡ Some point)
by_body None p point e = absurd cc
by_body (Some w) p point e = (w, refl, e)

pub frame_body : (bodies : List Body) (callee : Option ℕ) (fr : Frame)
    (fit : IsAtPoint (points_of bodies) callee fr) → (w : Body) × (slice_get bodies fr.function ≡ Some w)
    × (slice_get w.points fr.point ≡ Some fit.0)
frame_body bodies callee fr fit = by_body (slice_get bodies fr.function) fr.point fit.0 fit.1

-- the last frame's function is there
pub handler_body : (bodies : List Body) (h g : ℕ) (w : Body) (frs : List Frame) → slice_get bodies g ≡ Some w
    → WaitFrames bodies h frs g → (b : Body) × (slice_get bodies h ≡ Some b)
handler_body bodies h g w [] found chain = (w, ap (slice_get bodies) (sym chain) ∙ found)
handler_body bodies h g w (fr ∷ frs) found chain =
    let b = frame_body bodies (Some g) fr chain.0 in
    handler_body bodies h fr.function b.0 frs b.1 chain.1
