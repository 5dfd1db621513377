-- The woven code of a well-formed unit goes back only after ticks.
use Rattle.std.proofs.Common.{◌≡◌, ℕ, List, Option, Some, None, true, option_map, refl, sym, ap, ◌∙◌, subst, slice_get}
use Rattle.std.proofs.lemmas.Option.{slice_get-map}
use Rattle.lsl_value.specs.declared.tagged.Value.{Value}
use Rattle.lsl_code.specs.declared.functions.Point.{Point}
use Rattle.lsl_code.specs.declared.functions.StateCode.{StateCode}
use Rattle.lsl_code.specs.Bodies.{Body}
use Rattle.lsl_code.specs.ForwardTests.{body_ok}
use Rattle.lsl_code.specs.Standing.{point_instr}
use Rattle.lsl_code.specs.Units.{fits_unit}
use Rattle.lsl_code.specs.WellFormed.{IsWellFormedUnit}
use Rattle.lsl_code.proofs.AtPoints.{well_formed, some_map}
use Rattle.lsl_code.proofs.Calling.{found_in}
use Rattle.lsl_code.proofs.ForwardTold.{forward_of, body_test}
use Rattle.lsl_code.proofs.UnitTold.{fits_tells}
use Rattle.lsl_weave.specs.Layout.{place_of, woven_of, all_woven}
use Rattle.lsl_weave.specs.UnitLaws.{UnitsGoForward}
use Rattle.lsl_weave.proofs.OnePlaced.{one_place}
use Rattle.lsl_weave.proofs.Weavable.{Weavable}
use Rattle.lsl_weave.proofs.WovenForward.{body_woven}

same_some : {A : Type 0} (o : Option A) (x y : A) → o ≡ Some x → o ≡ Some y → x ≡ y
same_some o x y p q = cc

-- a woven function is one of these
pub woven_from : (bodies : List Body) (f : ℕ) (w : Body) → slice_get (all_woven bodies) f ≡ Some w
    → (b : Body)
    × (slice_get bodies f ≡ Some b) × (woven_of b ≡ w)
woven_from bodies f w e = by_body (slice_get bodies f) refl (sym (slice_get-map woven_of bodies f) ∙ e)
  where
    by_body : (o : Option Body) → slice_get bodies f ≡ o → option_map woven_of o ≡ Some w → (b : Body)
        × (slice_get bodies f ≡ Some b) × (woven_of b ≡ w)
    by_body None is e = absurd cc
    by_body (Some b) is e = let same : woven_of b ≡ w = cc in (b, is, same)

module _ (globals : List Value) (states : List StateCode) (bodies : List Body)
    (ok : IsWellFormedUnit globals states bodies) where
  -- a point's tick or call is where it is first met
  pub stands : (f : ℕ) (b : Body) → slice_get bodies f ≡ Some b → (p : ℕ) (pt : Point)
      → slice_get b.points p ≡ Some pt
      → slice_get b.code (place_of p b.code) ≡ Some (point_instr pt.calls p)
  stands f b found p pt mapped =
      let once = (well_formed globals states bodies ok f b found).once p pt mapped in
      let place = found_in b.code p 0 once in
      let m = (some_map globals states bodies ok f b found place.0 p place.1 place.2).1 in
      let same = same_some _ m.point pt m.mapped mapped in
      let calls : place.1 ≡ pt.calls = sym m.calls ∙ ap (λ x. x.calls) same in
      ap (slice_get b.code) (one_place b.code p place.0 place.1 once place.2)
      ∙ place.2 ∙ ap (λ o. Some (point_instr o p)) calls

module _ (globals : List Value) (states : List StateCode) (bodies : List Body)
    (fits : fits_unit globals states bodies ≡ true) where
  pub weavable : (f : ℕ) (b : Body) → slice_get bodies f ≡ Some b → Weavable b
  weavable f b found = (
    (λ k i here. (fits_tells globals states bodies fits).1.plain f k b i found here),
    stands globals states bodies (fits_tells globals states bodies fits).0 f b found,
  )

  pub woven_forward : (f : ℕ) (w : Body) → slice_get (all_woven bodies) f ≡ Some w → body_ok w ≡ true
  woven_forward f w found =
      let x = woven_from bodies f w found in
      let plain = body_test bodies (fits_tells globals states bodies fits).0.forward f x.0 x.1 in
      subst (λ y. body_ok y ≡ true) x.2 (body_woven x.0 (weavable f x.0 x.1) plain)

pub units_go_forward : UnitsGoForward
units_go_forward globals states bodies fits =
    forward_of (all_woven bodies) (woven_forward globals states bodies fits)
