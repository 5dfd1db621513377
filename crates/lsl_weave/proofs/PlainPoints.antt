-- What weaving requires of a plain function's points, and that a well-formed unit's functions have it.
use Rattle.std.proofs.Common.{◌≡◌, ℕ, List, [], ◌∷◌, ◌++◌, length, take, reverse, Option, Some, None, true, refl, sym, ap, ◌∙◌, slice_get}
use Rattle.lsl_value.specs.declared.tagged.Kind.{Kind}
use Rattle.lsl_value.specs.declared.tagged.Value.{Value}
use Rattle.lsl_code.specs.declared.functions.Point.{Point}
use Rattle.lsl_code.specs.declared.functions.StateCode.{StateCode}
use Rattle.lsl_code.specs.declared.instructions.Instr.TheVariants.{Tick, Call}
use Rattle.lsl_code.specs.Bodies.{Body}
use Rattle.lsl_code.specs.Effects.{waiting}
use Rattle.lsl_code.specs.Fits.{is_point}
use Rattle.lsl_code.specs.Kinds.{Scope, scope, names_in}
use Rattle.lsl_code.specs.Standing.{point_instr}
use Rattle.lsl_code.specs.WellFormed.{IsWellFormedUnit}
use Rattle.lsl_code.proofs.AtPoints.{well_formed, some_map}
use Rattle.lsl_code.proofs.Sames.{both_true, sames_are}
use Rattle.lsl_weave.specs.Layout.{place_of}
use Rattle.lsl_weave.proofs.Forwards.{stands}

pub record HasPoints (b : Body) : Type 0 where
  pub placed : (k p : ℕ) (callee : Option ℕ) → slice_get b.code k ≡ Some (point_instr callee p) → (pt : Point)
      × (slice_get b.points p ≡ Some pt)
  pub stands : (p : ℕ) (pt : Point) → slice_get b.points p ≡ Some pt
      → slice_get b.code (place_of p b.code) ≡ Some (point_instr pt.calls p)
  pub slots_first : (p : ℕ) (pt : Point) → slice_get b.points p ≡ Some pt
      → take (length b.slots) pt.kinds ≡ b.slots

take_front : {A : Type 0} (a b : List A) → take (length a) (a ++ b) ≡ a
take_front [] b = refl
take_front (x ∷ a) b = ap (λ l. x ∷ l) (take_front a b)

-- a map with these kinds begins with the slots
begins_so : (o : Option Point) (pt : Point) (callee : Option ℕ) (slots rest : List Kind) → o ≡ Some pt
    → is_point o callee (slots ++ rest) ≡ true → take (length slots) pt.kinds ≡ slots
begins_so o pt callee slots rest e test =
    let t : is_point (Some pt) callee (slots ++ rest) ≡ true =
    ap (λ x. is_point x callee (slots ++ rest)) (sym e) ∙ test in
    ap (take (length slots)) (sames_are pt.kinds (slots ++ rest) (both_true _ _ t).1) ∙ take_front slots rest

module _ (globals : List Value) (states : List StateCode) (bodies : List Body)
    (ok : IsWellFormedUnit globals states bodies) (f : ℕ) (b : Body)
    (found : slice_get bodies f ≡ Some b) where
  abbrev own : Scope
  own = scope (names_in globals states bodies) b.slots b.result

  begins_at : (k p : ℕ) (callee : Option ℕ) (pt : Point) → slice_get b.code k ≡ Some (point_instr callee p)
      → slice_get b.points p ≡ Some pt → take (length b.slots) pt.kinds ≡ b.slots
  begins_at k p None pt here mapped =
      let stack = (well_formed globals states bodies ok f b found).stands k p None here in
      let told = (well_formed globals states bodies ok f b found).finds k (Tick p) stack.0 here stack.1 in
      begins_so (slice_get b.points p) pt None b.slots (reverse stack.0) mapped told.3
  begins_at k p (Some g) pt here mapped =
      let stack = (well_formed globals states bodies ok f b found).stands k p (Some g) here in
      let told = (well_formed globals states bodies ok f b found).finds k (Call g p) stack.0 here stack.1 in
      begins_so (slice_get b.points p) pt (Some g) b.slots
      (reverse (waiting (slice_get own.functions g) stack.0)) mapped told.3

  pub has_points : HasPoints b
  has_points =
      record {
        placed = λ k p callee here. let m =
            (some_map globals states bodies ok f b found k p callee here).1 in
            (m.point, m.mapped);
        stands = stands globals states bodies ok f b found;
        slots_first = λ p pt mapped. begins_at (place_of p b.code) p pt.calls pt
            (stands globals states bodies ok f b found p pt mapped) mapped;
      }
