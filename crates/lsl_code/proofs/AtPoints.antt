-- What a well-formed unit, plain or woven, says of a point's instruction.
use Rattle.std.proofs.Common.{◌≡◌, ℕ, ◌+◌, List, ◌++◌, length, drop, reverse, Option, Some, None, option_map, true, refl, sym, ap, ◌∙◌, subst, slice_get}
use Rattle.std.proofs.lemmas.List.{reverse-reverse}
use Rattle.std.proofs.lemmas.Option.{slice_get-map}
use Rattle.lsl_value.specs.declared.tagged.Kind.{Kind}
use Rattle.lsl_value.specs.declared.tagged.Value.{Value}
use Rattle.lsl_code.specs.declared.functions.Point.{Point}
use Rattle.lsl_code.specs.declared.functions.StateCode.{StateCode}
use Rattle.lsl_code.specs.declared.instructions.Instr.TheVariants.{Tick, Call}
use Rattle.lsl_code.specs.declared.signatures.Names.{Names}
use Rattle.lsl_code.specs.Bodies.{Body}
use Rattle.lsl_code.specs.Effects.{pushed, called, waiting}
use Rattle.lsl_code.specs.Fits.{same_callee, is_point}
use Rattle.lsl_code.specs.Kinds.{Scope, scope, names_in, signature_in}
use Rattle.lsl_code.specs.Standing.{point_instr}
use Rattle.lsl_code.specs.WellFormed.{StandsWith, IsWellFormedFunction, IsWellFormedUnit}
use Rattle.lsl_code.proofs.Sames.{both_true, eq_is, sames_are}
use Rattle.lsl_code.proofs.Taking.{taken}
use Rattle.lsl_code.proofs.Told.{finds_told}

callee_is : (a b : Option ℕ) → same_callee a b ≡ true → a ≡ b
callee_is None None e = refl
callee_is (Some f) (Some g) e = ap Some (eq_is f g e)
callee_is None (Some g) e = absurd cc
callee_is (Some f) None e = absurd cc

-- the point of this number calls this function, or none, and these are the kinds of its map
pub record HasMap (points : List Point) (p : ℕ) (callee : Option ℕ) (ks : List Kind) : Type 0 where
  pub point : Point
  pub mapped : slice_get points p ≡ Some point
  pub calls : point.calls ≡ callee
  pub kinds : point.kinds ≡ ks

map_told : (points : List Point) (p : ℕ) (o : Option Point) (callee : Option ℕ) (ks : List Kind)
    → slice_get points p ≡ o
    → is_point o callee ks ≡ true → HasMap points p callee ks
map_told points p None callee ks e t = absurd cc
map_told points p (Some point) callee ks e t =
    let b = both_true _ _ t in
    record { point = point; mapped = e; calls = callee_is _ _ b.0; kinds = sames_are _ _ b.1 }

some_one : {A : Type 0} (x y : A) → Some x ≡ Some y → x ≡ y
some_one x y e = cc

pub pushed_one : (r : Option Kind) (js ks : List Kind) → pushed r js ≡ pushed r ks → js ≡ ks
pushed_one None js ks e = e
pushed_one (Some k) js ks e = cc

-- one place has one list of kinds
pub one_stack : (w : Body) (k : ℕ) (js ks : List Kind) → StandsWith w k js → StandsWith w k ks → js ≡ ks
one_stack w k js ks a b =
    let same : reverse js ≡ reverse ks = some_one _ _ (some_one _ _ (sym a ∙ b)) in
    sym (reverse-reverse js) ∙ ap reverse same ∙ reverse-reverse ks

module _ (globals : List Value) (states : List StateCode) (bodies : List Body)
    (ok : IsWellFormedUnit globals states bodies) where
  abbrev names : Names
  names = names_in globals states bodies

  module _ (f : ℕ) (w : Body) (found : slice_get bodies f ≡ Some w) where
    abbrev own : Scope
    own = scope names w.slots w.result

    pub well_formed : IsWellFormedFunction names w
    well_formed = ok.functions f w found

    pub tick_map : (k p : ℕ) (ks : List Kind) → slice_get w.code k ≡ Some (Tick p) → StandsWith w k ks
        → HasMap w.points p None (w.slots ++ reverse ks)
    tick_map k p ks here stands =
        map_told w.points p (slice_get w.points p) None _ refl (well_formed.finds k (Tick p) ks here stands).3

    -- at a call: the operands that wait, and with the result those after it
    pub call_map : (k p g : ℕ) (callee : Body) → slice_get w.code k ≡ Some (Call g p)
        → slice_get bodies g ≡ Some callee
        → (ks : List Kind) × HasMap w.points p (Some g) (w.slots ++ reverse ks)
        × StandsWith w (k + 1) (pushed callee.result ks)
    call_map k p g callee here there =
        let stack = well_formed.stands k p (Some g) here in
        let ks = stack.0 in
        let told = well_formed.finds k (Call g p) ks here stack.1 in
        let named : slice_get own.functions g ≡ Some (signature_in callee) =
        slice_get-map signature_in bodies g ∙ ap (option_map signature_in) there in
        let t = taken (signature_in callee) ks told.0 (ap (λ o. called o ks) (sym named) ∙ told.1) in
        let left = drop (length callee.params) ks in
        let wait : waiting (slice_get own.functions g) ks ≡ left = ap (λ o. waiting o ks) named in
        let m = map_told w.points p (slice_get w.points p) (Some g) _ refl told.3 in (
          left,
          subst (λ l. HasMap w.points p (Some g) (w.slots ++ reverse l)) wait m,
          subst (StandsWith w (k + 1)) (sym t.rest) (finds_told w (k + 1) told.0 told.2),
        )

    -- a map with some kinds
    pub some_map : (k p : ℕ) (callee : Option ℕ) → slice_get w.code k ≡ Some (point_instr callee p)
        → (ks : List Kind) × HasMap w.points p callee ks
    some_map k p None here =
        let stack = well_formed.stands k p None here in
        (w.slots ++ reverse stack.0, tick_map k p stack.0 here stack.1)
    some_map k p (Some g) here =
        let stack = well_formed.stands k p (Some g) here in
        let told = well_formed.finds k (Call g p) stack.0 here stack.1 in (
          w.slots ++ reverse (waiting (slice_get own.functions g) stack.0),
          map_told w.points p (slice_get w.points p) (Some g) _ refl told.3,
        )
