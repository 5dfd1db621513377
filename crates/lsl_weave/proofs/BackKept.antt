-- What restoring keeps true on its way, from instruction to instruction.
use Rattle.std.proofs.Common.{◌≡◌, ℕ, ◌+◌, List, [], ◌∷◌, ◌++◌, ◌⊎◌, inr, length, map, Option, Some, None, Bool, true, false, refl, ap, ◌∙◌}
use Rattle.std.specs.Prelude.{slice_get}
use Rattle.lsl_value.specs.Values.{kind_of}
use Rattle.lsl_value.specs.declared.tagged.Kind.{Kind}
use Rattle.lsl_value.specs.declared.tagged.Kind.TheVariants as kind
use Rattle.lsl_value.specs.declared.tagged.Value.{Value}
use Rattle.lsl_running.specs.Values.{empty_of}
use Rattle.lsl_code.specs.declared.frames.Frame.{Frame}
use Rattle.lsl_code.specs.declared.functions.Point.{Point}
use Rattle.lsl_code.specs.Bodies.{Body}
use Rattle.lsl_code.specs.Kinds.{kinds_of}
use Rattle.lsl_code.specs.Machine.{MachineCall}
use Rattle.lsl_code.specs.Restoring.{BackAct, Moves, Reenters, Wakes, NoBack, blank}
use Rattle.lsl_code.proofs.Sames.{both_true, sames_are}
use Rattle.lsl_code.proofs.Told.{all_at}
use Rattle.lsl_code.specs.BackWays.{BackWay, backs, put_back, are_put, lands_well, is_back_way, restores_point}
use Rattle.lsl_code.specs.SaveWays.{waiting_kinds}
use Rattle.lsl_code.specs.Woven.{is_kept}
use Rattle.lsl_weave.specs.WovenCalls.{IsAt}

-- at most n instructions are left to the end of a point's block, and these values are to be put back
pub record OnBackWay (w : Body) (n : ℕ) (opened : Bool) (p : ℕ) (pt : Point) (callee : Option ℕ)
    (c : MachineCall) (values : List Value) : Type 0 where
  pub mapped : slice_get w.points p ≡ Some pt
  pub callee_is : pt.calls ≡ callee
  pub way : BackWay
  pub is_way : backs w.code n p opened c.place ≡ Some way
  pub lands : lands_well w.code p pt.calls way.callee way.lands ≡ true
  pub kinds_are : put_back way.puts (kinds_of values) (kinds_of c.slots) (kinds_of c.operands)
      ≡ Some (w.slots, waiting_kinds w.slots pt)

-- a frame is current, and these frames are left; or it still is the outermost of those that are left
abbrev pub OnBack : Body → ℕ → List Frame → Option ℕ → MachineCall → ℕ → List Value → List Frame → Type 0
OnBack w n left callee c point hand sack =
    ((pt : Point) × (sack ≡ left) × OnBackWay w n true point pt callee c hand)
    ⊎ ((fr : Frame) × (pt : Point) × (sack ≡ left ++ fr ∷ [])
    × OnBackWay w n false fr.point pt callee c fr.slots)

-- the call is at its tick, or after its call of a function
abbrev pub BackEnds : List Body → MachineCall → Option ℕ → Type 0
BackEnds bodies c None = (p : ℕ) × IsAt bodies c c.place None p
BackEnds bodies c (Some g) = (k : ℕ) × (p : ℕ) × (c.place ≡ k + 1) × IsAt bodies c k (Some g) p

-- the act continues along the way, or ends it without a current value
abbrev pub BackGoesOn : List Body → Body → ℕ → List Frame → Option ℕ → ℕ → List Value → List Frame → BackAct
    → Type 0
BackGoesOn bodies w n left callee f hand sack (Moves c point' hand' sack') =
    (c.function ≡ f) × OnBack w n left callee c point' hand' sack'
BackGoesOn bodies w n left callee f hand sack (Reenters g c) =
    (c.function ≡ f) × (hand ≡ []) × (sack ≡ left) × (callee ≡ Some g) × BackEnds bodies c (Some g)
BackGoesOn bodies w n left callee f hand sack (Wakes c) =
    (c.function ≡ f) × (hand ≡ []) × (sack ≡ left) × (callee ≡ None) × BackEnds bodies c None
BackGoesOn bodies w n left callee f hand sack NoBack = ⊥

-- a way that passed the test
pub record BackWayOf (w : Body) (p : ℕ) (pt : Point) : Type 0 where
  pub way : BackWay
  pub is_way : backs w.code (length w.code) p false 0 ≡ Some way
  pub lands : lands_well w.code p pt.calls way.callee way.lands ≡ true
  pub kinds_are : put_back way.puts pt.kinds w.slots [] ≡ Some (w.slots, waiting_kinds w.slots pt)

put_is : (o : Option (List Kind × List Kind)) (slots ops : List Kind) → are_put o slots ops ≡ true
    → o ≡ Some (slots, ops)
put_is None slots ops e = absurd cc
put_is (Some r) slots ops e =
    let b = both_true _ _ e in
    ap (λ x. Some (x, r.1)) (sames_are r.0 slots b.0) ∙ ap (λ x. Some (slots, x)) (sames_are r.1 ops b.1)

back_way_of : (w : Body) (p : ℕ) (pt : Point) (o : Option BackWay)
    → backs w.code (length w.code) p false 0 ≡ o
    → is_back_way w p pt o ≡ true → BackWayOf w p pt
back_way_of w p pt None e h = absurd cc
back_way_of w p pt (Some way) e h =
    let a = both_true _ _ h in
    let b = both_true _ _ a.0 in
    record { way = way; is_way = e; lands = b.0; kinds_are = put_is _ w.slots (waiting_kinds w.slots pt) a.1 }

pub back_way : (w : Body) (p : ℕ) (pt : Point) → is_kept w ≡ true → slice_get w.points p ≡ Some pt
    → BackWayOf w p pt
back_way w p pt ok mapped =
    back_way_of w p pt (backs w.code (length w.code) p false 0) refl
    (all_at (restores_point w) w.points p pt (both_true _ _ ok).1 mapped)

kind_of_empty : (k : Kind) → kind_of (empty_of k) ≡ k
kind_of_empty kind.Int = refl
kind_of_empty kind.Str = refl
kind_of_empty kind.Key = refl
kind_of_empty kind.List = refl

kinds_of_empties : (ks : List Kind) → kinds_of (map empty_of ks) ≡ ks
kinds_of_empties [] = refl
kinds_of_empties (k ∷ ks) = ap (λ x. x ∷ kinds_of (map empty_of ks)) (kind_of_empty k)
    ∙ ap (λ l. k ∷ l) (kinds_of_empties ks)

-- the way begins at the function's start
pub back_begins : (w : Body) (f : ℕ) (left : List Frame) (callee : Option ℕ) (fr : Frame) (pt : Point)
    (point : ℕ) (hand : List Value) → is_kept w ≡ true → slice_get w.points fr.point ≡ Some pt
    → kinds_of fr.slots ≡ pt.kinds → pt.calls ≡ callee
    → OnBack w (length w.code) left callee (blank f w) point hand (left ++ fr ∷ [])
back_begins w f left callee fr pt point hand ok mapped kinds calls =
    let b = back_way w fr.point pt ok mapped in
    let k1 = ap (λ v. put_back b.way.puts v (kinds_of (map empty_of w.slots)) []) kinds in
    let k2 = ap (λ s. put_back b.way.puts pt.kinds s []) (kinds_of_empties w.slots) in
    inr (
      fr,
      pt,
      refl,
      record {
        mapped = mapped;
        callee_is = calls;
        way = b.way;
        is_way = b.is_way;
        lands =
            b.lands;
        kinds_are = k1 ∙ k2 ∙ b.kinds_are;
      },
    )
