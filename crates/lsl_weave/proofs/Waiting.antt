-- What the test of running code says of a point: the kinds of the operands that wait at it.
use Rattle.std.proofs.Common.{◌≡◌, ℕ, List, ◌++◌, length, drop, reverse, Option, Some, None, true, false, refl, sym, ap, ◌∙◌, slice_get}
use Rattle.std.proofs.Math.Seq.{drop-append_seam}
use Rattle.std.proofs.lemmas.List.{reverse-reverse}
use Rattle.lsl_value.specs.declared.tagged.Kind.{Kind}
use Rattle.lsl_code.specs.declared.functions.Point.{Point}
use Rattle.lsl_code.specs.declared.instructions.Instr.{Instr}
use Rattle.lsl_code.specs.Bodies.{Body}
use Rattle.lsl_code.specs.Effects.{behind}
use Rattle.lsl_code.specs.Fits.{same_callee, is_point, goes_on, goes_on_with, fits_before, may_be_bare, fits_where, fits_at}
use Rattle.lsl_code.specs.Kinds.{Scope}
use Rattle.lsl_code.specs.WellFormed.{StandsWith, FindsItsOperands}
use Rattle.lsl_code.proofs.Sames.{both_true, eq_is, sames_are}
use Rattle.lsl_code.specs.SaveWays.{waiting_kinds}

callee_is : (a b : Option ℕ) → same_callee a b ≡ true → a ≡ b
callee_is None None e = refl
callee_is (Some f) (Some g) e = ap Some (eq_is f g e)
callee_is None (Some g) e = absurd cc
callee_is (Some f) None e = absurd cc

-- the point of this number has this callee, and these kinds wait at it
pub record HasWaiting (w : Body) (p : ℕ) (callee : Option ℕ) (ks : List Kind) : Type 0 where
  pub point : Point
  pub mapped : slice_get w.points p ≡ Some point
  pub calls : point.calls ≡ callee
  pub waits : waiting_kinds w.slots point ≡ ks

pub waits_told : (w : Body) (p : ℕ) (o : Option Point) (callee : Option ℕ) (ks : List Kind)
    → slice_get w.points p ≡ o → is_point o callee (w.slots ++ reverse ks) ≡ true → HasWaiting w p callee ks
waits_told w p None callee ks e t = absurd cc
waits_told w p (Some point) callee ks e t =
    let b = both_true _ _ t in
    let kinds : point.kinds ≡ w.slots ++ reverse ks = sames_are _ _ b.1 in
    record {
      point = point;
      mapped = e;
      calls = callee_is _ _ b.0;
      waits =
          ap (λ l. reverse (drop (length w.slots) l)) kinds
          ∙ ap reverse (drop-append_seam w.slots (reverse ks)) ∙ reverse-reverse ks;
    }

pub kinds_there : (s : Scope) (w : Body) (k : ℕ) (i : Instr) (o : Option (Option (List Kind)))
    → slice_get w.stacks k ≡ o → may_be_bare i ≡ false → fits_where s w k i o ≡ true → (ks : List Kind)
    × StandsWith w k ks
kinds_there s w k i None e bare fits = absurd cc
kinds_there s w k i (Some None) e bare fits = absurd cc
kinds_there s w k i (Some (Some js)) e bare fits =
    (reverse js, e ∙ ap (λ l. Some (Some l)) (sym (reverse-reverse js)))

goes_told : (w : Body) (k : ℕ) (i : Instr) (o : Option (List Kind)) → goes_on_with w k i o ≡ true
    → (js : List Kind) × (o ≡ Some js) × (goes_on w k i js ≡ true)
goes_told w k i None e = absurd cc
goes_told w k i (Some js) e = (js, refl, e)

pub place_told : (s : Scope) (w : Body) (k : ℕ) (i : Instr) (ks : List Kind) → fits_at s w k i ≡ true
    → StandsWith w k ks → FindsItsOperands s w k i ks
place_told s w k i ks fits stands =
    let here : fits_before s w k i ks ≡ true =
    sym (ap (fits_before s w k i) (reverse-reverse ks)) ∙ sym (ap (fits_where s w k i) stands) ∙ fits in
    let t = both_true (goes_on_with w k i (behind s i ks)) _ here in
    let goes = goes_told w k i (behind s i ks) t.0 in
    (goes.0, goes.1, goes.2, t.1)
