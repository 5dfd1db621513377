-- What the test of a function says.
use Rattle.std.proofs.Common.{◌≡◌, ℕ, ◌+◌, ◌<◌, List, [], Option, Some, None, Bool, true, false, reverse, refl, sym, ap, ◌∙◌, subst, arith, slice_get}
use Rattle.std.specs.Prelude.{nat_lt}
use Rattle.std.proofs.lemmas.Bool.Decides.{nat_tests}
use Rattle.std.proofs.lemmas.List.{reverse-reverse}
use Rattle.lsl_value.specs.declared.tagged.Kind.{Kind}
use Rattle.lsl_code.specs.declared.instructions.Instr.{Instr}
use Rattle.lsl_code.specs.declared.instructions.Instr.TheVariants.{Tick, Call}
use Rattle.lsl_code.specs.declared.signatures.Names.{Names}
use Rattle.lsl_code.specs.Bodies.{Body}
use Rattle.lsl_code.specs.Effects.{behind}
use Rattle.lsl_code.specs.Fits.{all_places, finds, goes_on, goes_on_with, fits_before, may_be_bare, fits_where, fits_at, is_once}
use Rattle.lsl_code.specs.Kinds.{Scope, scope}
use Rattle.lsl_code.specs.Standing.{point_instr}
use Rattle.lsl_code.specs.Units.{fits_running, is_short}
use Rattle.lsl_code.specs.WellFormed.{StandsWith, FindsItsOperands, IsWellFormedFunction}
use Rattle.lsl_code.proofs.Sames.{both_true, all_from, sames_are, eq_is, shape_is}

-- a test that holds at all places holds at each
pub all_at : {A : Type 0} (test : ℕ → A → Bool) (xs : List A) (j : ℕ) (x : A) → all_places test 0 xs ≡ true
    → slice_get xs j ≡ Some x → test j x ≡ true
all_at test xs j x h e =
    let z : 0 + j ≡ j = omega arith in subst (λ n. test n x ≡ true) z (all_from test 0 xs j x h e)

-- the next instruction is there, with these kinds before it
pub finds_told : (w : Body) (place : ℕ) (ks : List Kind) → finds w place ks ≡ true → StandsWith w place ks
finds_told w place ks e = shape_is (slice_get w.stacks place) ks e

less_is : (m n : ℕ) → nat_lt m n ≡ true → m < n
less_is m n e = grind (arith, nat_tests)

goes_told : (w : Body) (k : ℕ) (i : Instr) (o : Option (List Kind)) → goes_on_with w k i o ≡ true
    → (js : List Kind) × (o ≡ Some js) × (goes_on w k i js ≡ true)
goes_told w k i None e = absurd cc
goes_told w k i (Some js) e = (js, refl, e)

place_told : (s : Scope) (w : Body) (k : ℕ) (i : Instr) (ks : List Kind) → fits_at s w k i ≡ true
    → StandsWith w k ks → FindsItsOperands s w k i ks
place_told s w k i ks fits stands =
    let here : fits_before s w k i ks ≡ true =
    sym (ap (fits_before s w k i) (reverse-reverse ks)) ∙ sym (ap (fits_where s w k i) stands) ∙ fits in
    let both = both_true (goes_on_with w k i (behind s i ks)) _ here in
    let goes = goes_told w k i (behind s i ks) both.0 in
    (goes.0, goes.1, goes.2, both.1)

kinds_there : (s : Scope) (w : Body) (k : ℕ) (i : Instr) (o : Option (Option (List Kind)))
    → slice_get w.stacks k ≡ o
    → may_be_bare i ≡ false → fits_where s w k i o ≡ true → (ks : List Kind) × StandsWith w k ks
kinds_there s w k i None e bare fits = absurd cc
kinds_there s w k i (Some None) e bare fits = absurd cc
kinds_there s w k i (Some (Some js)) e bare fits =
    (reverse js, e ∙ ap (λ l. Some (Some l)) (sym (reverse-reverse js)))

stands_told : (s : Scope) (w : Body) (k p : ℕ) (callee : Option ℕ) → fits_at s w k (point_instr callee p) ≡ true
    → (ks : List Kind) × StandsWith w k ks
stands_told s w k p None fits = kinds_there s w k (Tick p) (slice_get w.stacks k) refl refl fits
stands_told s w k p (Some g) fits = kinds_there s w k (Call g p) (slice_get w.stacks k) refl refl fits

pub function_told : (names : Names) (w : Body) → fits_running names w ≡ true → is_short w ≡ true
    → IsWellFormedFunction names w
function_told names w ok short =
    let s = scope names w.slots w.result in
    let p6 = both_true _ _ ok in
    let p5 = both_true _ _ p6.0 in
    let p4 = both_true _ _ p5.0 in
    let p3 = both_true _ _ p4.0 in
    let p2 = both_true _ _ p3.0 in
    let p1 = both_true _ _ p2.0 in
    record {
      first = finds_told w 0 [] p1.0;
      stacks = eq_is _ _ p1.1;
      finds =
          λ place i ks here stands. place_told s w place i ks (all_at (fits_at s w) w.code place i p2.1 here)
          stands;
      stands =
          λ place p callee here. stands_told s w place p callee
          (all_at (fits_at s w) w.code place (point_instr callee p) p2.1 here);
      once = λ p point here. eq_is _ _ (all_at (is_once w.code) w.points p point p3.1 here);
      lines = eq_is _ _ p4.1;
      most = eq_is _ _ p5.1;
      params = sames_are _ _ p6.1;
      short = less_is _ _ short;
    }
