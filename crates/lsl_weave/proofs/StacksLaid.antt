-- The kinds before the instructions of woven code.
use Rattle.std.proofs.Common.{◌≡◌, ℕ, zero, suc, ◌+◌, ◌-◌, ◌≤◌, List, [], ◌∷◌, ◌++◌, length, Option, Some, None, refl, ap, ◌∙◌, subst, arith, length-append}
use Rattle.std.specs.Prelude.{slice_get}
use Rattle.lsl_value.specs.declared.tagged.Kind.{Kind}
use Rattle.lsl_code.specs.declared.instructions.Instr.{Instr}
use Rattle.lsl_code.specs.declared.instructions.Instr.TheVariants.{Tick, Call}
use Rattle.lsl_code.specs.Bodies.{Body}
use Rattle.lsl_code.specs.Standing.{point_instr}
use Rattle.lsl_weave.specs.Layout.{width, shift, saves_from, main, woven_code, stack_before, main_stacks, woven_stacks}
use Rattle.lsl_code.specs.ModeStacks.{flat, nones}
use Rattle.lsl_weave.proofs.Quiet.{blocks}
use Rattle.lsl_weave.proofs.Placing.{HasAt, has_front, has_all, flat_at, flat_length, main_length}

pub stacks_length : (b : Body) (k : ℕ) (i : Instr) → length (main_stacks b k i) ≡ width i
stacks_length b k (Tick p) = refl
stacks_length b k (Call f p) = refl
stacks_length b k _ = refl

pub nones_length : (n : ℕ) → length (nones n) ≡ n
nones_length zero = refl
nones_length (suc n) = ap suc (nones_length n)

nones_get : (n j : ℕ) → suc j ≤ n → slice_get (nones n) j ≡ Some None
nones_get zero j le = absurd (omega arith)
nones_get (suc n) zero le = refl
nones_get (suc n) (suc j) le = nones_get n j (omega arith)

get_behind : {B : Type 0} (xs ys : List B) (j : ℕ) → slice_get (xs ++ ys) (length xs + j) ≡ slice_get ys j
get_behind [] ys j = let z : 0 + j ≡ j = omega arith in ap (slice_get ys) z
get_behind (x ∷ xs) ys j =
    let z : length (x ∷ xs) + j ≡ suc (length xs + j) = omega arith in
    ap (slice_get (x ∷ (xs ++ ys))) z ∙ get_behind xs ys j

from_zero : (k : ℕ) → 0 + k ≡ k
from_zero k = omega arith

module _ (b : Body) where
  -- the blocks follow the code that runs
  blocks_behind : saves_from b ≤ length (woven_code b)
  blocks_behind =
      omega (
        arith,
        length-append (flat (main b) 0 b.code) (blocks b),
        flat_length (main b) width
            (main_length b) 0 b.code,
      )

  pub stacks_long : length (woven_stacks b) ≡ length (woven_code b)
  stacks_long =
      omega (
        arith,
        length-append (flat (main_stacks b) 0 b.code)
            (nones (length (woven_code b) - saves_from b)),
        flat_length (main_stacks b) width (stacks_length b) 0
            b.code,
        nones_length (length (woven_code b) - saves_from b),
        blocks_behind,
      )

  -- those of a plain instruction
  pub stacks_laid : (k : ℕ) (i : Instr) → slice_get b.code k ≡ Some i
      → HasAt (woven_stacks b) (shift b k) (main_stacks b k i)
  stacks_laid k i e =
      let behind : HasAt (woven_stacks b) 1
      (flat (main_stacks b) 0 b.code ++ nones (length (woven_code b) - saves_from b)) =
      (has_all (woven_stacks b) []).1 in
      subst (λ n. HasAt (woven_stacks b) (shift b k) (main_stacks b n i)) (from_zero k)
      (flat_at (woven_stacks b) (main_stacks b) width (stacks_length b) 1 0 b.code k i
      (has_front (woven_stacks b) 1 (flat (main_stacks b) 0 b.code) _ behind) e)

  -- and none in the blocks
  pub nones_laid : (j : ℕ) → saves_from b ≤ j → suc j ≤ length (woven_code b)
      → slice_get (woven_stacks b) j ≡ Some None
  nones_laid j le lt =
      let front : List (Option (List Kind)) = Some [] ∷ flat (main_stacks b) 0 b.code in
      let long : length front ≡ saves_from b =
      ap suc (flat_length (main_stacks b) width (stacks_length b) 0 b.code) ∙ omega arith in
      let z : j ≡ length front + (j - saves_from b) = omega (arith, long, le) in
      ap (slice_get (woven_stacks b)) z ∙ get_behind front (nones (length (woven_code b) - saves_from b))
      (j - saves_from b) ∙ nones_get (length (woven_code b) - saves_from b) (j - saves_from b)
      (omega (arith, le, lt))

pub first_stack : (b : Body) (stacks : List (Option (List Kind))) (s k : ℕ) (i : Instr)
    → HasAt stacks s (main_stacks b k i) → slice_get stacks s ≡ Some (stack_before b k)
first_stack b stacks s k (Tick p) h = h.0
first_stack b stacks s k (Call f p) h = h.0
first_stack b stacks s k _ h = h.0

-- before the test after a point are those of the next plain instruction
pub second_stack : (b : Body) (stacks : List (Option (List Kind))) (s k p : ℕ) (callee : Option ℕ)
    → HasAt stacks s (main_stacks b k (point_instr callee p))
    → slice_get stacks (s + 1) ≡ Some (stack_before b (k + 1))
second_stack b stacks s k p None h = h.1.0
second_stack b stacks s k p (Some g) h = h.1.0
