-- Woven code has the kinds of the plain code while it runs.
use Rattle.std.proofs.Common.{◌≡◌, ℕ, suc, ◌+◌, ◌≤◌, List, [], ◌∷◌, ◌⊎◌, inl, inr, ⊎_elim, length, reverse, Option, Some, None, true, refl, sym, ap, ◌∙◌, subst, arith, length-append}
use Rattle.std.specs.Prelude.{◌&&◌, slice_get}
use Rattle.std.proofs.lemmas.List.{reverse-reverse}
use Rattle.std.proofs.lemmas.Option.{slice_get_within}
use Rattle.lsl_value.specs.declared.tagged.Kind.{Kind}
use Rattle.lsl_code.specs.declared.instructions.Instr.{Instr}
use Rattle.lsl_code.specs.declared.instructions.Instr.TheVariants.{Jump, JumpIf, JumpIfNot, Tick, Call, Return, ReturnValue, GoState, Reset, TestSave, TestBack}
use Rattle.lsl_code.specs.Bodies.{Body}
use Rattle.lsl_code.specs.Effects.{behind}
use Rattle.lsl_code.specs.Fits.{all_places, has_kinds, finds, goes_on, has_point, goes_on_with, fits_before, may_be_bare, fits_where, fits_at}
use Rattle.lsl_code.specs.Kinds.{Scope}
use Rattle.lsl_code.specs.Standing.{point_instr}
use Rattle.lsl_code.proofs.Sames.{both_true, shape_is}
use Rattle.lsl_code.proofs.Tested.{both, sames, sames_self}
use Rattle.lsl_code.proofs.Told.{all_at}
use Rattle.lsl_weave.specs.Layout.{width, shift, saves_from, backs_from, save_place, main, woven_code, woven_of, kinds_or_none, stack_before, woven_stacks}
use Rattle.lsl_code.specs.ModeStacks.{flat}
use Rattle.lsl_weave.proofs.Lift.{first, shift_next, offset_none}
use Rattle.lsl_weave.proofs.MadeSaves.{point_width}
use Rattle.lsl_weave.proofs.Quiet.{no_point, blocks, blocks_quiet}
use Rattle.lsl_weave.proofs.Placing.{flat_length, main_length}
use Rattle.lsl_weave.proofs.Saved.{has_value}
use Rattle.lsl_weave.proofs.StacksLaid.{stacks_laid, nones_laid, first_stack, second_stack}
use Rattle.lsl_weave.proofs.WovenForward.{all_append, all_flat}

bare_first : (b : Body) (i : Instr) → may_be_bare i ≡ true → may_be_bare (first b i) ≡ true
bare_first b (Jump t) e = refl
bare_first b (JumpIf t) e = refl
bare_first b (JumpIfNot t) e = refl
bare_first b i e = e

behind_first : (s : Scope) (b : Body) (i : Instr) (ks : List Kind) → behind s (first b i) ks ≡ behind s i ks
behind_first s b (Jump t) ks = refl
behind_first s b (JumpIf t) ks = refl
behind_first s b (JumpIfNot t) ks = refl
behind_first s b i ks = refl

point_first : (s : Scope) (b : Body) (i : Instr) (ks : List Kind)
    → has_point s b.points (first b i) ks ≡ has_point s b.points i ks
point_first s b (Jump t) ks = refl
point_first s b (JumpIf t) ks = refl
point_first s b (JumpIfNot t) ks = refl
point_first s b i ks = refl

-- a point, or one instruction alone
is_main : (b : Body) (j : ℕ) (i : Instr) → ((callee : Option ℕ) × (p : ℕ) × (i ≡ point_instr callee p))
    ⊎ (main b j i ≡ first b i ∷ [])
is_main b j (Tick p) = inl (None, p, refl)
is_main b j (Call g p) = inl (Some g, p, refl)
is_main b j (Jump t) = inr refl
is_main b j (JumpIf t) = inr refl
is_main b j (JumpIfNot t) = inr refl
is_main b j i = inr refl

is_width : (i : Instr) → ((callee : Option ℕ) × (p : ℕ) × (i ≡ point_instr callee p)) ⊎ (width i ≡ 1)
is_width (Tick p) = inl (None, p, refl)
is_width (Call g p) = inl (Some g, p, refl)
is_width i = inr refl

module _ (s : Scope) (b : Body) (long : length b.stacks ≡ length b.code)
    (fits : all_places (fits_at s b) 0 b.code ≡ true) where
  stack_here : (k : ℕ) (i : Instr) → slice_get b.code k ≡ Some i
      → slice_get (woven_stacks b) (shift b k) ≡ Some (stack_before b k)
  stack_here k i e = first_stack b (woven_stacks b) (shift b k) k i (stacks_laid b k i e)

  -- where plain code continues with some kinds, woven code does
  finds_on : (t : ℕ) (ks : List Kind) → finds b t ks ≡ true → finds (woven_of b) (shift b t) ks ≡ true
  finds_on t ks e =
      let stack = shape_is (slice_get b.stacks t) ks e in
      let i = has_value b.code t (omega (arith, slice_get_within b.stacks t _ stack, long)) in
      ap (λ o. has_kinds o ks) (stack_here t i.0 i.1) ∙ ap (λ o. has_kinds (Some (kinds_or_none o)) ks) stack
      ∙ sames_self (reverse ks)

  finds_next : (k : ℕ) (i : Instr) (ks : List Kind) → slice_get b.code k ≡ Some i → finds b (k + 1) ks ≡ true
      → finds (woven_of b) (shift b k + 1) ks ≡ true
  finds_next k i ks here e =
      ⊎_elim
      (λ x. let here' : slice_get b.code k ≡ Some (point_instr x.0 x.1) = here ∙ ap Some x.2 in
      let stack = shape_is (slice_get b.stacks (k + 1)) ks e in
      ap (λ o. has_kinds o ks) (second_stack b (woven_stacks b) (shift b k) k x.1 x.0
      (stacks_laid b k (point_instr x.0 x.1) here')) ∙ ap (λ o. has_kinds (Some (kinds_or_none o)) ks) stack
      ∙ sames_self (reverse ks))
      (λ one. let z : shift b (k + 1) ≡ shift b k + 1 = shift_next b k i here ∙ ap (λ n. shift b k + n) one in
      subst (λ n. finds (woven_of b) n ks ≡ true) z (finds_on (k + 1) ks e))
      (is_width i)

  both_on : (k t : ℕ) (i : Instr) (ks : List Kind) → slice_get b.code k ≡ Some i
      → (finds b t ks && finds b (k + 1) ks) ≡ true
      → (finds (woven_of b) (shift b t) ks && finds (woven_of b) (shift b k + 1) ks) ≡ true
  both_on k t i ks here e =
      let p = both_true (finds b t ks) (finds b (k + 1) ks) e in
      both _ _ (finds_on t ks p.0) (finds_next k i ks here p.1)

  goes_on_on : (k : ℕ) (i : Instr) (ks : List Kind) → slice_get b.code k ≡ Some i → goes_on b k i ks ≡ true
      → goes_on (woven_of b) (shift b k) (first b i) ks ≡ true
  goes_on_on k (Jump t) ks here e = finds_on t ks e
  goes_on_on k (JumpIf t) ks here e = both_on k t (JumpIf t) ks here e
  goes_on_on k (JumpIfNot t) ks here e = both_on k t (JumpIfNot t) ks here e
  goes_on_on k Return ks here e = refl
  goes_on_on k ReturnValue ks here e = refl
  goes_on_on k (GoState n) ks here e = refl
  goes_on_on k Reset ks here e = refl
  goes_on_on k i ks here e = finds_next k i ks here e

  with_on : (k : ℕ) (i : Instr) (o : Option (List Kind)) → slice_get b.code k ≡ Some i
      → goes_on_with b k i o ≡ true → goes_on_with (woven_of b) (shift b k) (first b i) o ≡ true
  with_on k i None here e = absurd cc
  with_on k i (Some js) here e = goes_on_on k i js here e

  before_on : (k : ℕ) (i : Instr) (ks : List Kind) → slice_get b.code k ≡ Some i
      → fits_before s b k i ks ≡ true
      → fits_before s (woven_of b) (shift b k) (first b i) ks ≡ true
  before_on k i ks here e =
      let p = both_true (goes_on_with b k i (behind s i ks)) (has_point s b.points i ks) e in
      both _ _ (ap (goes_on_with (woven_of b) (shift b k) (first b i)) (behind_first s b i ks)
      ∙ with_on k i (behind s i ks) here p.0)
      (point_first s b i ks ∙ p.1)

  -- the first instruction for a plain one
  first_fits : (k : ℕ) (i : Instr) → slice_get b.code k ≡ Some i
      → fits_at s (woven_of b) (shift b k) (first b i) ≡ true
  first_fits k i here =
      ap (fits_where s (woven_of b) (shift b k) (first b i)) (stack_here k i here)
      ∙ by_stack (slice_get b.stacks k) (all_at (fits_at s b) b.code k i fits here)
    where
      by_stack : (o : Option (Option (List Kind))) → fits_where s b k i o ≡ true
          → fits_where s (woven_of b) (shift b k) (first b i) (Some (kinds_or_none o)) ≡ true
      by_stack None e = absurd cc
      by_stack (Some None) e = bare_first b i e
      by_stack (Some (Some js)) e = before_on k i (reverse js) here e

  -- the test after a point
  test_fits : (k p : ℕ) (callee : Option ℕ) → slice_get b.code k ≡ Some (point_instr callee p)
      → fits_at s (woven_of b) (suc (shift b k)) (TestSave (save_place b p)) ≡ true
  test_fits k p callee here =
      subst (λ n. fits_at s (woven_of b) n (TestSave (save_place b p)) ≡ true) z
      (ap (fits_where s (woven_of b) (shift b k + 1) (TestSave (save_place b p)))
      (second_stack b (woven_stacks b) (shift b k) k p callee (stacks_laid b k (point_instr callee p) here))
      ∙ by_stack (slice_get b.stacks (k + 1)) refl)
    where
      z : shift b k + 1 ≡ suc (shift b k)
      z = omega arith

      by_stack : (o : Option (Option (List Kind))) → slice_get b.stacks (k + 1) ≡ o
          → fits_where s (woven_of b) (shift b k + 1) (TestSave (save_place b p)) (Some (kinds_or_none o))
          ≡ true
      by_stack None e = refl
      by_stack (Some None) e = refl
      by_stack (Some (Some js)) e =
          let next : shift b (k + 1) ≡ shift b k + 1 + 1 =
          omega (arith, shift_next b k (point_instr callee p) here, point_width callee p) in
          let there : finds b (k + 1) (reverse js) ≡ true =
          ap (λ o. has_kinds o (reverse js)) e
          ∙ sames js (reverse (reverse js)) (sym (reverse-reverse js)) in
          both _ _ (subst (λ n. finds (woven_of b) n (reverse js) ≡ true) next
          (finds_on (k + 1) (reverse js) there)) refl

  main_fits : (k : ℕ) (i : Instr) (j : ℕ) → slice_get b.code k ≡ Some i
      → all_places (fits_at s (woven_of b)) (shift b k) (main b j i) ≡ true
  main_fits k i j here =
      ⊎_elim
      (λ x. let here' : slice_get b.code k ≡ Some (point_instr x.0 x.1) = here ∙ ap Some x.2 in
      subst (λ y. all_places (fits_at s (woven_of b)) (shift b k) (main b j y) ≡ true) (sym x.2)
      (points x.0 x.1 here'))
      (λ one. ap (all_places (fits_at s (woven_of b)) (shift b k)) one ∙ both _ _ (first_fits k i here) refl)
      (is_main b j i)
    where
      points : (callee : Option ℕ) (p : ℕ) → slice_get b.code k ≡ Some (point_instr callee p)
          → all_places (fits_at s (woven_of b)) (shift b k) (main b j (point_instr callee p)) ≡ true
      points None p e = both _ _ (first_fits k (Tick p) e) (both _ _ (test_fits k p None e) refl)
      points (Some g) p e = both _ _ (first_fits k (Call g p) e) (both _ _ (test_fits k p (Some g) e) refl)

  -- before the blocks there are no kinds
  blocks_fit : (from : ℕ) → from ≡ saves_from b → (is : List Instr) → (n : ℕ) → from ≤ n
      → n + length is ≤ length (woven_code b) → all_places no_point n is ≡ true
      → all_places (fits_at s (woven_of b)) n is ≡ true
  blocks_fit from at [] n le lt quiet = refl
  blocks_fit from at (i ∷ is) n le lt quiet =
      let p = both_true (no_point n i) (all_places no_point (suc n) is) quiet in
      both _ _ (ap (fits_where s (woven_of b) n i)
      (nones_laid b n (omega (arith, at, le)) (omega (arith, lt))) ∙ p.0)
      (blocks_fit from at is (suc n) (omega (arith, le)) (omega (arith, lt)) p.1)

  head_fits : finds b 0 [] ≡ true → fits_at s (woven_of b) 0 (TestBack (backs_from b)) ≡ true
  head_fits starts =
      let z : shift b 0 ≡ 0 + 1 = omega (arith, offset_none width b.code) in
      both _ _ (subst (λ n. finds (woven_of b) n [] ≡ true) z (finds_on 0 [] starts)) refl

  pub woven_fits : finds b 0 [] ≡ true → all_places (fits_at s (woven_of b)) 0 (woven_code b) ≡ true
  woven_fits starts =
      let t = fits_at s (woven_of b) in
      let mains = all_flat t (main b) width (main_length b) 1 0 b.code (λ k i e. main_fits k i (0 + k) e) in
      let from : ℕ = 1 + length (flat (main b) 0 b.code) in
      let at : from ≡ saves_from b = ap (λ n. 1 + n) (flat_length (main b) width (main_length b) 0 b.code) in
      let rest = blocks_fit from at (blocks b) from (omega arith)
      (omega (arith, length-append (flat (main b) 0 b.code) (blocks b))) (blocks_quiet b from) in
      both _ _ (head_fits starts) (all_append t 1 (flat (main b) 0 b.code) (blocks b) mains rest)
