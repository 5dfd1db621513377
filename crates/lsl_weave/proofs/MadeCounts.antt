-- Woven code has each point as often as the plain code, and no more operands.
use Rattle.std.proofs.Common.{◌≡◌, ℕ, zero, suc, ◌+◌, ◌-◌, ◌≤◌, List, [], ◌∷◌, ◌++◌, length, Option, Some, None, Bool, true, false, cond, refl, sym, ap, ◌∙◌, arith}
use Rattle.std.specs.Prelude.{slice_get, nat_eq}
use Rattle.std.proofs.lemmas.Option.{slice_get_within}
use Rattle.lsl_value.specs.declared.tagged.Kind.{Kind}
use Rattle.lsl_code.specs.declared.instructions.Instr.{Instr}
use Rattle.lsl_code.specs.declared.instructions.Instr.TheVariants.{Tick, Call, Jump, JumpIf, JumpIfNot}
use Rattle.lsl_code.specs.Bodies.{Body}
use Rattle.lsl_code.specs.Fits.{all_places, may_be_bare, most_operands, counted, count_of}
use Rattle.lsl_code.proofs.Sames.{both_true}
use Rattle.lsl_weave.specs.Layout.{shift, saves_from, main, woven_code, kinds_or_none, stack_before, main_stacks, woven_stacks}
use Rattle.lsl_code.specs.ModeStacks.{flat, nones}
use Rattle.lsl_weave.proofs.Quiet.{no_point, blocks, blocks_quiet}
use Rattle.lsl_weave.proofs.Saved.{has_value}
use Rattle.lsl_weave.proofs.StacksLaid.{stacks_laid, first_stack}

cond_add : (t : Bool) (m n : ℕ) → cond t (suc (m + n)) (m + n) ≡ cond t (suc m) m + n
cond_add true m n = omega arith
cond_add false m n = refl

counted_add : (p : ℕ) (i : Instr) (m n : ℕ) → counted p i (m + n) ≡ counted p i m + n
counted_add p (Tick q) m n = cond_add (nat_eq p q) m n
counted_add p (Call f q) m n = cond_add (nat_eq p q) m n
counted_add p i m n = refl

count_append : (p : ℕ) (xs ys : List Instr) → count_of p (xs ++ ys) ≡ count_of p xs + count_of p ys
count_append p [] ys = omega arith
count_append p (x ∷ xs) ys =
    ap (counted p x) (count_append p xs ys) ∙ counted_add p x (count_of p xs) (count_of p ys)

count_main : (p : ℕ) (b : Body) (k : ℕ) (i : Instr) → count_of p (main b k i) ≡ counted p i 0
count_main p b k (Tick q) = refl
count_main p b k (Call f q) = refl
count_main p b k (Jump t) = refl
count_main p b k (JumpIf t) = refl
count_main p b k (JumpIfNot t) = refl
count_main p b k i = refl

count_mains : (p : ℕ) (b : Body) (k : ℕ) (is : List Instr) → count_of p (flat (main b) k is) ≡ count_of p is
count_mains p b k [] = refl
count_mains p b k (i ∷ is) =
    count_append p (main b k i) (flat (main b) (suc k) is)
    ∙ ap (λ n. n + count_of p (flat (main b) (suc k) is)) (count_main p b k i)
    ∙ ap (λ n. counted p i 0 + n) (count_mains p b (suc k) is)
    ∙ sym (counted_add p i 0 (count_of p is))
    ∙ ap (counted p i) (from_zero (count_of p is))
  where
    from_zero : (n : ℕ) → 0 + n ≡ n
    from_zero n = omega arith

quiet_counted : (p : ℕ) (i : Instr) (n : ℕ) → may_be_bare i ≡ true → counted p i n ≡ n
quiet_counted p (Tick q) n e = absurd cc
quiet_counted p (Call f q) n e = absurd cc
quiet_counted p i n e = refl

count_quiet : (p s : ℕ) (is : List Instr) → all_places no_point s is ≡ true → count_of p is ≡ 0
count_quiet p s [] e = refl
count_quiet p s (i ∷ is) e =
    let t = both_true (no_point s i) (all_places no_point (suc s) is) e in
    quiet_counted p i (count_of p is) t.0 ∙ count_quiet p (suc s) is t.1

pub count_woven : (p : ℕ) (b : Body) → count_of p (woven_code b) ≡ count_of p b.code
count_woven p b =
    count_append p (flat (main b) 0 b.code) (blocks b)
    ∙ ap (λ n. count_of p (flat (main b) 0 b.code) + n) (count_quiet p 0 (blocks b) (blocks_quiet b 0))
    ∙ ap (λ n. n + 0) (count_mains p b 0 b.code) ∙ no_more (count_of p b.code)
  where
    no_more : (n : ℕ) → n + 0 ≡ n
    no_more n = omega arith

-- the greatest count of operands
most_join : (xs ys : List (Option (List Kind))) (n : ℕ) → most_operands xs ≤ n → most_operands ys ≤ n
    → most_operands (xs ++ ys) ≤ n
most_join [] ys n a b = b
most_join (None ∷ xs) ys n a b = most_join xs ys n a b
most_join (Some ks ∷ xs) ys n a b =
    let rest : most_operands xs ≤ n = omega (arith, a) in
    omega (arith, a, most_join xs ys n rest b)

most_has : (xs : List (Option (List Kind))) (k : ℕ) (ks : List Kind) → slice_get xs k ≡ Some (Some ks)
    → length ks ≤ most_operands xs
most_has [] k ks e = absurd cc
most_has (None ∷ xs) zero ks e = absurd cc
most_has (Some js ∷ xs) zero ks e =
    let same : js ≡ ks = cc in
    omega (arith, ap length same)
most_has (None ∷ xs) (suc k) ks e = most_has xs k ks e
most_has (Some js ∷ xs) (suc k) ks e = omega (arith, most_has xs k ks e)

most_le : (xs : List (Option (List Kind))) (n : ℕ)
    → ((k : ℕ) (ks : List Kind) → slice_get xs k ≡ Some (Some ks) → length ks ≤ n) → most_operands xs ≤ n
most_le [] n h = omega arith
most_le (None ∷ xs) n h = most_le xs n (λ k ks e. h (suc k) ks e)
most_le (Some js ∷ xs) n h = omega (arith, h 0 js refl, most_le xs n (λ k ks e. h (suc k) ks e))

most_one : (o : Option (List Kind)) (xs : List (Option (List Kind))) (n : ℕ) → most_operands (o ∷ []) ≤ n
    → most_operands xs ≤ n → most_operands (o ∷ xs) ≤ n
most_one o xs n a b = most_join (o ∷ []) xs n a b

nones_most : (m n : ℕ) → most_operands (nones m) ≤ n
nones_most zero n = omega arith
nones_most (suc m) n = nones_most m n

module _ (b : Body) where
  abbrev most : ℕ
  most = most_operands b.stacks

  before_most : (k : ℕ) → most_operands (stack_before b k ∷ []) ≤ most
  before_most k = by_stack (slice_get b.stacks k) refl
    where
      by_stack : (o : Option (Option (List Kind))) → slice_get b.stacks k ≡ o
          → most_operands (kinds_or_none o ∷ []) ≤ most
      by_stack None e = omega arith
      by_stack (Some None) e = omega arith
      by_stack (Some (Some ks)) e = omega (arith, most_has b.stacks k ks e)

  main_most : (k : ℕ) (i : Instr) → most_operands (main_stacks b k i) ≤ most
  main_most k (Tick p) = most_one (stack_before b k) (stack_before b (k + 1) ∷ []) most (before_most k)
      (before_most (k + 1))
  main_most k (Call f p) = most_one (stack_before b k) (stack_before b (k + 1) ∷ []) most (before_most k)
      (before_most (k + 1))
  main_most k i = before_most k

  mains_most : (k : ℕ) (is : List Instr) → most_operands (flat (main_stacks b) k is) ≤ most
  mains_most k [] = omega arith
  mains_most k (i ∷ is) =
      most_join (main_stacks b k i) (flat (main_stacks b) (suc k) is) most (main_most k i)
      (mains_most (suc k) is)

  pub most_woven : length b.stacks ≡ length b.code → most_operands (woven_stacks b) ≡ most_operands b.stacks
  most_woven long =
      let n : ℕ = length (woven_code b) - saves_from b in
      let rest : most_operands (flat (main_stacks b) 0 b.code ++ nones n) ≤ most =
      most_join (flat (main_stacks b) 0 b.code) (nones n) most (mains_most 0 b.code) (nones_most n most) in
      let up : most_operands (woven_stacks b) ≤ most = omega (arith, rest) in
      let down : most ≤ most_operands (woven_stacks b) =
      most_le b.stacks (most_operands (woven_stacks b)) there in
      omega (arith, up, down)
    where
      there : (k : ℕ) (ks : List Kind) → slice_get b.stacks k ≡ Some (Some ks)
          → length ks ≤ most_operands (woven_stacks b)
      there k ks e =
          let i = has_value b.code k (omega (arith, slice_get_within b.stacks k _ e, long)) in
          most_has (woven_stacks b) (shift b k) ks
          (first_stack b (woven_stacks b) (shift b k) k i.0 (stacks_laid b k i.0 i.1)
          ∙ ap (λ o. Some (kinds_or_none o)) e)
