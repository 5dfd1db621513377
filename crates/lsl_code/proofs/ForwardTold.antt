-- What the test that code goes back only after ticks says, and which code passes it.
use Rattle.std.proofs.Common.{◌≡◌, ℕ, ◌+◌, List, Bool, true, false, cond, Option, None, Some, refl, sym, ap, ◌∙◌, arith}
use Rattle.std.specs.Prelude.{slice_get}
use Rattle.lsl_code.specs.declared.instructions.Instr.{Instr}
use Rattle.lsl_code.specs.declared.instructions.Instr.TheVariants.{Jump, JumpIf, JumpIfNot}
use Rattle.lsl_code.specs.Bodies.{Body, instruction_in, instruction_at}
use Rattle.lsl_code.specs.Forward.{leads_back, Forward, frees, goes_back, begins, Lands}
use Rattle.lsl_code.specs.ForwardTests.{high_in, lands_ok, place_ok, body_ok}
use Rattle.lsl_code.proofs.Sames.{both_true, all_from}
use Rattle.lsl_code.proofs.Tested.{both, all_if}

is_false : (b : Bool) → cond b false true ≡ true → b ≡ false
is_false true h = absurd cc
is_false false h = refl

or_false : (a b : Bool) → cond a true (cond b false true) ≡ true → a ≡ false → b ≡ false
or_false true b h e = absurd cc
or_false false b h e = is_false b h

module _ (bs : List Body) (fits : (f : ℕ) (b : Body) → slice_get bs f ≡ Some b → body_ok b ≡ true) (f : ℕ) where
  backs_is : (b : Body) (place : ℕ) → slice_get bs f ≡ Some b → goes_back bs f place ≡ high_in b.code place
  backs_is b place e = ap (λ o. leads_back place (instruction_in o place) (instruction_in o (place + 1))) e

  place_is : (b : Body) (place : ℕ) (i : Instr) → slice_get bs f ≡ Some b → slice_get b.code place ≡ Some i
      → place_ok b.code place i ≡ true
  place_is b place i e d =
      let z : 0 + place ≡ place = omega arith in
      ap (λ n. place_ok b.code n i) (sym z)
      ∙ all_from (place_ok b.code) 0 b.code place i
      (both_true (begins (slice_get b.code 0) (slice_get b.code 1)) _ (fits f b e)).1 d

  lands_is : (b : Body) (i : Instr) → slice_get bs f ≡ Some b → lands_ok b.code i ≡ true → Lands bs f i
  lands_is b (Jump t) e h = backs_is b t e ∙ is_false (high_in b.code t) h
  lands_is b (JumpIf t) e h = backs_is b t e ∙ is_false (high_in b.code t) h
  lands_is b (JumpIfNot t) e h = backs_is b t e ∙ is_false (high_in b.code t) h
  lands_is b i e h = tt

  lands_of : (o : Option Body) (place : ℕ) (i : Instr) → slice_get bs f ≡ o → instruction_in o place ≡ Some i
      → Lands bs f i
  lands_of None place i e d = absurd cc
  lands_of (Some b) place i e d = lands_is b i e (both_true (lands_ok b.code i) _ (place_is b place i e d)).0

  behind_of : (o : Option Body) (place : ℕ) (i : Instr) → slice_get bs f ≡ o → instruction_in o place ≡ Some i
      → frees i place (instruction_in o (place + 1)) ≡ false → goes_back bs f (place + 1) ≡ false
  behind_of None place i e d h = absurd cc
  behind_of (Some b) place i e d h =
      backs_is b (place + 1) e ∙ or_false (frees i place (slice_get b.code (place + 1)))
      (high_in b.code (place + 1)) (both_true (lands_ok b.code i) _ (place_is b place i e d)).1 h

  starts_of : (b : Body) → slice_get bs f ≡ Some b
      → begins (instruction_at bs f 0) (instruction_at bs f 1) ≡ true
  starts_of b e =
      ap (λ o. begins (instruction_in o 0) (instruction_in o 1)) e
      ∙ (both_true (begins (slice_get b.code 0) (slice_get b.code 1)) _ (fits f b e)).0

pub forward_of : (bs : List Body) → ((f : ℕ) (b : Body) → slice_get bs f ≡ Some b → body_ok b ≡ true) → Forward bs
forward_of bs h =
    record {
      lands = λ f place i e. lands_of bs h f (slice_get bs f) place i refl e;
      behind = λ f place i e d. behind_of bs h f (slice_get bs f) place i refl e d;
      starts = λ f fn e. starts_of bs h f fn e;
    }

-- and the other way round
true_of : (b : Bool) → b ≡ false → cond b false true ≡ true
true_of true e = absurd cc
true_of false e = refl

lands_test : (bs : List Body) (f : ℕ) (b : Body) (i : Instr) → slice_get bs f ≡ Some b → Lands bs f i
    → lands_ok b.code i ≡ true
lands_test bs f b (Jump t) e h =
    true_of _ (sym (ap (λ o. leads_back t (instruction_in o t) (instruction_in o (t + 1))) e) ∙ h)
lands_test bs f b (JumpIf t) e h =
    true_of _ (sym (ap (λ o. leads_back t (instruction_in o t) (instruction_in o (t + 1))) e) ∙ h)
lands_test bs f b (JumpIfNot t) e h =
    true_of _ (sym (ap (λ o. leads_back t (instruction_in o t) (instruction_in o (t + 1))) e) ∙ h)
lands_test bs f b i e h = refl

free_test : (c d : Bool) → (c ≡ false → d ≡ false) → cond c true (cond d false true) ≡ true
free_test true d h = refl
free_test false d h = true_of d (h refl)

pub body_test : (bs : List Body) → Forward bs → (f : ℕ) (b : Body) → slice_get bs f ≡ Some b → body_ok b ≡ true
body_test bs fw f b e = both _ _ starts (all_if (place_ok b.code) b.code places)
  where
    at : (place : ℕ) → instruction_at bs f place ≡ slice_get b.code place
    at place = ap (λ o. instruction_in o place) e

    starts : begins (slice_get b.code 0) (slice_get b.code 1) ≡ true
    starts = sym (ap (λ o. begins (instruction_in o 0) (instruction_in o 1)) e) ∙ fw.starts f b e

    places : (k : ℕ) (i : Instr) → slice_get b.code k ≡ Some i → place_ok b.code k i ≡ true
    places k i here =
        both _ _ (lands_test bs f b i e (fw.lands f k i (at k ∙ here)))
        (free_test (frees i k (slice_get b.code (k + 1))) (high_in b.code (k + 1))
        (λ free. sym (backs_at (k + 1)) ∙ fw.behind f k i (at k ∙ here) (ap (frees i k) (at (k + 1)) ∙ free)))
      where
        backs_at : (q : ℕ) → goes_back bs f q ≡ high_in b.code q
        backs_at q = ap (λ o. leads_back q (instruction_in o q) (instruction_in o (q + 1))) e
