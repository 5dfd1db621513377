-- The code of a statement has the statement's size.
use Rattle.std.proofs.Common.{◌≡◌, ℕ, ◌+◌, List, [], ◌∷◌, ◌++◌, length, refl, arith, length-append}
use Rattle.lsl_tree.specs.Actions as action
use Rattle.lsl_tree.specs.Actions.{Action, Actions, NoAction, AndAction}
use Rattle.lsl_code.specs.declared.instructions.Instr.{Instr}
use Rattle.lsl_code.specs.declared.instructions.Instr.TheVariants.{Set, Jump, JumpIfNot, Tick, ReturnValue}
use Rattle.lsl_gen.specs.Expressions.{value_code, effects_code}
use Rattle.lsl_gen.specs.declared.label_places.LabelPlace.{LabelPlace}
use Rattle.lsl_gen.specs.Statements.{size, sizes, places_in, action_code, actions_code}

both_length : (a b : List Instr) (m n : ℕ) → length a ≡ m → length b ≡ n → length (a ++ b) ≡ m + n
both_length a b m n e d = omega (arith, length-append a b)

if_length : (c a : List Instr) (i : Instr) (m : ℕ) → length a ≡ m → length (c ++ (i ∷ a)) ≡ length c + 1 + m
if_length c a i m e = omega (arith, length-append c (i ∷ a))

if_else_length : (c a b : List Instr) (i j : Instr) (m n : ℕ) → length a ≡ m → length b ≡ n
    → length (c ++ (i ∷ (a ++ (j ∷ b)))) ≡ length c + 1 + m + 1 + n
if_else_length c a b i j m n e d = omega (arith, length-append c (i ∷ (a ++ (j ∷ b))), length-append a (j ∷ b))

loop_length : (c a b : List Instr) (i j k : Instr) (m : ℕ) → length a ≡ m
    → length (c ++ (i ∷ (a ++ (b ++ (j ∷ k ∷ []))))) ≡ length c + 1 + m + length b + 2
loop_length c a b i j k m e =
    omega (
      arith,
      length-append c (i ∷ (a ++ (b ++ (j ∷ k ∷ [])))),
      length-append a
          (b ++ (j ∷ k ∷ [])),
      length-append b (j ∷ k ∷ []),
    )

do_length : (c a : List Instr) (i j k : Instr) (m : ℕ) → length a ≡ m
    → length (a ++ (c ++ (i ∷ j ∷ k ∷ []))) ≡ m + length c + 1 + 2
do_length c a i j k m e = omega (arith, length-append a (c ++ (i ∷ j ∷ k ∷ [])), length-append c (i ∷ j ∷ k ∷ []))

mutual
  pub code_length : (a : Action) (labels : List LabelPlace) (place : ℕ) → length (action_code a labels place) ≡ size a
  code_length (action.Block actions) labels place = codes_length actions (places_in actions place ++ labels) place
  code_length (action.Effect x) labels place = refl
  code_length (action.Declare slot node) labels place = length-append (value_code node) (Set slot ∷ [])
  code_length (action.Label label) labels place = refl
  code_length (action.If test a) labels place =
      let then = place + length (value_code test) + 1 in
      if_length (value_code test) (action_code a labels then) (JumpIfNot (then + size a)) (size a)
      (code_length a labels then)
  code_length (action.IfElse test a b) labels place =
      let then = place + length (value_code test) + 1 in
      let otherwise = then + size a + 1 in
      if_else_length (value_code test) (action_code a labels then) (action_code b labels otherwise)
      (JumpIfNot otherwise) (Jump (otherwise + size b))
      (size a) (size b) (code_length a labels then) (code_length b labels otherwise)
  code_length (action.Loop line test steps a) labels place =
      let body = place + length (value_code test) + 1 in
      let end = body + size a + length (effects_code steps) in
      loop_length (value_code test) (action_code a labels body) (effects_code steps) (JumpIfNot (end + 2))
      (Tick line) (Jump place)
      (size a) (code_length a labels body)
  code_length (action.Do line a test) labels place =
      let end = place + size a + length (value_code test) + 1 in
      do_length (value_code test) (action_code a labels place) (JumpIfNot (end + 2)) (Tick line) (Jump place)
      (size a) (code_length a labels place)
  code_length (action.Jump line label) labels place = refl
  code_length action.Return labels place = refl
  code_length (action.ReturnValue node) labels place = length-append (value_code node) (ReturnValue ∷ [])
  code_length (action.State n) labels place = refl

  pub codes_length : (actions : Actions) (labels : List LabelPlace) (place : ℕ)
      → length (actions_code actions labels place) ≡ sizes actions
  codes_length NoAction labels place = refl
  codes_length (AndAction actions a) labels place =
      both_length (actions_code actions labels place) (action_code a labels (place + sizes actions))
      (sizes actions) (size a)
      (codes_length actions labels place) (code_length a labels (place + sizes actions))
