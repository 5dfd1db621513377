-- The code of statements: places are counted from the function's first instruction. A label emits nothing.
use Rattle.std.specs.Prelude.{ℕ, ◌+◌, nat_eq, cond, List, [], ◌∷◌, ◌++◌, length}
use Rattle.lsl_tree.specs.Actions as action
use Rattle.lsl_tree.specs.Actions.{Action, Actions, NoAction, AndAction}
use Rattle.lsl_code.specs.declared.instructions.Instr.{Instr}
use Rattle.lsl_code.specs.declared.instructions.Instr.TheVariants.{Set, Jump, JumpIfNot, Tick, Return, ReturnValue, GoState}
use Rattle.lsl_gen.specs.declared.label_places.LabelPlace.{LabelPlace}
use Rattle.lsl_gen.specs.Expressions.{value_code, effect_code, effects_code}

abbrev mutual
  -- how many instructions a statement has
  pub size : Action → ℕ
  size (action.Block actions) = sizes actions
  size (action.Effect x) = length (effect_code x)
  size (action.Declare slot node) = length (value_code node) + 1
  size (action.Label label) = 0
  size (action.If test a) = length (value_code test) + 1 + size a
  size (action.IfElse test a b) = length (value_code test) + 1 + size a + 1 + size b
  size (action.Loop line test steps a) = length (value_code test) + 1 + size a + length (effects_code steps) + 2
  size (action.Do line a test) = size a + length (value_code test) + 1 + 2
  size (action.Jump line label) = 2
  size action.Return = 1
  size (action.ReturnValue node) = length (value_code node) + 1
  size (action.State n) = 1

  pub sizes : Actions → ℕ
  sizes NoAction = 0
  sizes (AndAction actions a) = sizes actions + size a

-- the place of the first label of this number, and 0 where there is none
abbrev pub place_of : ℕ → List LabelPlace → ℕ
place_of label [] = 0
place_of label (x ∷ xs) = cond (nat_eq label x.label) x.place (place_of label xs)

abbrev pub place_if_label : Action → ℕ → List LabelPlace
place_if_label (action.Label label) place = record { label = label; place = place } ∷ []
place_if_label a place = []

-- the labels directly in a block whose code begins at this place, the first one first
abbrev pub places_in : Actions → ℕ → List LabelPlace
places_in NoAction place = []
places_in (AndAction actions a) place = places_in actions place ++ place_if_label a (place + sizes actions)

abbrev mutual
  -- the code of a statement at this place, in blocks with these labels, the innermost block's first
  pub action_code : Action → List LabelPlace → ℕ → List Instr
  action_code (action.Block actions) labels place = actions_code actions (places_in actions place ++ labels) place
  action_code (action.Effect x) labels place = effect_code x
  action_code (action.Declare slot node) labels place = value_code node ++ Set slot ∷ []
  action_code (action.Label label) labels place = []
  action_code (action.If test a) labels place =
      let then = place + length (value_code test) + 1 in
      value_code test ++ (JumpIfNot (then + size a) ∷ action_code a labels then)
  action_code (action.IfElse test a b) labels place =
      let then = place + length (value_code test) + 1 in
      let otherwise = then + size a + 1 in
      value_code test
      ++ (JumpIfNot otherwise ∷ (action_code a labels
      then ++ (Jump (otherwise + size b) ∷ action_code b labels otherwise)))
  action_code (action.Loop line test steps a) labels place =
      let body = place + length (value_code test) + 1 in
      let end = body + size a + length (effects_code steps) in
      value_code test
      ++ (JumpIfNot (end + 2) ∷ (action_code a labels body ++ (effects_code steps ++ (Tick line ∷ Jump place ∷ []))))
  action_code (action.Do line a test) labels place =
      let end = place + size a + length (value_code test) + 1 in
      action_code a labels place ++ (value_code test ++ (JumpIfNot (end + 2) ∷ Tick line ∷ Jump place ∷ []))
  action_code (action.Jump line label) labels place = Tick line ∷ Jump (place_of label labels) ∷ []
  action_code action.Return labels place = Return ∷ []
  action_code (action.ReturnValue node) labels place = value_code node ++ ReturnValue ∷ []
  action_code (action.State n) labels place = GoState n ∷ []

  pub actions_code : Actions → List LabelPlace → ℕ → List Instr
  actions_code NoAction labels place = []
  actions_code (AndAction actions a) labels place =
      actions_code actions labels place ++ action_code a labels (place + sizes actions)
