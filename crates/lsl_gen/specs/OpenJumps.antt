-- Jumps to labels, which are emitted before their labels' places are known, and patched where a block ends.
use Rattle.std.specs.Prelude.{ℕ, ◌+◌, nat_eq, cond, List, [], ◌∷◌, ◌++◌, Option, Some, None, is_none, length}
use Rattle.std.specs.List.{filter}
use Rattle.lsl_tree.specs.Actions as action
use Rattle.lsl_tree.specs.Actions.{Action, Actions, NoAction, AndAction}
use Rattle.lsl_tree.specs.Nodes.{Node}
use Rattle.lsl_code.specs.declared.instructions.Instr.{Instr}
use Rattle.lsl_code.specs.declared.instructions.Instr.TheVariants.{Jump, JumpIfNot}
use Rattle.lsl_code.specs.Targets.{retargeted}
use Rattle.lsl_gen.specs.declared.label_places.LabelPlace.{LabelPlace}
use Rattle.lsl_gen.specs.declared.label_places.OpenJump.{OpenJump}
use Rattle.lsl_gen.specs.Expressions.{value_code}
use Rattle.lsl_gen.specs.Statements.{size, sizes, places_in, action_code}

-- the code of an `if` with an `else` at this place, as far as the `else`: the jump over that isn't led anywhere yet
abbrev pub then_code : Node → Action → ℕ → List Instr
then_code test a place =
    let then = place + length (value_code test) + 1 in
    value_code test ++ (JumpIfNot (then + size a + 1) ∷ (action_code a [] then ++ Jump 0 ∷ []))

-- the place of the first label of this number
abbrev pub found_place : ℕ → List LabelPlace → Option ℕ
found_place label [] = None
found_place label (x ∷ xs) = cond (nat_eq label x.label) (Some x.place) (found_place label xs)

-- the code in which this jump leads to a place, if it's known
abbrev pub led_to : Option ℕ → OpenJump → List Instr → List Instr
led_to None jump code = code
led_to (Some place) jump code = retargeted code jump.place place

-- the code in which the jumps lead to their labels, those that are among these
abbrev pub led : List LabelPlace → List OpenJump → List Instr → List Instr
led labels [] code = code
led labels (x ∷ xs) code = led labels xs (led_to (found_place x.label labels) x code)

-- the jumps whose labels aren't among these
abbrev pub still_open : List LabelPlace → List OpenJump → List OpenJump
still_open labels jumps = filter (λ x. is_none (found_place x.label labels)) jumps

abbrev mutual
  -- the jumps in the code of a statement at this place whose labels aren't in it
  pub open_jumps : Action → ℕ → List OpenJump
  open_jumps (action.Block actions) place = still_open (places_in actions place) (all_open actions place)
  open_jumps (action.If test a) place = open_jumps a (place + length (value_code test) + 1)
  open_jumps (action.IfElse test a b) place =
      let then = place + length (value_code test) + 1 in
      open_jumps a then ++ open_jumps b (then + size a + 1)
  open_jumps (action.Loop line test steps a) place = open_jumps a (place + length (value_code test) + 1)
  open_jumps (action.Do line a test) place = open_jumps a place
  open_jumps (action.Jump line label) place = record { place = place + 1; label = label } ∷ []
  open_jumps a place = []

  -- those of statements, one after the other
  pub all_open : Actions → ℕ → List OpenJump
  all_open NoAction place = []
  all_open (AndAction actions a) place = all_open actions place ++ open_jumps a (place + sizes actions)
