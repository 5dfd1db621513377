-- How many nodes a program has: expressions and statements.
use Rattle.std.specs.Prelude.{ℕ, ◌+◌, List, [], ◌∷◌}
use Rattle.lsl_tree.specs.Actions as action
use Rattle.lsl_tree.specs.Actions.{Action, Actions, NoAction, AndAction}
use Rattle.lsl_tree.specs.Effects as effect
use Rattle.lsl_tree.specs.Effects.{Effect}
use Rattle.lsl_tree.specs.Nodes as node
use Rattle.lsl_tree.specs.Nodes.{Node, Nodes, NoNode, AndNode}
use Rattle.lsl_tree.specs.Program.{Routine, Program}
use Rattle.lsl_tree.specs.Signatures.{routines_of}

abbrev mutual
  pub nodes_in_value : Node → ℕ
  nodes_in_value (node.Int n) = 1
  nodes_in_value (node.Str text) = 1
  nodes_in_value (node.Constant id kind) = 1
  nodes_in_value (node.Variable place kind) = 1
  nodes_in_value (node.Call callee kind line arguments) = nodes_in_values arguments + 1
  nodes_in_value (node.ListLiteral elements) = nodes_in_values elements + 1
  nodes_in_value (node.Cast kind operand) = nodes_in_value operand + 1
  nodes_in_value (node.Unary op operand) = nodes_in_value operand + 1
  nodes_in_value (node.Binary op kind left right) = nodes_in_value left + nodes_in_value right + 1
  nodes_in_value (node.Assign place kind operand) = nodes_in_value operand + 1
  nodes_in_value (node.StepBehind place op) = 1

  pub nodes_in_values : Nodes → ℕ
  nodes_in_values NoNode = 0
  nodes_in_values (AndNode nodes node) = nodes_in_values nodes + nodes_in_value node

abbrev pub nodes_in_effect : Effect → ℕ
nodes_in_effect (effect.Value node) = nodes_in_value node
nodes_in_effect (effect.Call callee line arguments) = nodes_in_values arguments + 1

abbrev pub nodes_in_effects : List Effect → ℕ
nodes_in_effects [] = 0
nodes_in_effects (x ∷ xs) = nodes_in_effect x + nodes_in_effects xs

abbrev mutual
  pub nodes_in_action : Action → ℕ
  nodes_in_action (action.Block actions) = nodes_in_actions actions + 1
  nodes_in_action (action.Effect x) = nodes_in_effect x + 1
  nodes_in_action (action.Declare slot node) = nodes_in_value node + 1
  nodes_in_action (action.Label label) = 1
  nodes_in_action (action.If test a) = nodes_in_value test + nodes_in_action a + 1
  nodes_in_action (action.IfElse test a b) = nodes_in_value test + nodes_in_action a + nodes_in_action b + 1
  nodes_in_action (action.Loop line test steps a) =
      nodes_in_value test + nodes_in_effects steps + nodes_in_action a + 1
  nodes_in_action (action.Do line a test) = nodes_in_action a + nodes_in_value test + 1
  nodes_in_action (action.Jump line label) = 1
  nodes_in_action action.Return = 1
  nodes_in_action (action.ReturnValue node) = nodes_in_value node + 1
  nodes_in_action (action.State n) = 1

  pub nodes_in_actions : Actions → ℕ
  nodes_in_actions NoAction = 0
  nodes_in_actions (AndAction actions a) = nodes_in_actions actions + nodes_in_action a

-- in the bodies of these routines
abbrev pub nodes_in_routines : List Routine → ℕ
nodes_in_routines [] = 0
nodes_in_routines (r ∷ rs) = nodes_in_actions r.body + nodes_in_routines rs

abbrev pub nodes_of : Program → ℕ
nodes_of p = nodes_in_routines (routines_of p)
