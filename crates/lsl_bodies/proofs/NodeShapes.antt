-- Values of the right kinds have their shape.
use Rattle.std.proofs.Common.{◌≡◌, Option, Some, None, List, length, refl, sym, ap, ◌∙◌, arith}
use Rattle.std.specs.Prelude.{is_some, All}
use Rattle.std.proofs.lemmas.List.{length-reverse}
use Rattle.std.proofs.lemmas.List.Elements.{All-weaker}
use Rattle.lsl_value.specs.declared.tagged.Kind.{Kind}
use Rattle.lsl_tree.specs.declared.program_node.Callee.{Callee}
use Rattle.lsl_tree.specs.Nodes as node
use Rattle.lsl_tree.specs.Nodes.{Node, Nodes, NoNode, AndNode, stack_of}
use Rattle.lsl_tree.specs.Effects as effect
use Rattle.lsl_tree.specs.Effects.{Effect}
use Rattle.lsl_tree.specs.Shape.{argument_count, Outline, FitsCallee, IsShapedNode, AreShapedNodes, IsShapedEffect}
use Rattle.lsl_tree.specs.Kinded.{Scope, FitsCall, IsKindedNode, AreKindedNodes, IsKindedEffect}

-- what the shape speaks of
abbrev pub outline_of : Scope → Outline
outline_of s = record { functions = s.functions; states = s.states; gives = is_some s.result }

count_stack : (ts : Nodes) → length (stack_of ts) ≡ argument_count ts
count_stack NoNode = refl
count_stack (AndNode ts t) = omega (arith, count_stack ts)

module _ (s : Scope) where
  callee_shaped : (callee : Callee) (ts : Nodes) (result : Option Kind) → FitsCall s callee ts result
      → FitsCallee (outline_of s) callee (argument_count ts) (is_some result)
  callee_shaped callee ts result (g, there, params, same) =
      (g, there, sym (length-reverse g.params) ∙ (ap length params ∙ count_stack ts), ap is_some same)

  mutual
    pub node_shaped : (t : Node) → IsKindedNode s t → IsShapedNode (outline_of s) t
    node_shaped (node.Int n) h = tt
    node_shaped (node.Str t) h = tt
    node_shaped (node.Constant i k) h = tt
    node_shaped (node.Variable p k) h = tt
    node_shaped (node.Call c k l ts) h = (callee_shaped c ts (Some k) h.0, nodes_shaped ts h.1)
    node_shaped (node.ListLiteral ts) h = nodes_shaped ts h.1
    node_shaped (node.Cast k t) h = node_shaped t h.1
    node_shaped (node.Unary op t) h = node_shaped t h.1
    node_shaped (node.Binary op k a b) h = (node_shaped a h.1, node_shaped b h.2)
    node_shaped (node.Assign p k t) h = node_shaped t h.2
    node_shaped (node.StepBehind p op) h = tt

    nodes_shaped : (ts : Nodes) → AreKindedNodes s ts → AreShapedNodes (outline_of s) ts
    nodes_shaped NoNode h = tt
    nodes_shaped (AndNode ts t) h = (nodes_shaped ts h.0, node_shaped t h.1)

  pub effect_shaped : (x : Effect) → IsKindedEffect s x → IsShapedEffect (outline_of s) x
  effect_shaped (effect.Value t) h = node_shaped t h
  effect_shaped (effect.Call c l ts) h = (callee_shaped c ts None h.0, nodes_shaped ts h.1)

  pub effects_shaped : (xs : List Effect) → All (IsKindedEffect s) xs → All (IsShapedEffect (outline_of s)) xs
  effects_shaped xs h = All-weaker (IsKindedEffect s) (IsShapedEffect (outline_of s)) effect_shaped xs h
