-- Checked programs that hold vectors, by the vectors' items.
use Rattle.std.proofs.Common.{◌≡◌, ℕ, ◌+◌, List, [], ◌∷◌, ◌++◌, length, refl, ap, ◌∙◌, arith, Vec, Global}
use mathlib.Core.Former.{Count}
use Rattle.lsl_value.specs.declared.tagged.Kind.{Kind}
use Rattle.lsl_tree.specs.declared.program_node.Callee.{Callee}
use Rattle.lsl_tree.specs.declared.program_node.Node as declared
use Rattle.lsl_tree.specs.declared.program_node.Node.TheVariants as variant
use Rattle.lsl_tree.specs.declared.program_action.Action as declared_action
use Rattle.lsl_tree.specs.declared.program_action.Action.TheVariants as action_variant
use Rattle.lsl_tree.specs.Nodes.{Nodes, Call, ListLiteral, NoNode, AndNode, node_of, nodes_of, nodes_behind, row_nodes}
use Rattle.lsl_tree.specs.Actions.{Actions, Block, NoAction, AndAction, action_of, actions_of, actions_behind, row_actions}
use Rattle.lsl_tree.specs.Shape.{argument_count}

row_nodes-row : (n : _) (row : declared.Row_of-Node n) (ts : Nodes)
    → row_nodes row ts ≡ nodes_behind (declared.items-the_row-Node n row) ts
row_nodes-row n declared.end_of-Node ts = refl
row_nodes-row n (declared.more_of-Node t rest) ts = row_nodes-row _ rest (AndNode ts (node_of t))

abbrev row_of : declared.Node → (n : Count) × declared.Row_of-Node n
row_of (declared.List' _ row) = (_, row)
row_of (declared.Call' c k l _ row) = (_, row)
row_of _ = (_, declared.end_of-Node)

pub node_of-List : (v : Vec declared.Node Global) → node_of (variant.List v) ≡ ListLiteral (nodes_of v.items)
node_of-List v =
    let row = row_of (variant.List v) in
    ap ListLiteral (row_nodes-row row.0 row.1 NoNode
    ∙ ap (λ l. nodes_behind l NoNode) (declared.items_hidden-the_row-Node-0 v))

pub node_of-Call : (c : Callee) (k : Kind) (l : ℕ) (v : Vec declared.Node Global)
    → node_of (variant.Call c k l v) ≡ Call c k l (nodes_of v.items)
node_of-Call c k l v =
    let row = row_of (variant.Call c k l v) in
    ap (Call c k l) (row_nodes-row row.0 row.1 NoNode
    ∙ ap (λ t. nodes_behind t NoNode) (declared.items_hidden-the_row-Node-0 v))

nodes_behind-append : (xs : List declared.Node) (x : declared.Node) (ts : Nodes)
    → nodes_behind (xs ++ x ∷ []) ts ≡ AndNode (nodes_behind xs ts) (node_of x)
nodes_behind-append [] x ts = refl
nodes_behind-append (y ∷ xs) x ts = nodes_behind-append xs x (AndNode ts (node_of y))

pub nodes_of-append : (xs : List declared.Node) (x : declared.Node)
    → nodes_of (xs ++ x ∷ []) ≡ AndNode (nodes_of xs) (node_of x)
nodes_of-append xs x = nodes_behind-append xs x NoNode

nodes_behind-count : (xs : List declared.Node) (ts : Nodes)
    → argument_count (nodes_behind xs ts) ≡ length xs + argument_count ts
nodes_behind-count [] ts = omega arith
nodes_behind-count (x ∷ xs) ts = omega (arith, nodes_behind-count xs (AndNode ts (node_of x)))

pub argument_count-nodes_of : (xs : List declared.Node) → argument_count (nodes_of xs) ≡ length xs
argument_count-nodes_of xs = omega (arith, nodes_behind-count xs NoNode)

row_actions-row : (n : _) (row : declared_action.Row_of-Action n) (xs : Actions)
    → row_actions row xs ≡ actions_behind (declared_action.items-the_row-Action n row) xs
row_actions-row n declared_action.end_of-Action xs = refl
row_actions-row n (declared_action.more_of-Action a rest) xs = row_actions-row _ rest (AndAction xs (action_of a))

abbrev action_row_of : declared_action.Action → (n : Count) × declared_action.Row_of-Action n
action_row_of (declared_action.Block' _ row) = (_, row)
action_row_of _ = (_, declared_action.end_of-Action)

pub action_of-Block : (v : Vec declared_action.Action Global)
    → action_of (action_variant.Block v) ≡ Block (actions_of v.items)
action_of-Block v =
    let row = action_row_of (action_variant.Block v) in
    ap Block
    (row_actions-row row.0 row.1 NoAction
    ∙ ap (λ l. actions_behind l NoAction) (declared_action.items_hidden-the_row-Action-0 v))

actions_behind-append : (xs : List declared_action.Action) (x : declared_action.Action) (front : Actions)
    → actions_behind (xs ++ x ∷ []) front ≡ AndAction (actions_behind xs front) (action_of x)
actions_behind-append [] x front = refl
actions_behind-append (y ∷ xs) x front = actions_behind-append xs x (AndAction front (action_of y))

pub actions_of-append : (xs : List declared_action.Action) (x : declared_action.Action)
    → actions_of (xs ++ x ∷ []) ≡ AndAction (actions_of xs) (action_of x)
actions_of-append xs x = actions_behind-append xs x NoAction
