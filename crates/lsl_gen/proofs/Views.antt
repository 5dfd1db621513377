-- The parts of trees, as lists.
use Rattle.std.proofs.Common.{◌≡◌, ℕ, ◌+◌, ◌<◌, List, [], ◌∷◌, ◌++◌, length, Vec, Global, refl, sym, ap, ◌∙◌, arith, take, get_or}
use Rattle.std.proofs.lemmas.List.{take_more}
use mathlib.Core.Former.{Count}
use Rattle.lsl_value.specs.declared.tagged.Kind.{Kind}
use Rattle.lsl_tree.specs.declared.program_node.Callee.{Callee}
use Rattle.lsl_tree.specs.declared.program_node.Node as declared
use Rattle.lsl_tree.specs.declared.program_node.Node.{items-the_row-Node, items_hidden-the_row-Node-0}
use Rattle.lsl_tree.specs.declared.program_action.Action as declared_action
use Rattle.lsl_tree.specs.declared.program_action.Action.{items-the_row-Action, items_hidden-the_row-Action-0}
use Rattle.lsl_tree.specs.Actions as action
use Rattle.lsl_tree.specs.Actions.{Actions, NoAction, AndAction, action_of, row_actions, actions_behind, actions_of}
use Rattle.lsl_tree.specs.Nodes as node
use Rattle.lsl_tree.specs.Nodes.{Nodes, NoNode, AndNode, node_of, row_nodes, nodes_behind, nodes_of}
use Rattle.lsl_tree.specs.Shape.{argument_count}

node_row : (n : _) (row : declared.Row_of-Node n) (ts : Nodes)
    → row_nodes row ts ≡ nodes_behind (items-the_row-Node n row) ts
node_row n declared.end_of-Node ts = refl
node_row n (declared.more_of-Node e rest) ts = node_row _ rest (AndNode ts (node_of e))

abbrev row_of_node : declared.Node → (n : Count) × declared.Row_of-Node n
row_of_node (declared.List' _ row) = (_, row)
row_of_node (declared.Call' c k l _ row) = (_, row)
row_of_node _ = (_, declared.end_of-Node)

pub node_of-List : (v : Vec declared.Node Global) → node_of (declared.List v) ≡ node.ListLiteral (nodes_of v.items)
node_of-List v =
    let row = row_of_node (declared.List v) in
    ap node.ListLiteral (node_row row.0 row.1 NoNode ∙ ap (λ l. nodes_behind l NoNode) (items_hidden-the_row-Node-0 v))

pub node_of-Call : (c : Callee) (k : Kind) (l : ℕ) (v : Vec declared.Node Global)
    → node_of (declared.Call c k l v) ≡ node.Call c k l (nodes_of v.items)
node_of-Call c k l v =
    let row = row_of_node (declared.Call c k l v) in
    ap (node.Call c k l) (node_row row.0 row.1 NoNode ∙ ap (λ t. nodes_behind t NoNode) (items_hidden-the_row-Node-0 v))

action_row : (n : _) (row : declared_action.Row_of-Action n) (ts : Actions)
    → row_actions row ts ≡ actions_behind (items-the_row-Action n row) ts
action_row n declared_action.end_of-Action ts = refl
action_row n (declared_action.more_of-Action e rest) ts = action_row _ rest (AndAction ts (action_of e))

abbrev row_of_action : declared_action.Action → (n : Count) × declared_action.Row_of-Action n
row_of_action (declared_action.Block' _ row) = (_, row)
row_of_action _ = (_, declared_action.end_of-Action)

pub action_of-Block : (v : Vec declared_action.Action Global)
    → action_of (declared_action.Block v) ≡ action.Block (actions_of v.items)
action_of-Block v =
    let row = row_of_action (declared_action.Block v) in
    ap action.Block (action_row row.0 row.1 NoAction
    ∙ ap (λ l. actions_behind l NoAction) (items_hidden-the_row-Action-0 v))

nodes_push : (xs : List declared.Node) (x : declared.Node) (ts : Nodes)
    → nodes_behind (xs ++ x ∷ []) ts ≡ AndNode (nodes_behind xs ts) (node_of x)
nodes_push [] x ts = refl
nodes_push (y ∷ xs) x ts = nodes_push xs x (AndNode ts (node_of y))

actions_push : (xs : List declared_action.Action) (x : declared_action.Action) (ts : Actions)
    → actions_behind (xs ++ x ∷ []) ts ≡ AndAction (actions_behind xs ts) (action_of x)
actions_push [] x ts = refl
actions_push (y ∷ xs) x ts = actions_push xs x (AndAction ts (action_of y))

-- one more
pub nodes_more : (xs : List declared.Node) (i : ℕ) (x : declared.Node) → i < length xs → x ≡ get_or xs i x
    → nodes_of (take (i + 1) xs) ≡ AndNode (nodes_of (take i xs)) (node_of x)
nodes_more xs i x lt is =
    ap nodes_of (take_more xs i x lt) ∙ nodes_push (take i xs) (get_or xs i x) NoNode
    ∙ ap (λ y. AndNode (nodes_of (take i xs)) (node_of y)) (sym is)

pub actions_more : (xs : List declared_action.Action) (i : ℕ) (x : declared_action.Action) → i < length xs
    → x ≡ get_or xs i x
    → actions_of (take (i + 1) xs) ≡ AndAction (actions_of (take i xs)) (action_of x)
actions_more xs i x lt is =
    ap actions_of (take_more xs i x lt) ∙ actions_push (take i xs) (get_or xs i x) NoAction
    ∙ ap (λ y. AndAction (actions_of (take i xs)) (action_of y)) (sym is)

count_behind : (xs : List declared.Node) (ts : Nodes)
    → argument_count (nodes_behind xs ts) ≡ length xs + argument_count ts
count_behind [] ts = omega arith
count_behind (x ∷ xs) ts = omega (arith, count_behind xs (AndNode ts (node_of x)))

pub argument_count-nodes_of : (xs : List declared.Node) → argument_count (nodes_of xs) ≡ length xs
argument_count-nodes_of xs = omega (arith, count_behind xs NoNode)
