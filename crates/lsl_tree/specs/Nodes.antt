-- Checked expressions without where they lie in memory, under the names that the code has.
use Rattle.std.specs.Prelude.{ℕ, ℤ, List, [], ◌∷◌}
use Rattle.lsl_value.specs.declared.operators.UnaryOp.{UnaryOp}
use Rattle.lsl_value.specs.declared.operators.BinaryOp.{BinaryOp}
use Rattle.lsl_value.specs.declared.names.ConstantId.{ConstantId}
use Rattle.lsl_value.specs.declared.tagged.Kind.{Kind}
use Rattle.lsl_value.specs.declared.tagged.Kind.TheVariants as kind
use Rattle.lsl_tree.specs.declared.expression.StepOp.{StepOp}
use Rattle.lsl_tree.specs.declared.program_node.Place.{Place}
use Rattle.lsl_tree.specs.declared.program_node.Callee.{Callee}
use Rattle.lsl_tree.specs.declared.program_node.Node as declared
use Rattle.lsl_tree.specs.declared.program_node.Node.TheVariants as form

mutual
  pub data Node : Type 0 where
    Int : ℤ → Node
    Str : List ℕ → Node
    Constant : ConstantId → Kind → Node
    Variable : Place → Kind → Node
    Call : Callee → Kind → ℕ → Nodes → Node
    ListLiteral : Nodes → Node
    Cast : Kind → Node → Node
    Unary : UnaryOp → Node → Node
    Binary : BinaryOp → Kind → Node → Node → Node
    Assign : Place → Kind → Node → Node
    StepBehind : Place → StepOp → Node

  -- from the last to the first
  pub data Nodes : Type 0 where
    NoNode : Nodes
    AndNode : Nodes → Node → Nodes

abbrev mutual
  pub node_of : declared.Node → Node
  node_of (form.Int n) = Int n
  node_of (form.Str t) = Str t
  node_of (form.Constant i k) = Constant i k
  node_of (form.Variable p k) = Variable p k
  node_of (declared.Call' c k l m row) = Call c k l (row_nodes row NoNode)
  node_of (declared.List' m row) = ListLiteral (row_nodes row NoNode)
  node_of (declared.Cast' k p e) = Cast k (node_of e)
  node_of (declared.Unary' o p e) = Unary o (node_of e)
  node_of (declared.Binary' o k p a q b) = Binary o k (node_of a) (node_of b)
  node_of (declared.Assign' x k p e) = Assign x k (node_of e)
  node_of (form.StepBehind x o) = StepBehind x o

  -- these after others
  pub row_nodes : {m : _} → declared.Row_of-Node m → Nodes → Nodes
  row_nodes declared.end_of-Node ts = ts
  row_nodes (declared.more_of-Node t rest) ts = row_nodes rest (AndNode ts (node_of t))

abbrev pub nodes_behind : List declared.Node → Nodes → Nodes
nodes_behind [] ts = ts
nodes_behind (x ∷ xs) ts = nodes_behind xs (AndNode ts (node_of x))

abbrev pub nodes_of : List declared.Node → Nodes
nodes_of xs = nodes_behind xs NoNode

-- the kind of an expression's value
abbrev pub node_kind_of : Node → Kind
node_kind_of (Int n) = kind.Int
node_kind_of (Str t) = kind.Str
node_kind_of (Constant i k) = k
node_kind_of (Variable p k) = k
node_kind_of (Call c k l ts) = k
node_kind_of (ListLiteral ts) = kind.List
node_kind_of (Cast k t) = k
node_kind_of (Unary o t) = kind.Int
node_kind_of (Binary o k a b) = k
node_kind_of (Assign p k t) = k
node_kind_of (StepBehind p o) = kind.Int

-- the kinds of these values, the last one first, as they lie on a stack
abbrev pub stack_of : Nodes → List Kind
stack_of NoNode = []
stack_of (AndNode ts t) = node_kind_of t ∷ stack_of ts
