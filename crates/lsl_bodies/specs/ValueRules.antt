-- The meaning of expressions, and their first faults.
use Rattle.std.specs.Prelude.{◌≡◌, Some, None, true, List, [], ◌∷◌, ◌++◌}
use Rattle.lsl_text.specs.declared.Span.{Span}
use Rattle.lsl_value.specs.declared.operators.UnaryOp.{UnaryOp}
use Rattle.lsl_value.specs.declared.operators.BinaryOp.{BinaryOp}
use Rattle.lsl_value.specs.declared.tagged.Kind.{Kind}
use Rattle.lsl_value.specs.declared.tagged.Kind.TheVariants.{List as ListKind}
use Rattle.lsl_value.specs.OperatorRows.{result_kind_of, casts_of}
use Rattle.lsl_tree.specs.Expressions as expr
use Rattle.lsl_tree.specs.Expressions.{Expr, Exprs, NoExpr, AndExpr}
use Rattle.lsl_tree.specs.Nodes as node
use Rattle.lsl_tree.specs.Nodes.{Node, Nodes, NoNode, AndNode, node_kind_of}
use Rattle.lsl_tree.specs.Effects.{Effect, Value}
use Rattle.lsl_bodies.specs.declared.faults.TypeKind.TheVariants.{WrongKind, NoOperator, NoCast}
use Rattle.lsl_bodies.specs.Scope.{ScopeView}
use Rattle.lsl_bodies.specs.Known.{KnownView}
use Rattle.lsl_bodies.specs.Conversions.{is_int, is_no_list}
use Rattle.lsl_bodies.specs.Spans.{first_span}
use Rattle.lsl_bodies.specs.Judgement.{at, Judgement, gives, ◌>>=◌, must, entry}
use Rattle.lsl_bodies.specs.VariableRules.{target, stored, read, step_behind, step_before}
use Rattle.lsl_bodies.specs.CallRules.{callable, call_value, call_effect}

-- no element of a list is a list
abbrev pub flat : Exprs → Nodes → Judgement (Unit {0})
flat NoExpr ts = gives tt
flat (AndExpr es e) NoNode = gives tt
flat (AndExpr es e) (AndNode ts t) = do
  before ← flat es ts
  must (is_no_list (node_kind_of t) ≡ true) (at (WrongKind None (Some ListKind)) (first_span e))

abbrev pub converted : Span → Kind → Node → Judgement Node
converted span kind t = do
  row ← must (casts_of (node_kind_of t) kind ≡ true) (at NoCast span)
  gives (node.Cast kind t)

abbrev pub check_unary : UnaryOp → Span → Node → Judgement Node
check_unary op span t = do
  row ← must (is_int (node_kind_of t) ≡ true) (at NoOperator span)
  gives (node.Unary op t)

abbrev pub check_binary : BinaryOp → Span → Node → Node → Judgement Node
check_binary op span left right = do
  kind ← entry (result_kind_of op (node_kind_of left) (node_kind_of right)) (at NoOperator span)
  gives (node.Binary op kind left right)

abbrev pub check_list : Exprs → Nodes → Judgement Node
check_list es ts = do
  elements ← flat es ts
  gives (node.ListLiteral ts)

abbrev mutual
  -- an expression that must have a value
  pub value : KnownView → ScopeView → Expr → Judgement Node
  value known s (expr.Int n span) = gives (node.Int n)
  value known s (expr.Str text span) = gives (node.Str text)
  value known s (expr.Variable x) = read s x
  value known s (expr.StepBehind x op) = step_behind s x op
  value known s (expr.StepBefore op span x) = step_before s x op
  value known s (expr.Call x es) = do
    ts ← values known s es
    c ← callable known x
    call_value c x es ts
  value known s (expr.ListLiteral span es) = do
    ts ← values known s es
    check_list es ts
  value known s (expr.Parens span e) = value known s e
  value known s (expr.Cast span kind e) = do
    t ← value known s e
    converted span kind t
  value known s (expr.Unary op span e) = do
    t ← value known s e
    check_unary op span t
  value known s (expr.Binary op span a b) = do
    left ← value known s a
    right ← value known s b
    check_binary op span left right
  value known s (expr.Assign x op span e) = do
    t ← target s x
    right ← value known s e
    stored t x op span right (first_span e)

  pub values : KnownView → ScopeView → Exprs → Judgement Nodes
  values known s NoExpr = gives NoNode
  values known s (AndExpr es e) = do
    before ← values known s es
    last ← value known s e
    gives (AndNode before last)

-- an expression used as a statement: it need not have a value
abbrev pub effect : KnownView → ScopeView → Expr → Judgement Effect
effect known s (expr.Parens span e) = effect known s e
effect known s (expr.Call x es) = do
  ts ← values known s es
  c ← callable known x
  call_effect c x es ts
effect known s e = do
  t ← value known s e
  gives (Value t)

abbrev pub effects : KnownView → ScopeView → Exprs → Judgement (List Effect)
effects known s NoExpr = gives []
effects known s (AndExpr es e) = do
  before ← effects known s es
  last ← effect known s e
  gives (before ++ last ∷ [])
