-- The meaning of expressions, and their first faults, as functions.
use Rattle.std.specs.Prelude.{Some, None, List, [], ◌∷◌, ◌++◌}
use Rattle.lsl_text.specs.declared.Span.{Span}
use Rattle.lsl_value.specs.declared.operators.UnaryOp.{UnaryOp}
use Rattle.lsl_value.specs.declared.operators.BinaryOp.{BinaryOp}
use Rattle.lsl_value.specs.declared.tagged.Kind.{Kind}
use Rattle.lsl_value.specs.declared.tagged.Kind.TheVariants.{List as ListKind}
use Rattle.lsl_value.specs.OperatorRows.{result_kind_of, casts_of}
use Rattle.lsl_tree.specs.Expressions as expr
use Rattle.lsl_tree.specs.Expressions.{Expr, Exprs, NoExpr, AndExpr}
use Rattle.lsl_tree.specs.Nodes as node
use Rattle.lsl_tree.specs.Nodes.{Node, Nodes, NoNode, AndNode, node_kind_of}
use Rattle.lsl_tree.specs.Effects as effect
use Rattle.lsl_tree.specs.Effects.{Effect}
use Rattle.lsl_bodies.specs.declared.faults.TypeKind.TheVariants.{WrongKind, NoOperator, NoCast}
use Rattle.lsl_bodies.specs.Scope.{ScopeView}
use Rattle.lsl_bodies.specs.Known.{KnownView}
use Rattle.lsl_bodies.specs.Conversions.{is_int, is_no_list}
use Rattle.lsl_bodies.specs.Spans.{first_span}
use Rattle.lsl_bodies.specs.Judgement.{at}
use Rattle.std.specs.Prelude.{Ok}
use Rattle.lsl_bodies.specs.Verdict.{Verdict, ◌>>=◌, the_one_verdict, must_verdict}
use Rattle.lsl_bodies.specs.VariableVerdicts.{target_verdict, stored_verdict, read_verdict, step_behind_verdict}
use Rattle.lsl_bodies.specs.VariableVerdicts.{step_before_verdict}
use Rattle.lsl_bodies.specs.CallVerdicts.{callable_verdict, call_value_verdict, call_effect_verdict}

abbrev pub flat_verdict : Exprs → Nodes → Verdict (Unit {0})
flat_verdict NoExpr ts = Ok tt
flat_verdict (AndExpr es e) NoNode = Ok tt
flat_verdict (AndExpr es e) (AndNode ts t) = do
  before ← flat_verdict es ts
  must_verdict (is_no_list (node_kind_of t)) (at (WrongKind None (Some ListKind)) (first_span e))

abbrev pub converted_verdict : Span → Kind → Node → Verdict Node
converted_verdict span kind t = do
  row ← must_verdict (casts_of (node_kind_of t) kind) (at NoCast span)
  Ok (node.Cast kind t)

abbrev pub prefixed_verdict : UnaryOp → Span → Node → Verdict Node
prefixed_verdict op span t = do
  row ← must_verdict (is_int (node_kind_of t)) (at NoOperator span)
  Ok (node.Unary op t)

abbrev pub joined_verdict : BinaryOp → Span → Node → Node → Verdict Node
joined_verdict op span left right = do
  kind ← the_one_verdict (result_kind_of op (node_kind_of left) (node_kind_of right)) (at NoOperator span)
  Ok (node.Binary op kind left right)

abbrev pub listed_verdict : Exprs → Nodes → Verdict Node
listed_verdict es ts = do
  elements ← flat_verdict es ts
  Ok (node.ListLiteral ts)

abbrev mutual
  pub value_verdict : KnownView → ScopeView → Expr → Verdict Node
  value_verdict known s (expr.Int n span) = Ok (node.Int n)
  value_verdict known s (expr.Str text span) = Ok (node.Str text)
  value_verdict known s (expr.Variable x) = read_verdict s x
  value_verdict known s (expr.StepBehind x op) = step_behind_verdict s x op
  value_verdict known s (expr.StepBefore op span x) = step_before_verdict s x op
  value_verdict known s (expr.Call x es) = do
    ts ← values_verdict known s es
    c ← callable_verdict known x
    call_value_verdict c x es ts
  value_verdict known s (expr.ListLiteral span es) = do
    ts ← values_verdict known s es
    listed_verdict es ts
  value_verdict known s (expr.Parens span e) = value_verdict known s e
  value_verdict known s (expr.Cast span kind e) = do
    t ← value_verdict known s e
    converted_verdict span kind t
  value_verdict known s (expr.Unary op span e) = do
    t ← value_verdict known s e
    prefixed_verdict op span t
  value_verdict known s (expr.Binary op span a b) = do
    left ← value_verdict known s a
    right ← value_verdict known s b
    joined_verdict op span left right
  value_verdict known s (expr.Assign x op span e) = do
    t ← target_verdict s x
    right ← value_verdict known s e
    stored_verdict t x op span right (first_span e)

  pub values_verdict : KnownView → ScopeView → Exprs → Verdict Nodes
  values_verdict known s NoExpr = Ok NoNode
  values_verdict known s (AndExpr es e) = do
    before ← values_verdict known s es
    last ← value_verdict known s e
    Ok (AndNode before last)

abbrev pub effect_verdict : KnownView → ScopeView → Expr → Verdict Effect
effect_verdict known s (expr.Parens span e) = effect_verdict known s e
effect_verdict known s (expr.Call x es) = do
  ts ← values_verdict known s es
  c ← callable_verdict known x
  call_effect_verdict c x es ts
effect_verdict known s e = do
  t ← value_verdict known s e
  Ok (effect.Value t)

abbrev pub effects_verdict : KnownView → ScopeView → Exprs → Verdict (List Effect)
effects_verdict known s NoExpr = Ok []
effects_verdict known s (AndExpr es e) = do
  before ← effects_verdict known s es
  last ← effect_verdict known s e
  Ok (before ++ last ∷ [])
