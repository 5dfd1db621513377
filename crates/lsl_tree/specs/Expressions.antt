-- Expressions without where they lie in memory, and their height.
use Rattle.std.specs.Prelude.{ℕ, ◌+◌, ℤ, max, List, [], ◌∷◌}
use Rattle.lsl_text.specs.declared.Span.{Span}
use Rattle.lsl_value.specs.declared.operators.UnaryOp.{UnaryOp}
use Rattle.lsl_value.specs.declared.operators.BinaryOp.{BinaryOp}
use Rattle.lsl_value.specs.declared.tagged.Kind.{Kind}
use Rattle.lsl_tree.specs.declared.expression.Name.{Name}
use Rattle.lsl_tree.specs.declared.expression.StepOp.{StepOp}
use Rattle.lsl_tree.specs.declared.expression.AssignOp.{AssignOp}
use Rattle.lsl_tree.specs.declared.expression.Expr as declared
use Rattle.lsl_tree.specs.declared.expression.Expr.TheVariants as variant

mutual
  pub data Expr : Type 0 where
    Int : ℤ → Span → Expr
    Str : List ℕ → Span → Expr
    Variable : Name → Expr
    StepBehind : Name → StepOp → Expr
    StepBefore : StepOp → Span → Name → Expr
    Call : Name → Exprs → Expr
    ListLiteral : Span → Exprs → Expr
    Parens : Span → Expr → Expr
    Cast : Span → Kind → Expr → Expr
    Unary : UnaryOp → Span → Expr → Expr
    Binary : BinaryOp → Span → Expr → Expr → Expr
    Assign : Name → AssignOp → Span → Expr → Expr

  -- from the last to the first
  pub data Exprs : Type 0 where
    NoExpr : Exprs
    AndExpr : Exprs → Expr → Exprs

abbrev mutual
  pub expr_of : declared.Expr → Expr
  expr_of (variant.Int n s) = Int n s
  expr_of (variant.Str t s) = Str t s
  expr_of (variant.Variable n) = Variable n
  expr_of (variant.StepBehind n o) = StepBehind n o
  expr_of (variant.StepBefore o s n) = StepBefore o s n
  expr_of (declared.Call' n m row) = Call n (row_exprs row NoExpr)
  expr_of (declared.List' s m row) = ListLiteral s (row_exprs row NoExpr)
  expr_of (declared.Parens' s p e) = Parens s (expr_of e)
  expr_of (declared.Cast' s k p e) = Cast s k (expr_of e)
  expr_of (declared.Unary' o s p e) = Unary o s (expr_of e)
  expr_of (declared.Binary' o s p a q b) = Binary o s (expr_of a) (expr_of b)
  expr_of (declared.Assign' n o s p e) = Assign n o s (expr_of e)

  -- these after others
  pub row_exprs : {m : _} → declared.Row_of-Expr m → Exprs → Exprs
  row_exprs declared.end_of-Expr es = es
  row_exprs (declared.more_of-Expr e rest) es = row_exprs rest (AndExpr es (expr_of e))

abbrev pub exprs_behind : List declared.Expr → Exprs → Exprs
exprs_behind [] es = es
exprs_behind (x ∷ xs) es = exprs_behind xs (AndExpr es (expr_of x))

abbrev pub exprs_of : List declared.Expr → Exprs
exprs_of xs = exprs_behind xs NoExpr

-- a literal or a variable has height 1, and any other node one more than its highest part, or 1 where it has none;
-- parentheses aren't a node
abbrev mutual
  pub height : Expr → ℕ
  height (Int n s) = 1
  height (Str t s) = 1
  height (Variable n) = 1
  height (StepBehind n o) = 2
  height (StepBefore o s n) = 2
  height (Call n es) = 1 + highest es
  height (ListLiteral s es) = 1 + highest es
  height (Parens s e) = height e
  height (Cast s k e) = 1 + height e
  height (Unary o s e) = 1 + height e
  height (Binary o s a b) = 1 + max (height a) (height b)
  height (Assign n o s e) = 1 + max 1 (height e)

  pub highest : Exprs → ℕ
  highest NoExpr = 0
  highest (AndExpr es e) = max (highest es) (height e)
