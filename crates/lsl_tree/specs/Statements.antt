-- Statements and the content of a block, without where they lie in memory.
use Rattle.std.specs.Prelude.{Bool, true, false, Option, None, Some, List, [], ◌∷◌}
use Rattle.lsl_text.specs.declared.Span.{Span}
use Rattle.lsl_value.specs.declared.tagged.Kind.{Kind}
use Rattle.lsl_tree.specs.declared.expression.Name.{Name}
use Rattle.lsl_tree.specs.declared.expression.Expr as declared_expr
use Rattle.lsl_tree.specs.declared.statement.StateName.{StateName}
use Rattle.lsl_tree.specs.declared.statement.Item as declared_item
use Rattle.lsl_tree.specs.declared.statement.Item.TheVariants as item
use Rattle.lsl_tree.specs.declared.statement.Stmt as declared
use Rattle.lsl_tree.specs.declared.statement.Stmt.TheVariants as variant
use Rattle.lsl_tree.specs.Expressions.{Expr, Exprs, expr_of, exprs_of}

abbrev pub value_of : Option declared_expr.Expr → Option Expr
value_of None = None
value_of (Some e) = Some (expr_of e)

mutual
  pub data Stmt : Type 0 where
    Block : Items → Stmt
    Empty : Stmt
    Expression : Expr → Stmt
    If : Span → Expr → Stmt → Stmt
    IfElse : Span → Expr → Stmt → Stmt → Stmt
    While : Span → Expr → Stmt → Stmt
    Do : Span → Stmt → Expr → Stmt
    For : Span → Exprs → Expr → Exprs → Stmt → Stmt
    Jump : Span → Name → Stmt
    Return : Span → Option Expr → Stmt
    State : Span → StateName → Stmt

  -- an item of a block
  pub data Item : Type 0 where
    Declaration : Kind → Name → Option Expr → Item
    Label : Name → Item
    Statement : Stmt → Item

  -- from the last to the first
  pub data Items : Type 0 where
    NoItem : Items
    AndItem : Items → Item → Items

abbrev mutual
  pub stmt_of : declared.Stmt → Stmt
  stmt_of (declared.Block' m row) = Block (row_items row NoItem)
  stmt_of variant.Empty = Empty
  stmt_of (variant.Expression e) = Expression (expr_of e)
  stmt_of (declared.If' s e p a) = If s (expr_of e) (stmt_of a)
  stmt_of (declared.IfElse' s e p a q b) = IfElse s (expr_of e) (stmt_of a) (stmt_of b)
  stmt_of (declared.While' s e p a) = While s (expr_of e) (stmt_of a)
  stmt_of (declared.Do' s p a e) = Do s (stmt_of a) (expr_of e)
  stmt_of (declared.For' s xs e ys p a) = For s (exprs_of xs.items) (expr_of e) (exprs_of ys.items) (stmt_of a)
  stmt_of (variant.Jump s n) = Jump s n
  stmt_of (variant.Return s v) = Return s (value_of v)
  stmt_of (variant.State s n) = State s n

  pub item_of : declared_item.Item → Item
  item_of (item.Declaration k n v) = Declaration k n (value_of v)
  item_of (item.Label n) = Label n
  item_of (item.Statement a) = Statement (stmt_of a)

  -- these after others
  pub row_items : {m : _} → declared.Row_of-Item m → Items → Items
  row_items declared.end_of-Item es = es
  row_items (declared.more_of-Item e rest) es = row_items rest (AndItem es (item_of e))

abbrev pub items_behind : List declared_item.Item → Items → Items
items_behind [] es = es
items_behind (x ∷ xs) es = items_behind xs (AndItem es (item_of x))

abbrev pub items_of : List declared_item.Item → Items
items_of xs = items_behind xs NoItem

-- an `if` without an `else` is at its end
abbrev pub ends_open : Stmt → Bool
ends_open (Block es) = false
ends_open Empty = false
ends_open (Expression e) = false
ends_open (If s e a) = true
ends_open (IfElse s e a b) = ends_open b
ends_open (While s e a) = ends_open a
ends_open (Do s a e) = false
ends_open (For s xs e ys a) = ends_open a
ends_open (Jump s n) = false
ends_open (Return s v) = false
ends_open (State s n) = false
