-- Syntax trees that hold vectors, by the vectors' items.
use Rattle.std.proofs.Common.{◌≡◌, List, [], ◌∷◌, ◌++◌, refl, ap, ◌∙◌, Vec, Global}
use mathlib.Core.Former.{Count}
use Rattle.lsl_text.specs.declared.Span.{Span}
use Rattle.lsl_tree.specs.declared.expression.Name.{Name}
use Rattle.lsl_tree.specs.declared.expression.Expr as declared
use Rattle.lsl_tree.specs.declared.expression.Expr.TheVariants as variant
use Rattle.lsl_tree.specs.declared.statement.Item as declared_item
use Rattle.lsl_tree.specs.declared.statement.Stmt as declared_stmt
use Rattle.lsl_tree.specs.declared.statement.Stmt.TheVariants as stmt_variant
use Rattle.lsl_tree.specs.Expressions.{Exprs, Call, ListLiteral, NoExpr, AndExpr, expr_of, exprs_of, exprs_behind, row_exprs}
use Rattle.lsl_tree.specs.Statements.{Items, Block, NoItem, AndItem, stmt_of, item_of, items_of, items_behind, row_items}

row_exprs-row : (n : _) (row : declared.Row_of-Expr n) (es : Exprs)
    → row_exprs row es ≡ exprs_behind (declared.items-the_row-Expr n row) es
row_exprs-row n declared.end_of-Expr es = refl
row_exprs-row n (declared.more_of-Expr e rest) es = row_exprs-row _ rest (AndExpr es (expr_of e))

abbrev row_of : declared.Expr → (n : Count) × declared.Row_of-Expr n
row_of (declared.List' s _ row) = (_, row)
row_of (declared.Call' n _ row) = (_, row)
row_of _ = (_, declared.end_of-Expr)

pub expr_of-List : (s : Span) (v : Vec declared.Expr Global)
    → expr_of (variant.List s v) ≡ ListLiteral s (exprs_of v.items)
expr_of-List s v =
    let row = row_of (variant.List s v) in
    ap (ListLiteral s) (row_exprs-row row.0 row.1 NoExpr
    ∙ ap (λ l. exprs_behind l NoExpr) (declared.items_hidden-the_row-Expr-0 v))

pub expr_of-Call : (n : Name) (v : Vec declared.Expr Global) → expr_of (variant.Call n v) ≡ Call n (exprs_of v.items)
expr_of-Call n v =
    let row = row_of (variant.Call n v) in
    ap (Call n) (row_exprs-row row.0 row.1 NoExpr
    ∙ ap (λ l. exprs_behind l NoExpr) (declared.items_hidden-the_row-Expr-0 v))

exprs_behind-append : (xs : List declared.Expr) (x : declared.Expr) (es : Exprs)
    → exprs_behind (xs ++ x ∷ []) es ≡ AndExpr (exprs_behind xs es) (expr_of x)
exprs_behind-append [] x es = refl
exprs_behind-append (y ∷ xs) x es = exprs_behind-append xs x (AndExpr es (expr_of y))

pub exprs_of-push : (all xs : List declared.Expr) (x : declared.Expr)
    → all ≡ xs ++ x ∷ [] → exprs_of all ≡ AndExpr (exprs_of xs) (expr_of x)
exprs_of-push all xs x e = ap exprs_of e ∙ exprs_behind-append xs x NoExpr

row_items-row : (n : _) (row : declared_stmt.Row_of-Item n) (es : Items)
    → row_items row es ≡ items_behind (declared_stmt.items-the_row-Item n row) es
row_items-row n declared_stmt.end_of-Item es = refl
row_items-row n (declared_stmt.more_of-Item e rest) es = row_items-row _ rest (AndItem es (item_of e))

abbrev item_row_of : declared_stmt.Stmt → (n : Count) × declared_stmt.Row_of-Item n
item_row_of (declared_stmt.Block' _ row) = (_, row)
item_row_of _ = (_, declared_stmt.end_of-Item)

pub stmt_of-Block : (v : Vec declared_item.Item Global) → stmt_of (stmt_variant.Block v) ≡ Block (items_of v.items)
stmt_of-Block v =
    let row = item_row_of (stmt_variant.Block v) in
    ap Block (row_items-row row.0 row.1 NoItem
    ∙ ap (λ l. items_behind l NoItem) (declared_stmt.items_hidden-the_row-Item-0 v))

items_behind-append : (xs : List declared_item.Item) (x : declared_item.Item) (es : Items)
    → items_behind (xs ++ x ∷ []) es ≡ AndItem (items_behind xs es) (item_of x)
items_behind-append [] x es = refl
items_behind-append (y ∷ xs) x es = items_behind-append xs x (AndItem es (item_of y))

pub items_of-push : (all xs : List declared_item.Item) (x : declared_item.Item)
    → all ≡ xs ++ x ∷ [] → items_of all ≡ AndItem (items_of xs) (item_of x)
items_of-push all xs x e = ap items_of e ∙ items_behind-append xs x NoItem
