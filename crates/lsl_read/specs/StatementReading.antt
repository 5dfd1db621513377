-- Reading statements and blocks by the next token, one reader for each rule of the grammar.
use Rattle.std.specs.Prelude.{ℕ, zero, suc, Option, None, Some, List, [], ◌∷◌}
use Rattle.lsl_text.specs.declared.Span.{Span}
use Rattle.lsl_tree.specs.declared.statement.StateName.TheVariants as state
use Rattle.lsl_tree.specs.declared.statement.StateName.{StateName}
use Rattle.lsl_tree.specs.Expressions.{Expr}
use Rattle.lsl_tree.specs.Statements as tree
use Rattle.lsl_tree.specs.Statements.{Stmt, Item, Items, NoItem, AndItem}
use Rattle.lsl_grammar.specs.declared.Why.{Why}
use Rattle.lsl_grammar.specs.declared.Why.TheVariants.{Unexpected, OperandDue}
use Rattle.lsl_grammar.specs.Reading.{ret_r, deep_r, rounds_r}
use Rattle.lsl_lex.specs.declared.token_types.Sort.{Sort}
use Rattle.lsl_lex.specs.declared.token_types.Sort.TheVariants.{DefaultWord, StateWord, IfWord, ElseWord, ForWord, DoWord, WhileWord, JumpWord, ReturnWord, PlusPlus, MinusMinus, Assign, Minus, Bang, Tilde, ParenOpen, ParenClose, BracketOpen, BraceOpen, BraceClose, Semicolon, At}
use Rattle.lsl_signs.specs.Kinds.{Name, Int, Str, codes, token_code, not_end, types, type_of, name_of}
use Rattle.lsl_read.specs.ExpressionReading.{TokenReader, ◌>>=◌, any_r, sign_r, where_r, expressions_r, expr_r}

-- the first tokens of a statement
abbrev pub statement_heads : List Sort
statement_heads = BraceOpen ∷ IfWord ∷ WhileWord ∷ DoWord ∷ ForWord ∷ JumpWord ∷ ReturnWord ∷ StateWord
    ∷ Semicolon ∷ Minus ∷ Bang ∷ Tilde ∷ PlusPlus ∷ MinusMinus ∷ ParenOpen ∷ BracketOpen ∷ Str ∷ Name ∷ Int ∷ []

pub data StmtRoom_r : Type 0 where
  Shut_r : StmtRoom_r
  Holds_r : (item : TokenReader Item) → (statement : TokenReader Stmt) → StmtRoom_r

abbrev pub enclosed_r : {T : Type 0} → Why → List Sort → StmtRoom_r
    → (TokenReader Item → TokenReader Stmt → TokenReader T) → TokenReader T
enclosed_r why ks Shut_r rule = deep_r token_code why (codes ks)
enclosed_r why ks (Holds_r item statement) rule = rule item statement

abbrev pub next_item_r : TokenReader Item → Items → TokenReader Items
next_item_r item before = do
  next ← item
  ret_r (AndItem before next)

abbrev pub items_r : TokenReader Item → TokenReader Items
items_r item = rounds_r token_code not_end (next_item_r item) NoItem

abbrev pub block_r : StmtRoom_r → TokenReader Items
block_r room = enclosed_r Unexpected (BraceOpen ∷ []) room (λ item statement. do
  start ← sign_r BraceOpen
  all ← items_r item
  end ← sign_r BraceClose
  ret_r all)

abbrev pub body_r : StmtRoom_r → TokenReader Stmt
body_r room = enclosed_r OperandDue statement_heads room (λ item statement. statement)

abbrev pub braces_r : StmtRoom_r → TokenReader Stmt
braces_r room = do
  all ← block_r room
  ret_r (tree.Block all)

abbrev pub else_r : StmtRoom_r → Span → Expr → Stmt → TokenReader Stmt
else_r room start test first = where_r (ElseWord ∷ [])
    (do
      other ← sign_r ElseWord
      second ← body_r room
      ret_r (tree.IfElse start test first second))
    (ret_r (tree.If start test first))

abbrev pub if_r : TokenReader Expr → StmtRoom_r → TokenReader Stmt
if_r expr room = do
  start ← sign_r IfWord
  left ← sign_r ParenOpen
  test ← expr
  right ← sign_r ParenClose
  first ← body_r room
  else_r room start.span test first

abbrev pub while_rule_r : TokenReader Expr → StmtRoom_r → TokenReader Stmt
while_rule_r expr room = do
  start ← sign_r WhileWord
  left ← sign_r ParenOpen
  test ← expr
  right ← sign_r ParenClose
  inner ← body_r room
  ret_r (tree.While start.span test inner)

abbrev pub do_r : TokenReader Expr → StmtRoom_r → TokenReader Stmt
do_r expr room = do
  start ← sign_r DoWord
  inner ← body_r room
  word ← sign_r WhileWord
  left ← sign_r ParenOpen
  test ← expr
  right ← sign_r ParenClose
  end ← sign_r Semicolon
  ret_r (tree.Do start.span inner test)

abbrev pub for_r : TokenReader Expr → StmtRoom_r → TokenReader Stmt
for_r expr room = do
  start ← sign_r ForWord
  left ← sign_r ParenOpen
  before ← expressions_r Semicolon expr
  test ← expr
  middle ← sign_r Semicolon
  step ← expressions_r ParenClose expr
  inner ← body_r room
  ret_r (tree.For start.span before test step inner)

abbrev pub jump_r : TokenReader Stmt
jump_r = do
  start ← sign_r JumpWord
  name ← sign_r Name
  end ← sign_r Semicolon
  ret_r (tree.Jump start.span (name_of name))

abbrev pub return_r : TokenReader Expr → TokenReader Stmt
return_r expr = do
  start ← sign_r ReturnWord
  where_r (Semicolon ∷ [])
      (do
        end ← sign_r Semicolon
        ret_r (tree.Return start.span None))
      (do
        value ← expr
        end ← sign_r Semicolon
        ret_r (tree.Return start.span (Some value)))

abbrev pub state_name_r : TokenReader StateName
state_name_r = where_r (Name ∷ [])
    (do
      name ← sign_r Name
      ret_r (state.Named (name_of name)))
    (do
      word ← sign_r DefaultWord
      ret_r state.Default)

abbrev pub state_rule_r : TokenReader Stmt
state_rule_r = do
  start ← sign_r StateWord
  name ← state_name_r
  end ← sign_r Semicolon
  ret_r (tree.State start.span name)

abbrev pub simple_r : TokenReader Expr → TokenReader Stmt
simple_r expr = where_r (Semicolon ∷ [])
    (do
      end ← sign_r Semicolon
      ret_r tree.Empty)
    (do
      value ← expr
      end ← sign_r Semicolon
      ret_r (tree.Expression value))

abbrev pub statement_rule_r : TokenReader Expr → StmtRoom_r → TokenReader Stmt
statement_rule_r expr room =
    where_r (BraceOpen ∷ []) (braces_r room)
    (where_r (IfWord ∷ []) (if_r expr room)
    (where_r (WhileWord ∷ []) (while_rule_r expr room)
    (where_r (DoWord ∷ []) (do_r expr room)
    (where_r (ForWord ∷ []) (for_r expr room)
    (where_r (JumpWord ∷ []) jump_r
    (where_r (ReturnWord ∷ []) (return_r expr)
    (where_r (StateWord ∷ []) state_rule_r (simple_r expr))))))))

abbrev pub declaration_r : TokenReader Expr → TokenReader Item
declaration_r expr = do
  kind ← any_r types
  name ← sign_r Name
  where_r (Assign ∷ [])
      (do
        equals ← sign_r Assign
        value ← expr
        end ← sign_r Semicolon
        ret_r (tree.Declaration (type_of kind.sort) (name_of name) (Some value)))
      (do
        end ← sign_r Semicolon
        ret_r (tree.Declaration (type_of kind.sort) (name_of name) None))

abbrev pub label_r : TokenReader Item
label_r = do
  start ← sign_r At
  name ← sign_r Name
  end ← sign_r Semicolon
  ret_r (tree.Label (name_of name))

abbrev pub statement_item_r : TokenReader Stmt → TokenReader Item
statement_item_r statement = do
  action ← statement
  ret_r (tree.Statement action)

abbrev pub item_rule_r : TokenReader Expr → TokenReader Stmt → TokenReader Item
item_rule_r expr statement = where_r types (declaration_r expr) (where_r (At ∷ []) label_r (statement_item_r statement))

abbrev pub stmt_room_r : Option ℕ → ℕ → StmtRoom_r
stmt_room_r limit zero = Shut_r
stmt_room_r limit (suc d) = Holds_r (item_rule_r (expr_r limit d)
    (statement_rule_r (expr_r limit d) (stmt_room_r limit d)))
    (statement_rule_r (expr_r limit d) (stmt_room_r limit d))

unfoldable pub statement_r : Option ℕ → ℕ → TokenReader Stmt
statement_r limit d = statement_rule_r (expr_r limit d) (stmt_room_r limit d)

unfoldable pub item_r : Option ℕ → ℕ → TokenReader Item
item_r limit d = item_rule_r (expr_r limit d) (statement_rule_r (expr_r limit d) (stmt_room_r limit d))
