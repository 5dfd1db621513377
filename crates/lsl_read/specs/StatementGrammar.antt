-- The grammar of statements and blocks. Each rule is a language; the one with fewer constructs around it is a
-- parameter.
use Rattle.std.specs.Prelude.{ℕ, zero, suc, Bool, true, false, Option, None, Some}
use Rattle.lsl_text.specs.declared.Span.{Span}
use Rattle.lsl_tree.specs.declared.statement.StateName.TheVariants as state
use Rattle.lsl_tree.specs.declared.statement.StateName.{StateName}
use Rattle.lsl_tree.specs.Expressions.{Expr}
use Rattle.lsl_tree.specs.Statements as tree
use Rattle.lsl_tree.specs.Statements.{Stmt, Item, Items, NoItem, AndItem, ends_open}
use Rattle.lsl_grammar.specs.Language.{ret, ◌>>=◌, ◌∣◌, never, rounds}
use Rattle.lsl_lex.specs.declared.token_types.Sort.TheVariants.{DefaultWord, StateWord, IfWord, ElseWord, ForWord, DoWord, WhileWord, JumpWord, ReturnWord, Assign, ParenOpen, ParenClose, BraceOpen, BraceClose, Semicolon, At}
use Rattle.lsl_signs.specs.Kinds.{Name, types, type_of, name_of}
use Rattle.lsl_read.specs.ExpressionGrammar.{Language, any, sign, expressions, expr}

-- the content of a construct that is opened here: the items of a block, and statements; or nothing
pub data StmtRoom : Type 1 where
  Shut : StmtRoom
  Holds : (item : Language Item) → (statement : Language Stmt) → StmtRoom

abbrev pub enclosed : {T : Type 0} → StmtRoom → (Language Item → Language Stmt → Language T) → Language T
enclosed Shut rule = never
enclosed (Holds item statement) rule = rule item statement

-- '{' { item } '}'
abbrev pub block : StmtRoom → Language Items
block room = enclosed room (λ item statement. do
  start ← sign BraceOpen
  all ← rounds (λ before. do
    next ← item
    ret (AndItem before next)) NoItem
  end ← sign BraceClose
  ret all)

-- the body of an `if`, `else`, `while`, `do` or `for`
abbrev pub body : StmtRoom → Language Stmt
body room = enclosed room (λ item statement. statement)

abbrev pub braces : StmtRoom → Language Stmt
braces room = do
  all ← block room
  ret (tree.Block all)

-- [ 'else' stmt ]: none after an `if` without one, which would be the nearest
abbrev pub else_behind : Bool → StmtRoom → Span → Expr → Stmt → Language Stmt
else_behind true room start test first = ret (tree.If start test first)
else_behind false room start test first =
    (do
      other ← sign ElseWord
      second ← body room
      ret (tree.IfElse start test first second))
    ∣ ret (tree.If start test first)

abbrev pub else_part : StmtRoom → Span → Expr → Stmt → Language Stmt
else_part room start test first = else_behind (ends_open first) room start test first

-- 'if' '(' expr ')' stmt [ 'else' stmt ]
abbrev pub if_rule : Language Expr → StmtRoom → Language Stmt
if_rule expr room = do
  start ← sign IfWord
  left ← sign ParenOpen
  test ← expr
  right ← sign ParenClose
  first ← body room
  else_part room start.span test first

-- 'while' '(' expr ')' stmt
abbrev pub while_rule : Language Expr → StmtRoom → Language Stmt
while_rule expr room = do
  start ← sign WhileWord
  left ← sign ParenOpen
  test ← expr
  right ← sign ParenClose
  inner ← body room
  ret (tree.While start.span test inner)

-- 'do' stmt 'while' '(' expr ')' ';'
abbrev pub do_rule : Language Expr → StmtRoom → Language Stmt
do_rule expr room = do
  start ← sign DoWord
  inner ← body room
  word ← sign WhileWord
  left ← sign ParenOpen
  test ← expr
  right ← sign ParenClose
  end ← sign Semicolon
  ret (tree.Do start.span inner test)

-- 'for' '(' [ exprs ] ';' expr ';' [ exprs ] ')' stmt
abbrev pub for_rule : Language Expr → StmtRoom → Language Stmt
for_rule expr room = do
  start ← sign ForWord
  left ← sign ParenOpen
  before ← expressions Semicolon expr
  test ← expr
  middle ← sign Semicolon
  step ← expressions ParenClose expr
  inner ← body room
  ret (tree.For start.span before test step inner)

-- 'jump' NAME ';'
abbrev pub jump_rule : Language Stmt
jump_rule = do
  start ← sign JumpWord
  name ← sign Name
  end ← sign Semicolon
  ret (tree.Jump start.span (name_of name))

-- 'return' [ expr ] ';'
abbrev pub return_rule : Language Expr → Language Stmt
return_rule expr = do
  start ← sign ReturnWord
  (do
    end ← sign Semicolon
    ret (tree.Return start.span None))
      ∣ (do
        value ← expr
        end ← sign Semicolon
        ret (tree.Return start.span (Some value)))

-- NAME | 'default'
abbrev pub state_name : Language StateName
state_name =
    (do
      name ← sign Name
      ret (state.Named (name_of name)))
    ∣ (do
      word ← sign DefaultWord
      ret state.Default)

-- 'state' ( NAME | 'default' ) ';'
abbrev pub state_rule : Language Stmt
state_rule = do
  start ← sign StateWord
  name ← state_name
  end ← sign Semicolon
  ret (tree.State start.span name)

-- [ expr ] ';'
abbrev pub simple : Language Expr → Language Stmt
simple expr =
    (do
      end ← sign Semicolon
      ret tree.Empty)
    ∣ (do
      value ← expr
      end ← sign Semicolon
      ret (tree.Expression value))

abbrev pub statement_rule : Language Expr → StmtRoom → Language Stmt
statement_rule expr room = braces room ∣ if_rule expr room ∣ while_rule expr room ∣ do_rule expr room ∣ for_rule
    expr room ∣ jump_rule ∣ return_rule expr ∣ state_rule ∣ simple expr

-- TYPE NAME [ '=' expr ] ';'
abbrev pub declaration : Language Expr → Language Item
declaration expr = do
  kind ← any types
  name ← sign Name
  (do
    equals ← sign Assign
    value ← expr
    end ← sign Semicolon
    ret (tree.Declaration (type_of kind.sort) (name_of name) (Some value)))
      ∣ (do
        end ← sign Semicolon
        ret (tree.Declaration (type_of kind.sort) (name_of name) None))

-- '@' NAME ';'
abbrev pub label : Language Item
label = do
  start ← sign At
  name ← sign Name
  end ← sign Semicolon
  ret (tree.Label (name_of name))

abbrev pub statement_item : Language Stmt → Language Item
statement_item statement = do
  action ← statement
  ret (tree.Statement action)

abbrev pub item_rule : Language Expr → Language Stmt → Language Item
item_rule expr statement = declaration expr ∣ label ∣ statement_item statement

-- the content of at most n more constructs
abbrev pub stmt_room_of : Option ℕ → ℕ → StmtRoom
stmt_room_of limit zero = Shut
stmt_room_of limit (suc d) = Holds (item_rule (expr limit d)
    (statement_rule (expr limit d) (stmt_room_of limit d)))
    (statement_rule (expr limit d) (stmt_room_of limit d))
