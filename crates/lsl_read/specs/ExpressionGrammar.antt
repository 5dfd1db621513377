-- The grammar of expressions. Each rule is a language; the one with fewer constructs around it is a parameter.
use Rattle.std.specs.Prelude.{ℕ, zero, suc, Bool, true, false, nat_lt, Option, None, Some, List, [], ◌∷◌}
use Rattle.lsl_lex.specs.declared.token_types.Token.{Token}
use Rattle.lsl_tree.specs.Expressions as tree
use Rattle.lsl_tree.specs.Expressions.{Expr, Exprs, NoExpr, AndExpr, height}
use Rattle.lsl_grammar.specs.Language.{Lang, ret, one_of, ◌>>=◌, ◌∣◌, never, rounds}
use Rattle.lsl_lex.specs.declared.token_types.Sort.{Sort}
use Rattle.lsl_lex.specs.declared.token_types.Sort.TheVariants.{ParenOpen, ParenClose, BracketOpen, BracketClose, Comma}
use Rattle.lsl_signs.specs.Kinds.{Name, Int, Str, codes, token_code, types, type_of, name_of, text_of, integer_of}
use Rattle.lsl_signs.specs.Operators.{prefix_signs, prefix_of, step_signs, step_of, assign_signs, assign_of, levels, signs, operator_of}

abbrev pub Language : Type 0 → Type 1
Language T = Lang Token T

-- one token of these kinds
abbrev pub any : List Sort → Language Token
any ks = one_of token_code (codes ks)

-- one token of this kind
abbrev pub sign : Sort → Language Token
sign k = any (k ∷ [])

-- element { ',' element }
abbrev pub series : {A B : Type 0} → (A → B → A) → A → Language B → Language A
series add none element = do
  first ← element
  rounds (λ before. do
    comma ← sign Comma
    next ← element
    ret (add before next)) (add none first)

-- [ element { ',' element } ] and the closing sign
abbrev pub listing : {A B : Type 0} → Sort → (A → B → A) → A → Language B → Language A
listing close add none element =
    (do
      end ← sign close
      ret none)
    ∣ (do
      all ← series add none element
      end ← sign close
      ret all)

-- [ exprs ] and the closing sign
abbrev pub expressions : Sort → Language Expr → Language Exprs
expressions close expr = listing close AndExpr NoExpr expr

-- the content of a construct that is opened here: expressions and operands, or nothing if no construct may be opened
pub data Room : Type 1 where
  Full : Room
  Inside : (expr unary : Language Expr) → Room

abbrev pub construct : {T : Type 0} → Room → (Language Expr → Language Expr → Language T) → Language T
construct Full rule = never
construct (Inside expr unary) rule = rule expr unary

-- ( '-' | '!' | '~' ) unary
abbrev pub prefix : Room → Language Expr
prefix room = construct room (λ expr unary. do
  op ← any prefix_signs
  operand ← unary
  ret (tree.Unary (prefix_of op.sort) op.span operand))

-- ( '++' | '--' ) NAME
abbrev pub step_before : Room → Language Expr
step_before room = construct room (λ expr unary. do
  op ← any step_signs
  name ← sign Name
  ret (tree.StepBefore (step_of op.sort) op.span (name_of name)))

-- '(' TYPE ')' unary, and '(' expr ')'
abbrev pub group : Room → Language Expr
group room = construct room (λ expr unary. do
  start ← sign ParenOpen
  (do
    kind ← any types
    end ← sign ParenClose
    operand ← unary
    ret (tree.Cast start.span (type_of kind.sort) operand))
      ∣ (do
        inner ← expr
        end ← sign ParenClose
        ret (tree.Parens start.span inner)))

-- '[' [ exprs ] ']'
abbrev pub list : Room → Language Expr
list room = construct room (λ expr unary. do
  start ← sign BracketOpen
  all ← expressions BracketClose expr
  ret (tree.ListLiteral start.span all))

-- STRING
abbrev pub string : Language Expr
string = do
  t ← sign Str
  ret (tree.Str (text_of t.sort) t.span)

-- INT
abbrev pub integer : Language Expr
integer = do
  n ← sign Int
  ret (tree.Int (integer_of n.sort) n.span)

-- '(' [ exprs ] ')' after a name
abbrev pub arguments : Room → Language Exprs
arguments room = construct room (λ expr unary. do
  start ← sign ParenOpen
  expressions ParenClose expr)

-- NAME [ '++' | '--' | '(' [ exprs ] ')' ]
abbrev pub named : Room → Language Expr
named room = do
  name ← sign Name
  (do
    op ← any step_signs
    ret (tree.StepBehind (name_of name) (step_of op.sort)))
      ∣ (do
        all ← arguments room
        ret (tree.Call (name_of name) all))
      ∣ ret (tree.Variable (name_of name))

abbrev pub unary_rule : Room → Language Expr
unary_rule room = prefix room ∣ step_before room ∣ group room ∣ list room ∣ string ∣ named room ∣ integer

-- an operand of this height may be to the left of an operator, with heights below the limit, if there is one
abbrev pub fits : Option ℕ → Expr → Bool
fits None left = true
fits (Some limit) left = nat_lt (height left) limit

abbrev pub gate : {T : Type 0} → Bool → Language T → Language T
gate true rule = rule
gate false rule = never

-- a sign of the level and an operand of the tighter one
abbrev pub operation : Language Expr → List Sort → Expr → Language Expr
operation operand ks left = do
  op ← any ks
  right ← operand
  ret (tree.Binary (operator_of op.sort) op.span left right)

-- a level is operands of the tighter level, with its signs between them
abbrev pub level : Option ℕ → Language Expr → ℕ → Language Expr
level limit unary zero = unary
level limit unary (suc n) = do
  first ← level limit unary n
  rounds (λ left. gate (fits limit left) (operation (level limit unary n) (signs n) left)) first

-- NAME ( '=' | '+=' | '-=' | '*=' | '/=' | '%=' ) expr
abbrev pub assignment : Room → Language Expr
assignment room = do
  name ← sign Name
  construct room (λ expr unary. do
    op ← any assign_signs
    value ← expr
    ret (tree.Assign (name_of name) (assign_of op.sort) op.span value))

abbrev pub expr_rule : Option ℕ → Room → Language Expr
expr_rule limit room = assignment room ∣ level limit (unary_rule room) levels

-- the content of at most n more constructs
abbrev pub room_of : Option ℕ → ℕ → Room
room_of limit zero = Full
room_of limit (suc d) = Inside (expr_rule limit (room_of limit d)) (unary_rule (room_of limit d))

-- an expression, with constructs nested at most this deep, and heights below the limit
unfoldable pub expr : Option ℕ → ℕ → Language Expr
expr limit d = expr_rule limit (room_of limit d)
