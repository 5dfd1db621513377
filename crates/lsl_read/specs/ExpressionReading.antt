-- Reading expressions by the next token, one reader for each rule of the grammar.
use Rattle.std.specs.Prelude.{ℕ, zero, suc, Bool, true, false, Option, List, [], ◌∷◌}
use Rattle.lsl_lex.specs.declared.token_types.Token.{Token}
use Rattle.lsl_tree.specs.Expressions as tree
use Rattle.lsl_tree.specs.Expressions.{Expr, Exprs, NoExpr, AndExpr}
use Rattle.lsl_grammar.specs.declared.Why.TheVariants.{Unexpected, OperandDue}
use Rattle.lsl_grammar.specs.Reading.{Reader, ret_r, one_r, then_r, or_r, deep_r, rounds_r, pair_r}
use Rattle.lsl_lex.specs.declared.token_types.Sort.{Sort}
use Rattle.lsl_lex.specs.declared.token_types.Sort.TheVariants.{ParenOpen, ParenClose, BracketOpen, BracketClose, Comma, Semicolon}
use Rattle.lsl_signs.specs.Kinds.{Name, Int, Str, codes, token_code, types, type_of, name_of, text_of, integer_of}
use Rattle.lsl_signs.specs.Operators.{prefix_signs, prefix_of, step_signs, step_of, assign_signs, assign_of, levels, signs, operator_of}
use Rattle.lsl_read.specs.declared.close.Close.{Close}
use Rattle.lsl_read.specs.declared.close.Close.TheVariants as closes
use Rattle.lsl_read.specs.declared.close.Close.TheVariants.{Parenthesis, Bracket}
use Rattle.lsl_read.specs.ExpressionGrammar.{fits}

abbrev pub TokenReader : Type 0 → Type 0
TokenReader T = Reader Token T

infixl 10 ◌>>=◌
abbrev pub ◌>>=◌ : {A B : Type 0} → TokenReader A → (A → TokenReader B) → TokenReader B
p >>= q = then_r p q

abbrev pub any_r : List Sort → TokenReader Token
any_r ks = one_r token_code Unexpected (codes ks)

abbrev pub sign_r : Sort → TokenReader Token
sign_r k = any_r (k ∷ [])

-- the first where the next token is of these kinds
abbrev pub where_r : {T : Type 0} → List Sort → TokenReader T → TokenReader T → TokenReader T
where_r ks p q = or_r token_code (codes ks) p q

-- rounds as long as the next token is of these kinds
abbrev pub while_r : {A : Type 0} → List Sort → (A → TokenReader A) → A → TokenReader A
while_r ks round a = rounds_r token_code (codes ks) round a

-- what would begin with these kinds is too deep
abbrev pub shut_r : {T : Type 0} → List Sort → TokenReader T
shut_r ks = deep_r token_code Unexpected (codes ks)

abbrev pub comma_r : {A B : Type 0} → (A → B → A) → TokenReader B → A → TokenReader A
comma_r add element before = do
  comma ← sign_r Comma
  next ← element
  ret_r (add before next)

abbrev pub series_r : {A B : Type 0} → (A → B → A) → A → TokenReader B → TokenReader A
series_r add none element = do
  first ← element
  while_r (Comma ∷ []) (comma_r add element) (add none first)

abbrev pub listing_r : {A B : Type 0} → Sort → (A → B → A) → A → TokenReader B → TokenReader A
listing_r close add none element = where_r (close ∷ [])
    (do
      end ← sign_r close
      ret_r none)
    (do
      all ← series_r add none element
      end ← sign_r close
      ret_r all)

abbrev pub sign_of : Close → Sort
sign_of Parenthesis = ParenClose
sign_of Bracket = BracketClose
sign_of closes.Semicolon = Semicolon

abbrev pub expressions_r : Sort → TokenReader Expr → TokenReader Exprs
expressions_r close expr = listing_r close AndExpr NoExpr expr

pub data Room_r : Type 0 where
  Full_r : Room_r
  Inside_r : (expr unary : TokenReader Expr) → Room_r

abbrev pub construct_r : {T : Type 0} → List Sort → Room_r
    → (TokenReader Expr → TokenReader Expr → TokenReader T) → TokenReader T
construct_r ks Full_r rule = shut_r ks
construct_r ks (Inside_r expr unary) rule = rule expr unary

abbrev pub prefix_r : Room_r → TokenReader Expr
prefix_r room = construct_r prefix_signs room (λ expr unary. do
  op ← any_r prefix_signs
  operand ← unary
  ret_r (tree.Unary (prefix_of op.sort) op.span operand))

abbrev pub step_before_r : Room_r → TokenReader Expr
step_before_r room = construct_r step_signs room (λ expr unary. do
  op ← any_r step_signs
  name ← sign_r Name
  ret_r (tree.StepBefore (step_of op.sort) op.span (name_of name)))

abbrev pub group_r : Room_r → TokenReader Expr
group_r room = construct_r (ParenOpen ∷ []) room (λ expr unary. do
  start ← sign_r ParenOpen
  where_r types
      (do
        kind ← any_r types
        end ← sign_r ParenClose
        operand ← unary
        ret_r (tree.Cast start.span (type_of kind.sort) operand))
      (do
        inner ← expr
        end ← sign_r ParenClose
        ret_r (tree.Parens start.span inner)))

abbrev pub list_r : Room_r → TokenReader Expr
list_r room = construct_r (BracketOpen ∷ []) room (λ expr unary. do
  start ← sign_r BracketOpen
  all ← expressions_r BracketClose expr
  ret_r (tree.ListLiteral start.span all))

abbrev pub string_r : TokenReader Expr
string_r = do
  t ← sign_r Str
  ret_r (tree.Str (text_of t.sort) t.span)

-- the last of the operands: if it isn't there either, an operand was due
abbrev pub int_r : TokenReader Token
int_r = one_r token_code OperandDue (codes (Int ∷ []))

abbrev pub integer_r : TokenReader Expr
integer_r = do
  n ← int_r
  ret_r (tree.Int (integer_of n.sort) n.span)

abbrev pub arguments_r : Room_r → TokenReader Exprs
arguments_r room = construct_r (ParenOpen ∷ []) room (λ expr unary. do
  start ← sign_r ParenOpen
  expressions_r ParenClose expr)

abbrev pub named_r : Room_r → TokenReader Expr
named_r room = do
  name ← sign_r Name
  where_r step_signs
      (do
        op ← any_r step_signs
        ret_r (tree.StepBehind (name_of name) (step_of op.sort)))
      (where_r (ParenOpen ∷ [])
      (do
        all ← arguments_r room
        ret_r (tree.Call (name_of name) all))
      (ret_r (tree.Variable (name_of name))))

abbrev pub unary_rule_r : Room_r → TokenReader Expr
unary_rule_r room =
    where_r prefix_signs (prefix_r room)
    (where_r step_signs (step_before_r room)
    (where_r (ParenOpen ∷ []) (group_r room)
    (where_r (BracketOpen ∷ []) (list_r room)
    (where_r (Str ∷ []) string_r
    (where_r (Name ∷ []) (named_r room) integer_r)))))

abbrev pub gate_r : {T : Type 0} → List Sort → Bool → TokenReader T → TokenReader T
gate_r ks true rule = rule
gate_r ks false rule = shut_r ks

abbrev pub operation_r : TokenReader Expr → List Sort → Expr → TokenReader Expr
operation_r operand ks left = do
  op ← any_r ks
  right ← operand
  ret_r (tree.Binary (operator_of op.sort) op.span left right)

abbrev pub next_operand_r : Option ℕ → TokenReader Expr → List Sort → Expr → TokenReader Expr
next_operand_r limit operand ks left = gate_r ks (fits limit left) (operation_r operand ks left)

abbrev pub level_rule_r : Option ℕ → TokenReader Expr → ℕ → TokenReader Expr
level_rule_r limit unary zero = unary
level_rule_r limit unary (suc n) = do
  first ← level_rule_r limit unary n
  while_r (signs n) (next_operand_r limit (level_rule_r limit unary n) (signs n)) first

-- what follows an operand, within the n tightest levels
abbrev pub behind_r : Option ℕ → TokenReader Expr → ℕ → Expr → TokenReader Expr
behind_r limit unary zero left = ret_r left
behind_r limit unary (suc n) left = do
  first ← behind_r limit unary n left
  while_r (signs n) (next_operand_r limit (level_rule_r limit unary n) (signs n)) first

abbrev pub value_r : Room_r → Token → TokenReader Expr
value_r room name = construct_r assign_signs room (λ expr unary. do
  op ← any_r assign_signs
  value ← expr
  ret_r (tree.Assign (name_of name) (assign_of op.sort) op.span value))

abbrev pub assignment_r : Room_r → TokenReader Expr
assignment_r room = do
  name ← sign_r Name
  value_r room name

abbrev pub expr_rule_r : Option ℕ → Room_r → TokenReader Expr
expr_rule_r limit room = pair_r token_code (codes (Name ∷ [])) (codes assign_signs) (assignment_r room)
    (level_rule_r limit (unary_rule_r room) levels)

abbrev pub room_r : Option ℕ → ℕ → Room_r
room_r limit zero = Full_r
room_r limit (suc d) = Inside_r (expr_rule_r limit (room_r limit d)) (unary_rule_r (room_r limit d))

unfoldable pub expr_r : Option ℕ → ℕ → TokenReader Expr
expr_r limit d = expr_rule_r limit (room_r limit d)

unfoldable pub unary_r : Option ℕ → ℕ → TokenReader Expr
unary_r limit d = unary_rule_r (room_r limit d)

unfoldable pub level_r : Option ℕ → ℕ → ℕ → TokenReader Expr
level_r limit d n = level_rule_r limit (unary_rule_r (room_r limit d)) n

unfoldable pub operators_r : Option ℕ → ℕ → ℕ → Expr → TokenReader Expr
operators_r limit d n left = behind_r limit (unary_rule_r (room_r limit d)) n left
