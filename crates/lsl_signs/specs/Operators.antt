-- The signs of the grammar and the operators that they mean.
use Rattle.std.specs.Prelude.{ℕ, zero, suc, cond, Option, None, Some, List, [], ◌∷◌}
use Rattle.lsl_grammar.specs.Language.{among}
use Rattle.lsl_lex.specs.Kinds.{kind_of}
use Rattle.lsl_lex.specs.declared.token_types.Sort.{Sort}
use Rattle.lsl_lex.specs.declared.token_types.Sort.TheVariants as sort
use Rattle.lsl_signs.specs.Kinds.{codes}
use Rattle.lsl_value.specs.declared.operators.UnaryOp.{UnaryOp}
use Rattle.lsl_value.specs.declared.operators.UnaryOp.TheVariants.{Negate, LogicNot, BitNot}
use Rattle.lsl_value.specs.declared.operators.BinaryOp.{BinaryOp}
use Rattle.lsl_value.specs.declared.operators.BinaryOp.TheVariants as binary
use Rattle.lsl_tree.specs.declared.expression.StepOp.{StepOp}
use Rattle.lsl_tree.specs.declared.expression.StepOp.TheVariants.{Increment, Decrement}
use Rattle.lsl_tree.specs.declared.expression.AssignOp.{AssignOp}
use Rattle.lsl_tree.specs.declared.expression.AssignOp.TheVariants as assign
use Rattle.lsl_lex.specs.declared.token_types.Sort.TheVariants.{PlusPlus, MinusMinus, PlusAssign, MinusAssign, StarAssign, SlashAssign, PercentAssign, EqualEqual, BangEqual, LessEqual, MoreEqual, LessLess, MoreMore, AndAnd, OrOr, Plus, Minus, Star, Slash, Percent, Assign, Less, More, Bang, Tilde, And, Or, Caret}

abbrev pub prefix_signs : List Sort
prefix_signs = Minus ∷ Bang ∷ Tilde ∷ []

abbrev pub prefix_of : Sort → UnaryOp
prefix_of sort.Bang = LogicNot
prefix_of sort.Tilde = BitNot
prefix_of _ = Negate

abbrev pub step_signs : List Sort
step_signs = PlusPlus ∷ MinusMinus ∷ []

abbrev pub step_of : Sort → StepOp
step_of sort.MinusMinus = Decrement
step_of _ = Increment

abbrev pub assign_signs : List Sort
assign_signs = Assign ∷ PlusAssign ∷ MinusAssign ∷ StarAssign ∷ SlashAssign ∷ PercentAssign ∷ []

abbrev pub assign_of : Sort → AssignOp
assign_of sort.PlusAssign = assign.Add
assign_of sort.MinusAssign = assign.Sub
assign_of sort.StarAssign = assign.Mul
assign_of sort.SlashAssign = assign.Div
assign_of sort.PercentAssign = assign.Rem
assign_of _ = assign.Set

-- how many levels of operators there are
abbrev pub levels : ℕ
levels = 9

-- the signs between the operands of a level, from the tightest
abbrev pub signs : ℕ → List Sort
signs zero = Star ∷ Slash ∷ Percent ∷ []
signs (suc zero) = Plus ∷ Minus ∷ []
signs (suc (suc zero)) = LessLess ∷ MoreMore ∷ []
signs (suc (suc (suc zero))) = Less ∷ LessEqual ∷ More ∷ MoreEqual ∷ []
signs (suc (suc (suc (suc zero)))) = EqualEqual ∷ BangEqual ∷ []
signs (suc (suc (suc (suc (suc zero))))) = And ∷ []
signs (suc (suc (suc (suc (suc (suc zero)))))) = Caret ∷ []
signs (suc (suc (suc (suc (suc (suc (suc zero))))))) = Or ∷ []
signs (suc (suc (suc (suc (suc (suc (suc (suc zero)))))))) = AndAnd ∷ OrOr ∷ []
signs (suc (suc (suc (suc (suc (suc (suc (suc (suc n))))))))) = []

-- the level of a sign, among the n tightest
abbrev pub level_of : ℕ → Sort → Option ℕ
level_of zero sign = None
level_of (suc n) sign = cond (among (kind_of sign) (codes (signs n))) (Some n) (level_of n sign)

abbrev pub operator_of : Sort → BinaryOp
operator_of sort.Star = binary.Mul
operator_of sort.Slash = binary.Div
operator_of sort.Percent = binary.Rem
operator_of sort.Plus = binary.Add
operator_of sort.Minus = binary.Sub
operator_of sort.LessLess = binary.Shl
operator_of sort.MoreMore = binary.Shr
operator_of sort.Less = binary.Less
operator_of sort.LessEqual = binary.AtMost
operator_of sort.More = binary.More
operator_of sort.MoreEqual = binary.AtLeast
operator_of sort.EqualEqual = binary.Equal
operator_of sort.BangEqual = binary.Unequal
operator_of sort.And = binary.BitAnd
operator_of sort.Caret = binary.BitXor
operator_of sort.Or = binary.BitOr
operator_of sort.AndAnd = binary.Both
operator_of sort.OrOr = binary.Either
operator_of _ = binary.Add
