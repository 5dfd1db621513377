-- Operators on integers, which are signed and have 32 bits.
use Rattle.std.specs.Prelude.{ℕ, ◌/◌, ◌^◌, Bool, true, false, not, ◌&&◌, ◌||◌, ℤ, pos, negsuc, neg_ℤ, ◌+ℤ◌, ◌-ℤ◌, ◌*ℤ◌, unsigned_abs, int_lt, int_le, int_div, int_rem}
use Rattle.std.specs.Int.{w32, int_wrap, int_rem_euclid, int_bit_and, int_bit_or, int_bit_xor}
use Rattle.std.specs.Ordering.{int_eq}
use Rattle.lsl_value.specs.declared.operators.UnaryOp.{UnaryOp}
use Rattle.lsl_value.specs.declared.operators.UnaryOp.TheVariants.{Negate, LogicNot, BitNot}
use Rattle.lsl_value.specs.declared.operators.BinaryOp.{BinaryOp}
use Rattle.lsl_value.specs.declared.operators.BinaryOp.TheVariants.{Add, Sub, Mul, Div, Rem, Shl, Shr, BitAnd, BitOr, BitXor, Less, AtMost, More, AtLeast, Both, Either, Equal, Unequal}

-- the number with this value modulo 2^32
abbrev pub wrapped : ℤ → ℤ
wrapped n = int_wrap w32 n

-- a test gives 1 or 0
abbrev pub number_of : Bool → ℤ
number_of true = pos 1
number_of false = pos 0

abbrev pub is_nonzero : ℤ → Bool
is_nonzero n = not (int_eq n (pos 0))

-- a shift goes by the low five bits of its right operand
abbrev pub shift_of : ℤ → ℕ
shift_of by = unsigned_abs (int_rem_euclid by (pos 32))

-- a shift to the right keeps the sign: it divides by a power of two, and rounds down
abbrev pub shifted_right_of : ℤ → ℕ → ℤ
shifted_right_of (pos n) by = pos (n / 2 ^ by)
shifted_right_of (negsuc n) by = negsuc (n / 2 ^ by)

-- the one's complement
abbrev pub complement_of : ℤ → ℤ
complement_of (pos n) = negsuc n
complement_of (negsuc n) = pos n

-- what an operator before an integer gives
abbrev pub unary_of : UnaryOp → ℤ → ℤ
unary_of Negate n = wrapped (neg_ℤ n)
unary_of LogicNot n = number_of (int_eq n (pos 0))
unary_of BitNot n = complement_of n

-- what an operator between two integers gives: division truncates, and a remainder has the dividend's sign
abbrev pub arithmetic_of : BinaryOp → ℤ → ℤ → ℤ
arithmetic_of Add a b = wrapped (a +ℤ b)
arithmetic_of Sub a b = wrapped (a -ℤ b)
arithmetic_of Mul a b = wrapped (a *ℤ b)
arithmetic_of Div a b = wrapped (int_div a b)
arithmetic_of Rem a b = int_rem a b
arithmetic_of Shl a b = wrapped (a *ℤ pos (2 ^ shift_of b))
arithmetic_of Shr a b = shifted_right_of a (shift_of b)
arithmetic_of BitAnd a b = int_bit_and w32 a b
arithmetic_of BitOr a b = int_bit_or w32 a b
arithmetic_of BitXor a b = int_bit_xor w32 a b
arithmetic_of Less a b = number_of (int_lt a b)
arithmetic_of AtMost a b = number_of (int_le a b)
arithmetic_of More a b = number_of (int_lt b a)
arithmetic_of AtLeast a b = number_of (int_le b a)
arithmetic_of Both a b = number_of (is_nonzero a && is_nonzero b)
arithmetic_of Either a b = number_of (is_nonzero a || is_nonzero b)
arithmetic_of Equal a b = number_of (int_eq a b)
arithmetic_of Unequal a b = number_of (not (int_eq a b))

-- a division or a remainder by 0
abbrev pub has_zero_divisor : BinaryOp → ℤ → Bool
has_zero_divisor Div b = int_eq b (pos 0)
has_zero_divisor Rem b = int_eq b (pos 0)
has_zero_divisor op b = false
