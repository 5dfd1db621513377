-- Which kinds an operator takes and gives, and which casts there are.
use Rattle.std.specs.Prelude.{Bool, true, false, Option, Some, None}
use Rattle.lsl_value.specs.declared.operators.BinaryOp.{BinaryOp}
use Rattle.lsl_value.specs.declared.operators.BinaryOp.TheVariants.{Add, Equal, Unequal}
use Rattle.lsl_value.specs.declared.tagged.Kind.{Kind}
use Rattle.lsl_value.specs.declared.tagged.Kind.TheVariants.{Int, Str, Key, List}

-- two integers give an integer, two strings a string, and a list with anything a list
abbrev pub sum_kind_of : Kind → Kind → Option Kind
sum_kind_of Int Int = Some Int
sum_kind_of Str Str = Some Str
sum_kind_of List right = Some List
sum_kind_of left List = Some List
sum_kind_of left right = None

-- integers, texts of either kind, and lists are compared
abbrev pub comparison_kind_of : Kind → Kind → Option Kind
comparison_kind_of Int Int = Some Int
comparison_kind_of Str Str = Some Int
comparison_kind_of Str Key = Some Int
comparison_kind_of Key Str = Some Int
comparison_kind_of Key Key = Some Int
comparison_kind_of List List = Some Int
comparison_kind_of left right = None

-- every other operator takes two integers
abbrev pub integer_kind_of : Kind → Kind → Option Kind
integer_kind_of Int Int = Some Int
integer_kind_of left right = None

-- the kind of an operator's value, or none where it doesn't take these kinds
abbrev pub result_kind_of : BinaryOp → Kind → Kind → Option Kind
result_kind_of Add left right = sum_kind_of left right
result_kind_of Equal left right = comparison_kind_of left right
result_kind_of Unequal left right = comparison_kind_of left right
result_kind_of op left right = integer_kind_of left right

-- the casts that stand where nobody wrote them
abbrev pub casts_implicitly_of : Kind → Kind → Bool
casts_implicitly_of Str Key = true
casts_implicitly_of Key Str = true
casts_implicitly_of from to = false

-- the casts that may be written
abbrev pub casts_of : Kind → Kind → Bool
casts_of Int Int = true
casts_of Int Str = true
casts_of Int Key = false
casts_of Int List = true
casts_of Str Int = true
casts_of Str Str = true
casts_of Str Key = true
casts_of Str List = true
casts_of Key Int = false
casts_of Key Str = true
casts_of Key Key = true
casts_of Key List = true
casts_of List Int = false
casts_of List Str = true
casts_of List Key = false
casts_of List List = true
