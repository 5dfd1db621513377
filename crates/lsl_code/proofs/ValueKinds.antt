-- The kinds of the values that instructions make.
use Rattle.std.proofs.Common.{◌≡◌, ℕ, zero, suc, List, [], ◌∷◌, ◌++◌, map, take, drop, get_or, Some, None, Bool, true, false, cond, refl, sym, ap, ap₂, ◌∙◌, subst, slice_get, slice_set}
use Rattle.lsl_value.specs.OperatorRows.{result_kind_of}
use Rattle.lsl_value.specs.Values.{kind_of}
use Rattle.lsl_value.specs.declared.names.BuiltinId.{BuiltinId}
use Rattle.lsl_value.specs.declared.tagged.Kind.{Kind}
use Rattle.lsl_value.specs.declared.tagged.Kind.TheVariants as kind
use Rattle.lsl_value.specs.declared.tagged.Value.{Value}
use Rattle.lsl_value.specs.declared.tagged.Value.TheVariants as value
use Rattle.lsl_table.specs.Calls.{row_of}
use Rattle.lsl_value.specs.OperatorRows.{sum_kind_of, comparison_kind_of, integer_kind_of}
use Rattle.lsl_value.specs.declared.operators.BinaryOp.{BinaryOp}
use Rattle.lsl_value.specs.declared.operators.BinaryOp.TheVariants.{Add, Equal, Unequal}
use Rattle.lsl_value.specs.declared.names.BuiltinId.TheVariants.{Abs}
use Rattle.lsl_ops.specs.Operations.{sum_of, binary_of, cast_of, divides_by_zero}
use Rattle.lsl_pure.specs.Pure.{pure_of}
use Rattle.lsl_running.specs.Calling.{call_form}
use Rattle.lsl_running.specs.Values.{empty_of, binary_value}
use Rattle.lsl_code.specs.Effects.{is_pure}
use Rattle.lsl_code.specs.Kinds.{kinds_of}

pub some_is : {A : Type 0} (a b : A) → Some a ≡ Some b → a ≡ b
some_is a b e = cc

pure_row : (id : BuiltinId) (args : List Value)
    → cond (is_pure (call_form id)) (row_of id).result None ≡ cond (is_pure (call_form id))
    (Some (kind_of (pure_of id args))) None
pure_row Abs args = refl
pure_row _ args = refl

-- a pure call gives a value of its row's kind
pub pure_kind : (id : BuiltinId) (args : List Value) → is_pure (call_form id) ≡ true
    → (row_of id).result ≡ Some (kind_of (pure_of id args))
pure_kind id args pure =
    subst (λ b. cond b (row_of id).result None ≡ cond b (Some (kind_of (pure_of id args))) None) pure
    (pure_row id args)

integer_kind : (left right k : Kind) → integer_kind_of left right ≡ Some k → kind.Int ≡ k
integer_kind kind.Int kind.Int k e = some_is kind.Int k e
integer_kind _ _ k e = absurd cc

comparison_kind : (left right k : Kind) → comparison_kind_of left right ≡ Some k → kind.Int ≡ k
comparison_kind kind.Int kind.Int k e = some_is kind.Int k e
comparison_kind kind.Str kind.Str k e = some_is kind.Int k e
comparison_kind kind.Str kind.Key k e = some_is kind.Int k e
comparison_kind kind.Key kind.Str k e = some_is kind.Int k e
comparison_kind kind.Key kind.Key k e = some_is kind.Int k e
comparison_kind kind.List kind.List k e = some_is kind.Int k e
comparison_kind _ _ k e = absurd cc

sum_kind : (left right : Value) (k : Kind) → sum_kind_of (kind_of left) (kind_of right) ≡ Some k
    → kind_of (sum_of left right) ≡ k
sum_kind (value.Int a) (value.Int b) k e = some_is kind.Int k e
sum_kind (value.Str a) (value.Str b) k e = some_is kind.Str k e
sum_kind (value.List a) right k e = some_is kind.List k e
sum_kind (value.Int a) (value.List b) k e = some_is kind.List k e
sum_kind (value.Str a) (value.List b) k e = some_is kind.List k e
sum_kind (value.Key a) (value.List b) k e = some_is kind.List k e
sum_kind _ _ k e = absurd cc

operator_kind : (op : BinaryOp) (left right : Value) (k : Kind)
    → result_kind_of op (kind_of left) (kind_of right) ≡ Some k → kind_of (binary_of op left right) ≡ k
operator_kind Add left right k e = sum_kind left right k e
operator_kind Equal left right k e = comparison_kind (kind_of left) (kind_of right) k e
operator_kind Unequal left right k e = comparison_kind (kind_of left) (kind_of right) k e
operator_kind _ left right k e = integer_kind (kind_of left) (kind_of right) k e

-- an operator gives a value of the kind that its operands' kinds have, where it gives one
pub binary_kind : (op : BinaryOp) (left right v : Value) (k : Kind)
    → result_kind_of op (kind_of left) (kind_of right) ≡ Some k → binary_value op left right ≡ Some v
    → kind_of v ≡ k
binary_kind op left right v k e given = by_test (divides_by_zero op right) given
  where
    by_test : (b : Bool) → cond b None (Some (binary_of op left right)) ≡ Some v → kind_of v ≡ k
    by_test true f = absurd cc
    by_test false f = ap kind_of (sym (some_is (binary_of op left right) v f)) ∙ operator_kind op left right k e

pub cast_kind : (v : Value) (k : Kind) → kind_of (cast_of v k) ≡ k
cast_kind v kind.Int = refl
cast_kind v kind.Str = refl
cast_kind v kind.Key = refl
cast_kind v kind.List = refl

pub empty_kind : (k : Kind) → kind_of (empty_of k) ≡ k
empty_kind kind.Int = refl
empty_kind kind.Str = refl
empty_kind kind.Key = refl
empty_kind kind.List = refl

pub empties_kinds : (ks : List Kind) → kinds_of (map empty_of ks) ≡ ks
empties_kinds [] = refl
empties_kinds (k ∷ ks) = ap₂ (λ x l. x ∷ l) (empty_kind k) (empties_kinds ks)

pub kinds_take : (n : ℕ) (vs : List Value) → kinds_of (take n vs) ≡ take n (kinds_of vs)
kinds_take zero vs = refl
kinds_take (suc n) [] = refl
kinds_take (suc n) (v ∷ vs) = ap (λ l. kind_of v ∷ l) (kinds_take n vs)

pub kinds_drop : (n : ℕ) (vs : List Value) → kinds_of (drop n vs) ≡ drop n (kinds_of vs)
kinds_drop zero vs = refl
kinds_drop (suc n) [] = refl
kinds_drop (suc n) (v ∷ vs) = kinds_drop n vs

pub kinds_append : (vs ws : List Value) → kinds_of (vs ++ ws) ≡ kinds_of vs ++ kinds_of ws
kinds_append [] ws = refl
kinds_append (v ∷ vs) ws = ap (λ l. kind_of v ∷ l) (kinds_append vs ws)

pub kinds_set : (vs : List Value) (i : ℕ) (v : Value)
    → kinds_of (slice_set vs i v) ≡ slice_set (kinds_of vs) i (kind_of v)
kinds_set [] i v = refl
kinds_set (x ∷ vs) zero v = refl
kinds_set (x ∷ vs) (suc i) v = ap (λ l. kind_of x ∷ l) (kinds_set vs i v)

set_same : (ks : List Kind) (i : ℕ) (k : Kind) → slice_get ks i ≡ Some k → slice_set ks i k ≡ ks
set_same [] i k e = absurd cc
set_same (x ∷ ks) zero k e = let same : k ≡ x = cc in ap (λ z. z ∷ ks) same
set_same (x ∷ ks) (suc i) k e = ap (λ l. x ∷ l) (set_same ks i k e)

-- a value of its kind is stored
pub stored_kinds : (vs : List Value) (ks : List Kind) (i : ℕ) (v : Value) → kinds_of vs ≡ ks
    → slice_get ks i ≡ Some (kind_of v) → kinds_of (slice_set vs i v) ≡ ks
stored_kinds vs ks i v e there =
    kinds_set vs i v ∙ ap (λ l. slice_set l i (kind_of v)) e ∙ set_same ks i (kind_of v) there

-- and read
pub read_kind : (vs : List Value) (ks : List Kind) (i : ℕ) (v : Value) (k : Kind) → kinds_of vs ≡ ks
    → slice_get ks i ≡ Some k → kind_of (get_or vs i v) ≡ k
read_kind [] ks i v k e there = let none : slice_get ks i ≡ None = ap (λ l. slice_get l i) (sym e) in absurd cc
read_kind (x ∷ vs) ks zero v k e there = some_is _ _ (ap (λ l. slice_get l 0) e ∙ there)
read_kind (x ∷ vs) [] (suc i) v k e there = absurd cc
read_kind (x ∷ vs) (q ∷ ks) (suc i) v k e there = let rest : kinds_of vs ≡ ks = cc in read_kind vs ks i v k rest there
