-- Kinds of values that calls, operators and casts give.
use Rattle.std.proofs.Common.{◌≡◌, List, map, Option, Some, None, refl, sym, ap, ◌∙◌, subst}
use Rattle.std.proofs.lemmas.Option.{none-some}
use Rattle.lsl_value.specs.OperatorRows.{sum_kind_of, comparison_kind_of, integer_kind_of}
use Rattle.lsl_value.specs.Values.{kind_of}
use Rattle.lsl_value.specs.declared.names.BuiltinId.{BuiltinId}
use Rattle.lsl_value.specs.declared.names.BuiltinId.TheVariants.{Abs}
use Rattle.lsl_value.specs.declared.operators.BinaryOp.TheVariants.{Add, Equal, Unequal}
use Rattle.lsl_value.specs.declared.tagged.Kind.{Kind}
use Rattle.lsl_value.specs.declared.tagged.Kind.TheVariants as kind
use Rattle.lsl_value.specs.declared.tagged.Value.{Value}
use Rattle.lsl_value.specs.declared.tagged.Value.TheVariants.{Int, Str, Key, List as ListValue}
use Rattle.lsl_table.specs.declared.calls.Home.{Home}
use Rattle.lsl_table.specs.declared.calls.Home.TheVariants as home
use Rattle.lsl_table.specs.Calls.{row_of}
use Rattle.lsl_ops.specs.Operations.{sum_of}
use Rattle.lsl_pure.specs.Pure.{pure_of}
use Rattle.lsl_meaning.specs.KindLaws.{PureArgumentsAreTheRows, PureResultIsTheRows, OperatorsKeepKinds, CastsGiveTheirKind}

pub some-same : {A : Type 0} (a b : A) → Some a ≡ Some b → a ≡ b
some-same a b same = cc

abbrev if_pure : {A : Type 0} → Home → A → Option A
if_pure home.Pure a = Some a
if_pure _ a = None

pub pure_arguments : PureArgumentsAreTheRows
pure_arguments id arguments = (λ are. (are.pure, are.kinds), λ are. record { pure = are.0; kinds = are.1 })

pure_of-result : (id : BuiltinId) (arguments : List Value)
    → if_pure (row_of id).home (row_of id).result ≡ if_pure (row_of id).home (Some (kind_of (pure_of id arguments)))
pure_of-result Abs arguments = refl
pure_of-result _ arguments = refl

pub pure_result : PureResultIsTheRows
pure_result id arguments pure =
    let gives : Option Kind = Some (kind_of (pure_of id arguments)) in
    some-same _ _ (subst (λ h. if_pure h (row_of id).result ≡ if_pure h gives) pure (pure_of-result id arguments))

integer_kind : (left right k : Kind) → integer_kind_of left right ≡ Some k → kind.Int ≡ k
integer_kind kind.Int kind.Int k same = some-same kind.Int k same
integer_kind _ _ k same = absurd (none-some k same)

comparison_kind : (left right k : Kind) → comparison_kind_of left right ≡ Some k → kind.Int ≡ k
comparison_kind kind.Int kind.Int k same = some-same kind.Int k same
comparison_kind kind.Str kind.Str k same = some-same kind.Int k same
comparison_kind kind.Str kind.Key k same = some-same kind.Int k same
comparison_kind kind.Key kind.Str k same = some-same kind.Int k same
comparison_kind kind.Key kind.Key k same = some-same kind.Int k same
comparison_kind kind.List kind.List k same = some-same kind.Int k same
comparison_kind _ _ k same = absurd (none-some k same)

sum_kind : (left right : Value) (k : Kind)
    → sum_kind_of (kind_of left) (kind_of right) ≡ Some k → kind_of (sum_of left right) ≡ k
sum_kind (Int a) (Int b) k same = some-same kind.Int k same
sum_kind (Str a) (Str b) k same = some-same kind.Str k same
sum_kind (ListValue a) right k same = some-same kind.List k same
sum_kind (Int a) (ListValue b) k same = some-same kind.List k same
sum_kind (Str a) (ListValue b) k same = some-same kind.List k same
sum_kind (Key a) (ListValue b) k same = some-same kind.List k same
sum_kind _ _ k same = absurd (none-some k same)

pub operators : OperatorsKeepKinds
operators Add left right k same = sum_kind left right k same
operators Equal left right k same = comparison_kind (kind_of left) (kind_of right) k same
operators Unequal left right k same = comparison_kind (kind_of left) (kind_of right) k same
operators _ left right k same = integer_kind (kind_of left) (kind_of right) k same

pub casts : CastsGiveTheirKind
casts value kind.Int = refl
casts value kind.Str = refl
casts value kind.Key = refl
casts value kind.List = refl
