-- A call has a value exactly for arguments of its row's kinds, and the value has the row's kind.
use Rattle.std.proofs.Common.{◌≡◌, ◌∙◌, ℕ, suc, ◌<◌, ◌≤◌, pos, Bool, true, false, ◌&&◌, cond, List, [], ◌∷◌, map, drop, length, Option, Some, None, sym, ap, refl, arith}
use Rattle.std.specs.Option.{option_map}
use Rattle.std.specs.Prelude.{MatchOption, is_none, unwrap_or}
use Rattle.std.proofs.Math.Seq.{drop-cons}
use Rattle.std.proofs.lemmas.Bool.{and_from, and_parts, false≢true}
use Rattle.std.proofs.lemmas.List.{drop_all}
use Rattle.lsl_value.specs.Values.{kind_of}
use Rattle.lsl_value.specs.declared.names.BuiltinId.{BuiltinId}
use Rattle.lsl_value.specs.declared.names.BuiltinId.TheVariants.{Abs, StringLength, GetListLength, GetSubString, List2List, DeleteSubString, DeleteSubList, InsertString, ListInsertList, ListReplaceList, SubStringIndex, ListFindList, StringTrim, List2Integer, List2String, List2Key, GetListEntryType, DumpList2String, List2Csv, Csv2List, ParseString2List, ParseStringKeepNulls}
use Rattle.lsl_value.specs.declared.tagged.Kind.{Kind}
use Rattle.lsl_value.specs.declared.tagged.Kind.TheVariants as kind
use Rattle.lsl_value.specs.declared.tagged.Value.{Value}
use Rattle.lsl_value.specs.declared.tagged.Value.TheVariants.{Int, Str, Key, List as ListValue}
use Rattle.lsl_table.specs.Calls.{row_of}
use Rattle.lsl_table.specs.declared.calls.Home.{Home}
use Rattle.lsl_table.specs.declared.calls.Home.TheVariants.{Pure}
use Rattle.lsl_pure.specs.Arguments.{IsArguments, read_as, read_from, read_arguments, value_at}
use Rattle.lsl_pure.specs.Laws.{HasValueOfRow}
use Rattle.lsl_pure.specs.Pure.{pure_of, value_of}

-- a test for arguments of a row's kinds

same_kind : Kind → Kind → Bool
same_kind kind.Int kind.Int = true
same_kind kind.Str kind.Str = true
same_kind kind.Key kind.Key = true
same_kind kind.List kind.List = true
same_kind _ _ = false

same_kinds : List Kind → List Kind → Bool
same_kinds [] [] = true
same_kinds (a ∷ kinds) (b ∷ others) = same_kind a b && same_kinds kinds others
same_kinds _ _ = false

is_pure : Home → Bool
is_pure Pure = true
is_pure _ = false

is_arguments : BuiltinId → List Value → Bool
is_arguments id args = is_pure (row_of id).home && same_kinds (map kind_of args) (row_of id).params

same_kind-is : (a b : Kind) → same_kind a b ≡ true → a ≡ b
unfolding same_kind
same_kind-is kind.Int kind.Int same = refl
same_kind-is kind.Str kind.Str same = refl
same_kind-is kind.Key kind.Key same = refl
same_kind-is kind.List kind.List same = refl
same_kind-is _ _ same = cc

same_kind-itself : (a : Kind) → same_kind a a ≡ true
unfolding same_kind
same_kind-itself kind.Int = refl
same_kind-itself kind.Str = refl
same_kind-itself kind.Key = refl
same_kind-itself kind.List = refl

same_kinds-is : (kinds others : List Kind) → same_kinds kinds others ≡ true → kinds ≡ others
unfolding same_kinds
same_kinds-is [] [] same = refl
same_kinds-is (a ∷ kinds) (b ∷ others) same =
    let parts = and_parts _ _ same in
    let first = same_kind-is a b parts.0 in
    let rest = same_kinds-is kinds others parts.1 in
    cc
same_kinds-is _ _ same = cc

same_kinds-itself : (kinds : List Kind) → same_kinds kinds kinds ≡ true
unfolding same_kinds
same_kinds-itself [] = refl
same_kinds-itself (a ∷ kinds) = and_from _ _ (same_kind-itself a) (same_kinds-itself kinds)

is_pure-is : (home : Home) → is_pure home ≡ true → home ≡ Pure
unfolding is_pure
is_pure-is Pure same = refl
is_pure-is _ same = cc

is_arguments-is : (id : BuiltinId) (args : List Value) → is_arguments id args ≡ true → IsArguments id args
unfolding is_arguments
is_arguments-is id args same =
    let parts = and_parts _ _ same in
    record { pure = is_pure-is _ parts.0; kinds = same_kinds-is _ _ parts.1 }

is_arguments-from : (id : BuiltinId) (args : List Value) → IsArguments id args → is_arguments id args ≡ true
unfolding is_arguments is_pure
is_arguments-from id args is =
    and_from _ _ (ap is_pure is.pure) (ap (λ kinds. same_kinds kinds (row_of id).params) is.kinds
    ∙ same_kinds-itself (row_of id).params)

-- the kind of a call's value, case by case

value_of-kind : (id : BuiltinId) (args : List Value)
    → option_map kind_of (value_of id args) ≡ cond (is_arguments id args) (row_of id).result None
unfolding is_arguments is_pure same_kinds same_kind
value_of-kind Abs (Int n ∷ []) = refl
value_of-kind StringLength (Str text ∷ []) = refl
value_of-kind GetListLength (ListValue atoms ∷ []) = refl
value_of-kind GetSubString (Str text ∷ Int first ∷ Int last ∷ []) = refl
value_of-kind List2List (ListValue atoms ∷ Int first ∷ Int last ∷ []) = refl
value_of-kind DeleteSubString (Str text ∷ Int first ∷ Int last ∷ []) = refl
value_of-kind DeleteSubList (ListValue atoms ∷ Int first ∷ Int last ∷ []) = refl
value_of-kind InsertString (Str text ∷ Int place ∷ Str other ∷ []) = refl
value_of-kind ListInsertList (ListValue atoms ∷ ListValue others ∷ Int place ∷ []) = refl
value_of-kind ListReplaceList (ListValue atoms ∷ ListValue others ∷ Int first ∷ Int last ∷ []) = refl
value_of-kind SubStringIndex (Str text ∷ Str sought ∷ []) = refl
value_of-kind ListFindList (ListValue atoms ∷ ListValue sought ∷ []) = refl
value_of-kind StringTrim (Str text ∷ Int trims ∷ []) = refl
value_of-kind List2Integer (ListValue atoms ∷ Int place ∷ []) = refl
value_of-kind List2String (ListValue atoms ∷ Int place ∷ []) = refl
value_of-kind List2Key (ListValue atoms ∷ Int place ∷ []) = refl
value_of-kind GetListEntryType (ListValue atoms ∷ Int place ∷ []) = refl
value_of-kind DumpList2String (ListValue atoms ∷ Str separator ∷ []) = refl
value_of-kind List2Csv (ListValue atoms ∷ []) = refl
value_of-kind Csv2List (Str text ∷ []) = refl
value_of-kind ParseString2List (Str text ∷ ListValue separators ∷ ListValue spacers ∷ []) = refl
value_of-kind ParseStringKeepNulls (Str text ∷ ListValue separators ∷ ListValue spacers ∷ []) = refl
value_of-kind _ _ = refl

-- a pure call gives a value
pure-gives : (id : BuiltinId) → (is_pure (row_of id).home && is_none (row_of id).result) ≡ false
unfolding is_pure
pure-gives Abs = refl
pure-gives _ = refl

-- arguments of a row's kinds are read as they are

read_as-itself : (value : Value) → read_as (kind_of value) value ≡ value
read_as-itself (Int n) = refl
read_as-itself (Str text) = refl
read_as-itself (Key text) = refl
read_as-itself (ListValue atoms) = refl

some-there : (args : List Value) (k : ℕ) (kind : Kind) (kinds : List Kind)
    → map kind_of (drop k args) ≡ kind ∷ kinds → length args ≤ k → ⊥
some-there args k kind kinds same past =
    let none : [] ≡ kind ∷ kinds = sym (ap (map kind_of) (drop_all k args past)) ∙ same in absurd (false≢true (cc))

none-there : (args : List Value) → map kind_of args ≡ [] → args ≡ []
none-there [] same = refl
none-there (v ∷ vs) same = absurd (false≢true (cc))

read_from-itself : (k : ℕ) (kinds : List Kind) (args : List Value) → map kind_of (drop k args) ≡ kinds
    → read_from k kinds args ≡ drop k args
read_from-itself k [] args same = sym (none-there (drop k args) same)
read_from-itself k (kind ∷ kinds) args same =
    let v = value_at args k in
    let some : k < length args = let past = some-there args k kind kinds same in omega arith in
    let cut : drop k args ≡ v ∷ drop (suc k) args = drop-cons args k (Int (pos 0)) some in
    let both : kind_of v ∷ map kind_of (drop (suc k) args) ≡ kind ∷ kinds = sym (ap (map kind_of) cut) ∙ same in
    let first : kind_of v ≡ kind = cc in
    let others : map kind_of (drop (suc k) args) ≡ kinds = cc in
    ap (λ w. w ∷ read_from (suc k) kinds args) (ap (λ t. read_as t v) (sym first) ∙ read_as-itself v)
    ∙ ap (λ vs. v ∷ vs) (read_from-itself (suc k) kinds args others) ∙ sym cut

pub read_arguments-itself : (id : BuiltinId) (args : List Value) → IsArguments id args → read_arguments id args ≡ args
read_arguments-itself id args is = read_from-itself 0 (row_of id).params args is.kinds

-- the laws

pub value_of-row : (id : BuiltinId) (args : List Value)
    → MatchOption (value_of id args) (IsArguments id args → ⊥) (HasValueOfRow id args)
unfolding is_pure
value_of-row id args = go (value_of id args) refl (is_arguments id args) refl
  where
    go : (found : Option Value) → value_of id args ≡ found → (b : Bool) → is_arguments id args ≡ b
        → MatchOption found (IsArguments id args → ⊥) (HasValueOfRow id args)
    go None found false test = λ is. false≢true (sym test ∙ is_arguments-from id args is)
    go None found true test = λ is.
        let none : (row_of id).result ≡ None =
        sym (ap (λ b. cond b (row_of id).result None) test) ∙ sym (value_of-kind id args)
        ∙ ap (option_map kind_of) found in
        false≢true (sym (pure-gives id) ∙ and_from _ _ (ap is_pure is.pure) (ap is_none none))
    go (Some value) found false test =
        let kind : Some (kind_of value) ≡ None =
        sym (ap (option_map kind_of) found) ∙ value_of-kind id args
        ∙ ap (λ b. cond b (row_of id).result None) test in
        absurd (false≢true (cc))
    go (Some value) found true test =
        let kind : Some (kind_of value) ≡ (row_of id).result =
        sym (ap (option_map kind_of) found) ∙ value_of-kind id args
        ∙ ap (λ b. cond b (row_of id).result None) test in
        let is = is_arguments-is id args test in
        record {
          arguments = is;
          same = ap (λ vs. unwrap_or (value_of id vs) (Int (pos 0))) (read_arguments-itself id args is)
              ∙ ap (λ v. unwrap_or v (Int (pos 0))) found;
          kind = sym kind;
        }

pub pure_of-kind : (id : BuiltinId) (args : List Value) → IsArguments id args
    → (row_of id).result ≡ Some (kind_of (pure_of id args))
pure_of-kind id args is = go (value_of id args) (value_of-row id args)
  where
    go : (found : Option Value) → MatchOption found (IsArguments id args → ⊥) (HasValueOfRow id args)
        → (row_of id).result ≡ Some (kind_of (pure_of id args))
    go None never = absurd (never is)
    go (Some value) has = has.kind ∙ ap (λ v. Some (kind_of v)) (sym has.same)
