-- Kinds of the operands that an instruction takes.
use Rattle.std.proofs.Common.{◌≡◌, ◌∙◌, refl, sym, ap, subst, ℕ, List, [], ◌∷◌, ◌++◌, length, reverse, Bool, true, false, cond, Option, Some, None, take}
use Rattle.std.proofs.lemmas.List.{reverse-append, reverse-reverse, length-reverse}
use Rattle.lsl_value.specs.declared.tagged.Kind.{Kind}
use Rattle.lsl_value.specs.declared.tagged.Value.{Value}
use Rattle.lsl_running.specs.declared.kept.Kept.{Kept}
use Rattle.lsl_code.specs.Machine.{MachineCall, call_at}
use Rattle.lsl_machine.specs.declared.running.Running.{Running}
use Rattle.lsl_machine.specs.Laid.{Lays}
use Rattle.lsl_machine.specs.Steps.{Popped}
use Rattle.std.proofs.Common.{option_map, ap₂}
use Rattle.std.specs.Prelude.{is_some}
use Rattle.lsl_value.specs.OperatorRows.{result_kind_of, casts_of}
use Rattle.lsl_value.specs.Values.{kind_of}
use Rattle.lsl_value.specs.declared.names.BuiltinId.{BuiltinId}
use Rattle.lsl_value.specs.declared.names.BuiltinId.TheVariants.{Abs}
use Rattle.lsl_value.specs.declared.operators.BinaryOp.{BinaryOp}
use Rattle.lsl_table.specs.Calls.{row_of}
use Rattle.lsl_table.specs.declared.calls.Home.TheVariants as home
use Rattle.lsl_running.specs.Calling.{call_form, parameter_count}
use Rattle.lsl_pure.specs.Arguments.{IsArguments}
use Rattle.lsl_code.specs.declared.instructions.Instr.TheVariants as instrs
use Rattle.lsl_code.specs.Effects.{strip, called_if, is_pure, behind, only_if, pushed}
use Rattle.lsl_code.specs.Kinds.{Scope, kinds_of, same_kind, builtin_signature}
use Rattle.lsl_code.proofs.Sames.{same_is}
use Rattle.lsl_code.proofs.ValueKinds.{kinds_take, kinds_append}

strip_take : (ps ks : List Kind) → is_some (strip ps ks) ≡ true → take (length ps) ks ≡ ps
strip_take [] ks e = refl
strip_take (p ∷ ps) [] e = absurd cc
strip_take (p ∷ ps) (k ∷ ks) e = step (same_kind p k) refl e (λ f. strip_take ps ks f) where
  step : (b : Bool) → same_kind p k ≡ b → is_some (cond b (strip ps ks) None) ≡ true
      → (is_some (strip ps ks) ≡ true → take (length ps) ks ≡ ps) → k ∷ take (length ps) ks ≡ p ∷ ps
  step true s e more = ap₂ (λ x l. x ∷ l) (sym (same_is p k s)) (more e)
  step false s e more = absurd cc

map_is : (f : List Kind → List Kind) (o : Option (List Kind)) (js : List Kind) → option_map f o ≡ Some js
    → is_some o ≡ true
map_is f None js e = absurd cc
map_is f (Some x) js e = refl

kinds_reverse : (vs : List Value) → kinds_of (reverse vs) ≡ reverse (kinds_of vs)
kinds_reverse [] = refl
kinds_reverse (v ∷ vs) =
    ap kinds_of (reverse-append (v ∷ []) vs) ∙ kinds_append (reverse vs) (v ∷ [])
    ∙ ap (λ l. l ++ kind_of v ∷ []) (kinds_reverse vs) ∙ sym (reverse-append (kind_of v ∷ []) (kinds_of vs))

-- the arguments of a built-in call, from first to last, have the kinds of its row
pub built_in_kinds : (b : Bool) (id : BuiltinId) (ops : List Value) (js : List Kind)
    → called_if b (builtin_signature id) (kinds_of ops) ≡ Some js
    → (b ≡ true) × (kinds_of (reverse (take (parameter_count id) ops)) ≡ (row_of id).params)
built_in_kinds false id ops js e = absurd cc
built_in_kinds true id ops js e =
    let g = builtin_signature id in
    let some = map_is (pushed g.result) (strip (reverse g.params) (kinds_of ops)) js e in
    let args : take (length g.params) (kinds_of ops) ≡ reverse g.params =
    ap (λ n. take n (kinds_of ops)) (sym (length-reverse g.params))
    ∙ strip_take (reverse g.params) (kinds_of ops) some in (
      refl,
      kinds_reverse (take (length g.params) ops) ∙ ap reverse (kinds_take (length g.params) ops ∙ args)
          ∙ reverse-reverse g.params,
    )

pure_row : (id : BuiltinId) → cond (is_pure (call_form id)) (row_of id).home home.Pure ≡ home.Pure
pure_row Abs = refl
pure_row _ = refl

-- a pure call has its arguments on top
pub pure_arguments : (s : Scope) (id : BuiltinId) (ops args : List Value) (js : List Kind)
    → behind s (instrs.Pure id) (kinds_of ops) ≡ Some js
    → args ≡ reverse (take (parameter_count id) ops) → IsArguments id args
pure_arguments s id ops args js e same =
    let t = built_in_kinds (is_pure (call_form id)) id ops js e in
    record {
      pure = subst (λ b. cond b (row_of id).home home.Pure ≡ home.Pure) t.0 (pure_row id);
      kinds = ap kinds_of same ∙ t.1;
    }

some_row : (f : Kind → List Kind) (o : Option Kind) (js : List Kind) → option_map f o ≡ Some js → is_some o ≡ true
some_row f None js e = absurd cc
some_row f (Some k) js e = refl

-- the operands of an operator are of one of its rows
pub binary_row : (s : Scope) (op : BinaryOp) (left right : Value) (g : Kept) (f pc : ℕ) (sl ops : List Value)
    (outer : List MachineCall) (js : List Kind) (q p : Running)
    → behind s (instrs.Binary op) (kinds_of ops) ≡ Some js → Popped g f pc sl ops outer (Some left) q
    → ((rest : List Value) → Lays q g (call_at f pc sl rest) outer → Popped g f pc sl rest outer (Some right) p)
    → is_some (result_kind_of op (kind_of left) (kind_of right)) ≡ true
binary_row s op left right g f pc sl [] outer js q p e a b = absurd a
binary_row s op left right g f pc sl (v ∷ rest) outer js q p e a b = second rest e (b rest a.1) where
  second : (rest : List Value) → behind s (instrs.Binary op) (kinds_of (v ∷ rest)) ≡ Some js
      → Popped g f pc sl rest outer (Some right) p
      → is_some (result_kind_of op (kind_of left) (kind_of right)) ≡ true
  second [] e b = absurd b
  second (w ∷ more) e b =
      let here = some_row (λ k. k ∷ kinds_of more) (result_kind_of op (kind_of v) (kind_of w)) js e in
      subst (λ x. is_some (result_kind_of op (kind_of x) (kind_of right)) ≡ true) (sym a.0)
      (subst (λ x. is_some (result_kind_of op (kind_of v) (kind_of x)) ≡ true) (sym b.0) here)

only_true : (b : Bool) (left js : List Kind) → only_if b left ≡ Some js → b ≡ true
only_true true left js e = refl
only_true false left js e = absurd cc

-- the operand of a cast can be cast this way
pub cast_row : (s : Scope) (to : Kind) (v : Value) (g : Kept) (f pc : ℕ) (sl ops : List Value)
    (outer : List MachineCall) (js : List Kind) (q : Running)
    → behind s (instrs.Cast to) (kinds_of ops) ≡ Some js → Popped g f pc sl ops outer (Some v) q
    → casts_of (kind_of v) to ≡ true
cast_row s to v g f pc sl [] outer js q e a = absurd a
cast_row s to v g f pc sl (w ∷ rest) outer js q e a =
    subst (λ x. casts_of (kind_of x) to ≡ true) (sym a.0)
    (only_true (casts_of (kind_of w) to) (to ∷ kinds_of rest) js e)
