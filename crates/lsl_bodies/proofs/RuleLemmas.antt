-- The verdicts on names and values are those of the rules.
use Rattle.std.proofs.Common.{◌≡◌, ℕ, true, Option, Some, None, List, [], ◌∷◌, ◌++◌, length, refl, sym, ap, ◌∙◌, subst}
use Rattle.std.proofs.Common.{inl, inr, arith, nat_eq, eq-eqb}
use Rattle.std.proofs.lemmas.Bool.Decides.{nat_tests}
use Rattle.std.specs.Prelude.{Ok, slice_get}
use Rattle.std.specs.Option.{option_and_then, option_map}
use Rattle.lsl_text.specs.declared.Span.{Span}
use Rattle.lsl_value.specs.declared.tagged.Kind.{Kind}
use Rattle.lsl_value.specs.declared.tagged.Kind.TheVariants.{Int, Str, Key, List as ListKind}
use Rattle.lsl_value.specs.declared.operators.BinaryOp.{BinaryOp}
use Rattle.lsl_value.specs.declared.names.ConstantId.{ConstantId}
use Rattle.lsl_value.specs.declared.names.BuiltinId.{BuiltinId}
use Rattle.lsl_value.specs.OperatorRows.{result_kind_of, casts_of}
use Rattle.lsl_tree.specs.declared.expression.Name.{Name}
use Rattle.lsl_tree.specs.declared.expression.AssignOp.{AssignOp}
use Rattle.lsl_tree.specs.declared.program_node.Place.{Place}
use Rattle.lsl_tree.specs.declared.program_node.Callee.{Callee}
use Rattle.lsl_tree.specs.declared.program_node.Callee.TheVariants.{Function, Builtin}
use Rattle.lsl_tree.specs.Expressions as expr
use Rattle.lsl_tree.specs.Expressions.{Expr, Exprs, NoExpr, AndExpr}
use Rattle.lsl_tree.specs.Nodes as node
use Rattle.lsl_tree.specs.Nodes.{Node, Nodes, NoNode, AndNode, node_kind_of}
use Rattle.lsl_tree.specs.Effects.{Value}
use Rattle.lsl_bodies.specs.declared.faults.TypeKind.TheVariants.{UnknownName, WrongKind, NoOperator, NoCast, WrongCount}
use Rattle.lsl_bodies.specs.declared.faults.TypeKind.TheVariants.{NotVariable, VoidUsed}
use Rattle.lsl_bodies.specs.declared.frame.Variable.{Variable as VariableOf}
use Rattle.lsl_bodies.specs.declared.frame.Target.{Target}
use Rattle.lsl_bodies.specs.declared.frame.Target.TheVariants.{Kept, Fixed}
use Rattle.lsl_bodies.specs.Names.{nearest}
use Rattle.lsl_bodies.specs.Scope.{ScopeView, spelled, IsVariable, variable_of}
use Rattle.lsl_tree.specs.Signatures.{Signature}
use Rattle.lsl_bodies.specs.Known.{KnownView, Calling, IsCallable, IsFunction, function_of, builtin_called_of}
use Rattle.lsl_bodies.specs.Table.{constant_of, IsBuiltin, builtin_of, params_of, result_of}
use Rattle.lsl_bodies.specs.Targets.{read_of, steps_of}
use Rattle.lsl_tree.specs.Shape.{argument_count}
use Rattle.lsl_bodies.specs.Conversions.{as_kind, is_int, is_no_list, operator_before}
use Rattle.lsl_bodies.specs.Sameness.{is_kind}
use Rattle.lsl_bodies.specs.Spans.{first_span}
use Rattle.lsl_bodies.specs.Judgement.{at, Judgement, gives}
use Rattle.lsl_bodies.specs.Judgement as rule
use Rattle.lsl_bodies.specs.Verdict.{◌>>=◌, the_one_verdict, must_verdict}
use Rattle.lsl_bodies.specs.VariableRules.{IsTarget, target, variable, KeepsVariable, counter, IsCounter, become}
use Rattle.lsl_bodies.specs.VariableRules.{compound, assigned, stored}
use Rattle.lsl_bodies.specs.CallRules.{callable, argument, arguments, counted, effect_of_call, call_value, call_effect}
use Rattle.lsl_bodies.specs.ValueRules.{flat, value, values, effect, effects}
use Rattle.lsl_bodies.specs.VariableVerdicts.{constant_target, target_by, target_verdict, variable_verdict, place_by}
use Rattle.lsl_bodies.specs.VariableVerdicts.{counter_verdict, become_verdict, compound_verdict, assigned_verdict}
use Rattle.lsl_bodies.specs.VariableVerdicts.{stored_verdict}
use Rattle.lsl_bodies.specs.CallVerdicts.{callable_by, callable_verdict, argument_verdict, arguments_verdict}
use Rattle.lsl_bodies.specs.CallVerdicts.{counted_verdict, call_value_verdict, call_effect_verdict}
use Rattle.lsl_bodies.specs.ValueVerdicts.{flat_verdict, value_verdict, values_verdict, effect_verdict, effects_verdict}
use Rattle.lsl_bodies.proofs.Deciding.{Decides, gives_decides, then_decides, the_one_decides, must_decides, test_decides}
use Rattle.lsl_bodies.proofs.Deciding.{entry_decides, decides_as}
use Rattle.lsl_bodies.proofs.NameLemmas.{nearest_is, is_nearest}
use Rattle.lsl_bodies.proofs.TableLemmas.{constant_of-some, constant_of-named, builtin_of-some, builtin_of-named}

-- a variable is found exactly if the name refers to it
pub variable_of-some : (s : ScopeView) (name : List ℕ) (v : VariableOf) → variable_of s name ≡ Some v
    → IsVariable s name v
variable_of-some s name v h = go (nearest name s.names) refl h
  where
    go : (o : Option ℕ) → nearest name s.names ≡ o → option_and_then (slice_get s.variables) o ≡ Some v
        → IsVariable s name v
    go None e f = absurd (cc)
    go (Some n) e f = (n, nearest_is name s.names n e, f)

pub is_variable-of : (s : ScopeView) (name : List ℕ) (v : VariableOf) → IsVariable s name v
    → variable_of s name ≡ Some v
is_variable-of s name v h = ap (λ (o : Option ℕ). option_and_then (slice_get s.variables) o)
    (is_nearest name s.names h.0 h.1) ∙ h.2

-- what a name refers to
abbrev target_option : Option VariableOf → Option ConstantId → Option Target
target_option (Some v) k = Some (Kept v)
target_option None k = constant_target k

target_same : (o : Option VariableOf) (x : Name)
    → target_by o x ≡ the_one_verdict (target_option o (constant_of (spelled x))) (at UnknownName x.span)
target_same (Some v) x = refl
target_same None x = refl

target_some : (s : ScopeView) (x : Name) (o : Option VariableOf) (k : Option ConstantId)
    → variable_of s (spelled x) ≡ o → constant_of (spelled x) ≡ k
    → (t : Target) → target_option o k ≡ Some t → IsTarget s x t
target_some s x (Some v) k ev ek t h = let same : Kept v ≡ t = cc in
    subst (IsTarget s x) same (variable_of-some s (spelled x) v ev)
target_some s x None None ev ek t h = absurd (cc)
target_some s x None (Some id) ev ek t h =
    let same : Fixed id ≡ t = cc in
    subst (IsTarget s x) same (
      (λ v iv. let e : None ≡ Some v = sym ev ∙ is_variable-of s (spelled x) v iv in
          cc),
      constant_of-some (spelled x) id ek,
    )

target_found : (s : ScopeView) (x : Name) (o : Option VariableOf) (k : Option ConstantId)
    → variable_of s (spelled x) ≡ o → constant_of (spelled x) ≡ k
    → (t : Target) → IsTarget s x t → target_option o k ≡ Some t
target_found s x o k ev ek (Kept v) h = ap (λ (z : Option VariableOf). target_option z k)
    (sym ev ∙ is_variable-of s (spelled x) v h)
target_found s x None k ev ek (Fixed id) h = ap constant_target (sym ek ∙ constant_of-named (spelled x) id h.1)
target_found s x (Some v) k ev ek (Fixed id) h = absurd (h.0 v (variable_of-some s (spelled x) v ev))

pub target_decides : (s : ScopeView) (x : Name) → Decides (target s x) (target_verdict s x)
target_decides s x =
    let o = variable_of s (spelled x) in
    let k = constant_of (spelled x) in
    decides_as (target s x) (target_verdict s x) (the_one_verdict (target_option o k) (at UnknownName x.span))
    (target_same o x)
    (the_one_decides (IsTarget s x) (at UnknownName x.span) (target_option o k) (target_some s x o k refl refl)
    (target_found s x o k refl refl))

abbrev kept_option : Target → Option VariableOf
kept_option (Kept v) = Some v
kept_option (Fixed id) = None

variable_same : (t : Target) (x : Name) → variable_verdict t x ≡ the_one_verdict (kept_option t) (at NotVariable x.span)
variable_same (Kept v) x = refl
variable_same (Fixed id) x = refl

kept_some : (t : Target) (v : VariableOf) → kept_option t ≡ Some v → KeepsVariable t v
kept_some (Kept w) v h = let e : w ≡ v = cc in ap Kept e
kept_some (Fixed id) v h = absurd (cc)

pub variable_decides : (t : Target) (x : Name) → Decides (variable t x) (variable_verdict t x)
variable_decides t x = decides_as (variable t x) (variable_verdict t x)
    (the_one_verdict (kept_option t) (at NotVariable x.span)) (variable_same t x)
    (the_one_decides (KeepsVariable t) (at NotVariable x.span) (kept_option t) (kept_some t) (λ v h. ap kept_option h))

abbrev counter_kind : Kind → Place → Option Place
counter_kind Int p = Some p
counter_kind Str p = None
counter_kind Key p = None
counter_kind ListKind p = None

abbrev counter_option : Target → Option Place
counter_option (Kept v) = counter_kind v.kind v.place
counter_option (Fixed id) = None

counter_kind_same : (k : Kind) (p : Place) (x : Name)
    → place_by (is_int k) p x ≡ the_one_verdict (counter_kind k p) (at NotVariable x.span)
counter_kind_same Int p x = refl
counter_kind_same Str p x = refl
counter_kind_same Key p x = refl
counter_kind_same ListKind p x = refl

counter_same : (t : Target) (x : Name) → counter_verdict t x
    ≡ the_one_verdict (counter_option t) (at NotVariable x.span)
counter_same (Kept v) x = counter_kind_same v.kind v.place x
counter_same (Fixed id) x = refl

counter_kind_some : (k : Kind) (p q : Place) → counter_kind k p ≡ Some q → (k ≡ Int) × (p ≡ q)
counter_kind_some Int p q h = (refl, cc)
counter_kind_some Str p q h = absurd (cc)
counter_kind_some Key p q h = absurd (cc)
counter_kind_some ListKind p q h = absurd (cc)

abbrev kept_at : Place → Kind → Target
kept_at q k = Kept (record { place = q; kind = k })

counter_some : (t : Target) (p : Place) → counter_option t ≡ Some p → IsCounter t p
counter_some (Kept v) p h = let e = counter_kind_some v.kind v.place p h in
    ap (λ (q : Place). kept_at q v.kind) e.1 ∙ ap (λ (k : Kind). kept_at p k) e.0
counter_some (Fixed id) p h = absurd (cc)

pub counter_decides : (t : Target) (x : Name) → Decides (counter t x) (counter_verdict t x)
counter_decides t x = decides_as (counter t x) (counter_verdict t x)
    (the_one_verdict (counter_option t) (at NotVariable x.span)) (counter_same t x)
    (the_one_decides (IsCounter t) (at NotVariable x.span) (counter_option t) (counter_some t)
    (λ p h. ap counter_option h))

pub become_decides : (k : Kind) (t : Node) (span : Span) → Decides (become k t span) (become_verdict k t span)
become_decides k t span = entry_decides (as_kind k t) (at (WrongKind (Some k) (Some (node_kind_of t))) span)

argument_decides : (o : Option Kind) (t : Node) (span : Span) → Decides (argument o t span) (argument_verdict o t span)
argument_decides None t span = gives_decides t
argument_decides (Some k) t span = become_decides k t span

arguments_decides : (params : List Kind) (es : Exprs) (ts : Nodes)
    → Decides (arguments params es ts) (arguments_verdict params es ts)
arguments_decides params NoExpr ts = gives_decides NoNode
arguments_decides params (AndExpr es e) NoNode = gives_decides NoNode
arguments_decides params (AndExpr es e) (AndNode ts t) =
    then_decides (arguments params es ts) _ (arguments_verdict params es ts) _ (arguments_decides params es ts)
    (λ before.
    then_decides (argument (slice_get params (argument_count ts)) t (first_span e)) _
    (argument_verdict (slice_get params (argument_count ts)) t (first_span e)) _
    (argument_decides (slice_get params (argument_count ts)) t (first_span e)) (λ last.
    gives_decides (AndNode before last)))

flat_decides : (es : Exprs) (ts : Nodes) → Decides (flat es ts) (flat_verdict es ts)
flat_decides NoExpr ts = gives_decides tt
flat_decides (AndExpr es e) NoNode = gives_decides tt
flat_decides (AndExpr es e) (AndNode ts t) =
    then_decides (flat es ts) _ (flat_verdict es ts) _ (flat_decides es ts)
    (λ before. test_decides (at (WrongKind None (Some ListKind)) (first_span e))
    (is_no_list (node_kind_of t)))

counted_decides : (c : Calling) (ts : Nodes) (x : Name) → Decides (counted c ts x) (counted_verdict c ts x)
counted_decides c ts x = must_decides (argument_count ts ≡ length c.signature.params) (at WrongCount x.span)
    (nat_eq (argument_count ts) (length c.signature.params))
    (λ h. eqb_same _ _ h) (λ h. eq-eqb _ _ h)
  where
    eqb_same : (m n : ℕ) → nat_eq m n ≡ true → m ≡ n
    eqb_same m n h = grind (arith, nat_tests)

pub is_kind_true : (o : Option Kind) (k : Kind) → is_kind o k ≡ true → o ≡ Some k
is_kind_true None k h = absurd (cc)
is_kind_true (Some Int) Int h = refl
is_kind_true (Some Int) Str h = absurd (cc)
is_kind_true (Some Int) Key h = absurd (cc)
is_kind_true (Some Int) ListKind h = absurd (cc)
is_kind_true (Some Str) Int h = absurd (cc)
is_kind_true (Some Str) Str h = refl
is_kind_true (Some Str) Key h = absurd (cc)
is_kind_true (Some Str) ListKind h = absurd (cc)
is_kind_true (Some Key) Int h = absurd (cc)
is_kind_true (Some Key) Str h = absurd (cc)
is_kind_true (Some Key) Key h = refl
is_kind_true (Some Key) ListKind h = absurd (cc)
is_kind_true (Some ListKind) Int h = absurd (cc)
is_kind_true (Some ListKind) Str h = absurd (cc)
is_kind_true (Some ListKind) Key h = absurd (cc)
is_kind_true (Some ListKind) ListKind h = refl

pub is_kind_same : (k : Kind) → is_kind (Some k) k ≡ true
is_kind_same Int = refl
is_kind_same Str = refl
is_kind_same Key = refl
is_kind_same ListKind = refl

compound_decides : (op : BinaryOp) (v : VariableOf) (t : Node) (sign : Span)
    → Decides (compound op v t sign) (compound_verdict op v t sign)
compound_decides op v t sign =
    then_decides _ _ (must_verdict (is_kind (result_kind_of op v.kind (node_kind_of t)) v.kind) (at NoOperator sign)) _
    (must_decides (result_kind_of op v.kind (node_kind_of t) ≡ Some v.kind) (at NoOperator sign)
    (is_kind (result_kind_of op v.kind (node_kind_of t)) v.kind)
    (is_kind_true (result_kind_of op v.kind (node_kind_of t)) v.kind)
    (λ h. ap (λ (o : Option Kind). is_kind o v.kind) h ∙ is_kind_same v.kind))
    (λ row. gives_decides (node.Assign v.place v.kind (node.Binary op v.kind (node.Variable v.place v.kind) t)))

assigned_decides : (o : Option BinaryOp) (v : VariableOf) (t : Node) (sign first : Span)
    → Decides (assigned o v t sign first) (assigned_verdict o v t sign first)
assigned_decides None v t sign first = then_decides (become v.kind t first) _ (become_verdict v.kind t first) _
    (become_decides v.kind t first) (λ w. gives_decides (node.Assign v.place v.kind w))
assigned_decides (Some op) v t sign first = compound_decides op v t sign

stored_decides : (t : Target) (x : Name) (op : AssignOp) (sign : Span) (w : Node) (first : Span)
    → Decides (stored t x op sign w first) (stored_verdict t x op sign w first)
stored_decides t x op sign w first = then_decides (variable t x) _ (variable_verdict t x) _
    (variable_decides t x) (λ v. assigned_decides (operator_before op) v w sign first)

abbrev callable_option : Option Calling → Name → Option Calling
callable_option (Some c) x = Some c
callable_option None x = builtin_called_of (spelled x)

callable_same : (o : Option Calling) (x : Name)
    → callable_by o x ≡ the_one_verdict (callable_option o x) (at UnknownName x.span)
callable_same (Some c) x = refl
callable_same None x = refl

abbrev called_function : ℕ → Signature → Calling
called_function n s = record { callee = Function n; signature = s }

same_call : (a b : Calling) → Some a ≡ Some b → a ≡ b
same_call a b e = cc

signature_is : (known : KnownView) (name : List ℕ) (c : Calling) (n : ℕ) → nearest name known.functions ≡ Some n
    → (o : Option Signature) → slice_get known.signatures n ≡ o
    → option_map (called_function n) o ≡ Some c → (number : ℕ) × IsFunction known name number c.signature
    × (c.callee ≡ Function number)
signature_is known name c n e None es f = absurd (cc)
signature_is known name c n e (Some s) es f =
    let same = same_call (called_function n s) c f in (
      n,
      (nearest_is name known.functions n e, es ∙ ap (λ (k : Calling). Some k.signature) same),
      sym
          (ap (λ (k : Calling). k.callee) same),
    )

number_is : (known : KnownView) (name : List ℕ) (c : Calling) (o : Option ℕ) → nearest name known.functions ≡ o
    → option_and_then (function_of known) o ≡ Some c
    → (number : ℕ) × IsFunction known name number c.signature × (c.callee ≡ Function number)
number_is known name c None e f = absurd (cc)
number_is known name c (Some n) e f = signature_is known name c n e (slice_get known.signatures n) refl f

function_found : (known : KnownView) (name : List ℕ) (n : ℕ) (s : Signature) → IsFunction known name n s
    → option_and_then (function_of known) (nearest name known.functions) ≡ Some (called_function n s)
function_found known name n s h =
    ap (λ (o : Option ℕ). option_and_then (function_of known) o) (is_nearest name known.functions n h.0)
    ∙ ap (λ (o : Option Signature). option_map (called_function n) o) h.1

abbrev called_builtin : BuiltinId → Calling
called_builtin id = record { callee = Builtin id; signature = record { params = params_of id; result = result_of id } }

builtin_is : (name : List ℕ) (c : Calling) (o : Option BuiltinId) → builtin_of name ≡ o
    → option_map called_builtin o ≡ Some c
    → (id : BuiltinId) × IsBuiltin name id × (c ≡ called_builtin id)
builtin_is name c None e f = absurd (cc)
builtin_is name c (Some id) e f = (id, builtin_of-some name id e, sym (same_call (called_builtin id) c f))

callable_some : (known : KnownView) (x : Name) (o : Option Calling)
    → option_and_then (function_of known) (nearest (spelled x) known.functions) ≡ o
    → (c : Calling) → callable_option o x ≡ Some c → IsCallable known (spelled x) c
callable_some known x (Some d) e c h = inl
    (number_is known (spelled x) c (nearest (spelled x) known.functions) refl (e ∙ h))
callable_some known x None e c h =
    inr (
      (λ number s f. let both : None ≡ Some (called_function number s) =
          sym e ∙ function_found known (spelled x) number s f in cc),
      builtin_is (spelled x) c
          (builtin_of (spelled x)) refl h,
    )

callable_found : (known : KnownView) (x : Name) (o : Option Calling)
    → option_and_then (function_of known) (nearest (spelled x) known.functions) ≡ o
    → (c : Calling) → IsCallable known (spelled x) c → callable_option o x ≡ Some c
callable_found known x o e c (inl (number, f, callee)) =
    let there = sym e ∙ function_found known (spelled x) number c.signature f in
    ap (λ (z : Option Calling). callable_option z x) there
    ∙ ap (λ (k : Callee). Some (let d : Calling = record { callee = k; signature = c.signature } in d))
    (sym callee)
callable_found known x None e c (inr (never, (id, named, same))) =
    ap (λ (z : Option BuiltinId). option_map called_builtin z) (builtin_of-named (spelled x) id named)
    ∙ ap Some (sym same)
callable_found known x (Some d) e c (inr (never, other)) =
    let f = number_is known (spelled x) d (nearest (spelled x) known.functions) refl e in
    absurd (never f.0 d.signature f.1)

pub callable_decides : (known : KnownView) (x : Name) → Decides (callable known x) (callable_verdict known x)
callable_decides known x =
    let o = option_and_then (function_of known) (nearest (spelled x) known.functions) in
    decides_as (callable known x) (callable_verdict known x)
    (the_one_verdict (callable_option o x) (at UnknownName x.span)) (callable_same o x)
    (the_one_decides (IsCallable known (spelled x)) (at UnknownName x.span) (callable_option o x)
    (callable_some known x o refl) (callable_found known x o refl))

call_value_decides : (c : Calling) (x : Name) (es : Exprs) (ts : Nodes)
    → Decides (call_value c x es ts) (call_value_verdict c x es ts)
call_value_decides c x es ts =
    then_decides (counted c ts x) _ (counted_verdict c ts x) _ (counted_decides c ts x) (λ count.
    then_decides _ _ (the_one_verdict c.signature.result (at VoidUsed x.span)) _
    (entry_decides c.signature.result (at VoidUsed x.span)) (λ kind.
    then_decides (arguments c.signature.params es ts) _ (arguments_verdict c.signature.params es ts) _
    (arguments_decides c.signature.params es ts) (λ all.
    gives_decides (node.Call c.callee kind x.span.line all))))

call_effect_decides : (c : Calling) (x : Name) (es : Exprs) (ts : Nodes)
    → Decides (call_effect c x es ts) (call_effect_verdict c x es ts)
call_effect_decides c x es ts =
    then_decides (counted c ts x) _ (counted_verdict c ts x) _ (counted_decides c ts x) (λ count.
    then_decides (arguments c.signature.params es ts) _ (arguments_verdict c.signature.params es ts) _
    (arguments_decides c.signature.params es ts) (λ all.
    gives_decides (effect_of_call c x.span.line all)))

mutual
  pub value_decides : (known : KnownView) (s : ScopeView) (e : Expr)
      → Decides (value known s e) (value_verdict known s e)
  value_decides known s (expr.Int n span) = gives_decides (node.Int n)
  value_decides known s (expr.Str text span) = gives_decides (node.Str text)
  value_decides known s (expr.Variable x) =
      then_decides (target s x) _ (target_verdict s x) _ (target_decides s x) (λ t. gives_decides (read_of t))
  value_decides known s (expr.StepBehind x op) =
      then_decides (target s x) _ (target_verdict s x) _ (target_decides s x)
      (λ t. then_decides (counter t x) _ (counter_verdict t x) _ (counter_decides t x)
      (λ p. gives_decides (node.StepBehind p op)))
  value_decides known s (expr.StepBefore op span x) =
      then_decides (target s x) _ (target_verdict s x) _ (target_decides s x)
      (λ t. then_decides (counter t x) _ (counter_verdict t x) _ (counter_decides t x)
      (λ p. gives_decides (steps_of p op)))
  value_decides known s (expr.Call x es) =
      then_decides (values known s es) _ (values_verdict known s es) _ (values_decides known s es) (λ ts.
      then_decides (callable known x) _ (callable_verdict known x) _ (callable_decides known x)
      (λ c. call_value_decides c x es ts))
  value_decides known s (expr.ListLiteral span es) =
      then_decides (values known s es) _ (values_verdict known s es) _ (values_decides known s es) (λ ts.
      then_decides (flat es ts) _ (flat_verdict es ts) _ (flat_decides es ts)
      (λ u. gives_decides (node.ListLiteral ts)))
  value_decides known s (expr.Parens span e) = value_decides known s e
  value_decides known s (expr.Cast span kind e) =
      then_decides (value known s e) _ (value_verdict known s e) _ (value_decides known s e) (λ t.
      then_decides _ _ (must_verdict (casts_of (node_kind_of t) kind) (at NoCast span)) _
      (test_decides (at NoCast span) (casts_of (node_kind_of t) kind))
      (λ row. gives_decides (node.Cast kind t)))
  value_decides known s (expr.Unary op span e) =
      then_decides (value known s e) _ (value_verdict known s e) _ (value_decides known s e) (λ t.
      then_decides _ _ (must_verdict (is_int (node_kind_of t)) (at NoOperator span)) _
      (test_decides (at NoOperator span) (is_int (node_kind_of t)))
      (λ row. gives_decides (node.Unary op t)))
  value_decides known s (expr.Binary op span a b) =
      then_decides (value known s a) _ (value_verdict known s a) _ (value_decides known s a) (λ left.
      then_decides (value known s b) _ (value_verdict known s b) _ (value_decides known s b) (λ right.
      then_decides _ _ (the_one_verdict (result_kind_of op (node_kind_of left) (node_kind_of right))
      (at NoOperator span)) _ (entry_decides (result_kind_of op (node_kind_of left) (node_kind_of right))
      (at NoOperator span)) (λ kind.
      gives_decides (node.Binary op kind left right))))
  value_decides known s (expr.Assign x op span e) =
      then_decides (target s x) _ (target_verdict s x) _ (target_decides s x) (λ t.
      then_decides (value known s e) _ (value_verdict known s e) _ (value_decides known s e)
      (λ right. stored_decides t x op span right (first_span e)))

  pub values_decides : (known : KnownView) (s : ScopeView) (es : Exprs)
      → Decides (values known s es) (values_verdict known s es)
  values_decides known s NoExpr = gives_decides NoNode
  values_decides known s (AndExpr es e) =
      then_decides (values known s es) _ (values_verdict known s es) _ (values_decides known s es) (λ before.
      then_decides (value known s e) _ (value_verdict known s e) _ (value_decides known s e)
      (λ last. gives_decides (AndNode before last)))

valued_decides : (known : KnownView) (s : ScopeView) (e : Expr)
    → Decides (rule.◌>>=◌ (value known s e) (λ t. gives (Value t))) (value_verdict known s e >>= λ t. Ok (Value t))
valued_decides known s e = then_decides (value known s e) _ (value_verdict known s e) _
    (value_decides known s e) (λ t. gives_decides (Value t))

pub effect_decides : (known : KnownView) (s : ScopeView) (e : Expr)
    → Decides (effect known s e) (effect_verdict known s e)
effect_decides known s (expr.Parens span e) = effect_decides known s e
effect_decides known s (expr.Call x es) =
    then_decides (values known s es) _ (values_verdict known s es) _ (values_decides known s es) (λ ts.
    then_decides (callable known x) _ (callable_verdict known x) _ (callable_decides known x)
    (λ c. call_effect_decides c x es ts))
effect_decides known s (expr.Int n span) = valued_decides known s (expr.Int n span)
effect_decides known s (expr.Str text span) = valued_decides known s (expr.Str text span)
effect_decides known s (expr.Variable x) = valued_decides known s (expr.Variable x)
effect_decides known s (expr.StepBehind x op) = valued_decides known s (expr.StepBehind x op)
effect_decides known s (expr.StepBefore op span x) = valued_decides known s (expr.StepBefore op span x)
effect_decides known s (expr.ListLiteral span es) = valued_decides known s (expr.ListLiteral span es)
effect_decides known s (expr.Cast span kind e) = valued_decides known s (expr.Cast span kind e)
effect_decides known s (expr.Unary op span e) = valued_decides known s (expr.Unary op span e)
effect_decides known s (expr.Binary op span a b) = valued_decides known s (expr.Binary op span a b)
effect_decides known s (expr.Assign x op span e) = valued_decides known s (expr.Assign x op span e)

pub effects_decides : (known : KnownView) (s : ScopeView) (es : Exprs)
    → Decides (effects known s es) (effects_verdict known s es)
effects_decides known s NoExpr = gives_decides []
effects_decides known s (AndExpr es e) =
    then_decides (effects known s es) _ (effects_verdict known s es) _ (effects_decides known s es) (λ before.
    then_decides (effect known s e) _ (effect_verdict known s e) _ (effect_decides known s e)
    (λ last. gives_decides (before ++ last ∷ [])))
