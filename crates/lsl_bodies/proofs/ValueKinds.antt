-- The values of checked expressions have the kinds that their places want.
use Rattle.std.proofs.Common.{Option, Some, None, refl, arith}
use Rattle.std.specs.Prelude.{Ok, All}
use Rattle.std.proofs.lemmas.List.Elements.{All-nil, All-cons, All-push}
use Rattle.lsl_text.specs.declared.Span.{Span}
use Rattle.lsl_value.specs.declared.operators.BinaryOp.{BinaryOp}
use Rattle.lsl_value.specs.declared.operators.UnaryOp.{UnaryOp}
use Rattle.lsl_value.specs.declared.tagged.Kind.{Kind}
use Rattle.lsl_value.specs.declared.tagged.Kind.TheVariants.{List as ListKind}
use Rattle.lsl_value.specs.OperatorRows.{result_kind_of, casts_of}
use Rattle.lsl_tree.specs.declared.expression.Name.{Name}
use Rattle.lsl_tree.specs.declared.expression.AssignOp.{AssignOp}
use Rattle.lsl_tree.specs.Expressions as expr
use Rattle.lsl_tree.specs.Expressions.{Expr, Exprs, NoExpr, AndExpr}
use Rattle.lsl_tree.specs.Nodes.{Node, Nodes, NoNode, AndNode, node_kind_of, stack_of}
use Rattle.lsl_tree.specs.Effects as effect
use Rattle.lsl_tree.specs.Effects.{Effect}
use Rattle.lsl_tree.specs.Kinded.{IsElement}
use Rattle.lsl_bodies.specs.declared.faults.TypeKind.TheVariants.{WrongKind, NoOperator, NoCast}
use Rattle.lsl_bodies.specs.declared.frame.Variable.{Variable as VariableOf}
use Rattle.lsl_bodies.specs.declared.frame.Target.{Target}
use Rattle.lsl_bodies.specs.Scope.{ScopeView}
use Rattle.lsl_bodies.specs.Conversions.{is_int, is_no_list, operator_before}
use Rattle.lsl_bodies.specs.Sameness.{is_kind}
use Rattle.lsl_bodies.specs.Spans.{first_span}
use Rattle.lsl_bodies.specs.Judgement.{at}
use Rattle.lsl_bodies.specs.Verdict.{◌>>=◌}
use Rattle.lsl_bodies.specs.VariableVerdicts.{assigned_verdict, stored_verdict}
use Rattle.lsl_bodies.specs.ValueVerdicts.{flat_verdict, converted_verdict, prefixed_verdict, joined_verdict}
use Rattle.lsl_bodies.specs.ValueVerdicts.{listed_verdict, value_verdict, values_verdict, effect_verdict}
use Rattle.lsl_bodies.specs.ValueVerdicts.{effects_verdict}
use Rattle.lsl_bodies.proofs.RuleLemmas.{is_kind_true}
use Rattle.lsl_bodies.proofs.Yielding.{Yields, gives_yields, then_yields, weaker_yields, entry_yields, must_yields}
use Rattle.lsl_bodies.proofs.FitLemmas.{is_int-int, is_no_list-apart}
use Rattle.lsl_bodies.proofs.KindSettings.{Setting, HasKind, HaveKinds}
use Rattle.lsl_bodies.proofs.CallKinds.{NodeIn, EffectIn, NodesFor, become_kind, callable_yields, call_value_yields}
use Rattle.lsl_bodies.proofs.CallKinds.{call_effect_yields}
use Rattle.lsl_bodies.proofs.VariableKinds.{TargetIn, target_yields, variable_yields, read_yields, behind_yields}
use Rattle.lsl_bodies.proofs.VariableKinds.{before_yields}

-- the variables in sight have their kinds
module _ (c : Setting) (s : ScopeView) (have : HaveKinds c s.variables) where
  converted_yields : (span : Span) (kind : Kind) (t : Node) → NodeIn c t
      → Yields (NodeIn c) (converted_verdict span kind t)
  converted_yields span kind t n =
      let row = casts_of (node_kind_of t) kind in
      then_yields (must_yields row (at NoCast span)) (λ u e.
      gives_yields (e, n))

  prefixed_yields : (op : UnaryOp) (span : Span) (t : Node) → NodeIn c t
      → Yields (NodeIn c) (prefixed_verdict op span t)
  prefixed_yields op span t n =
      let row = is_int (node_kind_of t) in
      then_yields (must_yields row (at NoOperator span)) (λ u e.
      gives_yields (is_int-int (node_kind_of t) e, n))

  joined_yields : (op : BinaryOp) (span : Span) (a b : Node) → NodeIn c a → NodeIn c b
      → Yields (NodeIn c) (joined_verdict op span a b)
  joined_yields op span a b n m =
      let row = result_kind_of op (node_kind_of a) (node_kind_of b) in
      then_yields (entry_yields row (at NoOperator span)) (λ kind k.
      gives_yields (k, n, m))

  flat_yields : (es : Exprs) (ts : Nodes) → NodesFor c es ts
      → Yields (λ u. All IsElement (stack_of ts)) (flat_verdict es ts)
  flat_yields NoExpr NoNode n = gives_yields (All-nil IsElement)
  flat_yields NoExpr (AndNode ts t) n = absurd (omega (arith, n.1))
  flat_yields (AndExpr es e) NoNode n = absurd (omega (arith, n.1))
  flat_yields (AndExpr es e) (AndNode ts t) n =
      let row = is_no_list (node_kind_of t) in
      let fault = at (WrongKind None (Some ListKind)) (first_span e) in
      then_yields (flat_yields es ts (n.0.0, omega (arith, n.1))) (λ before b.
      weaker_yields (must_yields row fault)
      (λ u h. All-cons IsElement (node_kind_of t) (stack_of ts) (is_no_list-apart (node_kind_of t) h) b))

  listed_yields : (es : Exprs) (ts : Nodes) → NodesFor c es ts → Yields (NodeIn c) (listed_verdict es ts)
  listed_yields es ts n =
      then_yields (flat_yields es ts n) (λ u h.
      gives_yields (h, n.0))

  assigned_yields : (o : Option BinaryOp) (v : VariableOf) (t : Node) (sign first : Span) → HasKind c v → NodeIn c t
      → Yields (NodeIn c) (assigned_verdict o v t sign first)
  assigned_yields None v t sign first h n =
      then_yields (become_kind c v.kind t first n) (λ u m.
      gives_yields (h, m.0, m.1))
  assigned_yields (Some op) v t sign first h n =
      let row = result_kind_of op v.kind (node_kind_of t) in
      then_yields (must_yields (is_kind row v.kind) (at NoOperator sign)) (λ u e.
      gives_yields (h, refl, (is_kind_true row v.kind e, h, n)))

  stored_yields : (t : Target) (x : Name) (op : AssignOp) (span : Span) (right : Node) (first : Span) → TargetIn c t
      → NodeIn c right
      → Yields (NodeIn c) (stored_verdict t x op span right first)
  stored_yields t x op span right first h n =
      then_yields (variable_yields c s have t x h) (λ v k.
      assigned_yields (operator_before op) v right span first k n)

  mutual
    value_yields : (e : Expr) → Yields (NodeIn c) (value_verdict c.known s e)
    value_yields (expr.Int n span) = gives_yields tt
    value_yields (expr.Str text span) = gives_yields tt
    value_yields (expr.Variable x) = read_yields c s have x
    value_yields (expr.StepBehind x op) = behind_yields c s have x op
    value_yields (expr.StepBefore op span x) = before_yields c s have x op
    value_yields (expr.Call x es) =
        then_yields (values_yield es) (λ ts n.
        then_yields (callable_yields c x) (λ call k. call_value_yields c call x es ts k n))
    value_yields (expr.ListLiteral span es) = then_yields (values_yield es) (λ ts n. listed_yields es ts n)
    value_yields (expr.Parens span e) = value_yields e
    value_yields (expr.Cast span kind e) = then_yields (value_yields e) (λ t n. converted_yields span kind t n)
    value_yields (expr.Unary op span e) = then_yields (value_yields e) (λ t n. prefixed_yields op span t n)
    value_yields (expr.Binary op span a b) =
        then_yields (value_yields a) (λ t n.
        then_yields (value_yields b) (λ u m. joined_yields op span t u n m))
    value_yields (expr.Assign x op span e) =
        then_yields (target_yields c s have x) (λ t h.
        then_yields (value_yields e) (λ right n. stored_yields t x op span right (first_span e) h n))

    values_yield : (es : Exprs) → Yields (NodesFor c es) (values_verdict c.known s es)
    values_yield NoExpr = gives_yields (tt, refl)
    values_yield (AndExpr es e) =
        then_yields (values_yield es) (λ before b.
        then_yields (value_yields e) (λ last l.
        gives_yields ((b.0, l), omega (arith, b.1))))

  valued_yields : (e : Expr) → Yields (EffectIn c) (value_verdict c.known s e >>= λ t. Ok (effect.Value t))
  valued_yields e = then_yields (value_yields e) (λ t n. gives_yields n)

  effect_yields : (e : Expr) → Yields (EffectIn c) (effect_verdict c.known s e)
  effect_yields (expr.Parens span e) = effect_yields e
  effect_yields (expr.Call x es) =
      then_yields (values_yield es) (λ ts n.
      then_yields (callable_yields c x) (λ call k. call_effect_yields c call x es ts k n))
  effect_yields (expr.Int n span) = valued_yields (expr.Int n span)
  effect_yields (expr.Str text span) = valued_yields (expr.Str text span)
  effect_yields (expr.Variable x) = valued_yields (expr.Variable x)
  effect_yields (expr.StepBehind x op) = valued_yields (expr.StepBehind x op)
  effect_yields (expr.StepBefore op span x) = valued_yields (expr.StepBefore op span x)
  effect_yields (expr.ListLiteral span es) = valued_yields (expr.ListLiteral span es)
  effect_yields (expr.Cast span kind e) = valued_yields (expr.Cast span kind e)
  effect_yields (expr.Unary op span e) = valued_yields (expr.Unary op span e)
  effect_yields (expr.Binary op span a b) = valued_yields (expr.Binary op span a b)
  effect_yields (expr.Assign x op span e) = valued_yields (expr.Assign x op span e)

  effects_yield : (es : Exprs) → Yields (All (EffectIn c)) (effects_verdict c.known s es)
  effects_yield NoExpr = gives_yields (All-nil (EffectIn c))
  effects_yield (AndExpr es e) =
      then_yields (effects_yield es) (λ before b.
      then_yields (effect_yields e) (λ last l.
      gives_yields (All-push (EffectIn c) before last b l)))

-- what is known once the variables in sight are known to have their kinds
later : {P : Type 0} {T : Type 0} (Q : T → Type 0) (v : _) → (P → Yields Q v) → Yields (λ t. P → Q t) v
later Q v y = record { ok = λ t e p. (y p).ok t e }

abbrev pub Once : {T : Type 0} → Setting → ScopeView → (T → Type 0) → T → Type 0
Once c s Q t = HaveKinds c s.variables → Q t

pub value_kind : (c : Setting) (s : ScopeView) (e : Expr) → Yields (Once c s (NodeIn c)) (value_verdict c.known s e)
value_kind c s e = later (NodeIn c) (value_verdict c.known s e) (λ h. value_yields c s h e)

pub effect_kind : (c : Setting) (s : ScopeView) (e : Expr)
    → Yields (Once c s (EffectIn c)) (effect_verdict c.known s e)
effect_kind c s e = later (EffectIn c) (effect_verdict c.known s e) (λ h. effect_yields c s h e)

pub effects_kind : (c : Setting) (s : ScopeView) (es : Exprs)
    → Yields (Once c s (All (EffectIn c))) (effects_verdict c.known s es)
effects_kind c s es = later (All (EffectIn c)) (effects_verdict c.known s es) (λ h. effects_yield c s h es)
