-- Calls have arguments of their parameters' kinds.
use Rattle.std.proofs.Common.{◌≡◌, ℕ, suc, ◌+◌, ◌<◌, ◌≤◌, true, Option, Some, None, List, [], ◌∷◌, length, take}
use Rattle.std.proofs.Common.{reverse, refl, sym, ap, ◌∙◌, subst, arith, nat_eq, slice_get}
use Rattle.std.specs.Option.{option_and_then, option_map}
use Rattle.std.proofs.lemmas.Bool.Decides.{nat_tests}
use Rattle.std.proofs.lemmas.List.{reverse-append, take_all}
use Rattle.std.proofs.lemmas.Option.{slice_get-get_or}
use Rattle.lsl_text.specs.declared.Span.{Span}
use Rattle.lsl_value.specs.declared.tagged.Kind.{Kind}
use Rattle.lsl_value.specs.declared.tagged.Kind.TheVariants.{Int, Str, Key, List as ListKind}
use Rattle.lsl_value.specs.declared.names.BuiltinId.{BuiltinId}
use Rattle.lsl_tree.specs.declared.expression.Name.{Name}
use Rattle.lsl_tree.specs.declared.program_node.Callee.TheVariants.{Function, Builtin}
use Rattle.lsl_tree.specs.Expressions.{Exprs, NoExpr, AndExpr}
use Rattle.lsl_tree.specs.Nodes as node
use Rattle.lsl_tree.specs.Nodes.{Node, Nodes, NoNode, AndNode, node_kind_of, stack_of}
use Rattle.lsl_tree.specs.Effects.{Effect}
use Rattle.lsl_tree.specs.Shape.{argument_count}
use Rattle.lsl_tree.specs.Signatures.{Signature, callee_signature}
use Rattle.lsl_tree.specs.Kinded.{IsKindedNode, AreKindedNodes, IsKindedEffect, FitsCall}
use Rattle.lsl_bodies.specs.declared.faults.TypeKind.TheVariants.{UnknownName, WrongKind, WrongCount, VoidUsed}
use Rattle.lsl_bodies.specs.Names.{nearest}
use Rattle.lsl_bodies.specs.Scope.{spelled}
use Rattle.lsl_bodies.specs.Known.{Calling, function_of, builtin_called_of}
use Rattle.lsl_bodies.specs.Table.{builtin_of, params_of, result_of}
use Rattle.lsl_bodies.specs.Conversions.{Fit, Same, ByCast, Not, fit_of, fitted, as_kind, empty_node}
use Rattle.lsl_bodies.specs.Spans.{first_span}
use Rattle.lsl_bodies.specs.Judgement.{at}
use Rattle.lsl_bodies.specs.CallRules.{effect_of_call}
use Rattle.lsl_bodies.specs.VariableVerdicts.{become_verdict}
use Rattle.lsl_bodies.specs.CallVerdicts.{callable_by, callable_verdict, argument_verdict, arguments_verdict}
use Rattle.lsl_bodies.specs.CallVerdicts.{counted_verdict, call_value_verdict, call_effect_verdict}
use Rattle.lsl_bodies.proofs.Yielding.{Yields, gives_yields, then_yields, weaker_yields, the_one_yields, entry_yields}
use Rattle.lsl_bodies.proofs.Yielding.{must_yields}
use Rattle.lsl_bodies.proofs.Prefixes.{take_next}
use Rattle.lsl_bodies.proofs.FitLemmas.{Fits, fit_fits}
use Rattle.lsl_bodies.proofs.KindSettings.{Setting, scope_in}

abbrev pub NodeIn : Setting → Node → Type 0
NodeIn c t = IsKindedNode (scope_in c) t

abbrev pub EffectIn : Setting → Effect → Type 0
EffectIn c x = IsKindedEffect (scope_in c) x

-- a node of this kind
abbrev pub NodeOf : Setting → Kind → Node → Type 0
NodeOf c k t = (node_kind_of t ≡ k) × NodeIn c t

abbrev pub size : Exprs → ℕ
size NoExpr = 0
size (AndExpr es e) = size es + 1

-- a node for each expression
abbrev pub NodesFor : Setting → Exprs → Nodes → Type 0
NodesFor c es ts = AreKindedNodes (scope_in c) ts × (argument_count ts ≡ size es)

module _ (c : Setting) where
  fitted_kind : (f : Fit) (k : Kind) (t u : Node) → Fits f (node_kind_of t) k → NodeIn c t → fitted f k t ≡ Some u
      → NodeOf c k u
  fitted_kind Same k t u fits n e = let same : t ≡ u = cc in subst (NodeOf c k) same (fits, n)
  fitted_kind ByCast k t u fits n e = let same : node.Cast k t ≡ u = cc in subst (NodeOf c k) same (refl, (fits.0, n))
  fitted_kind Not k t u fits n e = absurd (cc)

  pub become_kind : (k : Kind) (t : Node) (span : Span) → NodeIn c t → Yields (NodeOf c k) (become_verdict k t span)
  become_kind k t span n =
      the_one_yields (as_kind k t) (at (WrongKind (Some k) (Some (node_kind_of t))) span)
      (λ u e. fitted_kind (fit_of (node_kind_of t) k) k t u (fit_fits (node_kind_of t) k) n e)

  pub empty_kind : (k : Kind) → NodeOf c k (empty_node k)
  empty_kind Int = (refl, tt)
  empty_kind Str = (refl, tt)
  empty_kind Key = (refl, (refl, tt))
  empty_kind ListKind = (refl, (λ k d h. absurd (omega (arith, h)), tt))

  -- what is called has its signature in the scope
  abbrev pub IsKnownCall : Calling → Type 0
  IsKnownCall call = callee_signature (scope_in c).functions call.callee ≡ Some call.signature

  abbrev function_call : ℕ → Signature → Calling
  function_call n s = record { callee = Function n; signature = s }

  abbrev builtin_call : BuiltinId → Calling
  builtin_call id =
      record { callee = Builtin id; signature = record { params = params_of id; result = result_of id } }

  function_known : (n : ℕ) (o : Option Signature) (call : Calling) → slice_get c.known.signatures n ≡ o
      → option_map (function_call n) o ≡ Some call → IsKnownCall call
  function_known n None call e h = absurd (cc)
  function_known n (Some s) call e h =
      let same : function_call n s ≡ call = cc in
      subst IsKnownCall same e

  callable_known : (o : Option ℕ) (call : Calling) → option_and_then (function_of c.known) o ≡ Some call
      → IsKnownCall call
  callable_known None call h = absurd (cc)
  callable_known (Some n) call h = function_known n (slice_get c.known.signatures n) call refl h

  builtin_known : (o : Option BuiltinId) (call : Calling)
      → option_map builtin_call o ≡ Some call → IsKnownCall call
  unfolding params_of result_of
  builtin_known None call h = absurd (cc)
  builtin_known (Some id) call h =
      let same : builtin_call id ≡ call = cc in
      subst IsKnownCall same refl

  pub callable_yields : (x : Name) → Yields IsKnownCall (callable_verdict c.known x)
  callable_yields x = go (option_and_then (function_of c.known) (nearest (spelled x) c.known.functions)) refl
    where
      go : (o : Option Calling) → option_and_then (function_of c.known) (nearest (spelled x) c.known.functions) ≡ o
          → Yields IsKnownCall (callable_by o x)
      go (Some call) e = gives_yields (callable_known (nearest (spelled x) c.known.functions) call e)
      go None e =
          the_one_yields (builtin_called_of (spelled x)) (at UnknownName x.span)
          (builtin_known (builtin_of (spelled x)))

  -- the arguments after each other have the first parameters' kinds
  abbrev HaveParams : List Kind → Exprs → Nodes → Type 0
  HaveParams ps es ts = NodesFor c es ts × (stack_of ts ≡ reverse (take (size es) ps))

  params_next : (ps : List Kind) (n : ℕ) (k : Kind) → slice_get ps n ≡ Some k
      → k ∷ reverse (take n ps) ≡ reverse (take (n + 1) ps)
  params_next ps n k h =
      let next : suc n ≡ n + 1 = omega arith in
      sym (ap (λ m. reverse (take m ps)) (sym next)
      ∙ (ap reverse (take_next ps n k h) ∙ reverse-append (take n ps) (k ∷ [])))

  argument_yields : (ps : List Kind) (n : ℕ) (t : Node) (span : Span) → n < length ps → NodeIn c t
      → Yields (λ u. (slice_get ps n ≡ Some (node_kind_of u)) × NodeIn c u) (argument_verdict (slice_get ps n) t span)
  argument_yields ps n t span lt m = go (slice_get ps n) refl
    where
      go : (o : Option Kind) → slice_get ps n ≡ o
          → Yields (λ u. (slice_get ps n ≡ Some (node_kind_of u)) × NodeIn c u) (argument_verdict o t span)
      go None e = let some : None ≡ Some _ = sym e ∙ slice_get-get_or ps n Int lt in absurd (cc)
      go (Some k) e =
          weaker_yields (become_kind k t span m)
          (λ u h. (e ∙ ap Some (sym h.0), h.1))

  arguments_yield : (ps : List Kind) (es : Exprs) (ts : Nodes) → NodesFor c es ts → size es ≤ length ps
      → Yields (HaveParams ps es) (arguments_verdict ps es ts)
  arguments_yield ps NoExpr ts n le = gives_yields ((tt, refl), refl)
  arguments_yield ps (AndExpr es e) NoNode n le = absurd (omega (arith, n.1))
  arguments_yield ps (AndExpr es e) (AndNode ts t) n le =
      let same : argument_count ts ≡ size es = omega (arith, n.1) in
      then_yields (arguments_yield ps es ts (n.0.0, same) (omega (arith, le))) (λ before b.
      then_yields
      (argument_yields ps (argument_count ts) t (first_span e) (omega (arith, le, same)) n.0.1) (λ last l.
      gives_yields (
        ((b.0.0, l.1), omega (arith, b.0.1)),
        ap (λ l. node_kind_of last ∷ l) b.1
            ∙ params_next ps (size es) (node_kind_of last) (ap (slice_get ps) (sym same) ∙ l.0),
      )))

  eqb_same : (m n : ℕ) → nat_eq m n ≡ true → m ≡ n
  eqb_same m n h = grind (arith, nat_tests)

  abbrev HasCount : Calling → Nodes → Type 0
  HasCount call ts = argument_count ts ≡ length call.signature.params

  counted_yields : (call : Calling) (ts : Nodes) (x : Name)
      → Yields (λ u. HasCount call ts) (counted_verdict call ts x)
  counted_yields call ts x =
      let n = length call.signature.params in
      weaker_yields (must_yields (nat_eq (argument_count ts) n) (at WrongCount x.span))
      (λ u e. eqb_same (argument_count ts) n e)

  -- a call fits what is called
  all_fit : (call : Calling) (es : Exprs) (ts all : Nodes) → IsKnownCall call → HasCount call ts → NodesFor c es ts
      → HaveParams call.signature.params es all
      → FitsCall (scope_in c) call.callee all call.signature.result
  all_fit call es ts all known counted before after =
      let ps = call.signature.params in
      let same : size es ≡ length ps = omega (arith, counted, before.1) in (
        call.signature,
        known,
        ap reverse (sym (take_all (length ps) ps (omega arith))
            ∙ ap (λ n. take n ps) (sym same)) ∙ sym after.1,
        refl,
      )

  pub call_value_yields : (call : Calling) (x : Name) (es : Exprs) (ts : Nodes) → IsKnownCall call
      → NodesFor c es ts → Yields (NodeIn c) (call_value_verdict call x es ts)
  call_value_yields call x es ts known n =
      let result = call.signature.result in
      then_yields (counted_yields call ts x) (λ u count.
      then_yields (entry_yields result (at VoidUsed x.span)) (λ kind k.
      then_yields (arguments_yield call.signature.params es ts n (omega (arith, count, n.1))) (λ all a.
      gives_yields
      (subst (FitsCall (scope_in c) call.callee all) k (all_fit call es ts all known count n a), a.0.0))))

  abbrev with_result : Calling → Option Kind → Calling
  with_result call o =
      record { callee = call.callee; signature = record { params = call.signature.params; result = o } }

  effect_fits : (call : Calling) (o : Option Kind) (line : ℕ) (all : Nodes) → call.signature.result ≡ o
      → FitsCall (scope_in c) call.callee all o → AreKindedNodes (scope_in c) all
      → EffectIn c (effect_of_call (with_result call o) line all)
  effect_fits call None line all e fits n = (fits, n)
  effect_fits call (Some k) line all e fits n = (fits, n)

  pub call_effect_yields : (call : Calling) (x : Name) (es : Exprs) (ts : Nodes) → IsKnownCall call
      → NodesFor c es ts → Yields (EffectIn c) (call_effect_verdict call x es ts)
  call_effect_yields call x es ts known n =
      then_yields (counted_yields call ts x) (λ u count.
      then_yields (arguments_yield call.signature.params es ts n (omega (arith, count, n.1))) (λ all a.
      gives_yields
      (effect_fits call call.signature.result x.span.line all refl (all_fit call es ts all known count n a) a.0.0)))
