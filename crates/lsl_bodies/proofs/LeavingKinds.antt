-- A change of state names a state, and a returned value has its routine's kind.
use Rattle.std.proofs.Common.{◌≡◌, ℕ, ◌+◌, ◌<◌, Option, Some, None, refl, sym, ap, ◌∙◌, arith}
use Rattle.std.specs.Option.{option_map}
use Rattle.lsl_text.specs.declared.Span.{Span}
use Rattle.lsl_value.specs.declared.tagged.Kind.{Kind}
use Rattle.lsl_tree.specs.declared.expression.Name.{Name}
use Rattle.lsl_tree.specs.declared.statement.StateName.{StateName}
use Rattle.lsl_tree.specs.declared.statement.StateName.TheVariants.{Default, Named}
use Rattle.lsl_tree.specs.Expressions.{Expr}
use Rattle.lsl_tree.specs.Nodes.{Node, node_kind_of}
use Rattle.lsl_tree.specs.Actions.{Action}
use Rattle.lsl_tree.specs.Kinded.{IsKindedAction}
use Rattle.lsl_bodies.specs.declared.faults.TypeKind.TheVariants.{UnknownName, WrongKind}
use Rattle.lsl_bodies.specs.declared.frame.Home.{Home}
use Rattle.lsl_bodies.specs.declared.frame.Home.TheVariants.{Handler, Function}
use Rattle.lsl_bodies.specs.Names.{nearest}
use Rattle.lsl_bodies.specs.Scope.{ScopeView, spelled}
use Rattle.lsl_bodies.specs.Spans.{first_span}
use Rattle.lsl_bodies.specs.ActionForms.{home_kind}
use Rattle.lsl_bodies.specs.Judgement.{at}
use Rattle.lsl_bodies.specs.ActionVerdicts.{named_state_verdict, change_verdict, returned_nothing_verdict}
use Rattle.lsl_bodies.specs.ActionVerdicts.{returned_value_verdict, returned_verdict}
use Rattle.lsl_bodies.proofs.NameLemmas.{nearest-within}
use Rattle.lsl_bodies.proofs.Yielding.{Yields, gives_yields, faulty_yields, then_yields, weaker_yields}
use Rattle.lsl_bodies.proofs.Yielding.{the_one_yields, entry_yields}
use Rattle.lsl_bodies.proofs.KindSettings.{Setting, scope_in}
use Rattle.lsl_bodies.proofs.CallKinds.{NodeIn, become_kind}
use Rattle.lsl_bodies.proofs.ValueKinds.{Once, value_kind}

abbrev pub ActionIn : Setting → Action → Type 0
ActionIn c a = IsKindedAction (scope_in c) a

module _ (c : Setting) where
  -- states
  abbrev IsState : ℕ → Type 0
  IsState n = n < (scope_in c).states

  state_below : (x : Name) (o : Option ℕ) (n : ℕ) → nearest (spelled x) c.known.states ≡ o
      → option_map (λ before. before + 1) o ≡ Some n → IsState n
  state_below x None n e h = absurd (cc)
  state_below x (Some b) n e h =
      let same : b + 1 ≡ n = cc in
      omega (arith, nearest-within (spelled x) c.known.states b e, same)

  named_state_yields : (name : StateName) → Yields IsState (named_state_verdict c.known name)
  named_state_yields Default = gives_yields (omega arith)
  named_state_yields (Named x) =
      let number = option_map (λ before. before + 1) (nearest (spelled x) c.known.states) in
      the_one_yields number (at UnknownName x.span)
      (λ n e. state_below x (nearest (spelled x) c.known.states) n refl e)

  pub change_yields : (home : Home) (span : Span) (name : StateName)
      → Yields (ActionIn c) (change_verdict c.known home span name)
  change_yields Handler span name =
      then_yields (named_state_yields name) (λ n h. gives_yields h)
  change_yields (Function kind) span name = faulty_yields

  -- returns
  nothing_yields : (o : Option Kind) (span : Span) → home_kind c.home ≡ o
      → Yields (ActionIn c) (returned_nothing_verdict o span)
  nothing_yields None span e = gives_yields e
  nothing_yields (Some kind) span e = faulty_yields

  value_returned : (span : Span) (t : Node) (first : Span) → NodeIn c t
      → Yields (ActionIn c) (returned_value_verdict c.home span t first)
  value_returned span t first n =
      let result = home_kind c.home in
      let fault = at (WrongKind None (Some (node_kind_of t))) span in
      then_yields (entry_yields result fault) (λ kind k.
      then_yields (become_kind c kind t first n) (λ u m.
      gives_yields (k ∙ ap Some (sym m.0), m.1)))

  pub returned_yields : (s : ScopeView) (span : Span) (v : Option Expr)
      → Yields (Once c s (ActionIn c)) (returned_verdict c.known c.home s span v)
  returned_yields s span None =
      weaker_yields (nothing_yields (home_kind c.home) span refl) (λ a h have. h)
  returned_yields s span (Some e) =
      then_yields (value_kind c s e) (λ t n. record {
        ok = λ a is have. (value_returned span t (first_span e) (n have)).ok a is;
      })
