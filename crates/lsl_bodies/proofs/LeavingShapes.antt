-- Jumps, changes of state and returns have their shape.
use Rattle.std.proofs.Common.{◌≡◌, ℕ, Option, Some, None, List, refl, ap}
use Rattle.std.specs.Prelude.{is_some}
use Rattle.lsl_text.specs.declared.Span.{Span}
use Rattle.lsl_value.specs.declared.tagged.Kind.{Kind}
use Rattle.lsl_tree.specs.declared.expression.Name.{Name}
use Rattle.lsl_tree.specs.declared.statement.StateName.{StateName}
use Rattle.lsl_tree.specs.Expressions.{Expr}
use Rattle.lsl_tree.specs.Nodes.{node_kind_of}
use Rattle.lsl_tree.specs.Actions.{Action, Actions}
use Rattle.lsl_tree.specs.Shape.{label_of, Outline, IsShapedAction, AreShapedActions}
use Rattle.lsl_bodies.specs.declared.faults.TypeKind.TheVariants.{UnknownLabel, WrongKind}
use Rattle.lsl_bodies.specs.declared.frame.Home.{Home}
use Rattle.lsl_bodies.specs.declared.frame.Home.TheVariants.{Handler, Function}
use Rattle.lsl_bodies.specs.Names.{nearest}
use Rattle.lsl_bodies.specs.Scope.{FrameView, spelled}
use Rattle.lsl_bodies.specs.Spans.{first_span}
use Rattle.lsl_bodies.specs.ActionForms.{home_kind}
use Rattle.lsl_bodies.specs.Judgement.{at}
use Rattle.lsl_bodies.specs.Verdict.{the_one_verdict}
use Rattle.lsl_bodies.specs.VariableVerdicts.{become_verdict}
use Rattle.lsl_bodies.specs.ValueVerdicts.{value_verdict}
use Rattle.lsl_bodies.specs.ActionVerdicts.{label_verdict, jump_verdict, named_state_verdict, change_verdict}
use Rattle.lsl_bodies.specs.ActionVerdicts.{returned_nothing_verdict, returned_verdict}
use Rattle.lsl_bodies.proofs.Yielding.{Yields, gives_yields, faulty_yields, then_yields, entry_yields, rest_yields}
use Rattle.lsl_bodies.proofs.LabelPlaces.{IsAround}
use Rattle.lsl_bodies.proofs.NodeShapes.{outline_of, node_shaped}
use Rattle.lsl_bodies.proofs.KindSettings.{Setting, scope_in}
use Rattle.lsl_bodies.proofs.LeavingKinds.{ActionIn}
use Rattle.lsl_bodies.proofs.ActionKinds.{ActionsIn}

abbrev pub Sketch : Setting → Outline
Sketch c = outline_of (scope_in c)

-- it isn't a label
abbrev pub IsNoLabel : Action → Type 0
IsNoLabel a = (numbers : List ℕ) → label_of a numbers ≡ numbers

-- among labels of these numbers it has its shape, if it has its kinds
abbrev pub IsShapedIfKinded : Setting → List ℕ → Action → Type 0
IsShapedIfKinded c numbers a = ActionIn c a → IsShapedAction (Sketch c) numbers a

abbrev pub AreShapedIfKinded : Setting → List ℕ → Actions → Type 0
AreShapedIfKinded c numbers xs = ActionsIn c xs → AreShapedActions (Sketch c) numbers xs

abbrev pub IsShapedAround : Setting → FrameView → Action → Type 0
IsShapedAround c f a = (numbers : List ℕ) → IsAround numbers f.labels → IsShapedIfKinded c numbers a

abbrev pub IsSoundStatement : Setting → FrameView → Action → Type 0
IsSoundStatement c f a = IsNoLabel a × IsShapedAround c f a

module _ (c : Setting) where
  pub label_yields : (f : FrameView) (x : Name)
      → Yields (λ n. nearest (spelled x) f.labels ≡ Some n) (label_verdict f x)
  label_yields f x =
      let number = nearest (spelled x) f.labels in
      entry_yields number (at UnknownLabel x.span)

  pub jump_yields : (f : FrameView) (span : Span) (x : Name) → Yields (IsSoundStatement c f) (jump_verdict f span x)
  jump_yields f span x =
      then_yields (label_yields f x) (λ n e.
      gives_yields (λ numbers. refl, λ numbers a h. a.numbered (spelled x) n e))

  pub change_yields : (f : FrameView) (home : Home) (span : Span) (name : StateName)
      → Yields (IsSoundStatement c f) (change_verdict c.known home span name)
  change_yields f Handler span name =
      rest_yields (named_state_verdict c.known name) (λ n. gives_yields (λ numbers. refl, λ numbers a h. h))
  change_yields f (Function kind) span name = faulty_yields

  pub returned_yields : (f : FrameView) (span : Span) (v : Option Expr)
      → Yields (IsSoundStatement c f) (returned_verdict c.known c.home f.scope span v)
  returned_yields f span None = go (home_kind c.home)
    where
      go : (o : Option Kind) → Yields (IsSoundStatement c f) (returned_nothing_verdict o span)
      go None = gives_yields (λ numbers. refl, λ numbers a h. ap is_some h)
      go (Some kind) = faulty_yields
  returned_yields f span (Some e) =
      rest_yields (value_verdict c.known f.scope e) (λ t.
      rest_yields (the_one_verdict (home_kind c.home) (at (WrongKind None (Some (node_kind_of t))) span)) (λ kind.
      rest_yields (become_verdict kind t (first_span e)) (λ u.
      gives_yields (λ numbers. refl, λ numbers a h. (ap is_some h.0, node_shaped (scope_in c) u h.1)))))
