-- Checked statements of the right kinds have their shape.
use Rattle.std.proofs.Common.{◌≡◌, ℕ, List, [], ◌∷◌, ◌++◌, length, refl, sym, subst, not}
use Rattle.std.specs.Prelude.{Ok}
use Rattle.lsl_value.specs.declared.tagged.Kind.{Kind}
use Rattle.lsl_tree.specs.Statements as stmt
use Rattle.lsl_tree.specs.Statements.{Stmt, Item, Items, NoItem, AndItem}
use Rattle.lsl_tree.specs.Nodes.{Node}
use Rattle.lsl_tree.specs.Effects.{Effect}
use Rattle.lsl_tree.specs.Actions as action
use Rattle.lsl_tree.specs.Actions.{Action, Actions, NoAction, AndAction}
use Rattle.lsl_tree.specs.Shape.{label_of, labels_in, Differ, IsShapedAction, AreShapedActions}
use Rattle.lsl_bodies.specs.declared.faults.TypeKind.TheVariants.{DoubleName}
use Rattle.lsl_bodies.specs.Scope.{FrameView, spelled, is_since, labels_of, with_local, with_slots, opened}
use Rattle.lsl_bodies.specs.ActionForms.{for_of, effects_after}
use Rattle.lsl_bodies.specs.Judgement.{at}
use Rattle.lsl_bodies.specs.ValueVerdicts.{value_verdict, effect_verdict, effects_verdict}
use Rattle.lsl_bodies.specs.ActionVerdicts.{initialised_verdict, statement_verdict, items_verdict, item_verdict}
use Rattle.lsl_bodies.proofs.Yielding.{Yields, gives_yields, then_yields, must_yields, rest_yields}
use Rattle.lsl_bodies.proofs.ListLemmas.{apart_pairs}
use Rattle.lsl_bodies.proofs.LabelPlaces.{HasLabels, labels_none, labels_kept, labels_more, IsAround, around_none}
use Rattle.lsl_bodies.proofs.LabelPlaces.{around_block}
use Rattle.lsl_bodies.proofs.NodeShapes.{outline_of, node_shaped, effect_shaped, effects_shaped}
use Rattle.lsl_bodies.proofs.KindSettings.{Setting, scope_in}
use Rattle.lsl_bodies.proofs.ActionKinds.{ActionsIn}
use Rattle.lsl_bodies.proofs.LeavingShapes.{Sketch, AreShapedIfKinded, IsShapedAround, IsSoundStatement, label_yields}
use Rattle.lsl_bodies.proofs.LeavingShapes.{jump_yields}
use Rattle.lsl_bodies.proofs.LeavingShapes.{change_yields, returned_yields}

abbrev AfterStmt : Setting → FrameView → Action × List Kind → Type 0
AfterStmt c f r = IsSoundStatement c f r.0

-- an item of a block, with others before it
abbrev AfterItem : Setting → FrameView → List (List ℕ) → List ℕ → FrameView → Action × FrameView → Type 0
AfterItem c f own numbers g r = HasLabels f own (label_of r.0 numbers) r.1 × IsShapedAround c g r.0

abbrev AfterItems : Setting → FrameView → Items → Actions × FrameView → Type 0
AfterItems c f es r =
    HasLabels f (labels_of es) (labels_in r.0) r.1
    × ((numbers : List ℕ) → IsAround numbers f.labels → AreShapedIfKinded c numbers r.0)

module _ (c : Setting) where
  -- a `for` is a block without labels
  effects_labels : (acts : Actions) (xs : List Effect) → labels_in (effects_after acts xs) ≡ labels_in acts
  effects_labels acts [] = refl
  effects_labels acts (x ∷ xs) = effects_labels (AndAction acts (action.Effect x)) xs

  effects_follow : (numbers : List ℕ) (acts : Actions) (xs : List Effect) → AreShapedIfKinded c numbers acts
      → AreShapedIfKinded c numbers (effects_after acts xs)
  effects_follow numbers acts [] s h = s h
  effects_follow numbers acts (x ∷ xs) s h =
      effects_follow numbers (AndAction acts (action.Effect x)) xs (λ g. (s g.0, effect_shaped (scope_in c) x g.1)) h

  for_shaped : (f : FrameView) (start : List Effect) (line : ℕ) (test : Node) (steps : List Effect) (a : Action)
      → IsShapedAround c f a → IsShapedAround c f (for_of start (action.Loop line test steps a))
  for_shaped f start line test steps a s numbers around h =
      let loop = action.Loop line test steps a in
      let body = AndAction (effects_after NoAction start) loop in
      let last : IsShapedAction (Sketch c) numbers loop =
      (node_shaped (scope_in c) test h.1.0, effects_shaped (scope_in c) steps h.1.1, s numbers around h.1.2) in
      let all : AreShapedActions (Sketch c) numbers body =
      (effects_follow numbers NoAction start (λ g. tt) h.0, last) in
      subst (λ own. Differ (own ++ numbers) × AreShapedActions (Sketch c) (own ++ numbers) body)
      (sym (effects_labels NoAction start)) (apart_pairs numbers around.apart, all)

  block_shaped : (f : FrameView) (es : Items) (r : Actions × FrameView) → AfterItems c (opened f es) es r
      → IsShapedAround c f (action.Block r.0)
  block_shaped f es r p numbers around h =
      let all = around_block (opened f es) f r.1 (labels_of es) (labels_in r.0) numbers refl around p.0 in
      (apart_pairs (labels_in r.0 ++ numbers) all.apart, p.1 (labels_in r.0 ++ numbers) all h)

  mutual
    statement_yields : (f : FrameView) (a : Stmt) → Yields (AfterStmt c f) (statement_verdict c.known c.home f a)
    statement_yields f (stmt.Block es) =
        then_yields (items_yield (opened f es) es refl) (λ r p.
        gives_yields (λ numbers. refl, block_shaped f es r p))
    statement_yields f stmt.Empty =
        gives_yields (λ numbers. refl, λ numbers around h. (apart_pairs numbers around.apart, tt))
    statement_yields f (stmt.Expression e) =
        rest_yields (effect_verdict c.known f.scope e) (λ x.
        gives_yields (λ numbers. refl, λ numbers around h. effect_shaped (scope_in c) x h))
    statement_yields f (stmt.If span e a) =
        rest_yields (value_verdict c.known f.scope e) (λ test.
        then_yields (statement_yields f a) (λ r p.
        gives_yields (
          λ numbers. refl,
          λ numbers around h.
              (node_shaped (scope_in c) test h.0, p.1 numbers around h.1),
        )))
    statement_yields f (stmt.IfElse span e a b) =
        rest_yields (value_verdict c.known f.scope e) (λ test.
        then_yields (statement_yields f a) (λ r p.
        then_yields (statement_yields (with_slots f r.1) b) (λ q o.
        gives_yields (
          λ numbers. refl,
          λ numbers around h.
              (node_shaped (scope_in c) test h.0, p.1 numbers around h.1, o.1 numbers around h.2),
        ))))
    statement_yields f (stmt.While span e a) =
        rest_yields (value_verdict c.known f.scope e) (λ test.
        then_yields (statement_yields f a) (λ r p.
        gives_yields (
          λ numbers. refl,
          λ numbers around h.
              (node_shaped (scope_in c) test h.0, effects_shaped (scope_in c) [] h.1, p.1 numbers around h.2),
        )))
    statement_yields f (stmt.Do span a e) =
        then_yields (statement_yields f a) (λ r p.
        rest_yields (value_verdict c.known f.scope e) (λ test.
        gives_yields (
          λ numbers. refl,
          λ numbers around h.
              (p.1 numbers around h.0, node_shaped (scope_in c) test h.1),
        )))
    statement_yields f (stmt.For span xs e ys a) =
        rest_yields (effects_verdict c.known f.scope xs) (λ start.
        rest_yields (value_verdict c.known f.scope e) (λ test.
        rest_yields (effects_verdict c.known f.scope ys) (λ steps.
        then_yields (statement_yields f a) (λ r p.
        gives_yields (λ numbers. refl, for_shaped f start span.line test steps r.0 p.1)))))
    statement_yields f (stmt.Jump span x) =
        then_yields (jump_yields c f span x) (λ a s. gives_yields s)
    statement_yields f (stmt.Return span v) =
        then_yields (returned_yields c f span v) (λ a s. gives_yields s)
    statement_yields f (stmt.State span name) =
        then_yields (change_yields c f c.home span name) (λ a s. gives_yields s)

    items_yield : (f : FrameView) (es : Items) → f.first_label ≡ length f.passed
        → Yields (AfterItems c f es) (items_verdict c.known c.home f es)
    items_yield f NoItem start = gives_yields (labels_none f, λ numbers around h. tt)
    items_yield f (AndItem es e) start =
        then_yields (items_yield f es start) (λ r p.
        then_yields (item_yields f es (labels_in r.0) r.1 e start p.0) (λ l q.
        gives_yields (
          q.0,
          λ numbers around h.
              (p.1 numbers around h.0, q.1 numbers (subst (IsAround numbers) (sym p.0.labels) around) h.1),
        )))

    item_yields : (f : FrameView) (es : Items) (numbers : List ℕ) (g : FrameView) (e : Item)
        → f.first_label ≡ length f.passed → HasLabels f (labels_of es) numbers g
        → Yields (AfterItem c f (labels_of (AndItem es e)) numbers g) (item_verdict c.known c.home g e)
    item_yields f es numbers g (stmt.Declaration k x v) start p =
        rest_yields (initialised_verdict c.known g k x v) (λ t.
        gives_yields (
          labels_kept f (labels_of es) numbers g (with_local g (spelled x) k) p refl refl refl,
          λ around a h.
              node_shaped (scope_in c) t h.1,
        ))
    item_yields f es numbers g (stmt.Label x) start p =
        let fresh = not (is_since g.passed g.first_label (spelled x)) in
        then_yields (must_yields fresh (at DoubleName x.span)) (λ u e.
        then_yields (label_yields c g x) (λ m k.
        gives_yields (labels_more f (labels_of es) numbers g (spelled x) m start p e k, λ around a h. tt)))
    item_yields f es numbers g (stmt.Statement a) start p =
        then_yields (statement_yields g a) (λ r s.
        gives_yields (
          subst (λ ns. HasLabels f (labels_of es) ns (with_slots g r.1)) (sym (s.0 numbers))
              (labels_kept f (labels_of es) numbers g (with_slots g r.1) p refl refl refl),
          s.1,
        ))

-- if there are no labels around, a block has its shape if it has its kinds
pub body_shaped : (c : Setting) (f : FrameView) (es : Items) (r : Actions × FrameView) → f.labels ≡ []
    → items_verdict c.known c.home (opened f es) es ≡ Ok r → ActionsIn c r.0
    → IsShapedAction (outline_of (scope_in c)) [] (action.Block r.0)
body_shaped c f es r none e h =
    block_shaped c f es r ((items_yield c (opened f es) es refl).ok r e) []
    (subst (IsAround []) (sym none) around_none) h
