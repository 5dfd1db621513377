-- The values in checked statements have the kinds that their places want.
use Rattle.std.proofs.Common.{◌≡◌, Option, Some, None, List, [], ◌∷◌, ◌++◌, length, sym, ap, ◌∙◌, slice_get, not}
use Rattle.std.specs.Prelude.{Ok, All}
use Rattle.std.proofs.lemmas.List.Elements.{All-nil, All-head, All-tail}
use Rattle.lsl_text.specs.declared.Span.{Span}
use Rattle.lsl_value.specs.declared.tagged.Kind.{Kind}
use Rattle.lsl_tree.specs.declared.expression.Name.{Name}
use Rattle.lsl_tree.specs.Expressions.{Expr}
use Rattle.lsl_tree.specs.Statements as stmt
use Rattle.lsl_tree.specs.Statements.{Stmt, Item, Items, NoItem, AndItem}
use Rattle.lsl_tree.specs.Nodes.{Node, node_kind_of}
use Rattle.lsl_tree.specs.Effects.{Effect}
use Rattle.lsl_tree.specs.Actions as action
use Rattle.lsl_tree.specs.Actions.{Action, Actions, NoAction, AndAction}
use Rattle.lsl_tree.specs.Kinded.{AreKindedActions}
use Rattle.lsl_bodies.specs.declared.faults.TypeKind.TheVariants.{DoubleName}
use Rattle.lsl_bodies.specs.Scope.{FrameView, spelled, is_since, with_slots, opened}
use Rattle.lsl_bodies.specs.Spans.{first_span}
use Rattle.lsl_bodies.specs.ActionForms.{effects_after}
use Rattle.lsl_bodies.specs.Judgement.{at}
use Rattle.lsl_bodies.specs.Verdict.{must_verdict}
use Rattle.lsl_bodies.specs.ActionVerdicts.{label_verdict, jump_verdict, is_fresh, initialised_verdict}
use Rattle.lsl_bodies.specs.ActionVerdicts.{declared_verdict, labelled_verdict, statement_verdict, items_verdict}
use Rattle.lsl_bodies.specs.ActionVerdicts.{item_verdict}
use Rattle.lsl_bodies.proofs.Yielding.{Yields, gives_yields, then_yields, rest_yields}
use Rattle.lsl_bodies.proofs.Prefixes.{IsPrefix, prefix_itself, prefix_longer, prefix_push, prefix_get, get_last}
use Rattle.lsl_bodies.proofs.KindSettings.{Setting, scope_in, HaveKinds, local_has}
use Rattle.lsl_bodies.proofs.CallKinds.{EffectIn, NodeOf, become_kind, empty_kind}
use Rattle.lsl_bodies.proofs.ValueKinds.{Once, value_kind, effect_kind, effects_kind}
use Rattle.lsl_bodies.proofs.LeavingKinds.{ActionIn, change_yields, returned_yields}

abbrev pub ActionsIn : Setting → Actions → Type 0
ActionsIn c xs = AreKindedActions (scope_in c) xs

-- a statement has its kinds once the slots after it are those that the routine's begin with
abbrev AfterStmt : Setting → FrameView → Action × List Kind → Type 0
AfterStmt c f r = IsPrefix f.slots r.1 × (HaveKinds c f.scope.variables → IsPrefix r.1 c.slots → ActionIn c r.0)

abbrev AfterItem : Setting → FrameView → Action × FrameView → Type 0
AfterItem c f r =
    IsPrefix f.slots r.1.slots
    × (HaveKinds c f.scope.variables → IsPrefix r.1.slots c.slots → ActionIn c r.0 × HaveKinds c r.1.scope.variables)

abbrev pub AfterItems : Setting → FrameView → Actions × FrameView → Type 0
AfterItems c f r =
    IsPrefix f.slots r.1.slots
    × (HaveKinds c f.scope.variables → IsPrefix r.1.slots c.slots → ActionsIn c r.0 × HaveKinds c r.1.scope.variables)

module _ (c : Setting) where
  -- declarations
  initialised_yields : (f : FrameView) (k : Kind) (x : Name) (v : Option Expr)
      → Yields (Once c f.scope (NodeOf c k)) (initialised_verdict c.known f k x v)
  initialised_yields f k x None =
      let fresh = must_verdict (is_fresh f x) (at DoubleName x.span) in
      rest_yields fresh (λ u. gives_yields (λ have. empty_kind c k))
  initialised_yields f k x (Some e) =
      let fresh = must_verdict (is_fresh f x) (at DoubleName x.span) in
      then_yields (value_kind c f.scope e) (λ t n.
      rest_yields fresh (λ u. record {
        ok = λ a is have. (become_kind c k t (first_span e) (n have)).ok a is;
      }))

  slot_kind : (f : FrameView) (k : Kind) (t : Node) → IsPrefix (f.slots ++ k ∷ []) c.slots → node_kind_of t ≡ k
      → slice_get c.slots (length f.slots) ≡ Some (node_kind_of t)
  slot_kind f k t b e =
      prefix_get (f.slots ++ k ∷ []) c.slots (length f.slots) k b (get_last f.slots k) ∙ ap Some (sym e)

  declared_yields : (f : FrameView) (k : Kind) (x : Name) (v : Option Expr)
      → Yields (AfterItem c f) (declared_verdict c.known f k x v)
  declared_yields f k x v =
      then_yields (initialised_yields f k x v) (λ t n.
      gives_yields (
        prefix_push f.slots k,
        λ have b.
            let m = n have in
            ((slot_kind f k t b m.0, m.1), local_has c f (spelled x) k have b),
      ))

  labelled_yields : (f : FrameView) (x : Name) → Yields (AfterItem c f) (labelled_verdict f x)
  labelled_yields f x =
      let fresh = must_verdict (not (is_since f.passed f.first_label (spelled x))) (at DoubleName x.span) in
      rest_yields fresh (λ u.
      rest_yields (label_verdict f x) (λ m.
      gives_yields (prefix_itself f.slots, λ have b. (tt, have))))

  jump_yields : (f : FrameView) (span : Span) (x : Name) → Yields (ActionIn c) (jump_verdict f span x)
  jump_yields f span x =
      rest_yields (label_verdict f x) (λ n. gives_yields tt)

  -- the parts of a `for` in one block
  effects_kinded : (acts : Actions) (xs : List Effect) → ActionsIn c acts → All (EffectIn c) xs
      → ActionsIn c (effects_after acts xs)
  effects_kinded acts [] a h = a
  effects_kinded acts (x ∷ xs) a h =
      effects_kinded (AndAction acts (action.Effect x)) xs (a, All-head (EffectIn c) x xs h)
      (All-tail (EffectIn c) x xs h)

  -- a statement that adds no slot
  stays : (f : FrameView) (a : Action) → Once c f.scope (ActionIn c) a → Yields (AfterStmt c f) (Ok (a, f.slots))
  stays f a h = gives_yields (prefix_itself f.slots, λ have b. h have)

  mutual
    statement_yields : (f : FrameView) (a : Stmt) → Yields (AfterStmt c f) (statement_verdict c.known c.home f a)
    statement_yields f (stmt.Block es) =
        then_yields (items_yield (opened f es) es) (λ r p.
        gives_yields (p.0, λ have b. (p.1 have b).0))
    statement_yields f stmt.Empty = stays f (action.Block NoAction) (λ have. tt)
    statement_yields f (stmt.Expression e) =
        then_yields (effect_kind c f.scope e) (λ x n. stays f (action.Effect x) n)
    statement_yields f (stmt.If span e a) =
        then_yields (value_kind c f.scope e) (λ test t.
        then_yields (statement_yields f a) (λ r p.
        gives_yields (p.0, λ have b. (t have, p.1 have b))))
    statement_yields f (stmt.IfElse span e a b) =
        then_yields (value_kind c f.scope e) (λ test t.
        then_yields (statement_yields f a) (λ r p.
        then_yields (statement_yields (with_slots f r.1) b) (λ q o.
        gives_yields (
          prefix_longer f.slots r.1 q.1 p.0 o.0,
          λ have b.
              (t have, p.1 have (prefix_longer r.1 q.1 c.slots o.0 b), o.1 have b),
        ))))
    statement_yields f (stmt.While span e a) =
        then_yields (value_kind c f.scope e) (λ test t.
        then_yields (statement_yields f a) (λ r p.
        gives_yields (p.0, λ have b. (t have, All-nil (EffectIn c), p.1 have b))))
    statement_yields f (stmt.Do span a e) =
        then_yields (statement_yields f a) (λ r p.
        then_yields (value_kind c f.scope e) (λ test t.
        gives_yields (p.0, λ have b. (p.1 have b, t have))))
    statement_yields f (stmt.For span xs e ys a) =
        then_yields (effects_kind c f.scope xs) (λ start s.
        then_yields (value_kind c f.scope e) (λ test t.
        then_yields (effects_kind c f.scope ys) (λ steps w.
        then_yields (statement_yields f a) (λ r p.
        gives_yields
        (p.0, λ have b. (effects_kinded NoAction start tt (s have), (t have, w have, p.1 have b)))))))
    statement_yields f (stmt.Jump span x) =
        then_yields (jump_yields f span x) (λ a n. stays f a (λ have. n))
    statement_yields f (stmt.Return span v) =
        then_yields (returned_yields c f.scope span v) (λ a n. stays f a n)
    statement_yields f (stmt.State span name) =
        then_yields (change_yields c c.home span name) (λ a n. stays f a (λ have. n))

    pub items_yield : (f : FrameView) (es : Items) → Yields (AfterItems c f) (items_verdict c.known c.home f es)
    items_yield f NoItem = gives_yields (prefix_itself f.slots, λ have b. (tt, have))
    items_yield f (AndItem es e) =
        then_yields (items_yield f es) (λ r p.
        then_yields (item_yields r.1 e) (λ l q.
        gives_yields (
          prefix_longer f.slots r.1.slots l.1.slots p.0 q.0,
          λ have b.
              let n = p.1 have (prefix_longer r.1.slots l.1.slots c.slots q.0 b) in
              let m = q.1 n.1 b in
              ((n.0, m.0), m.1),
        )))

    item_yields : (f : FrameView) (e : Item) → Yields (AfterItem c f) (item_verdict c.known c.home f e)
    item_yields f (stmt.Declaration k x v) = declared_yields f k x v
    item_yields f (stmt.Label x) = labelled_yields f x
    item_yields f (stmt.Statement a) =
        then_yields (statement_yields f a) (λ r p.
        gives_yields (p.0, λ have b. (p.1 have b, have)))
