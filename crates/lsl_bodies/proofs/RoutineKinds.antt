-- Checked routines have their kinds and their shape.
use Rattle.std.proofs.Common.{◌≡◌, ℕ, ◌+◌, true, Option, Some, None, List, [], ◌∷◌, ◌++◌, length, refl, sym, ap}
use Rattle.std.proofs.Common.{◌∙◌, subst, arith, length-append, append-nil, append_assoc}
use Rattle.std.specs.Prelude.{Ok, is_some}
use Rattle.std.proofs.lemmas.List.{length-map}
use Rattle.lsl_value.specs.declared.tagged.Kind.{Kind}
use Rattle.lsl_tree.specs.declared.expression.Name.{Name}
use Rattle.lsl_tree.specs.declared.script.Param.{Param}
use Rattle.lsl_tree.specs.Statements.{Items}
use Rattle.lsl_tree.specs.Actions as action
use Rattle.lsl_tree.specs.Actions.{Actions, AndAction}
use Rattle.lsl_tree.specs.Program.{Routine}
use Rattle.lsl_tree.specs.Shape.{IsShapedAction, ends_with_value, IsShapedRoutine}
use Rattle.lsl_tree.specs.Signatures.{Signature, signature_of_routine}
use Rattle.lsl_tree.specs.Kinded.{Scope, AreKindedActions}
use Rattle.lsl_bodies.specs.declared.frame.Home.{Home}
use Rattle.lsl_bodies.specs.Scope.{ScopeView, FrameView, spelled, with_local, with_locals, opened, entered}
use Rattle.lsl_bodies.specs.Known.{KnownView, kinds_of}
use Rattle.lsl_bodies.specs.Conversions.{empty_node}
use Rattle.lsl_bodies.specs.ActionForms.{ended, home_kind}
use Rattle.lsl_bodies.specs.ActionVerdicts.{items_verdict}
use Rattle.lsl_bodies.specs.BodyVerdicts.{body_verdict}
use Rattle.lsl_bodies.proofs.Yielding.{Yields, gives_yields, then_yields, itself}
use Rattle.lsl_bodies.proofs.Prefixes.{IsPrefix, prefix_itself, prefix_take}
use Rattle.lsl_bodies.proofs.KindSettings.{Setting, setting, scope_in, HaveKinds, locals_have}
use Rattle.lsl_bodies.proofs.CallKinds.{empty_kind}
use Rattle.lsl_bodies.proofs.NodeShapes.{outline_of, node_shaped}
use Rattle.lsl_bodies.proofs.ActionKinds.{ActionsIn, items_yield}
use Rattle.lsl_bodies.proofs.BlockShapes.{body_shaped}

-- a routine of a program that declares this, and has globals of these kinds
abbrev pub routine_scope : KnownView → List Kind → Routine → Scope
routine_scope known globals r = record {
  globals = globals;
  functions = known.signatures;
  states = length known.states + 1;
  slots = r.slots;
  result = r.kind;
}

pub record RoutineIn (known : KnownView) (globals : List Kind) (r : Routine) : Type 0 where
  pub kinded : AreKindedActions (routine_scope known globals r) r.body
  pub shaped : IsShapedRoutine known.signatures (length known.states + 1) r

-- where a body begins there are the parameters' slots, and no label
locals_labels : (f : FrameView) (ps : List Param) → (with_locals f ps).labels ≡ f.labels
locals_labels f [] = refl
locals_labels f (p ∷ ps) = locals_labels (with_local f (spelled p.name) p.kind) ps

locals_slots : (f : FrameView) (ps : List Param) → (with_locals f ps).slots ≡ f.slots ++ kinds_of ps
locals_slots f [] = sym (append-nil f.slots)
locals_slots f (p ∷ ps) =
    locals_slots (with_local f (spelled p.name) p.kind) ps ∙ append_assoc f.slots (p.kind ∷ []) (kinds_of ps)

abbrev resting : ScopeView → FrameView
resting s = record { scope = s; slots = []; labels = []; passed = []; first_variable = 0; first_label = 0 }

-- the empty value that a body ends with
ended_kinds : (c : Setting) (o : Option Kind) → home_kind c.home ≡ o → (xs : Actions) → ActionsIn c xs
    → ActionsIn c (ended o xs)
ended_kinds c None e xs h = h
ended_kinds c (Some k) e xs h = let n = empty_kind c k in (h, (e ∙ ap Some (sym n.0), n.1))

ended_shape : (c : Setting) (o : Option Kind) → home_kind c.home ≡ o → (xs : Actions)
    → IsShapedAction (outline_of (scope_in c)) [] (action.Block xs)
    → IsShapedAction (outline_of (scope_in c)) [] (action.Block (ended o xs))
ended_shape c None e xs h = h
ended_shape c (Some k) e xs h =
    (h.0, (h.1, (ap is_some e, node_shaped (scope_in c) (empty_node k) (empty_kind c k).1)))

ended_ends : (o : Option Kind) (xs : Actions) → is_some o ≡ true → ends_with_value (ended o xs) ≡ true
ended_ends None xs h = absurd (cc)
ended_ends (Some k) xs h = refl

abbrev signature : Option Kind → List Kind → Signature
signature result params = record { params = params; result = result }

-- a routine, and what is called by its name
abbrev pub RoutineOf : KnownView → List Kind → List Param → Option Kind → Routine → Type 0
RoutineOf known globals params kind r =
    RoutineIn known globals r × (signature_of_routine r ≡ signature kind (kinds_of params))

-- the globals in sight have these kinds, whatever the slots are
abbrev pub GlobalsHave : KnownView → List Kind → ScopeView → Type 0
GlobalsHave known globals s =
    (slots : List Kind) (home : Home) → HaveKinds (setting known globals slots home) s.variables

module _ (known : KnownView) (globals : List Kind) (s : ScopeView) (seen : GlobalsHave known globals s)
    (home : Home) where
  -- the routine of a body with this meaning
  abbrev made : ℕ → List Param → Actions × FrameView → Routine
  made line params inner = record {
    line = line;
    kind = home_kind home;
    params = length params;
    slots = inner.1.slots;
    body = ended (home_kind home) inner.0;
  }

  routine_made : (line : ℕ) (params : List Param) (es : Items) (inner : Actions × FrameView)
      → items_verdict known home (opened (entered s params) es) es ≡ Ok inner
      → RoutineOf known globals params (home_kind home) (made line params inner)
  routine_made line params es inner e =
      let slots = inner.1.slots in
      let c = setting known globals slots home in
      let p = (items_yield c (opened (entered s params) es) es).ok inner e in
      let kinds : ActionsIn c inner.0 =
      (p.1 (locals_have c (resting s) params (seen slots home) p.0) (prefix_itself slots)).0 in
      let shape = body_shaped c (entered s params) es inner (locals_labels (resting s) params) e kinds in
      let first : IsPrefix (kinds_of params) slots =
      subst (λ l. IsPrefix l slots) (locals_slots (resting s) params) p.0 in
      let count : length params ≡ length (kinds_of params) = sym (length-map params (λ q. q.kind)) in (
        record {
          kinded = ended_kinds c (home_kind home) refl inner.0 kinds;
          shaped = record {
            body = ended_shape c (home_kind home) refl inner.0 shape;
            ending = ended_ends (home_kind home) inner.0;
            params = omega (arith, count, ap length first.split, length-append (kinds_of params) first.rest);
          };
        },
        ap (signature (home_kind home)) (prefix_take (kinds_of params) slots (length params) first count),
      )

  pub body_yields : (x : Name) (params : List Param) (es : Items)
      → Yields (RoutineOf known globals params (home_kind home))
      (body_verdict known s home x (home_kind home) params es)
  body_yields x params es =
      let items = items_verdict known home (opened (entered s params) es) es in
      then_yields (itself items) (λ inner e. gives_yields (routine_made x.span.line params es inner e))
