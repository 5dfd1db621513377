-- What a block leaves when it ends.
use Rattle.std.proofs.Common.{◌≡◌, ℕ, ◌-◌, List, [], ◌∷◌, ◌++◌, length, take, drop, refl, sym, ap, ◌∙◌, subst, arith}
use Rattle.std.proofs.Common.{append_assoc, append-nil, not}
use Rattle.std.specs.Prelude.{Ok, Err}
use Rattle.std.proofs.lemmas.Grind.{common_steps}
use Rattle.lsl_value.specs.declared.tagged.Kind.{Kind}
use Rattle.lsl_tree.specs.Statements as stmt
use Rattle.lsl_tree.specs.Statements.{Item, Items, NoItem, AndItem}
use Rattle.lsl_tree.specs.Actions as action
use Rattle.lsl_tree.specs.Actions.{Action, Actions}
use Rattle.lsl_text.specs.declared.Refusal.{Refusal}
use Rattle.lsl_bodies.specs.declared.faults.TypeFault.{TypeFault}
use Rattle.lsl_bodies.specs.declared.frame.Home.{Home}
use Rattle.lsl_bodies.specs.declared.frame.Variable.{Variable}
use Rattle.lsl_bodies.specs.declared.blocks.Outer.{Outer}
use Rattle.lsl_bodies.specs.Scope.{FrameView, with_slots, with_passed, opened, labels_of, spelled, is_since}
use Rattle.lsl_bodies.specs.declared.faults.TypeKind.TheVariants.{DoubleName}
use Rattle.lsl_bodies.specs.Judgement.{at}
use Rattle.lsl_bodies.specs.Known.{KnownView}
use Rattle.lsl_bodies.specs.Blocks.{IsOuter, closed, earliest}
use Rattle.lsl_bodies.specs.Verdict.{Verdict, ◌>>=◌, must_verdict, Refuses}
use Rattle.lsl_bodies.specs.ActionVerdicts.{statement_verdict, items_verdict, item_verdict, initialised_verdict}
use Rattle.lsl_bodies.specs.ActionVerdicts.{label_verdict}
use Rattle.lsl_bodies.proofs.Deciding.{ok_same, ok_not_err}
use Rattle.lsl_bodies.proofs.Steps.{fails_first, ok_behind}

-- more variables and passed labels, and nothing else but slots
pub record Extends (f g : FrameView) : Type 0 where
  pub more_names : List (List ℕ)
  pub more_variables : List Variable
  pub more_passed : List (List ℕ)
  pub names : g.scope.names ≡ more_names ++ f.scope.names
  pub variables : g.scope.variables ≡ f.scope.variables ++ more_variables
  pub labels : g.labels ≡ f.labels
  pub passed : g.passed ≡ more_passed ++ f.passed
  pub first_variable : g.first_variable ≡ f.first_variable
  pub first_label : g.first_label ≡ f.first_label

pub Extends-same : (f : FrameView) → Extends f f
Extends-same f = record {
  more_names = [];
  more_variables = [];
  more_passed = [];
  names = refl;
  variables =
      sym (append-nil f.scope.variables);
  labels = refl;
  passed = refl;
  first_variable = refl;
  first_label =
      refl;
}

pub Extends-then : (f g h : FrameView) → Extends f g → Extends g h → Extends f h
Extends-then f g h a b = record {
  more_names = b.more_names ++ a.more_names;
  more_variables = a.more_variables ++ b.more_variables;
  more_passed = b.more_passed ++ a.more_passed;
  names = b.names ∙ (ap (λ l. b.more_names ++ l) a.names ∙ sym (append_assoc b.more_names a.more_names f.scope.names));
  variables = b.variables ∙ (ap (λ l. l ++ b.more_variables) a.variables
      ∙ append_assoc f.scope.variables a.more_variables b.more_variables);
  labels = b.labels ∙ a.labels;
  passed = b.passed ∙ (ap (λ l. b.more_passed ++ l) a.passed ∙ sym (append_assoc b.more_passed a.more_passed f.passed));
  first_variable = b.first_variable ∙ a.first_variable;
  first_label = b.first_label ∙ a.first_label;
}

-- the parts of a verdict in order are in order
pub parts_ok : {A B : Type 0} (v : Verdict A) (q : A → Verdict B) (u : B) → (v >>= q) ≡ Ok u → (t : A)
    × (v ≡ Ok t) × (q t ≡ Ok u)
parts_ok (Ok t) q u h = (t, refl, h)
parts_ok (Err f) q u h = absurd (ok_not_err u f (sym h))

item_extends : (known : KnownView) (home : Home) (f : FrameView) (e : Item) (u : Action × FrameView)
    → item_verdict known home f e ≡ Ok u → Extends f u.1
item_extends known home f (stmt.Declaration k x v) u h =
    let p = parts_ok (initialised_verdict known f k x v) _ u h in
    subst (Extends f) (ap (λ z. z.1) (ok_same _ u p.2)) (record {
      more_names = _ ∷ [];
      more_variables = _ ∷ [];
      more_passed = [];
      names = refl;
      variables = refl;
      labels = refl;
      passed = refl;
      first_variable = refl;
      first_label = refl;
    })
item_extends known home f (stmt.Label x) u h =
    let v : Verdict (Unit {0}) = must_verdict (not (is_since f.passed f.first_label (spelled x)))
    (at DoubleName x.span) in
    let p = parts_ok v (λ w. label_verdict f x >>= λ n. Ok (action.Label n, with_passed f (spelled x))) u h in
    let q = parts_ok (label_verdict f x) (λ n. Ok (action.Label n, with_passed f (spelled x))) u p.2 in
    subst (Extends f) (ap (λ (z : Action × FrameView). z.1)
    (ok_same (action.Label q.0, with_passed f (spelled x)) u q.2)) (record {
      more_names = [];
      more_variables = [];
      more_passed = spelled x ∷ [];
      names = refl;
      variables = sym (append-nil f.scope.variables);
      labels = refl;
      passed = refl;
      first_variable = refl;
      first_label = refl;
    })
item_extends known home f (stmt.Statement a) u h =
    let p = parts_ok (statement_verdict known home f a) _ u h in
    subst (Extends f) (ap (λ z. z.1) (ok_same _ u p.2)) (record {
      more_names = [];
      more_variables = [];
      more_passed = [];
      names = refl;
      variables = sym (append-nil f.scope.variables);
      labels = refl;
      passed = refl;
      first_variable = refl;
      first_label = refl;
    })

pub items_extend : (known : KnownView) (home : Home) (f : FrameView) (es : Items) (u : Actions × FrameView)
    → items_verdict known home f es ≡ Ok u → Extends f u.1
items_extend known home f NoItem u h = subst (Extends f) (ap (λ z. z.1) (ok_same _ u h)) (Extends-same f)
items_extend known home f (AndItem es e) u h =
    let p = parts_ok (items_verdict known home f es) _ u h in
    let q = parts_ok (item_verdict known home p.0.1 e) _ u p.2 in
    let last = ap (λ z. z.1) (ok_same _ u q.2) in
    Extends-then f p.0.1 u.1 (items_extend known home f es p.0 p.1)
    (subst (Extends p.0.1) last (item_extends known home p.0.1 e q.0 q.1))

drop_front : {X : Type 0} (xs ys : List X) → drop (length (xs ++ ys) - length ys) (xs ++ ys) ≡ ys
drop_front xs ys = grind (arith, common_steps)

take_front : {X : Type 0} (xs ys : List X) → take (length xs) (xs ++ ys) ≡ xs
take_front xs ys = grind (arith, common_steps)

earliest_front : {X : Type 0} (n : ℕ) (all more xs : List X) → n ≡ length xs → all ≡ more ++ xs → earliest n all ≡ xs
earliest_front n all more xs count split =
    ap (λ k. drop (length all - k) all) count ∙ (ap (λ l. drop (length l - length xs) l) split ∙ drop_front more xs)

abbrev frame_with : List (List ℕ) → List Variable → List Kind → List (List ℕ) → List (List ℕ) → ℕ → ℕ → FrameView
frame_with names variables slots labels passed v l = record {
  scope = record { names = names; variables = variables };
  slots = slots;
  labels = labels;
  passed = passed;
  first_variable = v;
  first_label = l;
}

-- after a block there is what was before it, and its slots
pub closed-opened : (f g : FrameView) (es : Items) (o : Outer) → IsOuter o f → Extends (opened f es) g
    → closed g o ≡ with_slots f g.slots
closed-opened f g es o was e =
    ap (λ z. frame_with z (take o.variables g.scope.variables) g.slots (earliest o.labels g.labels)
    (earliest o.passed g.passed) o.first_variable o.first_label)
    (earliest_front o.names g.scope.names e.more_names f.scope.names was.names e.names)
    ∙ (ap (λ z. frame_with f.scope.names z g.slots (earliest o.labels g.labels) (earliest o.passed g.passed)
    o.first_variable o.first_label)
    (ap (λ k. take k g.scope.variables) was.variables
    ∙ (ap (λ l. take (length f.scope.variables) l) e.variables
    ∙ take_front f.scope.variables e.more_variables))
    ∙ (ap (λ z. frame_with f.scope.names f.scope.variables g.slots z (earliest o.passed g.passed)
    o.first_variable o.first_label)
    (earliest_front o.labels g.labels (labels_of es) f.labels was.labels e.labels)
    ∙ (ap (λ z. frame_with f.scope.names f.scope.variables g.slots f.labels z o.first_variable o.first_label)
    (earliest_front o.passed g.passed e.more_passed f.passed was.passed e.passed)
    ∙ (ap (λ z. frame_with f.scope.names f.scope.variables g.slots f.labels f.passed z o.first_label) was.first_variable
    ∙ ap (λ z. frame_with f.scope.names f.scope.variables g.slots f.labels f.passed f.first_variable z)
    was.first_label))))

abbrev pub acted : Action → List Kind → Verdict (Action × List Kind)
acted a slots = Ok (a, slots)

-- a block is in order if its items are
pub block_ok : (known : KnownView) (home : Home) (f inner g : FrameView) (es : Items) (acts : Actions)
    (act : Action) (slots : List Kind) → inner ≡ opened f es
    → items_verdict known home inner es ≡ Ok (acts, g) → act ≡ action.Block acts → slots ≡ g.slots
    → statement_verdict known home f (stmt.Block es) ≡ Ok (act, slots)
block_ok known home f inner g es acts act slots begins h is left =
    ok_behind (items_verdict known home (opened f es) es) (acts, g) (λ u. Ok (action.Block u.0, u.1.slots))
    (Ok (act, slots))
    (subst (λ z. items_verdict known home z es ≡ Ok (acts, g)) begins h)
    (ap (λ (a : Action). acted a g.slots) (sym is) ∙ ap (λ (l : List Kind). acted act l) (sym left))

pub block_fails : (known : KnownView) (home : Home) (f inner : FrameView) (es : Items) (e : Refusal TypeFault)
    → inner ≡ opened f es
    → Refuses e (items_verdict known home inner es) → Refuses e (statement_verdict known home f (stmt.Block es))
block_fails known home f inner es e begins h =
    fails_first e (items_verdict known home (opened f es) es) (λ u. Ok (action.Block u.0, u.1.slots))
    (subst (λ z. Refuses e (items_verdict known home z es)) begins h)

-- and leaves what there was before it, and its slots
pub block_leaves : (known : KnownView) (home : Home) (f inner g after : FrameView) (es : Items) (acts : Actions)
    (o : Outer) → inner ≡ opened f es → IsOuter o f
    → items_verdict known home inner es ≡ Ok (acts, g) → after ≡ closed g o → after ≡ with_slots f after.slots
block_leaves known home f inner g after es acts o begins was h ends =
    let more : Extends (opened f es) g = items_extend known home (opened f es) es (acts, g)
    (subst (λ z. items_verdict known home z es ≡ Ok (acts, g)) begins h) in
    ends ∙ (closed-opened f g es o was more ∙ ap (λ l. with_slots f l) (sym (ap (λ (z : FrameView). z.slots) ends)))
