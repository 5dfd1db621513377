-- The verdicts on statements are those of the rules.
use Rattle.std.proofs.Common.{◌≡◌, ℕ, ◌+◌, ◌≤◌, Bool, true, false, Option, Some, None, List, [], length, refl, sym, ap}
use Rattle.std.proofs.Common.{◌∙◌, ◌⊎◌, inl, inr, arith, not}
use Rattle.std.specs.Prelude.{◌||◌, is_some, nat_le}
use Rattle.std.specs.Option.{option_map}
use Rattle.std.proofs.lemmas.Bool.Decides.{nat_tests}
use Rattle.lsl_text.specs.declared.Span.{Span}
use Rattle.lsl_value.specs.declared.tagged.Kind.{Kind}
use Rattle.lsl_tree.specs.declared.expression.Name.{Name}
use Rattle.lsl_tree.specs.declared.statement.StateName.{StateName}
use Rattle.lsl_tree.specs.declared.statement.StateName.TheVariants.{Default, Named}
use Rattle.lsl_tree.specs.Expressions.{Expr}
use Rattle.lsl_tree.specs.Statements as stmt
use Rattle.lsl_tree.specs.Statements.{Stmt, Item, Items, NoItem, AndItem}
use Rattle.lsl_tree.specs.Nodes.{Node, node_kind_of}
use Rattle.lsl_tree.specs.Actions as action
use Rattle.lsl_tree.specs.Actions.{NoAction, AndAction}
use Rattle.lsl_bodies.specs.declared.faults.TypeKind.TheVariants.{UnknownName, DoubleName, WrongKind, StateInFunction}
use Rattle.lsl_bodies.specs.declared.faults.TypeKind.TheVariants.{UnknownLabel}
use Rattle.lsl_bodies.specs.declared.faults.TypeFault.{TypeFault}
use Rattle.lsl_bodies.specs.declared.frame.Home.{Home}
use Rattle.lsl_bodies.specs.declared.frame.Home.TheVariants.{Handler, Function}
use Rattle.lsl_bodies.specs.Names.{nearest, IsNearest}
use Rattle.lsl_bodies.specs.Scope.{ScopeView, FrameView, spelled, IsSince, is_since, is_since_number, with_local}
use Rattle.lsl_bodies.specs.Scope.{with_slots, with_passed, opened}
use Rattle.lsl_bodies.specs.Known.{KnownView}
use Rattle.lsl_bodies.specs.Table.{IsReserved, is_reserved, constant_of, event_of, builtin_of}
use Rattle.lsl_bodies.specs.Conversions.{empty_node}
use Rattle.lsl_bodies.specs.Spans.{first_span}
use Rattle.lsl_bodies.specs.ActionForms.{for_of, home_kind}
use Rattle.lsl_bodies.specs.Judgement.{at, must}
use Rattle.lsl_bodies.specs.Verdict.{the_one_verdict, must_verdict}
use Rattle.lsl_bodies.specs.VariableRules.{become}
use Rattle.lsl_bodies.specs.ValueRules.{value, effect, effects}
use Rattle.lsl_bodies.specs.VariableVerdicts.{become_verdict}
use Rattle.lsl_bodies.specs.ValueVerdicts.{value_verdict, effect_verdict, effects_verdict}
use Rattle.lsl_bodies.specs.ActionRules.{label, jump, IsState, named_state, change, returned_nothing, returned_value}
use Rattle.lsl_bodies.specs.ActionRules.{returned, IsFresh, initialised, statement, items, item}
use Rattle.lsl_bodies.specs.ActionVerdicts.{label_verdict, jump_verdict, named_state_verdict, change_verdict, is_fresh}
use Rattle.lsl_bodies.specs.ActionVerdicts.{returned_nothing_verdict, returned_value_verdict, returned_verdict}
use Rattle.lsl_bodies.specs.ActionVerdicts.{initialised_verdict, statement_verdict, items_verdict, item_verdict}
use Rattle.lsl_bodies.proofs.Deciding.{Decides, gives_decides, faulty_decides, then_decides, the_one_decides}
use Rattle.lsl_bodies.proofs.Deciding.{must_decides, must_not_decides, entry_decides}
use Rattle.lsl_bodies.proofs.NameLemmas.{nearest_is, is_nearest}
use Rattle.lsl_bodies.proofs.TableLemmas.{constant_of-some, constant_of-named, event_of-some, event_of-named}
use Rattle.lsl_bodies.proofs.TableLemmas.{builtin_of-some, builtin_of-named}
use Rattle.lsl_bodies.proofs.RuleLemmas.{become_decides, value_decides, effect_decides, effects_decides}

-- tests
pub or_left : (a b : Bool) → a ≡ true → (a || b) ≡ true
or_left true b h = refl
or_left false b h = absurd (cc)

pub or_right : (a b : Bool) → b ≡ true → (a || b) ≡ true
or_right true b h = refl
or_right false b h = h

pub or_cases : (a b : Bool) → (a || b) ≡ true → (a ≡ true) ⊎ (b ≡ true)
or_cases true b h = inl refl
or_cases false b h = inr h

pub some_there : {T : Type 0} (o : Option T) → is_some o ≡ true → (t : T) × (o ≡ Some t)
some_there None h = absurd (cc)
some_there (Some t) h = (t, refl)

pub there_some : {T : Type 0} (o : Option T) (t : T) → o ≡ Some t → is_some o ≡ true
there_some o t h = ap is_some h

-- a reserved name is one of the tables'
pub reserved_is : (name : List ℕ) → is_reserved name ≡ true → IsReserved name
reserved_is name h = elim (or_cases (is_some (constant_of name))
    (is_some (event_of name) || is_some (builtin_of name)) h) [
      | inl c ↦ let t = some_there (constant_of name) c in inl (t.0, constant_of-some name t.0 t.1)
      | inr d ↦ inr (elim (or_cases (is_some (event_of name)) (is_some (builtin_of name)) d) [
        | inl e ↦ let t = some_there (event_of name) e in inl (t.0, event_of-some name t.0 t.1)
        | inr b ↦ let t = some_there (builtin_of name) b in inr (t.0, builtin_of-some name t.0 t.1)
      ])
    ]

pub is_reserved-of : (name : List ℕ) → IsReserved name → is_reserved name ≡ true
is_reserved-of name (inl (id, h)) = or_left (is_some (constant_of name))
    (is_some (event_of name) || is_some (builtin_of name))
    (there_some (constant_of name) id (constant_of-named name id h))
is_reserved-of name (inr (inl (id, h))) =
    or_right (is_some (constant_of name)) (is_some (event_of name) || is_some (builtin_of name))
    (or_left (is_some (event_of name)) (is_some (builtin_of name))
    (there_some (event_of name) id (event_of-named name id h)))
is_reserved-of name (inr (inr (id, h))) =
    or_right (is_some (constant_of name)) (is_some (event_of name) || is_some (builtin_of name))
    (or_right (is_some (event_of name)) (is_some (builtin_of name))
    (there_some (builtin_of name) id (builtin_of-named name id h)))

le_true : (m n : ℕ) → nat_le m n ≡ true → m ≤ n
le_true m n h = grind (arith, nat_tests)

true_le : (m n : ℕ) → m ≤ n → nat_le m n ≡ true
true_le m n h = grind (arith, nat_tests)

pub since_is : (names : List (List ℕ)) (first : ℕ) (name : List ℕ) → is_since names first name ≡ true
    → IsSince names first name
since_is names first name h = go (nearest name names) refl h
  where
    go : (o : Option ℕ) → nearest name names ≡ o → is_since_number first o ≡ true → IsSince names first name
    go None e f = absurd (cc)
    go (Some n) e f = (n, nearest_is name names n e, le_true first n f)

pub is_since-of : (names : List (List ℕ)) (first : ℕ) (name : List ℕ) → IsSince names first name
    → is_since names first name ≡ true
is_since-of names first name h = ap (is_since_number first) (is_nearest name names h.0 h.1) ∙ true_le first h.0 h.2

pub neither : (P Q : Type 0) (a b : Bool) → (a ≡ true → P) → (P → a ≡ true) → (b ≡ true → Q) → (Q → b ≡ true)
    → (fault : TypeFault) → Decides (must ((P → ⊥) × (Q → ⊥)) fault) (must_verdict (not (a || b)) fault)
neither P Q a b pa tp qb bq fault = must_decides ((P → ⊥) × (Q → ⊥)) fault (not (a || b)) (both a b pa qb tp bq)
    (test a b pa qb)
  where
    both : (a b : Bool) → (a ≡ true → P) → (b ≡ true → Q) → (P → a ≡ true) → (Q → b ≡ true)
        → not (a || b) ≡ true → (P → ⊥) × (Q → ⊥)
    both true b pa qb tp bq h = absurd (cc)
    both false true pa qb tp bq h = absurd (cc)
    both false false pa qb tp bq h = (
      (λ p. let e : false ≡ true = tp p in cc),
      (λ q. let e : false ≡ true =
          bq q in cc),
    )

    test : (a b : Bool) → (a ≡ true → P) → (b ≡ true → Q) → (P → ⊥) × (Q → ⊥) → not (a || b) ≡ true
    test true b pa qb h = absurd (h.0 (pa refl))
    test false true pa qb h = absurd (h.1 (qb refl))
    test false false pa qb h = refl

fresh_decides : (f : FrameView) (x : Name)
    → Decides (must (IsFresh f x) (at DoubleName x.span)) (must_verdict (is_fresh f x) (at DoubleName x.span))
fresh_decides f x = neither (IsReserved (spelled x)) (IsSince f.scope.names f.first_variable (spelled x))
    (is_reserved (spelled x)) (is_since f.scope.names f.first_variable (spelled x))
    (reserved_is (spelled x)) (is_reserved-of (spelled x)) (since_is f.scope.names f.first_variable (spelled x))
    (is_since-of f.scope.names f.first_variable (spelled x)) (at DoubleName x.span)

label_decides : (f : FrameView) (x : Name) → Decides (label f x) (label_verdict f x)
label_decides f x = the_one_decides (IsNearest (spelled x) f.labels) (at UnknownLabel x.span)
    (nearest (spelled x) f.labels) (nearest_is (spelled x) f.labels) (is_nearest (spelled x) f.labels)

jump_decides : (f : FrameView) (span : Span) (x : Name) → Decides (jump f span x) (jump_verdict f span x)
jump_decides f span x = then_decides (label f x) _ (label_verdict f x) _ (label_decides f x)
    (λ n. gives_decides (action.Jump span.line n))

state_some : (known : KnownView) (x : Name) (o : Option ℕ) → nearest (spelled x) known.states ≡ o → (n : ℕ)
    → option_map (λ before. before + 1) o ≡ Some n → IsState known x n
state_some known x None e n h = absurd (cc)
state_some known x (Some b) e n h = let same : b + 1 ≡ n = cc in (b, nearest_is (spelled x) known.states b e, sym same)

named_state_decides : (known : KnownView) (name : StateName)
    → Decides (named_state known name) (named_state_verdict known name)
named_state_decides known Default = gives_decides 0
named_state_decides known (Named x) =
    the_one_decides (IsState known x) (at UnknownName x.span)
    (option_map (λ before. before + 1) (nearest (spelled x) known.states))
    (state_some known x (nearest (spelled x) known.states) refl)
    (λ n h. ap (λ (o : Option ℕ). option_map (λ before. before + 1) o)
    (is_nearest (spelled x) known.states h.0 h.1) ∙ ap Some (sym h.2))

change_decides : (known : KnownView) (home : Home) (span : Span) (name : StateName)
    → Decides (change known home span name) (change_verdict known home span name)
change_decides known Handler span name = then_decides (named_state known name) _
    (named_state_verdict known name) _ (named_state_decides known name) (λ n. gives_decides (action.State n))
change_decides known (Function kind) span name = faulty_decides (at StateInFunction span)

returned_nothing_decides : (o : Option Kind) (span : Span)
    → Decides (returned_nothing o span) (returned_nothing_verdict o span)
returned_nothing_decides None span = gives_decides action.Return
returned_nothing_decides (Some kind) span = faulty_decides (at (WrongKind (Some kind) None) span)

returned_value_decides : (home : Home) (span : Span) (t : Node) (first : Span)
    → Decides (returned_value home span t first) (returned_value_verdict home span t first)
returned_value_decides home span t first =
    then_decides _ _ (the_one_verdict (home_kind home) (at (WrongKind None (Some (node_kind_of t))) span)) _
    (entry_decides (home_kind home) (at (WrongKind None (Some (node_kind_of t))) span)) (λ kind.
    then_decides (become kind t first) _ (become_verdict kind t first) _ (become_decides kind t first)
    (λ result. gives_decides (action.ReturnValue result)))

returned_decides : (known : KnownView) (home : Home) (s : ScopeView) (span : Span) (v : Option Expr)
    → Decides (returned known home s span v) (returned_verdict known home s span v)
returned_decides known home s span None = returned_nothing_decides (home_kind home) span
returned_decides known home s span (Some e) =
    then_decides (value known s e) _ (value_verdict known s e) _ (value_decides known s e)
    (λ t. returned_value_decides home span t (first_span e))

initialised_decides : (known : KnownView) (f : FrameView) (k : Kind) (x : Name) (v : Option Expr)
    → Decides (initialised known f k x v) (initialised_verdict known f k x v)
initialised_decides known f k x None = then_decides _ _ (must_verdict (is_fresh f x) (at DoubleName x.span)) _
    (fresh_decides f x) (λ u. gives_decides (empty_node k))
initialised_decides known f k x (Some e) =
    then_decides (value known f.scope e) _ (value_verdict known f.scope e) _ (value_decides known f.scope e) (λ t.
    then_decides _ _ (must_verdict (is_fresh f x) (at DoubleName x.span)) _ (fresh_decides f x)
    (λ u. become_decides k t (first_span e)))

mutual
  pub statement_decides : (known : KnownView) (home : Home) (f : FrameView) (s : Stmt)
      → Decides (statement known home f s) (statement_verdict known home f s)
  statement_decides known home f (stmt.Block es) =
      then_decides (items known home (opened f es) es) _ (items_verdict known home (opened f es) es) _
      (items_decides known home (opened f es) es)
      (λ inner. gives_decides (action.Block inner.0, inner.1.slots))
  statement_decides known home f stmt.Empty = gives_decides (action.Block NoAction, f.slots)
  statement_decides known home f (stmt.Expression e) =
      then_decides (effect known f.scope e) _ (effect_verdict known f.scope e) _
      (effect_decides known f.scope e) (λ x. gives_decides (action.Effect x, f.slots))
  statement_decides known home f (stmt.If span e a) =
      then_decides (value known f.scope e) _ (value_verdict known f.scope e) _ (value_decides known f.scope e) (λ test.
      then_decides (statement known home f a) _ (statement_verdict known home f a) _
      (statement_decides known home f a) (λ b. gives_decides (action.If test b.0, b.1)))
  statement_decides known home f (stmt.IfElse span e a b) =
      then_decides (value known f.scope e) _ (value_verdict known f.scope e) _ (value_decides known f.scope e) (λ test.
      then_decides (statement known home f a) _ (statement_verdict known home f a) _
      (statement_decides known home f a) (λ x.
      then_decides (statement known home (with_slots f x.1) b) _
      (statement_verdict known home (with_slots f x.1) b) _
      (statement_decides known home (with_slots f x.1) b)
      (λ y. gives_decides (action.IfElse test x.0 y.0, y.1))))
  statement_decides known home f (stmt.While span e a) =
      then_decides (value known f.scope e) _ (value_verdict known f.scope e) _ (value_decides known f.scope e) (λ test.
      then_decides (statement known home f a) _ (statement_verdict known home f a) _
      (statement_decides known home f a) (λ b. gives_decides (action.Loop span.line test [] b.0, b.1)))
  statement_decides known home f (stmt.Do span a e) =
      then_decides (statement known home f a) _ (statement_verdict known home f a) _
      (statement_decides known home f a) (λ b.
      then_decides (value known f.scope e) _ (value_verdict known f.scope e) _ (value_decides known f.scope e)
      (λ test. gives_decides (action.Do span.line b.0 test, b.1)))
  statement_decides known home f (stmt.For span xs e ys a) =
      then_decides (effects known f.scope xs) _ (effects_verdict known f.scope xs) _
      (effects_decides known f.scope xs) (λ start.
      then_decides (value known f.scope e) _ (value_verdict known f.scope e) _ (value_decides known f.scope e) (λ test.
      then_decides (effects known f.scope ys) _ (effects_verdict known f.scope ys) _
      (effects_decides known f.scope ys) (λ steps.
      then_decides (statement known home f a) _ (statement_verdict known home f a) _
      (statement_decides known home f a)
      (λ b. gives_decides (for_of start (action.Loop span.line test steps b.0), b.1)))))
  statement_decides known home f (stmt.Jump span x) =
      then_decides (jump f span x) _ (jump_verdict f span x) _ (jump_decides f span x)
      (λ act. gives_decides (act, f.slots))
  statement_decides known home f (stmt.Return span v) =
      then_decides (returned known home f.scope span v) _ (returned_verdict known home f.scope span v) _
      (returned_decides known home f.scope span v) (λ act. gives_decides (act, f.slots))
  statement_decides known home f (stmt.State span name) =
      then_decides (change known home span name) _ (change_verdict known home span name) _
      (change_decides known home span name) (λ act. gives_decides (act, f.slots))

  pub items_decides : (known : KnownView) (home : Home) (f : FrameView) (es : Items)
      → Decides (items known home f es) (items_verdict known home f es)
  items_decides known home f NoItem = gives_decides (NoAction, f)
  items_decides known home f (AndItem es e) =
      then_decides (items known home f es) _ (items_verdict known home f es) _ (items_decides known home f es)
      (λ before.
      then_decides (item known home before.1 e) _ (item_verdict known home before.1 e) _
      (item_decides known home before.1 e) (λ last. gives_decides (AndAction before.0 last.0, last.1)))

  pub item_decides : (known : KnownView) (home : Home) (f : FrameView) (e : Item)
      → Decides (item known home f e) (item_verdict known home f e)
  item_decides known home f (stmt.Declaration k x v) =
      then_decides (initialised known f k x v) _ (initialised_verdict known f k x v) _
      (initialised_decides known f k x v)
      (λ t. gives_decides (action.Declare (length f.slots) t, with_local f (spelled x) k))
  item_decides known home f (stmt.Label x) =
      then_decides _ _ (must_verdict (not (is_since f.passed f.first_label (spelled x))) (at DoubleName x.span)) _
      (must_not_decides (IsSince f.passed f.first_label (spelled x)) (at DoubleName x.span)
      (is_since f.passed f.first_label (spelled x)) (since_is f.passed f.first_label (spelled x))
      (is_since-of f.passed f.first_label (spelled x)))
      (λ fresh. then_decides (label f x) _ (label_verdict f x) _ (label_decides f x)
      (λ n. gives_decides (action.Label n, with_passed f (spelled x))))
  item_decides known home f (stmt.Statement a) =
      then_decides (statement known home f a) _ (statement_verdict known home f a) _
      (statement_decides known home f a) (λ act. gives_decides (act.0, with_slots f act.1))
