-- The meaning of statements, and their first faults, as functions.
use Rattle.std.specs.Prelude.{ℕ, ◌+◌, Option, Some, None, Bool, not, ◌||◌, List, [], length, Ok, Err}
use Rattle.lsl_text.specs.declared.Span.{Span}
use Rattle.lsl_value.specs.declared.tagged.Kind.{Kind}
use Rattle.lsl_tree.specs.declared.expression.Name.{Name}
use Rattle.lsl_tree.specs.declared.statement.StateName.{StateName}
use Rattle.lsl_tree.specs.declared.statement.StateName.TheVariants.{Default, Named}
use Rattle.lsl_tree.specs.Expressions.{Expr}
use Rattle.lsl_tree.specs.Statements as stmt
use Rattle.lsl_tree.specs.Statements.{Stmt, Item, Items, NoItem, AndItem}
use Rattle.lsl_tree.specs.Nodes.{Node, node_kind_of}
use Rattle.lsl_tree.specs.Actions as action
use Rattle.lsl_tree.specs.Actions.{Action, Actions, NoAction, AndAction}
use Rattle.lsl_bodies.specs.declared.faults.TypeKind.TheVariants.{UnknownName, DoubleName, WrongKind, StateInFunction}
use Rattle.lsl_bodies.specs.declared.faults.TypeKind.TheVariants.{UnknownLabel}
use Rattle.lsl_bodies.specs.declared.frame.Home.{Home}
use Rattle.lsl_bodies.specs.declared.frame.Home.TheVariants.{Handler, Function}
use Rattle.lsl_bodies.specs.Names.{nearest}
use Rattle.lsl_bodies.specs.Scope.{ScopeView, FrameView, spelled, is_since, with_local, with_slots, with_passed, opened}
use Rattle.lsl_bodies.specs.Known.{KnownView}
use Rattle.lsl_bodies.specs.Table.{is_reserved}
use Rattle.lsl_bodies.specs.Conversions.{empty_node}
use Rattle.lsl_bodies.specs.Spans.{first_span}
use Rattle.lsl_bodies.specs.Judgement.{at}
use Rattle.std.specs.Option.{option_map}
use Rattle.lsl_bodies.specs.Verdict.{Verdict, ◌>>=◌, the_one_verdict, must_verdict}
use Rattle.lsl_bodies.specs.VariableVerdicts.{become_verdict}
use Rattle.lsl_bodies.specs.ValueVerdicts.{value_verdict, effect_verdict, effects_verdict}
use Rattle.lsl_bodies.specs.ActionForms.{for_of, home_kind}

abbrev pub label_verdict : FrameView → Name → Verdict ℕ
label_verdict f x = the_one_verdict (nearest (spelled x) f.labels) (at UnknownLabel x.span)

abbrev pub jump_verdict : FrameView → Span → Name → Verdict Action
jump_verdict f span x = do
  number ← label_verdict f x
  Ok (action.Jump span.line number)

abbrev pub named_state_verdict : KnownView → StateName → Verdict ℕ
named_state_verdict known Default = Ok 0
named_state_verdict known (Named x) =
    the_one_verdict (option_map (λ before. before + 1) (nearest (spelled x) known.states)) (at UnknownName x.span)

abbrev pub change_verdict : KnownView → Home → Span → StateName → Verdict Action
change_verdict known Handler span name = do
  number ← named_state_verdict known name
  Ok (action.State number)
change_verdict known (Function kind) span name = Err (at StateInFunction span)

abbrev pub is_fresh : FrameView → Name → Bool
is_fresh f x = not (is_reserved (spelled x) || is_since f.scope.names f.first_variable (spelled x))

abbrev pub returned_nothing_verdict : Option Kind → Span → Verdict Action
returned_nothing_verdict None span = Ok action.Return
returned_nothing_verdict (Some kind) span = Err (at (WrongKind (Some kind) None) span)

abbrev pub returned_value_verdict : Home → Span → Node → Span → Verdict Action
returned_value_verdict home span t first = do
  kind ← the_one_verdict (home_kind home) (at (WrongKind None (Some (node_kind_of t))) span)
  result ← become_verdict kind t first
  Ok (action.ReturnValue result)

abbrev pub returned_verdict : KnownView → Home → ScopeView → Span → Option Expr → Verdict Action
returned_verdict known home s span None = returned_nothing_verdict (home_kind home) span
returned_verdict known home s span (Some e) = do
  t ← value_verdict known s e
  returned_value_verdict home span t (first_span e)

abbrev pub initialised_verdict : KnownView → FrameView → Kind → Name → Option Expr → Verdict Node
initialised_verdict known f k x None = do
  fresh ← must_verdict (is_fresh f x) (at DoubleName x.span)
  Ok (empty_node k)
initialised_verdict known f k x (Some e) = do
  t ← value_verdict known f.scope e
  fresh ← must_verdict (is_fresh f x) (at DoubleName x.span)
  become_verdict k t (first_span e)

abbrev pub declared_verdict : KnownView → FrameView → Kind → Name → Option Expr → Verdict (Action × FrameView)
declared_verdict known f k x v = do
  t ← initialised_verdict known f k x v
  Ok (action.Declare (length f.slots) t, with_local f (spelled x) k)

abbrev pub labelled_verdict : FrameView → Name → Verdict (Action × FrameView)
labelled_verdict f x = do
  fresh ← must_verdict (not (is_since f.passed f.first_label (spelled x))) (at DoubleName x.span)
  number ← label_verdict f x
  Ok (action.Label number, with_passed f (spelled x))

abbrev pub expression_verdict : KnownView → ScopeView → Expr → Verdict Action
expression_verdict known s e = do
  x ← effect_verdict known s e
  Ok (action.Effect x)

abbrev mutual
  pub statement_verdict : KnownView → Home → FrameView → Stmt → Verdict (Action × List Kind)
  statement_verdict known home f (stmt.Block es) = do
    inner ← items_verdict known home (opened f es) es
    Ok (action.Block inner.0, inner.1.slots)
  statement_verdict known home f stmt.Empty = Ok (action.Block NoAction, f.slots)
  statement_verdict known home f (stmt.Expression e) = do
    x ← effect_verdict known f.scope e
    Ok (action.Effect x, f.slots)
  statement_verdict known home f (stmt.If span e a) = do
    test ← value_verdict known f.scope e
    then ← statement_verdict known home f a
    Ok (action.If test then.0, then.1)
  statement_verdict known home f (stmt.IfElse span e a b) = do
    test ← value_verdict known f.scope e
    then ← statement_verdict known home f a
    otherwise ← statement_verdict known home (with_slots f then.1) b
    Ok (action.IfElse test then.0 otherwise.0, otherwise.1)
  statement_verdict known home f (stmt.While span e a) = do
    test ← value_verdict known f.scope e
    body ← statement_verdict known home f a
    Ok (action.Loop span.line test [] body.0, body.1)
  statement_verdict known home f (stmt.Do span a e) = do
    body ← statement_verdict known home f a
    test ← value_verdict known f.scope e
    Ok (action.Do span.line body.0 test, body.1)
  statement_verdict known home f (stmt.For span xs e ys a) = do
    start ← effects_verdict known f.scope xs
    test ← value_verdict known f.scope e
    steps ← effects_verdict known f.scope ys
    body ← statement_verdict known home f a
    Ok (for_of start (action.Loop span.line test steps body.0), body.1)
  statement_verdict known home f (stmt.Jump span x) = do
    act ← jump_verdict f span x
    Ok (act, f.slots)
  statement_verdict known home f (stmt.Return span v) = do
    act ← returned_verdict known home f.scope span v
    Ok (act, f.slots)
  statement_verdict known home f (stmt.State span name) = do
    act ← change_verdict known home span name
    Ok (act, f.slots)

  pub items_verdict : KnownView → Home → FrameView → Items → Verdict (Actions × FrameView)
  items_verdict known home f NoItem = Ok (NoAction, f)
  items_verdict known home f (AndItem es e) = do
    before ← items_verdict known home f es
    last ← item_verdict known home before.1 e
    Ok (AndAction before.0 last.0, last.1)

  pub item_verdict : KnownView → Home → FrameView → Item → Verdict (Action × FrameView)
  item_verdict known home f (stmt.Declaration k x v) = declared_verdict known f k x v
  item_verdict known home f (stmt.Label x) = labelled_verdict f x
  item_verdict known home f (stmt.Statement a) = do
    act ← statement_verdict known home f a
    Ok (act.0, with_slots f act.1)
