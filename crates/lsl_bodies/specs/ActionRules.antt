-- The meaning of statements, and their first faults.
use Rattle.std.specs.Prelude.{◌≡◌, ℕ, ◌+◌, Option, Some, None, List, [], length}
use Rattle.lsl_text.specs.declared.Span.{Span}
use Rattle.lsl_value.specs.declared.tagged.Kind.{Kind}
use Rattle.lsl_tree.specs.declared.expression.Name.{Name}
use Rattle.lsl_tree.specs.declared.statement.StateName.{StateName}
use Rattle.lsl_tree.specs.declared.statement.StateName.TheVariants.{Default, Named}
use Rattle.lsl_tree.specs.Expressions.{Expr}
use Rattle.lsl_tree.specs.Statements as stmt
use Rattle.lsl_tree.specs.Statements.{Stmt, Item, Items, NoItem, AndItem}
use Rattle.lsl_tree.specs.Nodes.{Node, node_kind_of}
use Rattle.lsl_tree.specs.Actions as action
use Rattle.lsl_tree.specs.Actions.{Action, Actions, NoAction, AndAction}
use Rattle.lsl_bodies.specs.declared.faults.TypeKind.TheVariants.{UnknownName, DoubleName, WrongKind, StateInFunction}
use Rattle.lsl_bodies.specs.declared.faults.TypeKind.TheVariants.{UnknownLabel}
use Rattle.lsl_bodies.specs.declared.frame.Home.{Home}
use Rattle.lsl_bodies.specs.declared.frame.Home.TheVariants.{Handler, Function}
use Rattle.lsl_bodies.specs.Names.{IsNearest}
use Rattle.lsl_bodies.specs.Scope.{ScopeView, FrameView, spelled, IsSince, with_local, with_slots, with_passed, opened}
use Rattle.lsl_bodies.specs.Known.{KnownView}
use Rattle.lsl_bodies.specs.Table.{IsReserved}
use Rattle.lsl_bodies.specs.Conversions.{empty_node}
use Rattle.lsl_bodies.specs.Spans.{first_span}
use Rattle.lsl_bodies.specs.Judgement.{at, Judgement, gives, ◌>>=◌, the_one, must, entry, faulty}
use Rattle.lsl_bodies.specs.VariableRules.{become}
use Rattle.lsl_bodies.specs.ValueRules.{value, effect, effects}
use Rattle.lsl_bodies.specs.ActionForms.{for_of, home_kind}

-- the label is the nearest of its name in the blocks around
abbrev pub label : FrameView → Name → Judgement ℕ
label f x = the_one (IsNearest (spelled x) f.labels) (at UnknownLabel x.span)

-- the states after `default` have the numbers from 1
abbrev pub IsState : KnownView → Name → ℕ → Type 0
IsState known x number = (before : ℕ) × IsNearest (spelled x) known.states before × (number ≡ before + 1)

abbrev pub named_state : KnownView → StateName → Judgement ℕ
named_state known Default = gives 0
named_state known (Named x) = the_one (IsState known x) (at UnknownName x.span)

abbrev pub jump : FrameView → Span → Name → Judgement Action
jump f span x = do
  number ← label f x
  gives (action.Jump span.line number)

-- a state is left in handlers alone
abbrev pub change : KnownView → Home → Span → StateName → Judgement Action
change known Handler span name = do
  number ← named_state known name
  gives (action.State number)
change known (Function kind) span name = faulty (at StateInFunction span)

abbrev pub returned_nothing : Option Kind → Span → Judgement Action
returned_nothing None span = gives action.Return
returned_nothing (Some kind) span = faulty (at (WrongKind (Some kind) None) span)

abbrev pub returned_value : Home → Span → Node → Span → Judgement Action
returned_value home span t first = do
  kind ← entry (home_kind home) (at (WrongKind None (Some (node_kind_of t))) span)
  result ← become kind t first
  gives (action.ReturnValue result)

-- a value is returned from a function with a kind, and from nowhere else
abbrev pub returned : KnownView → Home → ScopeView → Span → Option Expr → Judgement Action
returned known home s span None = returned_nothing (home_kind home) span
returned known home s span (Some e) = do
  t ← value known s e
  returned_value home span t (first_span e)

-- a local variable's name is neither reserved nor one of its block
abbrev pub IsFresh : FrameView → Name → Type 0
IsFresh f x = (IsReserved (spelled x) → ⊥) × (IsSince f.scope.names f.first_variable (spelled x) → ⊥)

-- a declaration, with a variable that isn't visible in its own value
abbrev pub initialised : KnownView → FrameView → Kind → Name → Option Expr → Judgement Node
initialised known f k x None = do
  fresh ← must (IsFresh f x) (at DoubleName x.span)
  gives (empty_node k)
initialised known f k x (Some e) = do
  t ← value known f.scope e
  fresh ← must (IsFresh f x) (at DoubleName x.span)
  become k t (first_span e)

abbrev pub declared_here : KnownView → FrameView → Kind → Name → Option Expr → Judgement (Action × FrameView)
declared_here known f k x v = do
  t ← initialised known f k x v
  gives (action.Declare (length f.slots) t, with_local f (spelled x) k)

abbrev pub labelled : FrameView → Name → Judgement (Action × FrameView)
labelled f x = do
  fresh ← must (IsSince f.passed f.first_label (spelled x) → ⊥) (at DoubleName x.span)
  number ← label f x
  gives (action.Label number, with_passed f (spelled x))

abbrev mutual
  -- a statement, and the slots after it
  pub statement : KnownView → Home → FrameView → Stmt → Judgement (Action × List Kind)
  statement known home f (stmt.Block es) = do
    inner ← items known home (opened f es) es
    gives (action.Block inner.0, inner.1.slots)
  statement known home f stmt.Empty = gives (action.Block NoAction, f.slots)
  statement known home f (stmt.Expression e) = do
    x ← effect known f.scope e
    gives (action.Effect x, f.slots)
  statement known home f (stmt.If span e a) = do
    test ← value known f.scope e
    then ← statement known home f a
    gives (action.If test then.0, then.1)
  statement known home f (stmt.IfElse span e a b) = do
    test ← value known f.scope e
    then ← statement known home f a
    otherwise ← statement known home (with_slots f then.1) b
    gives (action.IfElse test then.0 otherwise.0, otherwise.1)
  statement known home f (stmt.While span e a) = do
    test ← value known f.scope e
    body ← statement known home f a
    gives (action.Loop span.line test [] body.0, body.1)
  statement known home f (stmt.Do span a e) = do
    body ← statement known home f a
    test ← value known f.scope e
    gives (action.Do span.line body.0 test, body.1)
  statement known home f (stmt.For span xs e ys a) = do
    start ← effects known f.scope xs
    test ← value known f.scope e
    steps ← effects known f.scope ys
    body ← statement known home f a
    gives (for_of start (action.Loop span.line test steps body.0), body.1)
  statement known home f (stmt.Jump span x) = do
    act ← jump f span x
    gives (act, f.slots)
  statement known home f (stmt.Return span v) = do
    act ← returned known home f.scope span v
    gives (act, f.slots)
  statement known home f (stmt.State span name) = do
    act ← change known home span name
    gives (act, f.slots)

  -- the items of a block, and what is visible after it
  pub items : KnownView → Home → FrameView → Items → Judgement (Actions × FrameView)
  items known home f NoItem = gives (NoAction, f)
  items known home f (AndItem es e) = do
    before ← items known home f es
    last ← item known home before.1 e
    gives (AndAction before.0 last.0, last.1)

  pub item : KnownView → Home → FrameView → Item → Judgement (Action × FrameView)
  item known home f (stmt.Declaration k x v) = declared_here known f k x v
  item known home f (stmt.Label x) = labelled f x
  item known home f (stmt.Statement a) = do
    act ← statement known home f a
    gives (act.0, with_slots f act.1)
