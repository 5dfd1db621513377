-- What headers declare, and their first faults: globals, functions, states and handlers.
use Rattle.std.specs.Prelude.{◌≡◌, ℕ, Some, None, true, List, [], ◌∷◌, ◌++◌, Contains}
use Rattle.lsl_text.specs.declared.Span.{Span}
use Rattle.lsl_value.specs.declared.tagged.Kind.{Kind}
use Rattle.lsl_value.specs.declared.tagged.Kind.TheVariants.{List as ListKind}
use Rattle.lsl_value.specs.declared.names.EventId.{EventId}
use Rattle.lsl_tree.specs.declared.expression.Name.{Name}
use Rattle.lsl_tree.specs.declared.script.Atom.{Atom}
use Rattle.lsl_tree.specs.declared.script.Atom.TheVariants as atom
use Rattle.lsl_tree.specs.declared.script.Param.{Param}
use Rattle.lsl_tree.specs.declared.program.Part.{Part}
use Rattle.lsl_tree.specs.declared.program.Part.TheVariants as part
use Rattle.lsl_tree.specs.declared.program_node.Place.TheVariants.{Global}
use Rattle.lsl_tree.specs.Scripts as source
use Rattle.lsl_tree.specs.Scripts.{Simple, Header, Handler, State}
use Rattle.lsl_tree.specs.Program as program
use Rattle.lsl_tree.specs.Program.{Initial}
use Rattle.lsl_bodies.specs.declared.faults.TypeKind.TheVariants.{DoubleName, WrongKind, NotConstant, WrongHandler}
use Rattle.lsl_bodies.specs.declared.frame.Variable.{Variable}
use Rattle.lsl_bodies.specs.Scope.{ScopeView, spelled, IsVariable}
use Rattle.lsl_bodies.specs.Known.{kinds_of}
use Rattle.lsl_type.specs.Headers.{HeadersView, with_global, with_function}
use Rattle.lsl_bodies.specs.Table.{IsReserved, IsConstant, IsEvent, event_params_of, constant_kind_of}
use Rattle.lsl_tree.specs.Initials.{initial_kind_of, part_kind_of}
use Rattle.lsl_bodies.specs.Conversions.{initial_as_kind, empty_initial, is_no_list}
use Rattle.lsl_bodies.specs.Spans.{atom_span, initial_span}
use Rattle.lsl_bodies.specs.Judgement.{at, Judgement, gives, ◌>>=◌, the_one, must, entry, each}

-- in a global's value a name refers to an earlier global, otherwise to a constant
abbrev pub IsInitial : ScopeView → Name → Part → Type 0
IsInitial s x (part.Int n) = ⊥
IsInitial s x (part.Negative n) = ⊥
IsInitial s x (part.Str t) = ⊥
IsInitial s x (part.Constant id k) =
    ((v : Variable) → IsVariable s (spelled x) v → ⊥) × IsConstant (spelled x) id × (k ≡ constant_kind_of id)
IsInitial s x (part.Global number k) = IsVariable s (spelled x) (record { place = Global number; kind = k })

abbrev pub initial_part : ScopeView → Atom → Judgement Part
initial_part s (atom.Int n span) = gives (part.Int n)
initial_part s (atom.Negative n span) = gives (part.Negative n)
initial_part s (atom.Str t span) = gives (part.Str t)
initial_part s (atom.Constant x) = the_one (IsInitial s x) (at NotConstant x.span)

abbrev pub next_part : ScopeView → List Part → Atom → Judgement (List Part)
next_part s before a = do
  p ← initial_part s a
  gives (before ++ p ∷ [])

-- no part of a list is a list
abbrev pub flat_parts : List Atom → List Part → Judgement (Unit {0})
flat_parts [] ps = gives tt
flat_parts (a ∷ rest) [] = gives tt
flat_parts (a ∷ rest) (p ∷ ps) = do
  flat ← must (is_no_list (part_kind_of p) ≡ true) (at (WrongKind None (Some ListKind)) (atom_span a))
  flat_parts rest ps

abbrev pub initial : ScopeView → Simple → Judgement Initial
initial s (source.Atom a) = do
  p ← initial_part s a
  gives (program.Single p)
initial s (source.Atoms span atoms) = do
  ps ← each (next_part s) [] atoms
  flat ← flat_parts atoms ps
  gives (program.ListLiteral ps)

-- a global's or function's name is neither reserved nor that of an earlier one
abbrev pub IsUnused : HeadersView → Name → Type 0
IsUnused h x =
    (IsReserved (spelled x) → ⊥) × (Contains h.scope.names (spelled x) → ⊥) × (Contains h.functions (spelled x) → ⊥)

-- a parameter's name is neither reserved nor that of an earlier one
abbrev pub param : List (List ℕ) → Param → Judgement (List (List ℕ))
param names p = do
  fresh ← must ((IsReserved (spelled p.name) → ⊥) × (Contains names (spelled p.name) → ⊥)) (at DoubleName p.name.span)
  gives (spelled p.name ∷ names)

abbrev pub initial_become : Kind → Initial → Span → Judgement Initial
initial_become k found span =
    entry (initial_as_kind k found) (at (WrongKind (Some k) (Some (initial_kind_of found))) span)

abbrev pub header : HeadersView → Header → Judgement HeadersView
header h (source.Global k x None) = do
  unused ← must (IsUnused h x) (at DoubleName x.span)
  gives (with_global h (spelled x) k (empty_initial k))
header h (source.Global k x (Some v)) = do
  found ← initial h.scope v
  unused ← must (IsUnused h x) (at DoubleName x.span)
  value ← initial_become k found (initial_span v)
  gives (with_global h (spelled x) k value)
header h (source.Function k x params body) = do
  unused ← must (IsUnused h x) (at DoubleName x.span)
  names ← each param [] params
  gives (with_function h (spelled x) k params)

-- a state has one handler of an event, with the event's parameters
abbrev pub handler : List EventId → Handler → Judgement (List EventId)
handler events h = do
  event ← the_one (IsEvent (spelled h.name)) (at WrongHandler h.name.span)
  first ← must (Contains events event → ⊥) (at DoubleName h.name.span)
  kinds ← must (kinds_of h.params ≡ event_params_of event) (at WrongHandler h.name.span)
  names ← each param [] h.params
  gives (events ++ event ∷ [])

-- states have names of their own
abbrev pub state : List (List ℕ) → State → Judgement (List (List ℕ))
state names s = do
  fresh ← must (Contains names (spelled s.name) → ⊥) (at DoubleName s.name.span)
  events ← each handler [] s.handlers
  gives (spelled s.name ∷ names)
