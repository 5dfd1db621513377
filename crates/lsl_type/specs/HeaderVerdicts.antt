-- What headers declare, and their first faults, as functions.
use Rattle.std.specs.Prelude.{ℕ, Option, Some, None, Bool, not, ◌||◌, is_some, List, [], ◌∷◌, ◌++◌, Ok}
use Rattle.lsl_text.specs.declared.Span.{Span}
use Rattle.lsl_value.specs.declared.tagged.Kind.{Kind}
use Rattle.lsl_value.specs.declared.tagged.Kind.TheVariants.{List as ListKind}
use Rattle.lsl_value.specs.declared.names.EventId.{EventId}
use Rattle.lsl_value.specs.declared.names.ConstantId.{ConstantId}
use Rattle.lsl_tree.specs.declared.expression.Name.{Name}
use Rattle.lsl_tree.specs.declared.script.Atom.{Atom}
use Rattle.lsl_tree.specs.declared.script.Atom.TheVariants as atom
use Rattle.lsl_tree.specs.declared.script.Param.{Param}
use Rattle.lsl_tree.specs.declared.program.Part.{Part}
use Rattle.lsl_tree.specs.declared.program.Part.TheVariants as part
use Rattle.lsl_tree.specs.declared.program_node.Place.{Place}
use Rattle.lsl_tree.specs.declared.program_node.Place.TheVariants.{Global, Slot}
use Rattle.lsl_tree.specs.Scripts as source
use Rattle.lsl_tree.specs.Scripts.{Simple, Header, Handler, State}
use Rattle.lsl_tree.specs.Program as program
use Rattle.lsl_tree.specs.Program.{Initial}
use Rattle.lsl_bodies.specs.declared.faults.TypeKind.TheVariants.{DoubleName, WrongKind, NotConstant, WrongHandler}
use Rattle.lsl_bodies.specs.declared.frame.Variable.{Variable}
use Rattle.lsl_bodies.specs.Scope.{ScopeView, spelled, variable_of}
use Rattle.lsl_bodies.specs.Known.{kinds_of}
use Rattle.lsl_type.specs.Headers.{HeadersView, with_global, with_function}
use Rattle.lsl_bodies.specs.Table.{is_reserved, constant_of, event_of, event_params_of, constant_kind_of}
use Rattle.lsl_tree.specs.Initials.{initial_kind_of, part_kind_of}
use Rattle.lsl_bodies.specs.Conversions.{initial_as_kind, empty_initial, is_no_list}
use Rattle.lsl_bodies.specs.Spans.{atom_span, initial_span}
use Rattle.lsl_bodies.specs.Judgement.{at}
use Rattle.lsl_bodies.specs.Names.{nearest}
use Rattle.lsl_bodies.specs.Verdict.{Verdict, ◌>>=◌, the_one_verdict, must_verdict, each_verdict}
use Rattle.lsl_bodies.specs.Sameness.{same_event, same_kinds}
use Rattle.std.specs.List.{list_any}

abbrev pub constant_part : Option ConstantId → Option Part
constant_part None = None
constant_part (Some id) = Some (part.Constant id (constant_kind_of id))

-- a slot isn't a global's
abbrev pub part_of : Variable → Option Part
part_of v = part_at v.place v.kind where
  part_at : Place → Kind → Option Part
  part_at (Global number) k = Some (part.Global number k)
  part_at (Slot number) k = None

abbrev pub constant_initial_verdict : Name → Verdict Part
constant_initial_verdict x = the_one_verdict (constant_part (constant_of (spelled x))) (at NotConstant x.span)

abbrev pub part_by : Option Variable → Name → Verdict Part
part_by (Some v) x = the_one_verdict (part_of v) (at NotConstant x.span)
part_by None x = constant_initial_verdict x

abbrev pub initial_part_verdict : ScopeView → Atom → Verdict Part
initial_part_verdict s (atom.Int n span) = Ok (part.Int n)
initial_part_verdict s (atom.Negative n span) = Ok (part.Negative n)
initial_part_verdict s (atom.Str t span) = Ok (part.Str t)
initial_part_verdict s (atom.Constant x) = part_by (variable_of s (spelled x)) x

abbrev pub is_unused : HeadersView → Name → Bool
is_unused h x =
    not (is_reserved (spelled x)
    || (is_some (nearest (spelled x) h.scope.names) || is_some (nearest (spelled x) h.functions)))

abbrev pub has_event : List EventId → EventId → Bool
has_event events event = list_any (λ e. same_event e event) events

abbrev pub next_part_verdict : ScopeView → List Part → Atom → Verdict (List Part)
next_part_verdict s before a = do
  p ← initial_part_verdict s a
  Ok (before ++ p ∷ [])

abbrev pub flat_parts_verdict : List Atom → List Part → Verdict (Unit {0})
flat_parts_verdict [] ps = Ok tt
flat_parts_verdict (a ∷ rest) [] = Ok tt
flat_parts_verdict (a ∷ rest) (p ∷ ps) = do
  flat ← must_verdict (is_no_list (part_kind_of p)) (at (WrongKind None (Some ListKind)) (atom_span a))
  flat_parts_verdict rest ps

abbrev pub initial_verdict : ScopeView → Simple → Verdict Initial
initial_verdict s (source.Atom a) = do
  p ← initial_part_verdict s a
  Ok (program.Single p)
initial_verdict s (source.Atoms span atoms) = do
  ps ← each_verdict (next_part_verdict s) [] atoms
  flat ← flat_parts_verdict atoms ps
  Ok (program.ListLiteral ps)

abbrev pub param_verdict : List (List ℕ) → Param → Verdict (List (List ℕ))
param_verdict names p = do
  fresh ← must_verdict (not (is_reserved (spelled p.name) || is_some (nearest (spelled p.name) names)))
      (at DoubleName p.name.span)
  Ok (spelled p.name ∷ names)

abbrev pub initial_become_verdict : Kind → Initial → Span → Verdict Initial
initial_become_verdict k found span =
    the_one_verdict (initial_as_kind k found) (at (WrongKind (Some k) (Some (initial_kind_of found))) span)

abbrev pub header_verdict : HeadersView → Header → Verdict HeadersView
header_verdict h (source.Global k x None) = do
  unused ← must_verdict (is_unused h x) (at DoubleName x.span)
  Ok (with_global h (spelled x) k (empty_initial k))
header_verdict h (source.Global k x (Some v)) = do
  found ← initial_verdict h.scope v
  unused ← must_verdict (is_unused h x) (at DoubleName x.span)
  value ← initial_become_verdict k found (initial_span v)
  Ok (with_global h (spelled x) k value)
header_verdict h (source.Function k x params body) = do
  unused ← must_verdict (is_unused h x) (at DoubleName x.span)
  names ← each_verdict param_verdict [] params
  Ok (with_function h (spelled x) k params)

abbrev pub handler_verdict : List EventId → Handler → Verdict (List EventId)
handler_verdict events h = do
  event ← the_one_verdict (event_of (spelled h.name)) (at WrongHandler h.name.span)
  first ← must_verdict (not (has_event events event)) (at DoubleName h.name.span)
  kinds ← must_verdict (same_kinds (kinds_of h.params) (event_params_of event)) (at WrongHandler h.name.span)
  names ← each_verdict param_verdict [] h.params
  Ok (events ++ event ∷ [])

abbrev pub state_verdict : List (List ℕ) → State → Verdict (List (List ℕ))
state_verdict names s = do
  fresh ← must_verdict (not (is_some (nearest (spelled s.name) names))) (at DoubleName s.name.span)
  events ← each_verdict handler_verdict [] s.handlers
  Ok (spelled s.name ∷ names)
