-- The meaning of variables and constants, and what is assigned to them.
use Rattle.std.specs.Prelude.{◌≡◌, Option, Some, None}
use Rattle.lsl_text.specs.declared.Span.{Span}
use Rattle.lsl_value.specs.declared.operators.BinaryOp.{BinaryOp}
use Rattle.lsl_value.specs.declared.tagged.Kind.{Kind}
use Rattle.lsl_value.specs.declared.tagged.Kind.TheVariants.{Int}
use Rattle.lsl_value.specs.OperatorRows.{result_kind_of}
use Rattle.lsl_tree.specs.declared.expression.Name.{Name}
use Rattle.lsl_tree.specs.declared.expression.AssignOp.{AssignOp}
use Rattle.lsl_tree.specs.declared.expression.StepOp.{StepOp}
use Rattle.lsl_tree.specs.declared.program_node.Place.{Place}
use Rattle.lsl_tree.specs.Nodes as node
use Rattle.lsl_tree.specs.Nodes.{Node, node_kind_of}
use Rattle.lsl_bodies.specs.declared.faults.TypeKind.TheVariants.{UnknownName, WrongKind, NoOperator, NotVariable}
use Rattle.lsl_bodies.specs.declared.frame.Variable.{Variable as VariableOf}
use Rattle.lsl_bodies.specs.Scope.{ScopeView, spelled, IsVariable}
use Rattle.lsl_bodies.specs.Table.{IsConstant}
use Rattle.lsl_bodies.specs.Conversions.{as_kind, operator_before}
use Rattle.lsl_bodies.specs.Judgement.{at, Judgement, gives, ◌>>=◌, the_one, must, entry}
use Rattle.lsl_bodies.specs.declared.frame.Target.{Target}
use Rattle.lsl_bodies.specs.declared.frame.Target.TheVariants.{Kept, Fixed}
use Rattle.lsl_bodies.specs.Targets.{read_of, steps_of}

-- what a name refers to where no call is meant: the nearest variable of the name, otherwise the constant
abbrev pub IsTarget : ScopeView → Name → Target → Type 0
IsTarget s x (Kept v) = IsVariable s (spelled x) v
IsTarget s x (Fixed id) = ((v : VariableOf) → IsVariable s (spelled x) v → ⊥) × IsConstant (spelled x) id

abbrev pub target : ScopeView → Name → Judgement Target
target s x = the_one (IsTarget s x) (at UnknownName x.span)

-- a constant can't be assigned
abbrev pub KeepsVariable : Target → VariableOf → Type 0
KeepsVariable t v = t ≡ Kept v

abbrev pub variable : Target → Name → Judgement VariableOf
variable t x = the_one (KeepsVariable t) (at NotVariable x.span)

-- and no variable but an integer can be stepped
abbrev pub IsCounter : Target → Place → Type 0
IsCounter t p = t ≡ Kept (record { place = p; kind = Int })

abbrev pub counter : Target → Name → Judgement Place
counter t x = the_one (IsCounter t) (at NotVariable x.span)

-- the node as one of the wanted kind, by the implicit cast if need be
abbrev pub become : Kind → Node → Span → Judgement Node
become k t span = entry (as_kind k t) (at (WrongKind (Some k) (Some (node_kind_of t))) span)

-- `x op= e` is `x = x op e`, where the operator gives the variable's kind
abbrev pub compound : BinaryOp → VariableOf → Node → Span → Judgement Node
compound op v t sign = do
  row ← must (result_kind_of op v.kind (node_kind_of t) ≡ Some v.kind) (at NoOperator sign)
  gives (node.Assign v.place v.kind (node.Binary op v.kind (node.Variable v.place v.kind) t))

-- an assignment of a value, by an operator or by none
abbrev pub assigned : Option BinaryOp → VariableOf → Node → Span → Span → Judgement Node
assigned None v t sign first = do
  cast ← become v.kind t first
  gives (node.Assign v.place v.kind cast)
assigned (Some op) v t sign first = compound op v t sign

-- an assignment to a name's target
abbrev pub stored : Target → Name → AssignOp → Span → Node → Span → Judgement Node
stored t x op span right first = do
  v ← variable t x
  assigned (operator_before op) v right span first

abbrev pub read : ScopeView → Name → Judgement Node
read s x = do
  t ← target s x
  gives (read_of t)

abbrev pub step_behind : ScopeView → Name → StepOp → Judgement Node
step_behind s x op = do
  t ← target s x
  place ← counter t x
  gives (node.StepBehind place op)

abbrev pub step_before : ScopeView → Name → StepOp → Judgement Node
step_before s x op = do
  t ← target s x
  place ← counter t x
  gives (steps_of place op)
