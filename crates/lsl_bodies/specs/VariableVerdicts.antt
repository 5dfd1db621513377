-- The meaning of variables and constants, and what is assigned to them, as functions.
use Rattle.std.specs.Prelude.{Option, Some, None, Bool, true, false}
use Rattle.lsl_text.specs.declared.Span.{Span}
use Rattle.lsl_value.specs.declared.operators.BinaryOp.{BinaryOp}
use Rattle.lsl_value.specs.declared.tagged.Kind.{Kind}
use Rattle.lsl_value.specs.declared.names.ConstantId.{ConstantId}
use Rattle.lsl_value.specs.OperatorRows.{result_kind_of}
use Rattle.lsl_tree.specs.declared.expression.Name.{Name}
use Rattle.lsl_tree.specs.declared.expression.AssignOp.{AssignOp}
use Rattle.lsl_tree.specs.declared.expression.StepOp.{StepOp}
use Rattle.lsl_tree.specs.declared.program_node.Place.{Place}
use Rattle.lsl_tree.specs.Nodes as node
use Rattle.lsl_tree.specs.Nodes.{Node, node_kind_of}
use Rattle.lsl_bodies.specs.declared.faults.TypeKind.TheVariants.{UnknownName, WrongKind, NoOperator, NotVariable}
use Rattle.lsl_bodies.specs.declared.frame.Variable.{Variable as VariableOf}
use Rattle.lsl_bodies.specs.Scope.{ScopeView, spelled, variable_of}
use Rattle.lsl_bodies.specs.Table.{constant_of}
use Rattle.lsl_bodies.specs.Conversions.{as_kind, is_int, operator_before}
use Rattle.lsl_bodies.specs.Judgement.{at}
use Rattle.std.specs.Prelude.{Ok, Err}
use Rattle.lsl_bodies.specs.Verdict.{Verdict, ◌>>=◌, the_one_verdict, must_verdict}
use Rattle.lsl_bodies.specs.Sameness.{is_kind}
use Rattle.lsl_bodies.specs.declared.frame.Target.{Target}
use Rattle.lsl_bodies.specs.declared.frame.Target.TheVariants.{Kept, Fixed}
use Rattle.lsl_bodies.specs.Targets.{read_of, steps_of}

abbrev pub constant_target : Option ConstantId → Option Target
constant_target None = None
constant_target (Some id) = Some (Fixed id)

abbrev pub constant_target_verdict : Name → Verdict Target
constant_target_verdict x = the_one_verdict (constant_target (constant_of (spelled x))) (at UnknownName x.span)

abbrev pub target_by : Option VariableOf → Name → Verdict Target
target_by (Some v) x = Ok (Kept v)
target_by None x = constant_target_verdict x

abbrev pub target_verdict : ScopeView → Name → Verdict Target
target_verdict s x = target_by (variable_of s (spelled x)) x

abbrev pub variable_verdict : Target → Name → Verdict VariableOf
variable_verdict (Kept v) x = Ok v
variable_verdict (Fixed id) x = Err (at NotVariable x.span)

abbrev pub place_by : Bool → Place → Name → Verdict Place
place_by true p x = Ok p
place_by false p x = Err (at NotVariable x.span)

abbrev pub counter_verdict : Target → Name → Verdict Place
counter_verdict (Kept v) x = place_by (is_int v.kind) v.place x
counter_verdict (Fixed id) x = Err (at NotVariable x.span)

abbrev pub become_verdict : Kind → Node → Span → Verdict Node
become_verdict k t span = the_one_verdict (as_kind k t) (at (WrongKind (Some k) (Some (node_kind_of t))) span)

abbrev pub compound_verdict : BinaryOp → VariableOf → Node → Span → Verdict Node
compound_verdict op v t sign = do
  row ← must_verdict (is_kind (result_kind_of op v.kind (node_kind_of t)) v.kind) (at NoOperator sign)
  Ok (node.Assign v.place v.kind (node.Binary op v.kind (node.Variable v.place v.kind) t))

abbrev pub assigned_verdict : Option BinaryOp → VariableOf → Node → Span → Span → Verdict Node
assigned_verdict None v t sign first = do
  cast ← become_verdict v.kind t first
  Ok (node.Assign v.place v.kind cast)
assigned_verdict (Some op) v t sign first = compound_verdict op v t sign

abbrev pub stored_verdict : Target → Name → AssignOp → Span → Node → Span → Verdict Node
stored_verdict t x op span right first = do
  v ← variable_verdict t x
  assigned_verdict (operator_before op) v right span first

abbrev pub read_verdict : ScopeView → Name → Verdict Node
read_verdict s x = do
  t ← target_verdict s x
  Ok (read_of t)

abbrev pub step_behind_verdict : ScopeView → Name → StepOp → Verdict Node
step_behind_verdict s x op = do
  t ← target_verdict s x
  place ← counter_verdict t x
  Ok (node.StepBehind place op)

abbrev pub step_before_verdict : ScopeView → Name → StepOp → Verdict Node
step_before_verdict s x op = do
  t ← target_verdict s x
  place ← counter_verdict t x
  Ok (steps_of place op)
