-- Values as values of a wanted kind, and the values of declarations without one.
use Rattle.std.specs.Prelude.{pos, Option, Some, None, Bool, true, false, []}
use Rattle.lsl_value.specs.declared.tagged.Kind.{Kind}
use Rattle.lsl_value.specs.declared.tagged.Kind.TheVariants.{Int, Str, Key, List as ListKind}
use Rattle.lsl_value.specs.declared.operators.BinaryOp.{BinaryOp}
use Rattle.lsl_value.specs.declared.operators.BinaryOp.TheVariants as binary
use Rattle.lsl_tree.specs.declared.expression.StepOp.{StepOp}
use Rattle.lsl_tree.specs.declared.expression.StepOp.TheVariants.{Increment, Decrement}
use Rattle.lsl_tree.specs.declared.expression.AssignOp.{AssignOp}
use Rattle.lsl_tree.specs.declared.expression.AssignOp.TheVariants as assign
use Rattle.lsl_tree.specs.declared.program.Part.TheVariants as part
use Rattle.lsl_tree.specs.Nodes as node
use Rattle.lsl_tree.specs.Nodes.{Node, NoNode, node_kind_of}
use Rattle.lsl_tree.specs.Program as program
use Rattle.lsl_tree.specs.Program.{Initial}
use Rattle.lsl_tree.specs.Initials.{initial_kind_of}

-- a value of the first kind where the second is wanted: as it is, by an implicit cast, or not at all
pub data Fit : Type 0 where
  Same : Fit
  ByCast : Fit
  Not : Fit

abbrev pub fit_of : Kind → Kind → Fit
fit_of Int Int = Same
fit_of Str Str = Same
fit_of Key Key = Same
fit_of ListKind ListKind = Same
fit_of Str Key = ByCast
fit_of Key Str = ByCast
fit_of found wanted = Not

abbrev pub fitted : Fit → Kind → Node → Option Node
fitted Same k t = Some t
fitted ByCast k t = Some (node.Cast k t)
fitted Not k t = None

-- the node as one of this kind
abbrev pub as_kind : Kind → Node → Option Node
as_kind k t = fitted (fit_of (node_kind_of t) k) k t

-- the empty value of a kind
abbrev pub empty_node : Kind → Node
empty_node Int = node.Int (pos 0)
empty_node Str = node.Str []
empty_node Key = node.Cast Key (node.Str [])
empty_node ListKind = node.ListLiteral NoNode

abbrev pub is_int : Kind → Bool
is_int Int = true
is_int Str = false
is_int Key = false
is_int ListKind = false

abbrev pub is_no_list : Kind → Bool
is_no_list Int = true
is_no_list Str = true
is_no_list Key = true
is_no_list ListKind = false

abbrev pub step_operator : StepOp → BinaryOp
step_operator Increment = binary.Add
step_operator Decrement = binary.Sub

-- the operator of an assignment, if it has one
abbrev pub operator_before : AssignOp → Option BinaryOp
operator_before assign.Set = None
operator_before assign.Add = Some binary.Add
operator_before assign.Sub = Some binary.Sub
operator_before assign.Mul = Some binary.Mul
operator_before assign.Div = Some binary.Div
operator_before assign.Rem = Some binary.Rem

abbrev pub cast_initial : Kind → Initial → Initial
cast_initial k (program.Single p) = program.Cast k p
cast_initial k (program.Cast from p) = program.Cast k p
cast_initial k (program.ListLiteral ps) = program.ListLiteral ps

abbrev pub fitted_initial : Fit → Kind → Initial → Option Initial
fitted_initial Same k v = Some v
fitted_initial ByCast k v = Some (cast_initial k v)
fitted_initial Not k v = None

-- the initial value as one of this kind
abbrev pub initial_as_kind : Kind → Initial → Option Initial
initial_as_kind k v = fitted_initial (fit_of (initial_kind_of v) k) k v

abbrev pub empty_initial : Kind → Initial
empty_initial Int = program.Single (part.Int (pos 0))
empty_initial Str = program.Single (part.Str [])
empty_initial Key = program.Cast Key (part.Str [])
empty_initial ListKind = program.ListLiteral []
