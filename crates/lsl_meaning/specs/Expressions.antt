-- What an expression gives. Each node's value is tested, and operands wait while the others are evaluated.
use Rattle.std.specs.Prelude.{pos, List, [], ◌∷◌, get_or, reverse, slice_set, Option, Some, None}
use Rattle.lsl_value.specs.declared.operators.BinaryOp.{BinaryOp}
use Rattle.lsl_value.specs.declared.operators.BinaryOp.TheVariants.{Add, Sub}
use Rattle.lsl_value.specs.declared.tagged.Value.{Value}
use Rattle.lsl_value.specs.declared.tagged.Value.TheVariants as value
use Rattle.lsl_table.specs.Constants.{constant_value_of}
use Rattle.lsl_ops.specs.Operations.{cast_of}
use Rattle.lsl_tree.specs.declared.expression.StepOp.{StepOp}
use Rattle.lsl_tree.specs.declared.expression.StepOp.TheVariants.{Increment, Decrement}
use Rattle.lsl_tree.specs.declared.program_node.Place.{Place}
use Rattle.lsl_tree.specs.declared.program_node.Place.TheVariants.{Global, Slot}
use Rattle.lsl_tree.specs.Nodes.{Node, Nodes, Int, Str, Constant, Variable, Call, ListLiteral, Cast, Unary, Binary, Assign, StepBehind, NoNode, AndNode}
use Rattle.lsl_tree.specs.Program.{Routine}
use Rattle.lsl_running.specs.declared.ends.Fault.TheVariants.{MathError}
use Rattle.lsl_running.specs.Charging.{with_global}
use Rattle.lsl_running.specs.Results.{Fails, Lost}
use Rattle.lsl_running.specs.Values.{absent, unary_value, binary_value, list_value}
use Rattle.lsl_meaning.specs.State.{State, Site, holding, holding_all, Evaluation, Gives, Stops, bind, give}
use Rattle.lsl_meaning.specs.Calls.{Lower, call}

-- what a variable holds
abbrev pub value_at : Place → State → Value
value_at (Slot i) s = get_or s.slots i absent
value_at (Global i) s = get_or s.kept.globals i absent

-- with this value in the variable
abbrev pub storing : Place → Value → State → State
storing (Slot i) v s = record s { slots = slice_set s.slots i v }
storing (Global i) v s = record s { kept = with_global s.kept i v }

-- an assignment is tested with the value in the variable, and once more as the node's value
abbrev pub assign : Place → Value → Site → State → Evaluation Value
assign place v site s = give v site (storing place v s)

-- an operator's value; there is none if it divides by 0
abbrev pub give_operation : Option Value → Site → State → Evaluation Value
give_operation None site s = Stops (Fails MathError)
give_operation (Some v) site s = give v site s

abbrev pub step_operator : StepOp → BinaryOp
step_operator Increment = Add
step_operator Decrement = Sub

-- `x = x + 1` or `x = x - 1`: the right operand first
abbrev pub assign_step : Place → StepOp → Site → State → Evaluation Value
assign_step place op site s =
    bind (give (value.Int (pos 1)) site s) (λ one t.
    bind (give (value_at place t) (holding site one) t) (λ v u.
    bind (give_operation (binary_value (step_operator op) v one) site u) (λ stepped w. assign place stepped site w)))

-- `x++` or `x--`: the value before waits while the step is assigned, and is given again
abbrev pub step_behind : Place → StepOp → Site → State → Evaluation Value
step_behind place op site s =
    bind (give (value_at place s) site s) (λ old t.
    bind (assign_step place op (holding site old) t) (λ stepped u. give old site u))

-- the result of a call in a place that needs a value
abbrev pub needed : Option Value → State → Evaluation Value
needed None s = Stops Lost
needed (Some v) s = Gives v s

-- with these routines in the script
module _ (routines : List Routine) (low : Lower) where
  abbrev mutual
    pub value_of : Node → Site → State → Evaluation Value
    value_of (Int n) site s = give (value.Int n) site s
    value_of (Str text) site s = give (value.Str text) site s
    value_of (Constant id kind) site s = give (constant_value_of id) site s
    value_of (Variable place kind) site s = give (value_at place s) site s
    value_of (Call callee kind line arguments) site s =
        bind (values_of arguments site s) (λ vs t. bind (call routines low callee line (reverse vs) site t) needed)
    value_of (ListLiteral elements) site s =
        bind (values_of elements site s) (λ vs t. give (list_value (reverse vs)) site t)
    value_of (Cast kind operand) site s = bind (value_of operand site s) (λ v t. give (cast_of v kind) site t)
    value_of (Unary op operand) site s = bind (value_of operand site s) (λ v t. give (unary_value op v) site t)
    value_of (Binary op kind left right) site s =
        bind (value_of right site s) (λ w t.
        bind (value_of left (holding site w) t) (λ v u. give_operation (binary_value op v w) site u))
    value_of (Assign place kind operand) site s = bind (value_of operand site s) (λ v t. assign place v site t)
    value_of (StepBehind place op) site s = step_behind place op site s

    -- the values of these, from the first to the last, each of which waits for the others; the last one comes first
    pub values_of : Nodes → Site → State → Evaluation (List Value)
    values_of NoNode site s = Gives [] s
    values_of (AndNode nodes node) site s =
        bind (values_of nodes site s) (λ vs t.
        bind (value_of node (holding_all site vs) t) (λ v u. Gives (v ∷ vs) u))
