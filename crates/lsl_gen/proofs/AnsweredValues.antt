-- Expressions that are lost only by an answer that its call never has.
use Rattle.std.proofs.Common.{pos, [], ◌∷◌, Bool, true, Option, Some, None, reverse}
use Rattle.lsl_value.specs.declared.tagged.Value.{Value}
use Rattle.lsl_value.specs.declared.tagged.Value.TheVariants as value
use Rattle.lsl_table.specs.Constants.{constant_value_of}
use Rattle.lsl_ops.specs.Operations.{cast_of}
use Rattle.lsl_tree.specs.declared.expression.StepOp.{StepOp}
use Rattle.lsl_tree.specs.declared.program_node.Place.{Place}
use Rattle.lsl_tree.specs.declared.program_node.Place.TheVariants.{Global, Slot}
use Rattle.lsl_tree.specs.Nodes as node
use Rattle.lsl_tree.specs.Nodes.{Node, Nodes, NoNode, AndNode}
use Rattle.lsl_tree.specs.Program.{Program}
use Rattle.lsl_tree.specs.Shape.{argument_count, IsShapedNode, AreShapedNodes, IsShaped}
use Rattle.lsl_tree.specs.Signatures.{routines_of}
use Rattle.lsl_running.specs.Values.{unary_value, binary_value, list_value}
use Rattle.lsl_meaning.specs.Calls.{Lower, call}
use Rattle.lsl_meaning.specs.Expressions.{value_at, storing, assign, give_operation, step_operator, assign_step, step_behind, needed, value_of, values_of}
use Rattle.lsl_meaning.specs.State.{State, Site, holding, holding_all, give}
use Rattle.lsl_gen.proofs.Answered.{with_answers, Sound, Any, Has, bind_sound, gives_sound, give_sound}
use Rattle.lsl_gen.proofs.AnsweredCalls.{LowerSound, call_sound}
use Rattle.lsl_gen.proofs.Routines.{outline}

operation_sound : (o : Option Value) (site : Site) (s : State)
    → Sound Any s.answers (λ x. give_operation o site (with_answers s x))
operation_sound None site s = record { comes = tt }
operation_sound (Some v) site s = give_sound v site s

read_sound : (place : Place) (site : Site) (s : State)
    → Sound Any s.answers (λ x. give (value_at place (with_answers s x)) site (with_answers s x))
read_sound (Slot i) site s = give_sound (value_at (Slot i) s) site s
read_sound (Global i) site s = give_sound (value_at (Global i) s) site s

assign_sound : (place : Place) (v : Value) (site : Site) (s : State)
    → Sound Any s.answers (λ x. assign place v site (with_answers s x))
assign_sound (Slot i) v site s = give_sound v site (storing (Slot i) v s)
assign_sound (Global i) v site s = give_sound v site (storing (Global i) v s)

assign_step_sound : (place : Place) (op : StepOp) (site : Site) (s : State)
    → Sound Any s.answers (λ x. assign_step place op site (with_answers s x))
assign_step_sound place op site s =
    bind_sound Any Any s.answers (λ x. give (value.Int (pos 1)) site (with_answers s x)) _
    (give_sound (value.Int (pos 1)) site s)
    (λ one t _. bind_sound Any Any t.answers
    (λ x. give (value_at place (with_answers t x)) (holding site one) (with_answers t x)) _
    (read_sound place (holding site one) t)
    (λ v u _. bind_sound Any Any u.answers
    (λ x. give_operation (binary_value (step_operator op) v one) site (with_answers u x)) _
    (operation_sound (binary_value (step_operator op) v one) site u)
    (λ stepped w _. assign_sound place stepped site w)))

step_behind_sound : (place : Place) (op : StepOp) (site : Site) (s : State)
    → Sound Any s.answers (λ x. step_behind place op site (with_answers s x))
step_behind_sound place op site s =
    bind_sound Any Any s.answers (λ x. give (value_at place (with_answers s x)) site (with_answers s x)) _
    (read_sound place site s)
    (λ old t _. bind_sound Any Any t.answers (λ x. assign_step place op (holding site old) (with_answers t x)) _
    (assign_step_sound place op (holding site old) t)
    (λ stepped u _. give_sound old site u))

needed_sound : (o : Option Value) (s : State) → Has true o → Sound Any s.answers (λ x. needed o (with_answers s x))
needed_sound None s there = absurd cc
needed_sound (Some v) s there = gives_sound Any v s.answers s tt

module _ (p : Program) (shaped : IsShaped p) (low : Lower) (lower : LowerSound p shaped low) (other : Bool) where
  mutual
    pub value_sound : (t : Node) (site : Site) (s : State) → IsShapedNode (outline p other) t
        → Sound Any s.answers (λ x. value_of (routines_of p) low t site (with_answers s x))
    value_sound (node.Int n) site s sh = give_sound (value.Int n) site s
    value_sound (node.Str text) site s sh = give_sound (value.Str text) site s
    value_sound (node.Constant id kind) site s sh = give_sound (constant_value_of id) site s
    value_sound (node.Variable place kind) site s sh = read_sound place site s
    value_sound (node.Call callee kind line arguments) site s sh =
        bind_sound Any Any s.answers (λ x. values_of (routines_of p) low arguments site (with_answers s x)) _
        (values_sound arguments site s sh.1)
        (λ vs t _. bind_sound (Has true) Any t.answers
        (λ x. call (routines_of p) low callee line (reverse vs) site (with_answers t x)) needed
        (call_sound p shaped low lower callee line other true (argument_count arguments) (reverse vs) site t sh.0)
        needed_sound)
    value_sound (node.ListLiteral elements) site s sh =
        bind_sound Any Any s.answers (λ x. values_of (routines_of p) low elements site (with_answers s x)) _
        (values_sound elements site s sh) (λ vs t _. give_sound (list_value (reverse vs)) site t)
    value_sound (node.Cast kind operand) site s sh =
        bind_sound Any Any s.answers (λ x. value_of (routines_of p) low operand site (with_answers s x)) _
        (value_sound operand site s sh) (λ v t _. give_sound (cast_of v kind) site t)
    value_sound (node.Unary op operand) site s sh =
        bind_sound Any Any s.answers (λ x. value_of (routines_of p) low operand site (with_answers s x)) _
        (value_sound operand site s sh) (λ v t _. give_sound (unary_value op v) site t)
    value_sound (node.Binary op kind left right) site s sh =
        bind_sound Any Any s.answers (λ x. value_of (routines_of p) low right site (with_answers s x)) _
        (value_sound right site s sh.1)
        (λ w t _. bind_sound Any Any t.answers
        (λ x. value_of (routines_of p) low left (holding site w) (with_answers t x)) _
        (value_sound left (holding site w) t sh.0) (λ v u _. operation_sound (binary_value op v w) site u))
    value_sound (node.Assign place kind operand) site s sh =
        bind_sound Any Any s.answers (λ x. value_of (routines_of p) low operand site (with_answers s x)) _
        (value_sound operand site s sh) (λ v t _. assign_sound place v site t)
    value_sound (node.StepBehind place op) site s sh = step_behind_sound place op site s

    pub values_sound : (ts : Nodes) (site : Site) (s : State) → AreShapedNodes (outline p other) ts
        → Sound Any s.answers (λ x. values_of (routines_of p) low ts site (with_answers s x))
    values_sound NoNode site s sh = gives_sound Any [] s.answers s tt
    values_sound (AndNode ts t) site s sh =
        bind_sound Any Any s.answers (λ x. values_of (routines_of p) low ts site (with_answers s x)) _
        (values_sound ts site s sh.0)
        (λ vs u _. bind_sound Any Any u.answers
        (λ x. value_of (routines_of p) low t (holding_all site vs) (with_answers u x)) _
        (value_sound t (holding_all site vs) u sh.1) (λ v w _. gives_sound Any (v ∷ vs) w.answers w tt))
