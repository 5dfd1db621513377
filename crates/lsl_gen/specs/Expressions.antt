-- The code of expressions. That of an expression pushes its value, and that of a call its result if it has one.
use Rattle.std.specs.Prelude.{ℕ, pos, List, [], ◌∷◌, ◌++◌}
use Rattle.lsl_value.specs.declared.names.BuiltinId.{BuiltinId}
use Rattle.lsl_value.specs.declared.tagged.Value.{Value}
use Rattle.lsl_value.specs.declared.tagged.Value.TheVariants as value
use Rattle.lsl_table.specs.Constants.{constant_value_of}
use Rattle.lsl_tree.specs.declared.expression.StepOp.{StepOp}
use Rattle.lsl_tree.specs.declared.program_node.Callee.{Callee}
use Rattle.lsl_tree.specs.declared.program_node.Callee.TheVariants.{Function, Builtin}
use Rattle.lsl_tree.specs.declared.program_node.Place.{Place}
use Rattle.lsl_tree.specs.declared.program_node.Place.TheVariants.{Global, Slot}
use Rattle.lsl_tree.specs.Nodes as node
use Rattle.lsl_tree.specs.Nodes.{Node, Nodes, NoNode, AndNode}
use Rattle.lsl_tree.specs.Effects as effect
use Rattle.lsl_tree.specs.Effects.{Effect}
use Rattle.lsl_tree.specs.Shape.{argument_count}
use Rattle.lsl_running.specs.Calling as form
use Rattle.lsl_running.specs.Calling.{CallForm, call_form}
use Rattle.lsl_meaning.specs.Expressions.{step_operator}
use Rattle.lsl_code.specs.declared.instructions.Instr.{Instr}
use Rattle.lsl_code.specs.declared.instructions.Instr.TheVariants as instr

-- pushes a constant's value: no constant is a key or a list
abbrev pub literal : Value → Instr
literal (value.Int n) = instr.Int n
literal (value.Str text) = instr.Str text
literal (value.Key text) = instr.Str text
literal (value.List items) = instr.MakeList 0

abbrev pub load : Place → Instr
load (Slot n) = instr.Load n
load (Global n) = instr.LoadGlobal n

abbrev pub store : Place → Instr
store (Slot n) = instr.Store n
store (Global n) = instr.StoreGlobal n

-- a built-in call of this form, at this line, whose arguments are pushed
abbrev pub builtin_code : CallForm → BuiltinId → ℕ → List Instr
builtin_code form.Pure id line = instr.Pure id ∷ []
builtin_code form.UsedMemory id line = instr.Used ∷ []
builtin_code form.FreeMemory id line = instr.Free ∷ []
builtin_code form.SetLimit id line = instr.SetLimit ∷ []
builtin_code form.GetLimit id line = instr.GetLimit ∷ []
builtin_code form.Asked id line = instr.Host id ∷ []
builtin_code form.AskedAndWaits id line = instr.Host id ∷ instr.Tick line ∷ []
builtin_code form.Resets id line = instr.Reset ∷ []

-- a call at this line, whose arguments are pushed; in a draft a line stands in place of the point
abbrev pub call_code : Callee → ℕ → List Instr
call_code (Function number) line = instr.Call number line ∷ []
call_code (Builtin id) line = builtin_code (call_form id) id line

-- the value before the step is pushed first, and is the one that is left
abbrev pub step_code : Place → StepOp → List Instr
step_code place op =
    load place ∷ instr.Int (pos 1) ∷ load place ∷ instr.Binary (step_operator op) ∷ store place ∷ instr.Drop ∷ []

abbrev mutual
  pub value_code : Node → List Instr
  value_code (node.Int n) = instr.Int n ∷ []
  value_code (node.Str text) = instr.Str text ∷ []
  value_code (node.Constant id kind) = literal (constant_value_of id) ∷ []
  value_code (node.Variable place kind) = load place ∷ []
  value_code (node.Call callee kind line arguments) = values_code arguments ++ call_code callee line
  value_code (node.ListLiteral elements) = values_code elements ++ instr.MakeList (argument_count elements) ∷ []
  value_code (node.Cast kind operand) = value_code operand ++ instr.Cast kind ∷ []
  value_code (node.Unary op operand) = value_code operand ++ instr.Unary op ∷ []
  value_code (node.Binary op kind left right) = value_code right ++ (value_code left ++ instr.Binary op ∷ [])
  value_code (node.Assign place kind operand) = value_code operand ++ store place ∷ []
  value_code (node.StepBehind place op) = step_code place op

  -- from the first value to the last
  pub values_code : Nodes → List Instr
  values_code NoNode = []
  values_code (AndNode nodes node) = values_code nodes ++ value_code node

-- an expression whose value is dropped, or a call without a result
abbrev pub effect_code : Effect → List Instr
effect_code (effect.Value node) = value_code node ++ instr.Drop ∷ []
effect_code (effect.Call callee line arguments) = values_code arguments ++ call_code callee line

abbrev pub effects_code : List Effect → List Instr
effects_code [] = []
effects_code (x ∷ xs) = effect_code x ++ effects_code xs
