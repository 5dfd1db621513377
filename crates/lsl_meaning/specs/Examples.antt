-- Scripts as checked programs, and their results.
use Rattle.std.specs.Prelude.{ℕ, ℤ, pos, List, [], ◌∷◌, map, Some, None, codes}
use Rattle.lsl_value.specs.declared.names.BuiltinId.TheVariants.{OwnerSay, GetUsedMemory, SetMemoryLimit}
use Rattle.lsl_value.specs.declared.names.EventId.{EventId}
use Rattle.lsl_value.specs.declared.names.EventId.TheVariants.{StateEntry, TouchStart}
use Rattle.lsl_value.specs.declared.operators.BinaryOp.TheVariants.{Add, Sub, Less, Equal, Both}
use Rattle.lsl_value.specs.declared.tagged.Kind.{Kind}
use Rattle.lsl_value.specs.declared.tagged.Kind.TheVariants as kind
use Rattle.lsl_value.specs.declared.tagged.Value.TheVariants as value
use Rattle.lsl_tree.specs.declared.program.Part.TheVariants as part
use Rattle.lsl_tree.specs.declared.program_node.Callee.TheVariants.{Function, Builtin}
use Rattle.lsl_tree.specs.declared.program_node.Place.TheVariants.{Global, Slot}
use Rattle.lsl_tree.specs.Nodes.{Node, Cast, Int, Str, Variable, Call as CallNode, Binary, Assign, NoNode, AndNode}
use Rattle.lsl_tree.specs.Effects.{Value, Call}
use Rattle.lsl_tree.specs.Actions.{Action, Actions, Effect, Declare, Label, If, IfElse, Jump, ReturnValue, NoAction, AndAction}
use Rattle.lsl_tree.specs.Program.{Routine, Initial, Single, NamedRoutine, Program}
use Rattle.lsl_running.specs.declared.ends.Outcome.TheVariants.{Return}
use Rattle.lsl_running.specs.declared.host.Reply.{Reply}
use Rattle.lsl_running.specs.declared.host.Reply.TheVariants as reply
use Rattle.lsl_running.specs.Results.{ActiveCall, Whole, Ends, Asks}
use Rattle.lsl_meaning.specs.Globals.{initial_kept}
use Rattle.lsl_meaning.specs.Handlers.{whole}

-- a routine without parameters, on line 1
abbrev pub routine : List Kind → Actions → Routine
routine slots body = record { line = 1; kind = None; params = 0; slots = slots; body = body }

-- an integer function without parameters
abbrev pub integer_function : List ℕ → Actions → NamedRoutine
integer_function name body = record { name = name; routine = record (routine [] body) { kind = Some kind.Int } }

-- a script with one handler
abbrev pub script : EventId → List Initial → List NamedRoutine → Routine → Program
script event globals functions handler = record {
  globals = globals;
  functions = functions;
  states = record { name = codes "default"; handlers = record { event = event; routine = handler } ∷ [] } ∷ [];
}

abbrev pub say : Node → Action
say text = Effect (Call (Builtin OwnerSay) 1 (AndNode NoNode text))

abbrev pub said : List ℕ → Whole
said text = Asks OwnerSay (value.Str text ∷ [])

-- a handler that has run to its end, with this limit and these integers in the globals
abbrev pub left_within : ℕ → List ℤ → Whole
left_within limit integers = Ends Return (record { globals = map value.Int integers; limit = limit })

-- with the limit at the start
abbrev pub left_with : List ℤ → Whole
left_with integers = left_within 65536 integers

-- that a call was answered without a value
abbrev pub done : Reply
done = reply.Value None

-- `integer x = 5; integer y; default { state_entry() { y = x + (x = 3); } }`
abbrev pub adding : Program
adding =
    script StateEntry (Single (part.Int (pos 5)) ∷ Single (part.Int (pos 0)) ∷ []) []
    (routine [] (AndAction NoAction
    (Effect (Value (Assign (Global 1) kind.Int
    (Binary Add kind.Int (Variable (Global 0) kind.Int) (Assign (Global 0) kind.Int (Int (pos 3)))))))))

-- `integer a() { llOwnerSay("a"); return 1; } integer b() { llOwnerSay("b"); return 0; }`, and
-- `default { state_entry() { if (a() && b()) llOwnerSay("yes"); else llOwnerSay("no"); } }`
abbrev pub both : Program
both =
    script StateEntry []
    (integer_function (codes "a") (AndAction (AndAction NoAction (say (Str (codes "a")))) (ReturnValue (Int (pos 1))))
    ∷ integer_function (codes "b") (AndAction (AndAction NoAction (say (Str (codes "b")))) (ReturnValue (Int (pos 0))))
    ∷ [])
    (routine [] (AndAction NoAction
    (IfElse
    (Binary Both kind.Int (CallNode (Function 0) kind.Int 1 NoNode) (CallNode (Function 1) kind.Int 1 NoNode))
    (say (Str (codes "yes"))) (say (Str (codes "no"))))))

-- `integer n; integer f() { return llGetUsedMemory(); } default { state_entry() { integer i = 7; n = f() + 1; } }`
abbrev pub measuring : Program
measuring =
    script StateEntry (Single (part.Int (pos 0)) ∷ [])
    (integer_function (codes "f")
    (AndAction NoAction (ReturnValue (CallNode (Builtin GetUsedMemory) kind.Int 1 NoNode)))
    ∷ [])
    (routine (kind.Int ∷ []) (AndAction (AndAction NoAction
    (Declare 0 (Int (pos 7))))
    (Effect (Value (Assign (Global 0) kind.Int
    (Binary Add kind.Int (CallNode (Function 0) kind.Int 1 NoNode) (Int (pos 1))))))))

-- the global of this number is set to whether the script got this limit
abbrev pub setting : ℕ → ℤ → Action
setting global limit =
    Effect (Value (Assign (Global global) kind.Int
    (CallNode (Builtin SetMemoryLimit) kind.Int 1 (AndNode NoNode (Int limit)))))

-- `integer a; integer b; default { state_entry() { a = llSetMemoryLimit(1079); b = llSetMemoryLimit(1080); } }`
abbrev pub limiting : Program
limiting =
    script StateEntry (Single (part.Int (pos 0)) ∷ Single (part.Int (pos 0)) ∷ []) []
    (routine [] (AndAction (AndAction NoAction (setting 0 (pos 1079))) (setting 1 (pos 1080))))

-- `integer i; default { state_entry() { @top; ++i; if (i < 3) jump top; } }`, with the jump on line 2
abbrev pub jumping : Program
jumping =
    script StateEntry (Single (part.Int (pos 0)) ∷ []) []
    (routine [] (AndAction (AndAction (AndAction NoAction
    (Label 0))
    (Effect (Value (Assign (Global 0) kind.Int (Binary Add kind.Int (Variable (Global 0) kind.Int) (Int (pos 1)))))))
    (If (Binary Less kind.Int (Variable (Global 0) kind.Int) (Int (pos 3))) (Jump 2 0))))

-- a recursion, with its lines:
--   1  integer d(integer n) {
--   2      if (n == 0) return 0;
--   3      return d(n - 1) + 1;
--   4  }
--   5  default { touch_start(integer t) {
--   6      llOwnerSay((string)d(3)); } }
abbrev pub depth : Routine
depth = record {
  line = 1;
  kind = Some kind.Int;
  params = 1;
  slots = kind.Int ∷ [];
  body = AndAction (AndAction NoAction
      (If (Binary Equal kind.Int (Variable (Slot 0) kind.Int) (Int (pos 0))) (ReturnValue (Int (pos 0)))))
      (ReturnValue (Binary Add kind.Int
      (CallNode (Function 0) kind.Int 3
      (AndNode NoNode (Binary Sub kind.Int (Variable (Slot 0) kind.Int) (Int (pos 1)))))
      (Int (pos 1))));
}

abbrev pub touched : Routine
touched = record {
  line = 5;
  kind = None;
  params = 1;
  slots = kind.Int ∷ [];
  body = AndAction NoAction (Effect (Call (Builtin OwnerSay) 6 (AndNode NoNode
      (Cast kind.Str (CallNode (Function 0) kind.Int 6 (AndNode NoNode (Int (pos 3))))))));
}

abbrev pub recursing : Program
recursing = script TouchStart [] (record { name = codes "d"; routine = depth } ∷ []) touched

-- an active call with one integer in its slots
abbrev pub call_on : ℕ → ℤ → ℕ → ActiveCall
call_on number n line = record { function = number; slots = value.Int n ∷ []; line = line }

-- the result of a script's handler from the start, for these ticks and answers
abbrev pub first_whole : Program → ℕ → ℕ → List Reply → Whole
first_whole p number ticks answers = whole p number (initial_kept p) [] ticks answers
