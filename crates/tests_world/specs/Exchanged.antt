-- A function that keeps two of its slots in the other order, and that puts them back as weaving does.
use Rattle.std.specs.Prelude.{pos, List, [], ◌∷◌, Option, Some, None}
use Rattle.lsl_value.specs.declared.tagged.Kind.{Kind}
use Rattle.lsl_value.specs.declared.tagged.Kind.TheVariants as kind
use Rattle.lsl_value.specs.declared.names.EventId.TheVariants.{TouchStart}
use Rattle.lsl_code.specs.declared.functions.Handler.{Handler}
use Rattle.lsl_code.specs.declared.functions.Point.{Point}
use Rattle.lsl_code.specs.declared.instructions.Instr.{Instr}
use Rattle.lsl_code.specs.declared.instructions.Instr.TheVariants.{Int, Set, Tick, Jump, JumpIfNot, Return, TestSave, KeepSlot, Seal, TestBack, Unpack, Branch, BackSlot, Awake}
use Rattle.lsl_code.specs.declared.woven_functions.WovenCode.{WovenCode}

abbrev three : List Kind
three = kind.Int ∷ kind.Int ∷ kind.Int ∷ []

abbrev tick_point : Point
tick_point = record { kinds = three; calls = None }

-- the loop of a handler with two variables
abbrev running_code : List Instr → List Instr
running_code more =
    TestBack 21 ∷ Tick 0 ∷ TestSave 13 ∷ Int (pos 1) ∷ Set 1 ∷ Int (pos 2) ∷ Set 2 ∷ Int (pos 1) ∷ JumpIfNot 12
    ∷ Tick 1 ∷ TestSave 17 ∷ Jump 7 ∷ Return ∷ more

abbrev saving_code : List Instr → List Instr
saving_code more =
    KeepSlot 1 ∷ KeepSlot 2 ∷ KeepSlot 0 ∷ Seal 0 ∷ KeepSlot 1 ∷ KeepSlot 2 ∷ KeepSlot 0 ∷ Seal 1 ∷ more

abbrev restoring_code : List Instr
restoring_code =
    Unpack ∷ Branch ∷ Jump 25 ∷ Jump 30 ∷ BackSlot 0 ∷ BackSlot 1 ∷ BackSlot 2 ∷ Awake ∷ Jump 1 ∷ BackSlot 0
    ∷ BackSlot 1 ∷ BackSlot 2 ∷ Awake ∷ Jump 9 ∷ []

abbrev one_stands : Option (List Kind)
one_stands = Some (kind.Int ∷ [])

abbrev none_stands : Option (List Kind)
none_stands = Some []

abbrev pub exchanged_stacks : List (List Kind)
exchanged_stacks = [] ∷ (kind.Int ∷ []) ∷ []

abbrev pub exchanged_running : List (Option (List Kind))
exchanged_running =
    none_stands ∷ none_stands ∷ none_stands ∷ none_stands ∷ one_stands ∷ none_stands ∷ one_stands
    ∷ none_stands ∷ one_stands ∷ none_stands ∷ none_stands ∷ none_stands ∷ none_stands ∷ None ∷ None ∷ None
    ∷ None ∷ None ∷ None ∷ None ∷ None ∷ None ∷ None ∷ None ∷ None ∷ None ∷ None ∷ None ∷ None ∷ None ∷ None
    ∷ None ∷ None ∷ None ∷ None ∷ []

abbrev pub exchanged_saving : List (Option (List Kind))
exchanged_saving =
    None ∷ None ∷ none_stands ∷ None ∷ None ∷ None ∷ None ∷ None ∷ None ∷ None ∷ none_stands ∷ None ∷ None
    ∷ none_stands ∷ none_stands ∷ none_stands ∷ none_stands ∷ none_stands ∷ none_stands ∷ none_stands
    ∷ none_stands ∷ None ∷ None ∷ None ∷ None ∷ None ∷ None ∷ None ∷ None ∷ None ∷ None ∷ None ∷ None ∷ None
    ∷ None ∷ []

abbrev pub exchanged_restoring : List (Option (List Kind))
exchanged_restoring =
    none_stands ∷ None ∷ None ∷ None ∷ None ∷ None ∷ None ∷ None ∷ None ∷ None ∷ None ∷ None ∷ None ∷ None
    ∷ None ∷ None ∷ None ∷ None ∷ None ∷ None ∷ None ∷ none_stands ∷ none_stands ∷ none_stands ∷ none_stands
    ∷ none_stands ∷ none_stands ∷ none_stands ∷ none_stands ∷ None ∷ none_stands ∷ none_stands ∷ none_stands
    ∷ none_stands ∷ None ∷ []

abbrev pub exchanged_points : List Point
exchanged_points = tick_point ∷ tick_point ∷ []

abbrev pub exchanged_code : WovenCode
exchanged_code = record {
  name = [];
  params = kind.Int ∷ [];
  slots = three;
  result = None;
  most = 1;
  points = exchanged_points;
  lines = 1 ∷ 1 ∷ [];
  code = running_code (saving_code restoring_code);
  running = exchanged_running;
}

-- the state that has it as its handler
abbrev pub handling : List Handler
handling = record { event = TouchStart; function = 0 } ∷ []
