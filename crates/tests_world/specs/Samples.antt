-- A function with a slot, which calls itself with an operand waiting, as the machine runs it.
use Rattle.std.specs.Prelude.{pos, List, [], ◌∷◌, Some, None, map}
use Rattle.lsl_value.specs.declared.tagged.Kind.{Kind}
use Rattle.lsl_value.specs.declared.tagged.Kind.TheVariants as kind
use Rattle.lsl_code.specs.declared.functions.Point.{Point}
use Rattle.lsl_code.specs.declared.instructions.Instr.TheVariants.{Int, Drop, Tick, Call, Return}
use Rattle.lsl_code.specs.Bodies.{Body}

abbrev tick_point : Point
tick_point = record { kinds = kind.Int ∷ []; calls = None }

abbrev call_point : Point
call_point = record { kinds = kind.Int ∷ kind.Int ∷ []; calls = Some 0 }

abbrev pub sample_stacks : List (List Kind)
sample_stacks = [] ∷ [] ∷ (kind.Int ∷ []) ∷ (kind.Int ∷ []) ∷ [] ∷ []

abbrev pub sample_body : Body
sample_body = record {
  params = [];
  slots = kind.Int ∷ [];
  result = None;
  most = 1;
  points = tick_point ∷ call_point ∷ [];
  lines = 1 ∷ 2 ∷ [];
  code = Tick 0 ∷ Int (pos 7) ∷ Call 0 1 ∷ Drop ∷ Return ∷ [];
  stacks = map Some sample_stacks;
}
