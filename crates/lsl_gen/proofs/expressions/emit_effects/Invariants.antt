use Rattle.std.proofs.Common.{◌≡◌, ◌++◌, drop, map}
use Rattle.lsl_tree.specs.Effects.{effect_of}
use Rattle.lsl_gen.specs.Expressions.{effects_code}
use Rattle.lsl_gen.proofs.expressions.emit_effects.Given as goal

abbrev pub invariant-loop-effect : goal.invariant-loop-effect
invariant-loop-effect l = l.draft ++ effects_code (map effect_of (drop l.effect-index l.effects))
    ≡ l.fn.draft ++ effects_code (map effect_of l.effects)
