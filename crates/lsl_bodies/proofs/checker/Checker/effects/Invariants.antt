use Rattle.std.proofs.Common.{◌≡◌, [], drop}
use Rattle.std.specs.Prelude.{map}
use Rattle.lsl_tree.specs.Effects.{effect_of}
use Rattle.lsl_bodies.specs.Known.{known_of}
use Rattle.lsl_bodies.specs.Scope.{scope_of}
use Rattle.lsl_bodies.specs.Verdict.{each_verdict}
use Rattle.lsl_bodies.proofs.Walks.{effect_next}
use Rattle.lsl_bodies.proofs.checker.Checker.effects.Given as goal

abbrev pub invariant-loop-expr : goal.invariant-loop-expr
invariant-loop-expr l =
    each_verdict (effect_next (known_of l.self.known.now) (scope_of l.scope)) (map effect_of l.effects.items)
    (drop l.expr-index l.exprs)
    ≡ each_verdict (effect_next (known_of l.self.known.now) (scope_of l.scope)) [] l.exprs
