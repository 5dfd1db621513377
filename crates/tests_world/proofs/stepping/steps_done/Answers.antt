use Rattle.std.proofs.Common.{◌∙◌, sym}
use Rattle.tests_world.proofs.stepping.steps_done.Goals as goal

pub step-requires-clause-carded : goal.step-requires-clause-carded
step-requires-clause-carded c = λ cards is. absurd (let no = sym c.loop-step.invariant.plain ∙ is in cc)

pub step-requires-clause-named : goal.step-requires-clause-named
step-requires-clause-named c = λ cards is. absurd (let no = sym c.loop-step.invariant.plain ∙ is in cc)
