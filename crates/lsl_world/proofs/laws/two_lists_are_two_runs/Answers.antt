use Rattle.lsl_post.proofs.Amid.{along-append}
use Rattle.lsl_world.specs.Steps.{next}
use Rattle.lsl_world.proofs.laws.two_lists_are_two_runs.Goals as goal

pub returns : goal.returns
returns c = λ r first second w. along-append (next r) first second w
