use Rattle.std.proofs.lemmas.Result.{IfOk-weaker}
use Rattle.tests_world.proofs.Counting.{restoring_counted, running_counted, saving_counted}
use Rattle.tests_world.proofs.woven.woven_sample.Goals as goal

pub returns-clause-running : goal.returns-clause-running
returns-clause-running c =
    IfOk-weaker c.weave_function.result _ _ (λ w is. running_counted c.in_ok-sample.field-0 w c.in_ok-sample.ensures is)
    c.weave_function.ensures.woven

pub returns-clause-saving : goal.returns-clause-saving
returns-clause-saving c =
    IfOk-weaker c.weave_function.result _ _ (λ w is. saving_counted c.in_ok-sample.field-0 w c.in_ok-sample.ensures is)
    c.weave_function.ensures.woven

pub returns-clause-restoring : goal.returns-clause-restoring
returns-clause-restoring c =
    IfOk-weaker c.weave_function.result _ _
    (λ w is. restoring_counted c.in_ok-sample.field-0 w c.in_ok-sample.ensures is) c.weave_function.ensures.woven
