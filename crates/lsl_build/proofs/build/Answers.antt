-- What is found and the first fault are all that there is.
use Rattle.lsl_tree.specs.Program.{program_of}
use Rattle.std.proofs.lemmas.Result.{IfOk-weaker}
use Rattle.lsl_build.proofs.Asks.{few_asks}
use Rattle.lsl_build.proofs.Answers.{answer_every, answer_only}
use Rattle.lsl_build.proofs.build.Goals as goal

pub returns-clause-every : goal.returns-clause-every
returns-clause-every c =
    let done = c.compiled.ensures in
    answer_every (λ b. program_of b.program) c.args.text.now c.compiled.result done.found done.first

pub returns-clause-only : goal.returns-clause-only
returns-clause-only c =
    let done = c.compiled.ensures in
    answer_only (λ b. program_of b.program) c.args.text.now c.compiled.result done.found done.first

pub returns-clause-asks : goal.returns-clause-asks
returns-clause-asks c =
    IfOk-weaker c.compiled.result _ _ (λ b h. few_asks (program_of b.program) b.code h.functions)
    c.compiled.ensures.code
