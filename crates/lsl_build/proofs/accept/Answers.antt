-- What is found and the first fault are all that there is.
use Rattle.lsl_tree.specs.Program.{program_of}
use Rattle.lsl_build.proofs.Answers.{answer_every, answer_only}
use Rattle.lsl_build.proofs.accept.Goals as goal

pub returns-clause-every : goal.returns-clause-every
returns-clause-every c =
    let done = c.checked.ensures in
    answer_every program_of c.args.text.now c.checked.result done.found done.first

pub returns-clause-only : goal.returns-clause-only
returns-clause-only c =
    let done = c.checked.ensures in
    answer_only program_of c.args.text.now c.checked.result done.found done.first
