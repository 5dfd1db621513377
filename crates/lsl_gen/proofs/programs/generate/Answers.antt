use Rattle.lsl_gen.proofs.ProgramSteps.{agrees_as}
use Rattle.lsl_gen.proofs.programs.generate.Goals as goal

pub returns-clause-meaning : goal.returns-clause-meaning
returns-clause-meaning c = agrees_as c.args.program.now _ c.in_ok-unit.ensures.functions c.requires.kinded
    c.requires.shaped
