use Rattle.lsl_script.proofs.Lawfulness.{rules_are_lawful}
use Rattle.lsl_script.proofs.laws.rules_are_lawful.Goals as goal

pub returns : goal.returns
returns c = rules_are_lawful
