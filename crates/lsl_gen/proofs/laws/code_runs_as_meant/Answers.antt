use Rattle.lsl_gen.proofs.Generated.{generated_agrees}
use Rattle.lsl_gen.proofs.laws.code_runs_as_meant.Goals as goal

pub returns : goal.returns
returns c = generated_agrees
