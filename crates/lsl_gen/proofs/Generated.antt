-- The code of a program with kinds runs as the program means.
use Rattle.lsl_code.proofs.Running.{run_law}
use Rattle.lsl_gen.specs.Laws.{CodeRunsAsMeant}
use Rattle.lsl_gen.proofs.Agreement.{agrees}
use Rattle.lsl_gen.proofs.Bodies.{bodies_of}
use Rattle.lsl_gen.proofs.Routes.{generated_forward}

pub generated_agrees : CodeRunsAsMeant
generated_agrees p kinded shaped = agrees p shaped (run_law (bodies_of p) (generated_forward p kinded shaped))
