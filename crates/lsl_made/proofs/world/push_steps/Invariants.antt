use Rattle.std.proofs.Common.{◌≡◌, ℕ, List, ◌++◌}
use Rattle.lsl_made.specs.Numbers.{number_at}
use Rattle.lsl_made.proofs.WorldLines.{steps_text}
use Rattle.lsl_made.proofs.world.push_steps.Given as goal

-- this many steps are done, and follow the old bytes
pub record ArePassed (number passed x : ℕ) (old out : List ℕ) : Type 0 where
  pub at : x ≡ number_at number passed
  pub text : out ≡ old ++ steps_text number passed

abbrev pub invariant-steps : goal.invariant-steps
invariant-steps l = ArePassed l.fn.number l.passed l.x l.fn.out.items l.out.items
