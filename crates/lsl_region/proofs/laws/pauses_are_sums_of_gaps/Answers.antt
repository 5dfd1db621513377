use Rattle.lsl_region.proofs.Gaps.{pausing-empty, pausing-sum, sum-pausing}
use Rattle.lsl_region.proofs.PausedTurns.{counted-empty}
use Rattle.lsl_region.proofs.laws.pauses_are_sums_of_gaps.Goals as goal

pub returns-clause-sums : goal.returns-clause-sums
returns-clause-sums c = λ gaps number some any.
    (λ e. sum-pausing gaps number e, λ k. pausing-sum gaps number k.0 some any k.1)

pub returns-clause-none : goal.returns-clause-none
returns-clause-none c = pausing-empty

pub returns-clause-ends : goal.returns-clause-ends
returns-clause-ends c = λ r most place w t none. counted-empty r most place w t none
