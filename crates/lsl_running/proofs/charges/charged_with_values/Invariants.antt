use Rattle.std.proofs.Common.{◌≡◌, take}
use Rattle.lsl_running.specs.Charging.{charged_with, charges_of}
use Rattle.lsl_running.proofs.charges.charged_with_values.Given as goal

-- the values so far are charged
abbrev pub invariant-loop-value : goal.invariant-loop-value
invariant-loop-value l = l.sum ≡ charged_with l.charged (charges_of (take l.value-index l.values))
