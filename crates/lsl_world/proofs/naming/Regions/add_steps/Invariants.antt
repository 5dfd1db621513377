use Rattle.std.proofs.Common.{◌≡◌, drop}
use Rattle.std.specs.Prelude.{fold}
use Rattle.lsl_world.specs.Regions.{with_step}
use Rattle.lsl_world.proofs.naming.Regions.add_steps.Given as goal

-- with those that are left the regions are those of all
abbrev pub invariant-loop-step : goal.invariant-loop-step
invariant-loop-step l = fold with_step l.self (drop l.step-index l.steps) ≡ fold with_step l.fn.self l.steps
