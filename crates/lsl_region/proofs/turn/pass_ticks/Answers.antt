use Rattle.std.proofs.Common.{subst}
use Rattle.std.specs.Prelude.{Option}
use Rattle.lsl_script.specs.declared.live.Live.{Live}
use Rattle.lsl_region.specs.Turning.{IsHeld}
use Rattle.lsl_region.proofs.turn.pass_ticks.Goals as goal

pub pass_ticks-requires : goal.pass_ticks-requires
pass_ticks-requires c =
    let held = subst (λ (o : Option Live). IsHeld c.args.unit.now o) c.in-Some.is c.requires.held in
    record { some = c.requires.some; stands = held.1; awake = held.0 }
