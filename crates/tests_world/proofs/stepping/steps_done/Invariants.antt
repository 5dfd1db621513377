use Rattle.std.proofs.Common.{◌≡◌, None}
use Rattle.lsl_world.specs.Sound.{IsSound}
use Rattle.lsl_world.specs.Stands.{size_of}
use Rattle.tests_world.proofs.stepping.steps_done.Given as goal

abbrev pub invariant-loop-step : goal.invariant-loop-step
invariant-loop-step l =
    record {
      sound : IsSound l.world;
      size : size_of l.world ≡ size_of l.fn.world;
      plain : l.world.cards ≡ None;
    }
