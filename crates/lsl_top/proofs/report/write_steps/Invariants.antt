use Rattle.std.proofs.Common.{◌≡◌, Result, None, drop}
use Rattle.lsl_world.specs.Handing.{AreCarded}
use Rattle.lsl_world.specs.Sound.{IsSound}
use Rattle.lsl_world.specs.Stages.{IsAt}
use Rattle.lsl_world.specs.Stands.{size_of}
use Rattle.lsl_world.specs.declared.world.World.{World}
use Rattle.lsl_top.specs.Goes.{Goes}
use Rattle.lsl_top.specs.Ports.{Log, Wire, log, wire}
use Rattle.lsl_top.specs.declared.writing.Trouble.{Trouble}
use Rattle.lsl_top.proofs.report.write_steps.Given as goal

-- however the steps that are left go, all of them go
abbrev pub invariant-loop-step : goal.invariant-loop-step
invariant-loop-step g l =
    record {
      sound : IsSound l.world;
      units : l.world.units ≡ l.fn.world.units;
      size : size_of l.world ≡ size_of l.fn.world;
      carded : AreCarded l.world;
      regions : l.world.regions ≡ l.fn.world.regions;
      still : l.fn.world.cards ≡ None → l.world.cards ≡ None;
      goes : (last : World) (end : Log) (done : Wire) (r : Result (Unit {0}) Trouble)
          → Goes g.L.Link.gives l.fn.world.units l.fn.world.regions (λ programs. IsAt programs l.world)
          (λ programs. IsAt programs last) (drop l.step-index l.steps)
          (log (g.K.Sink.sunk l.sink) (g.K.Sink.faults l.sink)) end
          (wire (g.L.Link.trips l.link) (g.L.Link.faults l.link)) done r
          → Goes g.L.Link.gives l.fn.world.units l.fn.world.regions (λ programs. IsAt programs l.fn.world)
          (λ programs. IsAt programs last) l.steps
          (log (g.K.Sink.sunk l.fn.sink) (g.K.Sink.faults l.fn.sink)) end
          (wire (g.L.Link.trips l.fn.link) (g.L.Link.faults l.fn.link)) done r;
    }
