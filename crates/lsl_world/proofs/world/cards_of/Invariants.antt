use Rattle.std.proofs.Common.{◌≡◌, map, take}
use Rattle.lsl_region.specs.declared.objects.Linkset.{Linkset}
use Rattle.lsl_world.specs.Regions.{number_in}
use Rattle.lsl_world.proofs.world.cards_of.Given as goal

-- this many homes are numbered
abbrev pub invariant-loop-place : goal.invariant-loop-place
invariant-loop-place l =
    l.homes.items ≡ map (λ (o : Linkset). number_in l.regions o.region) (take l.place l.grid.objects)
