use Rattle.std.proofs.Common.{◌≡◌, ◌∙◌}
use Rattle.lsl_world.specs.declared.world.World.{World as Memory}
use Rattle.lsl_world.specs.Programs.{rules_of}
use Rattle.lsl_world.specs.Regions.{regions_of_file}
use Rattle.lsl_world.specs.Sizes.{size_of_file}
use Rattle.lsl_world.specs.Stands.{size_of}
use Rattle.lsl_world.specs.Starts.{start}
use Rattle.lsl_top.proofs.Staged.{at-lossy, hands-named, ok-as}
use Rattle.lsl_top.proofs.running.lossy_start.Goals as goal

pub returns-clause-at : goal.returns-clause-at
returns-clause-at c = λ programs run.
    let w = start (rules_of programs) c.args.file.now c.args.cast.cards in
    let is = c.in_ok-world.ensures.of programs run in
    at-lossy programs c.in_ok-world.world w (regions_of_file c.args.file.now) c.lossy.result is
    c.in_ok-world.ensures.regions (c.lossy.ensures.of programs w is) (c.lossy.ensures.order programs w is)
    c.lossy.ensures.cards

pub returns-clause-named : goal.returns-clause-named
returns-clause-named c =
    hands-named c.in_ok-world.world c.args.file.now.steps c.lossy.result c.in_ok-world.ensures.named
    c.lossy.ensures.regions

pub returns-clause-regions : goal.returns-clause-regions
returns-clause-regions c =
    ok-as _ (λ (m : Memory). m.regions ≡ regions_of_file c.args.file.now) c.lossy.result
    (λ m e. e ∙ c.in_ok-world.ensures.regions) c.lossy.ensures.regions

pub returns-clause-size : goal.returns-clause-size
returns-clause-size c =
    ok-as _ (λ (m : Memory). size_of m ≡ size_of_file c.args.file.now) c.lossy.result
    (λ m e. e ∙ c.in_ok-world.ensures.size) c.lossy.ensures.size

pub returns-clause-sound : goal.returns-clause-sound
returns-clause-sound c = c.lossy.ensures.sound c.in_ok-world.ensures.sound

pub returns-clause-units : goal.returns-clause-units
returns-clause-units c =
    ok-as _ (λ (m : Memory). m.units ≡ c.args.cast.units) c.lossy.result (λ m e. e ∙ c.in_ok-world.ensures.units)
    c.lossy.ensures.units
