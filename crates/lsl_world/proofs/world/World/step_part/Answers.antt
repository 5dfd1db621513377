use Rattle.std.specs.Prelude.{[]}
use Rattle.lsl_lines.specs.declared.file.Step.TheVariants.{Go, Run}
use Rattle.lsl_world.proofs.Going.{went-none}
use Rattle.lsl_world.proofs.Kept.{on-ok, size-kept}
use Rattle.lsl_world.proofs.Leaving.{carded-as, part-at, rest-of}
use Rattle.lsl_world.proofs.Returning.{crossing-not, goes-not}
use Rattle.lsl_world.proofs.world.World.step_part.Goals as goal

pub returns-in-Go-clause-at : goal.returns-in-Go-clause-at
returns-in-Go-clause-at g c =
    let world = c.args.self.now in
    let part = c.go_part in (
      [],
      went-none g.L.Link.gives (g.L.Link.trips c.args.link.now),
      λ programs stage is fair.
          part-at programs world part.new.self part.ensures.units part.ensures.regions part.ensures.cards
          part.ensures.outline c.args.out.now part.new.out stage is c.args.step.now (Go c.in-Go.script c.in-Go.most)
          part.result c.in-Go.is tt part.ensures.rest (λ w of. part.ensures.tells programs w of),
    )

pub returns-in-Run-clause-at : goal.returns-in-Run-clause-at
returns-in-Run-clause-at g c =
    let world = c.args.self.now in
    let part = c.run_part in (
      [],
      went-none g.L.Link.gives (g.L.Link.trips c.args.link.now),
      λ programs stage is fair.
          part-at programs world part.new.self part.ensures.units part.ensures.regions part.ensures.cards
          part.ensures.outline c.args.out.now part.new.out stage is c.args.step.now (Run c.in-Run.most) part.result
          c.in-Run.is tt part.ensures.rest (λ w of. part.ensures.tells programs w of),
    )

pub returns-in-Go-clause-rest : goal.returns-in-Go-clause-rest
returns-in-Go-clause-rest g c =
    rest-of c.args.step.now (Go c.in-Go.script c.in-Go.most) c.in-Go.is c.go_part.result c.go_part.ensures.rest

pub returns-in-Run-clause-rest : goal.returns-in-Run-clause-rest
returns-in-Run-clause-rest g c =
    rest-of c.args.step.now (Run c.in-Run.most) c.in-Run.is c.run_part.result c.run_part.ensures.rest

pub returns-in-Go-clause-size : goal.returns-in-Go-clause-size
returns-in-Go-clause-size g c =
    on-ok c.go_part.result (size-kept c.args.self.now c.go_part.new.self.grid c.go_part.ensures.outline)

pub returns-in-Run-clause-size : goal.returns-in-Run-clause-size
returns-in-Run-clause-size g c =
    on-ok c.run_part.result (size-kept c.args.self.now c.run_part.new.self.grid c.run_part.ensures.outline)

pub returns-in-Go-clause-carded : goal.returns-in-Go-clause-carded
returns-in-Go-clause-carded g c =
    on-ok c.go_part.result
    (carded-as c.args.self.now c.go_part.new.self c.go_part.ensures.regions c.go_part.ensures.cards
    (size-kept c.args.self.now c.go_part.new.self.grid c.go_part.ensures.outline) c.requires.carded)

pub returns-in-Run-clause-carded : goal.returns-in-Run-clause-carded
returns-in-Run-clause-carded g c =
    on-ok c.run_part.result
    (carded-as c.args.self.now c.run_part.new.self c.run_part.ensures.regions c.run_part.ensures.cards
    (size-kept c.args.self.now c.run_part.new.self.grid c.run_part.ensures.outline) c.requires.carded)

pub returns-in-Go-clause-comes : goal.returns-in-Go-clause-comes
returns-in-Go-clause-comes g c = λ none.
    let world = c.args.self.now in
    goes-not g.L.Link.gives (g.L.Link.trips c.args.link.now) world.units world.clock world.grid c.args.step.now
    (Go c.in-Go.script c.in-Go.most) c.in-Go.is tt _

pub returns-in-Go-clause-indexed : goal.returns-in-Go-clause-indexed
returns-in-Go-clause-indexed g c = λ crossing was.
    absurd (crossing-not c.args.step.now (Go c.in-Go.script c.in-Go.most) c.in-Go.is tt crossing)

pub returns-in-Run-clause-comes : goal.returns-in-Run-clause-comes
returns-in-Run-clause-comes g c = λ none.
    let world = c.args.self.now in
    goes-not g.L.Link.gives (g.L.Link.trips c.args.link.now) world.units world.clock world.grid c.args.step.now
    (Run c.in-Run.most) c.in-Run.is tt _

pub returns-in-Run-clause-indexed : goal.returns-in-Run-clause-indexed
returns-in-Run-clause-indexed g c = λ crossing was.
    absurd (crossing-not c.args.step.now (Run c.in-Run.most) c.in-Run.is tt crossing)
