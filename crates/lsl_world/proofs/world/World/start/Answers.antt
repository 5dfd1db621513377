use Rattle.std.proofs.Common.{ℕ, List, refl, sym, subst, arith}
use Rattle.std.specs.Prelude.{All}
use Rattle.lsl_region.specs.declared.objects.Linkset.{Linkset}
use Rattle.lsl_world.specs.Ranges.{IsObjectOf}
use Rattle.lsl_world.specs.Regions.{AreInNamed, LeadsToNamed, regions_of_file}
use Rattle.lsl_world.proofs.Beginning.{sized, starts}
use Rattle.lsl_world.proofs.Meanings.{meant}
use Rattle.lsl_world.proofs.Named.{file-objects-named, file-steps-named}
use Rattle.lsl_world.proofs.world.World.start.Goals as goal

pub returns-clause-of : goal.returns-clause-of
returns-clause-of c = λ programs runs.
    let codes = c.args.units in
    let file = c.args.file.now in
    let begins = starts codes (meant programs codes runs) file c.args.cards c.begin.new.grid
    (subst (λ (n : ℕ). All (IsObjectOf n) file.objects) (sym c.requires.units) c.requires.file.objects_fit)
    c.in_ok-begin.ensures.objects c.in_ok-begin.ensures.seats c.in_ok-begin.ensures.cards in
    record {
      runs = runs;
      seated = c.in_ok-begin.ensures.seated;
      timely = omega arith;
      stands = begins;
      index = c.in_ok-begin.ensures.exact codes 0 _ begins;
    }

pub returns-clause-size : goal.returns-clause-size
returns-clause-size c =
    let codes = c.args.units in
    sized codes c.args.file.now c.begin.new.grid c.in_ok-begin.ensures.objects c.in_ok-begin.ensures.seats

pub returns-clause-sound : goal.returns-clause-sound
returns-clause-sound c = record {
  seated = c.in_ok-begin.ensures.seated;
  timely = omega arith;
  numbered = c.in_ok-begin.ensures.numbered;
}

pub returns-clause-begun : goal.returns-clause-begun
returns-clause-begun c =
    let file = c.args.file.now in
    record {
      plain = refl;
      named = subst (λ (names : List (List ℕ)). AreInNamed names c.begin.new.grid.objects)
          (sym c.in_ok-begin.ensures.regions)
          (subst (λ (objects : List Linkset). AreInNamed (regions_of_file file) objects)
          (sym c.in_ok-begin.ensures.objects) (file-objects-named file));
    }

pub returns-clause-named : goal.returns-clause-named
returns-clause-named c =
    let file = c.args.file.now in
    subst (λ (names : List (List ℕ)). All (LeadsToNamed names) file.steps) (sym c.in_ok-begin.ensures.regions)
    (file-steps-named file)
