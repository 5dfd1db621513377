use Rattle.std.proofs.Common.{refl, sym}
use Rattle.lsl_world.proofs.world.World.thaw.Goals as goal

pub returns-in-Ok-clause-found : goal.returns-in-Ok-clause-found
returns-in-Ok-clause-found c = c.in-Ok.ensures.found

pub returns-in-Ok-clause-every : goal.returns-in-Ok-clause-every
returns-in-Ok-clause-every c = λ parts image. sym (c.in-Ok.ensures.every parts image)

pub returns-in-Ok-clause-only : goal.returns-in-Ok-clause-only
returns-in-Ok-clause-only c = λ fault first. c.in-Ok.ensures.only fault first

pub returns-in-Ok-clause-of : goal.returns-in-Ok-clause-of
returns-in-Ok-clause-of c = λ programs w runs agrees wanted.
    c.in-Ok.ensures.of programs w _ runs agrees wanted refl refl refl refl

pub returns-in-Ok-clause-size : goal.returns-in-Ok-clause-size
returns-in-Ok-clause-size c = sym c.in-Ok.ensures.size

pub returns-in-Ok-clause-sound : goal.returns-in-Ok-clause-sound
returns-in-Ok-clause-sound c = record {
  seated = c.in-Ok.ensures.seated;
  timely = c.in-Ok.ensures.timely;
  numbered = c.in-Ok.ensures.numbered;
}
