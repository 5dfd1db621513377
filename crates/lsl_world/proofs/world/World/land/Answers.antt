use Rattle.std.proofs.Common.{◌≡◌, ◌-◌, sym, ◌∙◌, subst, Option}
use Rattle.std.specs.Prelude.{IfSome}
use Rattle.std.proofs.lemmas.Result.{err_from_is_err_and}
use Rattle.lsl_image.specs.declared.parts.ObjectParts.{ObjectParts}
use Rattle.lsl_region.specs.Crossings.{CanArrive}
use Rattle.lsl_region.specs.ObjectParts.{parts_of_object}
use Rattle.lsl_world.proofs.Going.{numbered-as, size-as}
use Rattle.lsl_world.proofs.Handed.{comes-failed, comes-noted}
use Rattle.lsl_world.proofs.Kept.{on-ok}
use Rattle.lsl_world.proofs.Meanings.{meant}
use Rattle.lsl_world.proofs.world.World.land.Goals as goal

pub come-requires-clause-parts : goal.come-requires-clause-parts
come-requires-clause-parts c =
    subst (λ (o : Option ObjectParts). IfSome o
    (CanArrive c.args.self.now.units c.args.self.now.grid (c.args.object - 1)))
    c.in-Some.is c.requires.fits

pub note_timers-requires : goal.note_timers-requires
note_timers-requires c = record {
  numbered = numbered-as c.args.self.now c.come.new.self c.args.self.now.due c.come.ensures.scripts
      c.requires.sound.numbered;
}

pub returns-in_ok-come-in-Some-clause-comes : goal.returns-in_ok-come-in-Some-clause-comes
returns-in_ok-come-in-Some-clause-comes c = λ programs w is own apart.
    let world = c.args.self.now in
    let same : c.in-Some.parts ≡ parts_of_object world.grid (c.args.object - 1) =
    (let e = sym c.in-Some.is ∙ own in cc) in
    let told = c.in_ok-come-in-Some.ensures.means (meant programs world.units is.runs) world.clock w is.stands same in
    comes-noted programs world w is c.args.object c.args.region.now apart c.come.new.self c.note_timers.new.due
    c.args.out.now c.come.new.out c.note_timers.result told.0 told.1 c.in_ok-come-in-Some.ensures.seated
    c.note_timers.ensures.exact

pub returns-in_ok-come-in-Some-clause-size : goal.returns-in_ok-come-in-Some-clause-size
returns-in_ok-come-in-Some-clause-size c =
    size-as c.args.self.now c.come.new.self c.note_timers.new.due c.come.ensures.objects c.come.ensures.scripts

pub returns-in_ok-come-in-Some-clause-sound : goal.returns-in_ok-come-in-Some-clause-sound
returns-in_ok-come-in-Some-clause-sound c =
    on-ok c.note_timers.result (record {
      seated = c.in_ok-come-in-Some.ensures.seated;
      timely = c.requires.sound.timely;
      numbered = c.note_timers.ensures.numbered;
    })

pub returns-in_err-come-in-Some-clause-comes : goal.returns-in_err-come-in-Some-clause-comes
returns-in_err-come-in-Some-clause-comes c = λ programs w is own apart.
    let world = c.args.self.now in
    let p = err_from_is_err_and c.from_residual.result c.from_residual.ensures.1 in
    comes-failed programs world w is c.args.object c.args.region.now apart c.come.new.self world.due c.args.out.now
    c.come.new.out c.from_residual.result p.0 p.1 c.in_err-come-in-Some.ensures.comes.silent

pub returns-in_err-come-in-Some-clause-size : goal.returns-in_err-come-in-Some-clause-size
returns-in_err-come-in-Some-clause-size c =
    size-as c.args.self.now c.come.new.self c.args.self.now.due c.come.ensures.objects c.come.ensures.scripts
