use Rattle.std.proofs.lemmas.Result.{err_from_is_err_and}
use Rattle.lsl_world.proofs.Going.{crossed-err, crossed-ok, numbered-as, size-as}
use Rattle.lsl_world.proofs.Kept.{on-ok}
use Rattle.lsl_world.proofs.Meanings.{meant}
use Rattle.lsl_world.proofs.Returning.{not-returned, returned}
use Rattle.lsl_world.proofs.world.World.cross.Goals as goal

pub note_timers-requires : goal.note_timers-requires
note_timers-requires g c = record {
  numbered = numbered-as c.args.self.now c.cross.new.self c.args.self.now.due c.cross.ensures.scripts
      c.requires.sound.numbered;
}

pub returns-clause-goes : goal.returns-clause-goes
returns-clause-goes g c =
    let world = c.args.self.now in
    let k = c.in_ok-cross.ensures.crosses in (
      k.0,
      k.1,
      λ programs w is. crossed-ok programs world w is c.cross.new.self c.note_timers.new.due c.args.out.now
          c.cross.new.out k.0 c.args.object c.args.region.now _ c.note_timers.result
          (k.3 (meant programs world.units is.runs) world.clock w is.stands) c.in_ok-cross.ensures.seated
          c.note_timers.ensures.exact,
    )

pub returns-clause-size : goal.returns-clause-size
returns-clause-size g c =
    size-as c.args.self.now c.cross.new.self c.note_timers.new.due c.cross.ensures.objects c.cross.ensures.scripts

pub returns-clause-sound : goal.returns-clause-sound
returns-clause-sound g c =
    on-ok c.note_timers.result (record {
      seated = c.in_ok-cross.ensures.seated;
      timely = c.requires.sound.timely;
      numbered = c.note_timers.ensures.numbered;
    })

pub returns-in_err-cross-clause-goes : goal.returns-in_err-cross-clause-goes
returns-in_err-cross-clause-goes g c =
    let world = c.args.self.now in
    let p = err_from_is_err_and c.from_residual.result c.from_residual.ensures.1 in
    let k = c.in_err-cross.ensures.crosses in (
      k.0,
      k.1,
      λ programs w is. crossed-err programs world w is c.cross.new.self world.due c.args.out.now c.cross.new.out k.0
          c.args.object c.args.region.now _ p.0 c.from_residual.result p.1
          (k.3 (meant programs world.units is.runs) world.clock w is.stands),
    )

pub returns-in_err-cross-clause-size : goal.returns-in_err-cross-clause-size
returns-in_err-cross-clause-size g c =
    size-as c.args.self.now c.cross.new.self c.args.self.now.due c.cross.ensures.objects c.cross.ensures.scripts

pub returns-clause-comes : goal.returns-clause-comes
returns-clause-comes g c =
    let world = c.args.self.now in
    let (trips, went, crosses, travels) = c.in_ok-cross.ensures.crosses in (
      trips,
      went,
      λ programs w came. returned programs world c.args.object c.args.region.now w trips c.requires.object came
          c.cross.new.self c.args.out.now c.cross.new.out c.note_timers.new.due _ c.note_timers.result crosses
          c.in_ok-cross.ensures.seated c.requires.sound.timely c.note_timers.ensures.exact,
    )

pub returns-in_err-cross-clause-comes : goal.returns-in_err-cross-clause-comes
returns-in_err-cross-clause-comes g c =
    let world = c.args.self.now in
    let p = err_from_is_err_and c.from_residual.result c.from_residual.ensures.1 in
    let (trips, went, stays, travels) = c.in_err-cross.ensures.crosses in (
      trips,
      went,
      λ programs w came. not-returned programs world c.args.object c.args.region.now w trips c.requires.object came
          c.cross.new.self c.args.out.now c.cross.new.out world.due c.from_residual.result p.0 p.1 stays.0.silent,
    )
