use Rattle.std.specs.Prelude.{◌-◌}
use Rattle.std.proofs.lemmas.Result.{MatchResult-from_err}
use Rattle.lsl_region.specs.Segments.{turn}
use Rattle.lsl_world.specs.Programs.{rules_of}
use Rattle.lsl_world.proofs.Kept.{number-kept, numbered-kept, part-all, size-kept, turned}
use Rattle.lsl_world.proofs.Meanings.{meant}
use Rattle.lsl_world.proofs.Saving.{counts-still}
use Rattle.lsl_world.proofs.Still.{still, turn-none, turn-waits}
use Rattle.lsl_world.proofs.Timings.{turn-others}
use Rattle.lsl_world.proofs.world.World.turn.Goals as goal

pub note_timer-requires-clause-script : goal.note_timer-requires-clause-script
note_timer-requires-clause-script c =
    number-kept c.args.self.now c.turn.new.self c.args.script c.turn.ensures.outline c.requires.script

pub returns-in_err-spent-clause-size : goal.returns-in_err-spent-clause-size
returns-in_err-spent-clause-size c = size-kept c.args.self.now c.turn.new.self c.turn.ensures.outline

pub returns-in_err-note_timer-clause-size : goal.returns-in_err-note_timer-clause-size
returns-in_err-note_timer-clause-size c = size-kept c.args.self.now c.turn.new.self c.turn.ensures.outline

pub note_timer-requires-clause-numbered : goal.note_timer-requires-clause-numbered
note_timer-requires-clause-numbered c =
    numbered-kept c.args.self.now c.turn.new.self c.args.self.now.due c.turn.ensures.outline c.requires.sound.numbered

pub returns-in_err-spent-clause-tells : goal.returns-in_err-spent-clause-tells
returns-in_err-spent-clause-tells c = λ programs w is.
    MatchResult-from_err c.from_residual.result _ _ c.from_residual.ensures.0
    (λ y. c.in_err-spent.ensures.does (meant programs c.args.self.now.units is.runs) w is.stands)

pub returns-in_err-note_timer-clause-tells : goal.returns-in_err-note_timer-clause-tells
returns-in_err-note_timer-clause-tells c = λ programs w is.
    MatchResult-from_err c.from_residual-in_err-note_timer.result _ _ c.from_residual-in_err-note_timer.ensures.0
    (λ y. part-all c.args.out.now c.turn.new.out (turn (rules_of programs) c.args.most (c.args.script - 1) w).entries
    (c.in_ok-spent.ensures.does (meant programs c.args.self.now.units is.runs) w is.stands).1)

pub returns-clause-tells : goal.returns-clause-tells
returns-clause-tells c = λ programs w is.
    let world = c.args.self.now in
    let told = c.in_ok-spent.ensures.does (meant programs world.units is.runs) w is.stands in (
      (
        turned programs world w is c.turn.new.self c.turn.new.pause c.note_timer.new.due c.args.script _
            c.requires.script.0 c.in_ok-spent.ensures.seated told.0.0
            (turn-others (rules_of programs) c.args.most (c.args.script - 1) w)
            (c.in_ok-note_timer.ensures.puts world.units world.clock _ told.0.0),
        told.0.1,
      ),
      told.1,
    )

pub returns-clause-size : goal.returns-clause-size
returns-clause-size c = size-kept c.args.self.now c.turn.new.self c.turn.ensures.outline

pub returns-clause-sound : goal.returns-clause-sound
returns-clause-sound c = record {
  seated = c.in_ok-spent.ensures.seated;
  timely = c.requires.sound.timely;
  numbered = c.note_timer.ensures.numbered;
}

pub returns-then-most-eq0-clause-tells : goal.returns-then-most-eq0-clause-tells
returns-then-most-eq0-clause-tells c = λ programs w is.
    still programs c.args.self.now w c.args.out.now _ is
    (turn-none (rules_of programs) c.args.most (c.args.script - 1) w c.if-most-eq0.true)

pub returns-then-not-ready-clause-tells : goal.returns-then-not-ready-clause-tells
returns-then-not-ready-clause-tells c = λ programs w is.
    still programs c.args.self.now w c.args.out.now _ is
    (turn-waits (rules_of programs) c.args.most (c.args.script - 1) w c.ready.result
    (c.ready.ensures.source _ w is.stands) c.if-not-ready.true)

pub returns-clause-saves : goal.returns-clause-saves
returns-clause-saves c = λ programs w t is has.
    c.in_ok-spent.ensures.counted (meant programs c.args.self.now.units is.runs) w t is.stands has

pub returns-then-most-eq0-clause-saves : goal.returns-then-most-eq0-clause-saves
returns-then-most-eq0-clause-saves c = λ programs w t is has.
    counts-still (rules_of programs) c.args.most (c.args.script - 1) w t c.args.self.now.pause
    (turn-none (rules_of programs) c.args.most (c.args.script - 1) w c.if-most-eq0.true) has

pub returns-then-not-ready-clause-saves : goal.returns-then-not-ready-clause-saves
returns-then-not-ready-clause-saves c = λ programs w t is has.
    counts-still (rules_of programs) c.args.most (c.args.script - 1) w t c.args.self.now.pause
    (turn-waits (rules_of programs) c.args.most (c.args.script - 1) w c.ready.result
    (c.ready.ensures.source _ w is.stands) c.if-not-ready.true) has
