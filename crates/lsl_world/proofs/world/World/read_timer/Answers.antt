use Rattle.std.proofs.Common.{◌-◌}
use Rattle.std.proofs.lemmas.Result.{MatchResult-from_err}
use Rattle.lsl_region.specs.Posting.{ring_at}
use Rattle.lsl_world.specs.Programs.{rules_of}
use Rattle.lsl_world.specs.Stands.{IsOf}
use Rattle.lsl_world.proofs.Kept.{number-kept, numbered-kept, on-ok, size-kept, tells-last, turned, with_turn}
use Rattle.lsl_world.proofs.Meanings.{meant}
use Rattle.lsl_world.proofs.Timings.{ring-others}
use Rattle.lsl_world.proofs.world.World.read_timer.Goals as goal

pub note_timer-requires-clause-script : goal.note_timer-requires-clause-script
note_timer-requires-clause-script c =
    number-kept c.args.self.now c.read_timer.new.self c.args.script c.read_timer.ensures.outline c.requires.script

pub returns-in_err-read_timer-clause-size : goal.returns-in_err-read_timer-clause-size
returns-in_err-read_timer-clause-size c = size-kept c.args.self.now c.read_timer.new.self c.read_timer.ensures.outline

pub note_timer-requires-clause-numbered : goal.note_timer-requires-clause-numbered
note_timer-requires-clause-numbered c =
    numbered-kept c.args.self.now c.read_timer.new.self c.args.self.now.due c.read_timer.ensures.outline
    c.requires.sound.numbered

pub returns-in_err-read_timer-clause-tells : goal.returns-in_err-read_timer-clause-tells
returns-in_err-read_timer-clause-tells c = λ programs w is.
    MatchResult-from_err c.from_residual.result _ _ c.from_residual.ensures.0
    (λ y. c.in_err-read_timer.ensures.does (meant programs c.args.self.now.units is.runs) w is.stands)

pub returns-clause-tells : goal.returns-clause-tells
returns-clause-tells c = λ programs w is.
    let world = c.args.self.now in
    let told = c.in_ok-read_timer.ensures.does (meant programs world.units is.runs) w is.stands in
    tells-last c.note_timer.result
    (λ v t. IsOf programs (with_turn world c.read_timer.new.self world.pause c.note_timer.new.due) v) c.args.out.now
    c.read_timer.new.out
    (ring_at (rules_of programs) (c.args.script - 1) w) told.1 c.note_timer.ensures.puts
    (λ puts t. turned programs world w is c.read_timer.new.self world.pause c.note_timer.new.due c.args.script _
    c.requires.script.0 c.in_ok-read_timer.ensures.seated told.0
    (ring-others (rules_of programs) (c.args.script - 1) w) (puts world.units world.clock _ told.0))

pub returns-clause-size : goal.returns-clause-size
returns-clause-size c = size-kept c.args.self.now c.read_timer.new.self c.read_timer.ensures.outline

pub returns-clause-sound : goal.returns-clause-sound
returns-clause-sound c =
    on-ok c.note_timer.result (record {
      seated = c.in_ok-read_timer.ensures.seated;
      timely = c.requires.sound.timely;
      numbered = c.note_timer.ensures.numbered;
    })
