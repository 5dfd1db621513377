use Rattle.std.proofs.Common.{◌∙◌}
use Rattle.lsl_script.proofs.live.Live.go_from_tick.Goals as goal

pub returns-then-pass_tick-clause-source : goal.returns-then-pass_tick-clause-source
returns-then-pass_tick-clause-source c = c.pass_tick.ensures.source c.if-pass_tick.true

pub returns-clause-beside : goal.returns-clause-beside
returns-clause-beside c =
    let first = c.pass_tick.ensures.beside in
    let then = c.go.ensures.beside in
    record {
      parts = then.parts ∙ first.parts;
      event = then.event ∙ first.event;
      handler = then.handler ∙ first.handler;
      began = then.began ∙ first.began;
    }

pub returns-clause-source : goal.returns-clause-source
returns-clause-source c = λ codes s f rests.
    c.go.ensures.source codes s f (c.pass_tick.ensures.goes c.if-pass_tick.false codes s f rests)
