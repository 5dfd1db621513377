use Rattle.lsl_machine.proofs.Settling.{paused_of, paused_same, rests_there, saves_valid}
use Rattle.lsl_machine.proofs.Machine.pause.Goals as goal

pub pause-requires-clause-rests : goal.pause-requires-clause-rests
pause-requires-clause-rests c =
    rests_there c.args.unit.now c.args.handler c.self.inside.running c.self.inside.standing c.self.invariant
    c.args.self.now c.self.view_is c.requires.stands c.requires.of c.requires.chained

pub pause-requires-clause-valid : goal.pause-requires-clause-valid
pause-requires-clause-valid c =
    saves_valid c.args.unit.now c.args.handler c.self.inside.running c.self.inside.standing c.self.invariant
    c.args.self.now c.self.view_is c.requires.stands c.requires.of c.requires.chained

pub returns-clause-machine : goal.returns-clause-machine
returns-clause-machine c =
    paused_same c.args.unit.now c.args.handler c.self.inside.running c.self.inside.standing c.self.invariant
    c.args.self.now c.self.view_is c.requires.stands c.requires.of c.requires.chained c.pause.new.self
    c.in_ok-pause.ensures c.requires.weaves

pub returns-clause-of : goal.returns-clause-of
returns-clause-of c =
    paused_of c.args.unit.now c.args.handler c.self.inside.running c.self.inside.standing c.self.invariant
    c.args.self.now c.self.view_is c.requires.stands c.requires.of c.requires.chained c.pause.new.self
    c.in_ok-pause.ensures
