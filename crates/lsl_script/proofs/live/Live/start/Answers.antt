use Rattle.lsl_script.proofs.live.Live.start.Goals as goal

pub go_from_tick-requires-clause-stands : goal.go_from_tick-requires-clause-stands
go_from_tick-requires-clause-stands c = c.requires.woken c.if-self.false

pub returns-then-self-clause-source : goal.returns-then-self-clause-source
returns-then-self-clause-source c = λ codes s f lives rests. c.go.ensures.source codes s f lives

pub returns-else-self-clause-source : goal.returns-else-self-clause-source
returns-else-self-clause-source c = λ codes s f lives rests.
    c.go_from_tick.ensures.source codes s f (rests c.if-self.false)
