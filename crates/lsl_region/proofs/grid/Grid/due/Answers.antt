use Rattle.std.proofs.Common.{◌≡◌, ◌<◌, ◌-◌, ◌∙◌, length, ap, sym, arith}
use Rattle.std.specs.Prelude.{Some}
use Rattle.lsl_script.specs.Parts.{parts_of}
use Rattle.lsl_script.proofs.Timers.{timing_is}
use Rattle.lsl_region.specs.Timers.{next_due}
use Rattle.lsl_region.specs.Worlds.{Member}
use Rattle.lsl_region.proofs.Rings.{home}
use Rattle.lsl_region.proofs.grid.Grid.due.Goals as goal

pub returns-clause-source : goal.returns-clause-source
returns-clause-source c = λ codes clock w m st at.
    let h : c.args.script - 1 < length c.args.self.now.seats = omega arith in
    let k = home codes clock c.args.self.now w (c.args.script - 1) st h in
    let both : Some k.member ≡ Some m = sym k.at ∙ at in
    let same : k.member ≡ m = cc in
    c.due_at.ensures k.seat (parts_of codes k.member.script) k.sits k.script
    ∙ ap next_due (timing_is k.member.script.mailbox.timing
    (st.scripts (c.args.script - 1) k.member k.at).lawful.timing)
    ∙ ap (λ (z : Member). next_due z.script.mailbox.timing) same
