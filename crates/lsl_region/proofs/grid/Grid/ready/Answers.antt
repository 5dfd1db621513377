use Rattle.std.proofs.Common.{◌<◌, ◌-◌, ◌∙◌, ℕ, length, ap, sym, arith}
use Rattle.std.specs.Prelude.{Option}
use Rattle.lsl_script.specs.Parts.{parts_of}
use Rattle.lsl_script.specs.Scripts.{is_ready}
use Rattle.lsl_region.specs.Segments.{is_ready_in}
use Rattle.lsl_region.specs.Worlds.{Member}
use Rattle.lsl_region.proofs.Rings.{home, ready-is}
use Rattle.lsl_region.proofs.grid.Grid.ready.Goals as goal

pub returns-clause-source : goal.returns-clause-source
returns-clause-source c = λ codes w st.
    let h : c.args.script - 1 < length c.args.self.now.seats = omega arith in
    let k = home codes c.args.clock c.args.self.now w (c.args.script - 1) st h in
    c.is_ready_at.ensures.ready k.seat (parts_of codes k.member.script) k.sits k.script
    ∙ ready-is codes c.args.clock k.member.script
    ∙ ap (λ (n : ℕ). is_ready n k.member.script) (sym st.time)
    ∙ ap (λ (o : Option Member). is_ready_in w o) (sym k.at)
