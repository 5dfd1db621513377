use Rattle.std.proofs.Common.{ap, ◌∙◌, true}
use Rattle.lsl_post.specs.declared.parts.ScriptParts.{ScriptParts}
use Rattle.lsl_region.proofs.Away.{admits-away, away-seat}
use Rattle.lsl_region.specs.Grids.{seat_of}
use Rattle.lsl_region.proofs.grid.Grid.admits_live.Goals as goal

pub returns-clause-value : goal.returns-clause-value
returns-clause-value c = λ codes unit clock f id w lent.
    c.admits.ensures (seat_of codes true lent.member)
    (away-seat codes clock c.args.place c.args.self.now w lent.member lent.stands lent.at)
    ∙ admits-away codes clock c.args.place c.args.self.now w c.args.audience.now lent.member c.listens.result.now
    lent.stands
    (c.listens.ensures.value ∙ ap (λ (p : ScriptParts). p.listens) lent.waits.carries.parts)
