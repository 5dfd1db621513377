use Rattle.std.proofs.Common.{◌∙◌, ◌-◌}
use Rattle.lsl_region.proofs.Comers.{comers-count}
use Rattle.lsl_region.proofs.grid.Grid.come_behind.Goals as goal

pub arrive-requires-clause-count : goal.arrive-requires-clause-count
arrive-requires-clause-count c =
    c.in_ok-arrival.ensures.count ∙ c.len.ensures
    ∙ comers-count c.args.library.now c.args.self.now (c.args.object - 1) c.args.parts c.requires.parts
