use Rattle.std.proofs.Common.{◌∙◌}
use Rattle.lsl_region.proofs.PausedTurns.{counted-so}
use Rattle.lsl_region.proofs.grid.Grid.turn_with.Goals as goal

pub returns-clause-does : goal.returns-clause-does
returns-clause-does c = λ m w st.
    let d = c.in_ok-spent.ensures.does m w st in
    ((c.in_ok-settle.ensures.does _ d.0.0, d.0.1), d.1)

pub returns-clause-counted : goal.returns-clause-counted
returns-clause-counted c = λ m w t st k.
    let d = c.in_ok-spent.ensures.does m w st in
    counted-so m.rules c.args.ticks c.args.scene.now.place w _ t _ d.0.2
    (c.in_ok-settle.ensures.counted _ (c.in_ok-spent.ensures.counted m w t st k))

pub returns-clause-grid : goal.returns-clause-grid
returns-clause-grid c = record {
  set = c.in_ok-settle.ensures.grid.set;
  outline = c.in_ok-settle.ensures.grid.outline ∙ c.in_ok-spent.ensures.grid.outline;
}
