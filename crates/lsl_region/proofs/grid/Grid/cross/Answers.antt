use Rattle.std.proofs.Common.{◌≢◌, ◌∙◌, ◌-◌}
use Rattle.std.proofs.lemmas.Bool.{false≢true}
use Rattle.std.proofs.lemmas.Slice.Eq.{bytes_eq-Decides}
use Rattle.lsl_region.specs.Crossings.{region_in}
use Rattle.lsl_region.proofs.Passages.{struck, travels}
use Rattle.lsl_region.proofs.grid.Grid.cross.Goals as goal

pub returns-clause-crosses : goal.returns-clause-crosses
returns-clause-crosses g c =
    let codes = c.args.library.now in
    let place = c.args.object - 1 in
    let region = c.args.region.now in
    let old = c.args.self.now in
    let new = c.cross_over-outcome.new.self in
    let elsewhere : region_in old place ≢ region = λ e.
    false≢true (c.if-eq.ensures ∙ (bytes_eq-Decides c.region.result.now region).1 (c.region.ensures ∙ e)) in
    let t = c.cross_over-outcome.ensures.crosses in
    let crosses = struck codes place region old new c.args.out.now c.cross_over-outcome.new.out c.strike.new.out
    c.len-before.result t.0 c.cross_over-outcome.result elsewhere c.len-before.ensures t.2 c.strike.ensures in (
      t.0,
      t.1,
      crosses,
      λ m clock w st. travels codes m clock place region old w st new c.args.out.now c.strike.new.out t.0
          c.cross_over-outcome.result c.cross_over-outcome.ensures.image crosses,
    )
