use Rattle.std.proofs.Common.{◌≤◌, get_or, arith}
use Rattle.lsl_gen.specs.declared.label_places.LabelPlace.{LabelPlace}
use Rattle.lsl_gen.proofs.LabelTables.{least_more, least_all}
use Rattle.lsl_gen.proofs.labels.least.Goals as goal

pub loop-x-preserved : goal.loop-x-preserved
loop-x-preserved c =
    let labels = c.args.labels.now in
    let none : LabelPlace = record { label = 0; place = 0 } in
    let below : c.min-first.result ≤ c.loop-x.first = omega (arith, c.min-first.ensures) in
    let here : c.min-first.result ≤ (get_or labels c.loop-x.x-index none).label = omega (arith, c.min-first.ensures) in
    least_more c.loop-x.first c.min-first.result labels c.loop-x.x-index none c.loop-x-test.true below here
    c.loop-x.invariant

pub returns : goal.returns
returns c = least_all c.loop-x.first c.args.labels.now c.loop-x.x-index c.loop-x-test.false c.loop-x.invariant
