use Rattle.std.proofs.Common.{rules}
use Rattle.lsl_weave.proofs.Places.{places_start, places_more, places_end}
use Rattle.lsl_weave.proofs.tables.place_table.Goals as goal

pub loop-i-init : goal.loop-i-init
loop-i-init c =
    places_start c.args.code.now c.args.points c.in_ok-end.end c.in_ok-places.places.items
    (search rules) c.in_ok-end.ensures

pub loop-i-preserved : goal.loop-i-preserved
loop-i-preserved c =
    places_more c.args.code.now c.loop-i.i c.args.points c.index-code-place.result c.loop-i.places.items
    c.put_place.new.places.items c.loop-i-test.true c.index-code-place.is c.put_place.ensures
    c.loop-i.invariant

pub returns : goal.returns
returns c =
    places_end c.args.code.now c.loop-i.i c.args.points c.loop-i.places.items
    (search rules) c.loop-i.invariant
