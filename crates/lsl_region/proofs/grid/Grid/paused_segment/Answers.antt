use Rattle.lsl_region.specs.Pausing.{with_segment}
use Rattle.lsl_region.specs.Segments.{segment}
use Rattle.lsl_region.proofs.Saves.{counted-saved}
use Rattle.lsl_region.proofs.grid.Grid.paused_segment.Goals as goal

pub returns-clause-counted : goal.returns-clause-counted
returns-clause-counted c = λ m w t before k.
    let scene = c.args.scene.now in
    let v = (segment m.rules scene.place w).value in
    let d = c.in_ok-segment.ensures.does m w before in
    let p = c.if-not-pass.ensures.passed t k in
    let goes = c.if-not-can_go_on.ensures.source scene.library.now scene.unit.now scene.place c.segment.new.self v
    d.0 in
    counted-saved c.count.new.self t scene.place v p.0 goes (c.count.ensures.counted (with_segment t) p.1)
