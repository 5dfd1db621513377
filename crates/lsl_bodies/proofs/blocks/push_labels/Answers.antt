use Rattle.std.proofs.Common.{◌<◌, ◌≤◌, ◌+◌, length, drop, ap, ◌∙◌, arith}
use Rattle.lsl_bodies.proofs.BlockWalks.{labels_behind, labels_walk, labels_next, labels_end}
use Rattle.lsl_bodies.proofs.blocks.push_labels.Goals as goal

pub loop-item-preserved : goal.loop-item-preserved
loop-item-preserved c =
    let xs = c.args.items.now in
    let lt : c.loop-item.item-index < length xs = omega arith in
    ap (labels_behind (drop (c.loop-item.item-index + 1) xs)) c.in_ok-push_label.ensures
    ∙ labels_next c.loop-item.labels xs c.loop-item.item-index c.item-item.result _ lt c.item-item.is
    c.loop-item.invariant

pub returns : goal.returns
returns c =
    let xs = c.args.items.now in
    let over : length xs ≤ c.loop-item.item-index = omega arith in
    labels_end c.loop-item.labels xs c.loop-item.item-index _ over c.loop-item.invariant ∙ labels_walk xs _
