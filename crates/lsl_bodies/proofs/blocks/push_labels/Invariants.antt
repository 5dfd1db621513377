use Rattle.std.proofs.Common.{◌≡◌, drop}
use Rattle.lsl_bodies.proofs.BlockWalks.{labels_behind}
use Rattle.lsl_bodies.proofs.blocks.push_labels.Given as goal

abbrev pub invariant-loop-item : goal.invariant-loop-item
invariant-loop-item l = labels_behind (drop l.item-index l.items) l.labels ≡ labels_behind l.items l.initial.labels
