use Rattle.std.proofs.Common.{w32}
use Rattle.std.proofs.lemmas.Int.{to_z-of_z}
use Rattle.lsl_pure.proofs.RangeLemmas.{HasCuts-at, IfOk-same, taken_inside, taken_outside}
use Rattle.lsl_pure.proofs.cuts.sub_string.Goals as goal

pub returns-then-range : goal.returns-then-range
returns-then-range c =
    IfOk-same c.outside.result _ _
    (taken_outside c.args.text.now c.args.first c.args.last c.character_count.result c.new-range.result.start
    c.new-range.result.end c.new-range.result.turned c.character_count.ensures.value
    c.new-range.ensures.ordered c.new-range.ensures.within
    (HasCuts-at c.character_count.result _ _ c.args.first c.args.last _ _ _
    (to_z-of_z w32 c.args.first c.ranges.first) (to_z-of_z w32 c.args.last c.ranges.last)
    c.new-range.ensures.same) c.if-range.true)
    c.outside.ensures

pub returns-else-range : goal.returns-else-range
returns-else-range c =
    IfOk-same c.inside.result _ _
    (taken_inside c.args.text.now c.args.first c.args.last c.character_count.result c.new-range.result.start
    c.new-range.result.end c.new-range.result.turned c.character_count.ensures.value
    c.new-range.ensures.ordered c.new-range.ensures.within
    (HasCuts-at c.character_count.result _ _ c.args.first c.args.last _ _ _
    (to_z-of_z w32 c.args.first c.ranges.first) (to_z-of_z w32 c.args.last c.ranges.last)
    c.new-range.ensures.same) c.if-range.false)
    c.inside.ensures
