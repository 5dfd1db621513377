use Rattle.std.proofs.Common.{vec_capacity}
use Rattle.lsl_region.proofs.Rows.{table-none}
use Rattle.lsl_region.proofs.chat_index.ChannelTable.new.Goals as goal

pub invariant_of-result : goal.invariant_of-result
invariant_of-result c =
    table-none c.new.result.items c.new-2.result.items (vec_capacity c.new-2.result) c.new.ensures.items
    c.new-2.ensures.items
