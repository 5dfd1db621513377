use Rattle.lsl_region.proofs.Table.{searched}
use Rattle.lsl_region.proofs.chat_index.find.Goals as goal

pub returns : goal.returns
returns c = searched c.args.table.now c.args.entry.now c.binary_search.result c.requires c.binary_search.ensures.bound
    c.binary_search.ensures.position
