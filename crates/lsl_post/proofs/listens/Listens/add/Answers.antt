use Rattle.std.proofs.Common.{ap}
use Rattle.lsl_post.specs.Tables.{listens_in}
use Rattle.lsl_post.proofs.listens.Listens.add.Goals as goal

pub add_first-requires : goal.add_first-requires
add_first-requires c = ap listens_in c.in_default.is
