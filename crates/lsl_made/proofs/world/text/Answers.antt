use Rattle.lsl_made.proofs.WorldSpelling.{world_text-ascii, length-world_text-le}
use Rattle.lsl_made.proofs.world.text.Goals as goal

pub from_ascii-requires-clause-ascii : goal.from_ascii-requires-clause-ascii
from_ascii-requires-clause-ascii c = rw c.in_ok-bytes.ensures (world_text-ascii c.args.number)

pub from_ascii-requires-clause-short : goal.from_ascii-requires-clause-short
from_ascii-requires-clause-short c = rw c.in_ok-bytes.ensures (length-world_text-le c.args.number)
