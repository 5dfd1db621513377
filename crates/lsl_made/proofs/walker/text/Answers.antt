use Rattle.lsl_made.proofs.WorldSpelling.{walker_text-ascii, length-walker_text-le}
use Rattle.lsl_made.proofs.walker.text.Goals as goal

pub from_ascii-requires-clause-ascii : goal.from_ascii-requires-clause-ascii
from_ascii-requires-clause-ascii c = rw c.in_ok-bytes.ensures walker_text-ascii

pub from_ascii-requires-clause-short : goal.from_ascii-requires-clause-short
from_ascii-requires-clause-short c = rw c.in_ok-bytes.ensures length-walker_text-le
