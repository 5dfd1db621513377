use Rattle.std.proofs.Common.{rules}
use Rattle.refused_parser.proofs.script_read.Goals as goal

pub returns : goal.returns
returns c = search rules
