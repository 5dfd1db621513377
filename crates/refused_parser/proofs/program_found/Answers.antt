use Rattle.std.proofs.Common.{rules}
use Rattle.refused_parser.proofs.program_found.Goals as goal

pub returns : goal.returns
returns c = search rules
