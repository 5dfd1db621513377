use Rattle.std.proofs.Common.{sym, ap, ◌∙◌}
use Rattle.lsl_lex.specs.Reading.{counted}
use Rattle.lsl_lex.proofs.Scanned.{close_short}
use Rattle.lsl_lex.proofs.comments.close_length.Goals as goal

pub returns-clause-count : goal.returns-clause-count
returns-clause-count c = ap (counted c.bytes.n) (sym (close_short c.bytes.rest.now c.in_default.len_below))
    ∙ c.bytes.invariant.0
