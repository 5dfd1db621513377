use Rattle.std.proofs.Common.{rules}
use Rattle.lsl_read.specs.ScriptReading.{all_r}
use Rattle.lsl_parse.proofs.answer.whole.Goals as goal

pub returns-in_err-tree : goal.returns-in_err-tree
unfolding all_r
returns-in_err-tree c = search rules

pub returns : goal.returns
unfolding all_r
returns c = search rules
