use Rattle.std.proofs.Common.{rules}
use Rattle.lsl_read.specs.ScriptReading.{script_r}
use Rattle.lsl_read.proofs.script.script.Goals as goal

pub returns-in_err-headers : goal.returns-in_err-headers
unfolding script_r
returns-in_err-headers c = search rules

pub returns-in_err-rest : goal.returns-in_err-rest
unfolding script_r
returns-in_err-rest c = search rules

pub returns-in_err-default : goal.returns-in_err-default
unfolding script_r
returns-in_err-default c = search rules

pub returns-in_err-states : goal.returns-in_err-states
unfolding script_r
returns-in_err-states c = search rules

pub returns : goal.returns
unfolding script_r
returns c = search rules
