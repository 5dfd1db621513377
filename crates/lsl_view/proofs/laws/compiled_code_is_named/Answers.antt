use Rattle.lsl_view.proofs.CodeNames.{compiled_code_is_named}
use Rattle.lsl_view.proofs.laws.compiled_code_is_named.Goals as goal

pub returns : goal.returns
returns c = compiled_code_is_named
