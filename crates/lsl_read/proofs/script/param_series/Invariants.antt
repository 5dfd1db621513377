use Rattle.std.proofs.Common.{◌≡◌, [], ◌∷◌, length}
use Rattle.lsl_lex.specs.declared.token_types.Sort.TheVariants.{Comma}
use Rattle.lsl_read.specs.ExpressionReading.{while_r, comma_r, series_r}
use Rattle.lsl_read.specs.ScriptGrammar.{added}
use Rattle.lsl_read.specs.ScriptReading.{param_r}
use Rattle.lsl_read.proofs.script.param_series.Given as goal

-- what is still to be read gives the whole
abbrev pub invariant-more : goal.invariant-more
invariant-more l = while_r (Comma ∷ []) (comma_r added param_r) l.all.items l.rest ≡ series_r added [] param_r l.tokens

abbrev pub decreases-more : goal.decreases-more
decreases-more l = length l.rest
