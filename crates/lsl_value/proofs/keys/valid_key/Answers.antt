use Rattle.std.proofs.Common.{◌∙◌}
use Rattle.lsl_value.proofs.KeyLemmas.{valid-read, valid-other}
use Rattle.lsl_value.proofs.keys.valid_key.Goals as goal

pub returns-then-text-eq-KEY_LENGTH : goal.returns-then-text-eq-KEY_LENGTH
returns-then-text-eq-KEY_LENGTH c =
    c.is_ok.ensures.value
    ∙ valid-read c.args.text.now c.as_str-text.result.now c.try_parse.result c.as_str-text.ensures.valid.scalars
    c.as_str-text.ensures.value c.if-text-eq-KEY_LENGTH.true c.try_parse.ensures.ok

pub returns-else-text-eq-KEY_LENGTH : goal.returns-else-text-eq-KEY_LENGTH
returns-else-text-eq-KEY_LENGTH c = valid-other c.args.text.now c.as_str-text.result.now
    c.as_str-text.ensures.value c.if-text-eq-KEY_LENGTH.false
