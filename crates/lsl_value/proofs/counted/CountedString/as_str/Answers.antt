use Rattle.std.proofs.Common.{◌∙◌, sym, ap, subst}
use Rattle.std.specs.Str.{encode_utf8_all}
use Rattle.std.specs.String.{string_bytes}
use Rattle.std.proofs.lemmas.Str.{encodes-chars, IsUtf8-string_bytes}
use Rattle.lsl_value.specs.Text.{IsText}
use Rattle.lsl_value.proofs.TextLemmas.{IsText-chars}
use Rattle.lsl_value.proofs.counted.CountedString.as_str.Goals as goal

pub returns-clause-value : goal.returns-clause-value
returns-clause-value c =
    c.as_str.ensures.value
    ∙ sym (encodes-chars (string_bytes c.self.inside.string) (IsUtf8-string_bytes c.self.inside.string))
    ∙ ap encode_utf8_all c.self.view_is

pub returns-clause-valid : goal.returns-clause-valid
returns-clause-valid c =
    subst IsText c.self.view_is
    (IsText-chars (string_bytes c.self.inside.string) (IsUtf8-string_bytes c.self.inside.string) c.self.invariant.0)
