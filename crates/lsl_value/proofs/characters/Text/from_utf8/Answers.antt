use Rattle.std.proofs.Common.{◌≡◌, ◌∙◌, sym, subst, ap, arith}
use Rattle.std.specs.Str.{chars}
use Rattle.std.specs.String.{string_bytes}
use Rattle.lsl_value.specs.Text.{IsTextOf}
use Rattle.lsl_value.proofs.TextLemmas.{IsTextOf-chars}
use Rattle.lsl_value.proofs.characters.Text.from_utf8.Goals as goal

pub returns-in_ok-from_string-in-Ok : goal.returns-in_ok-from_string-in-Ok
returns-in_ok-from_string-in-Ok c =
    let same : string_bytes c.in_ok-from_str-in-Ok.field-0 ≡ c.args.bytes.now =
    c.in_ok-from_str-in-Ok.ensures.ok ∙ c.in-Ok.ensures.cases.0 in
    let text : c.in_ok-from_string-in-Ok.field-0 ≡ chars c.args.bytes.now =
    c.in_ok-from_string-in-Ok.ensures ∙ ap chars same in
    record {
      ok = subst (IsTextOf c.args.bytes.now) (sym text)
          (IsTextOf-chars c.args.bytes.now c.in-Ok.ensures.cases.1 (omega arith));
    }
