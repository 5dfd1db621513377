use Rattle.std.proofs.Common.{◌≡◌, ◌∙◌, ◌++◌, ap, arith, length}
use Rattle.std.specs.Str.{encode_utf8_all}
use Rattle.std.specs.String.{string_bytes}
use Rattle.std.proofs.lemmas.Str.{IsUtf8-string_bytes}
use Rattle.lsl_value.proofs.TextLemmas.{few-characters, counted-join, chars-joined}
use Rattle.lsl_value.proofs.counted.CountedString.push.Goals as goal

pub overflow_add-self : goal.overflow_add-self
overflow_add-self c =
    omega (
      arith,
      few-characters (string_bytes c.self.inside.string) c.self.inside.characters
          (IsUtf8-string_bytes c.self.inside.string) c.self.invariant.0 c.self.invariant.1,
      few-characters (string_bytes c.other.inside.string) c.other.inside.characters
          (IsUtf8-string_bytes c.other.inside.string) c.other.invariant.0 c.other.invariant.1,
    )

pub invariant_of-self-2 : goal.invariant_of-self-2
invariant_of-self-2 c =
    let old = string_bytes c.self.inside.string in
    let whole : string_bytes c.push_str.new.self ≡ old ++ encode_utf8_all c.args.other.now =
    c.in_ok-push_str.ensures.bytes ∙ ap (λ m. old ++ m) c.as_str.ensures.value in
    counted-join (string_bytes c.push_str.new.self) old c.args.self.now c.args.other.now c.self.inside.characters
    c.other.inside.characters whole (IsUtf8-string_bytes c.self.inside.string) c.self.view_is
    c.as_str.ensures.valid.scalars
    (c.self.invariant.1 ∙ ap length c.self.view_is) (c.other.invariant.1 ∙ ap length c.other.view_is) c.requires

pub returns : goal.returns
returns c =
    let old = string_bytes c.self.inside.string in
    let whole : string_bytes c.push_str.new.self ≡ old ++ encode_utf8_all c.args.other.now =
    c.in_ok-push_str.ensures.bytes ∙ ap (λ m. old ++ m) c.as_str.ensures.value in
    chars-joined (string_bytes c.push_str.new.self) old c.args.self.now c.args.other.now whole
    (IsUtf8-string_bytes c.self.inside.string) c.self.view_is c.as_str.ensures.valid.scalars
