use Rattle.std.proofs.Common.{◌≡◌, ◌∙◌, ◌++◌, ap, arith, length, refl}
use Rattle.std.specs.Str.{encode_utf8_all}
use Rattle.std.specs.String.{string_bytes}
use Rattle.std.proofs.lemmas.Str.{IsUtf8-string_bytes, chars-encodes}
use Rattle.lsl_value.proofs.TextLemmas.{few-characters, counted-join, chars-joined}
use Rattle.lsl_value.proofs.counted.CountedString.joined.Goals as goal

pub overflow_add-characters : goal.overflow_add-characters
overflow_add-characters c =
    omega (
      arith,
      few-characters (string_bytes c.self.inside.string) c.self.inside.characters
          (IsUtf8-string_bytes c.self.inside.string) c.self.invariant.0 c.self.invariant.1,
      few-characters (string_bytes c.other.inside.string) c.other.inside.characters
          (IsUtf8-string_bytes c.other.inside.string) c.other.invariant.0 c.other.invariant.1,
    )

pub invariant_of-new : goal.invariant_of-new
invariant_of-new c =
    let first = encode_utf8_all c.args.self.now in
    let front : string_bytes c.push_str.new.self ≡ first =
    c.in_ok-push_str.ensures.bytes ∙ ap (λ b. b ++ c.as_str.result.now) c.in_ok-string.ensures.bytes
    ∙ c.as_str.ensures.value in
    let whole : string_bytes c.push_str-2.new.self ≡ first ++ encode_utf8_all c.args.other.now =
    c.in_ok-push_str-2.ensures.bytes ∙ ap (λ b. b ++ c.as_str-2.result.now) front
    ∙ ap (λ m. first ++ m) c.as_str-2.ensures.value in
    counted-join (string_bytes c.push_str-2.new.self) first c.args.self.now c.args.other.now
    c.self.inside.characters c.other.inside.characters whole
    (c.args.self.now, (c.as_str.ensures.valid.scalars, refl))
    (chars-encodes c.args.self.now c.as_str.ensures.valid.scalars) c.as_str-2.ensures.valid.scalars
    (c.self.invariant.1 ∙ ap length c.self.view_is) (c.other.invariant.1 ∙ ap length c.other.view_is) c.requires

pub returns : goal.returns
returns c =
    let first = encode_utf8_all c.args.self.now in
    let front : string_bytes c.push_str.new.self ≡ first =
    c.in_ok-push_str.ensures.bytes ∙ ap (λ b. b ++ c.as_str.result.now) c.in_ok-string.ensures.bytes
    ∙ c.as_str.ensures.value in
    let whole : string_bytes c.push_str-2.new.self ≡ first ++ encode_utf8_all c.args.other.now =
    c.in_ok-push_str-2.ensures.bytes ∙ ap (λ b. b ++ c.as_str-2.result.now) front
    ∙ ap (λ m. first ++ m) c.as_str-2.ensures.value in
    c.in_ok-new.ensures.ok
    ∙ chars-joined (string_bytes c.push_str-2.new.self) first c.args.self.now c.args.other.now whole
    (c.args.self.now, (c.as_str.ensures.valid.scalars, refl))
    (chars-encodes c.args.self.now c.as_str.ensures.valid.scalars) c.as_str-2.ensures.valid.scalars
