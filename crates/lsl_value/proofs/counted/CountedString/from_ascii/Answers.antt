use Rattle.std.proofs.Common.{◌∙◌, ap, sym, length}
use Rattle.std.specs.String.{string_bytes}
use Rattle.std.proofs.lemmas.Str.{chars-IsAscii}
use Rattle.lsl_value.proofs.counted.CountedString.from_ascii.Goals as goal

pub invariant_of-result : goal.invariant_of-result
invariant_of-result c = (
  c.requires.short,
  ap length c.as_str-characters.ensures.value
      ∙ sym (ap length (chars-IsAscii (string_bytes c.args.string) c.requires.ascii)),
)

pub returns : goal.returns
returns c = chars-IsAscii (string_bytes c.args.string) c.requires.ascii
