use Rattle.std.proofs.Common.{◌∙◌, sym, ap}
use Rattle.std.specs.Str.{chars, encode_utf8_all}
use Rattle.std.proofs.lemmas.Slice.Eq.{bytes_eq-Decides}
use Rattle.std.proofs.lemmas.Str.{chars-encodes}
use Rattle.lsl_data.proofs.laws.names_are_texts.Goals as goal

pub returns : goal.returns
returns c = λ a b text other. (
  λ same.
      sym (chars-encodes a text.scalars)
      ∙ ap chars ((bytes_eq-Decides (encode_utf8_all a) (encode_utf8_all b)).0 same)
      ∙ chars-encodes b other.scalars,
  λ same. (bytes_eq-Decides (encode_utf8_all a) (encode_utf8_all b)).1 (ap encode_utf8_all same),
)
