use Rattle.std.specs.String.{string_bytes}
use Rattle.std.proofs.lemmas.Str.{IsUtf8-string_bytes}
use Rattle.lsl_value.proofs.TextLemmas.{few-characters}
use Rattle.lsl_value.proofs.counted.CountedString.characters.Goals as goal

pub returns-clause-within : goal.returns-clause-within
returns-clause-within c =
    few-characters (string_bytes c.self.inside.string) c.self.inside.characters
    (IsUtf8-string_bytes c.self.inside.string) c.self.invariant.0 c.self.invariant.1
