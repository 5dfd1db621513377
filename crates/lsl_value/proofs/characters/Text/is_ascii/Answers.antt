use Rattle.std.proofs.Common.{◌∙◌, sym, ap, length, eq-eqb}
use Rattle.std.proofs.lemmas.Bool.{eqb-true}
use Rattle.std.proofs.lemmas.Str.{encodes-IsAscii}
use Rattle.lsl_value.proofs.TextLemmas.{IsAscii-from_length}
use Rattle.lsl_value.proofs.characters.Text.is_ascii.Goals as goal

pub returns : goal.returns
returns c = (
  λ same.
      IsAscii-from_length c.args.self.now
      (sym c.character_count.ensures.value
      ∙ eqb-true c.character_count.result (length c.bytes.result.now) same ∙ ap length c.bytes.ensures.value),
  λ ascii.
      eq-eqb c.character_count.result (length c.bytes.result.now)
      (c.character_count.ensures.value ∙ sym (ap length (encodes-IsAscii c.args.self.now ascii))
      ∙ sym (ap length c.bytes.ensures.value)),
)
