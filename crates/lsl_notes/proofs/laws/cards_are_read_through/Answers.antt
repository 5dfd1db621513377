use Rattle.std.proofs.Common.{◌∙◌, length, ap}
use Rattle.std.specs.Prelude.{slice_get}
use Rattle.std.specs.Option.{option_map}
use Rattle.std.specs.Str.{chars}
use Rattle.std.specs.Str.Lines.{lines}
use Rattle.std.proofs.lemmas.List.{length-map}
use Rattle.std.proofs.lemmas.Option.{slice_get-map, slice_get_past}
use Rattle.lsl_notes.specs.Notecards.{told}
use Rattle.lsl_notes.proofs.laws.cards_are_read_through.Goals as goal

pub returns : goal.returns
returns c = λ bytes card is. record {
  count = ap length is.lines ∙ length-map (lines bytes) chars;
  each = λ i line at. ap told (ap (λ ls. slice_get ls i) is.lines ∙ slice_get-map chars (lines bytes) i
      ∙ ap (option_map chars) at);
  behind = λ i past. ap told (slice_get_past card i past);
}
