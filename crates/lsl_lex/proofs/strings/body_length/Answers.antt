use Rattle.std.proofs.Common.{◌≡◌, ◌-◌, length, take, drop, ap, arith, length-drop}
use Rattle.std.proofs.lemmas.List.{take_rest}
use Rattle.lsl_lex.specs.Reading.{quote_of}
use Rattle.lsl_lex.proofs.Scanned.{counted_zero, one_part}
use Rattle.lsl_lex.proofs.strings.body_length.Goals as goal

pub parts-init : goal.parts-init
parts-init c = (counted_zero (quote_of c.args.text.now), omega arith)

pub parts-preserved : goal.parts-preserved
parts-preserved c =
    let rest = c.parts.rest.now in
    let part = c.part_length-part.result in
    let more = take (length rest - part) (drop part rest) in
    let same : more ≡ drop part rest = take_rest rest part in (
      one_part rest more c.parts.n part (quote_of c.args.text.now) c.if-b-eq34.false
          c.part_length-part.ensures.part same c.parts.invariant.0,
      omega
          (arith, ap length same, length-drop part rest),
    )
