use Rattle.std.proofs.Common.{◌∙◌, sym}
use Rattle.lsl_pure.specs.Csv.{csv_elements}
use Rattle.lsl_pure.proofs.ChargeLemmas.{IfErr-strings, IfOk-strings}
use Rattle.lsl_pure.proofs.CsvLemmas.{csv-empty, csv-spelled}
use Rattle.lsl_pure.proofs.csv.csv_to_list.Goals as goal

pub returns-then-is_empty-clause-ok : goal.returns-then-is_empty-clause-ok
returns-then-is_empty-clause-ok c = c.new.ensures
    ∙ csv-empty c.args.text.now c.bytes-bytes.result.now c.bytes-bytes.ensures.value (sym c.if-is_empty.ensures)

pub returns-clause-ok : goal.returns-clause-ok
returns-clause-ok c =
    IfOk-strings c.csv_pieces.result _ (csv_elements c.args.text.now)
    (csv-spelled c.args.text.now c.bytes-bytes.result.now c.bytes-bytes.ensures.value
    (sym c.if-is_empty.ensures)) c.csv_pieces.ensures.ok

pub returns-clause-too_big : goal.returns-clause-too_big
returns-clause-too_big c =
    IfErr-strings c.csv_pieces.result _ (csv_elements c.args.text.now)
    (csv-spelled c.args.text.now c.bytes-bytes.result.now c.bytes-bytes.ensures.value
    (sym c.if-is_empty.ensures)) c.csv_pieces.ensures.too_big
