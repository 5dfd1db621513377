use Rattle.std.proofs.Common.{get_or, refl, sym}
use Rattle.std.proofs.lemmas.Result.{err_from_is_err_and}
use Rattle.lsl_pure.proofs.CsvLemmas.{IsComma, csv_piece-valid, overfull-csv, splitting-comma, splitting-inside, splitting-start}
use Rattle.lsl_pure.proofs.csv.csv_pieces.Goals as goal
use Rattle.lsl_pure.proofs.csv.csv_pieces.Goals.{then-is_outer_comma+in_ok-push_csv_piece, else-is_outer_comma}

pub bytes-init : goal.bytes-init
bytes-init c = splitting-start c.args.text.now c.new-items.result c.new-items.ensures c.requires.valid

pub push_csv_piece-requires-clause-valid : goal.push_csv_piece-requires-clause-valid
push_csv_piece-requires-clause-valid c =
    let comma : IsComma c.args.text.now c.bytes.at c.bytes.depth (get_or c.args.text.now c.bytes.at 0) =
    record { low = c.bytes-test.true; here = refl; outer = sym c.if-is_outer_comma.ensures } in
    csv_piece-valid c.args.text.now c.bytes.start c.bytes.at c.bytes.depth (get_or c.args.text.now c.bytes.at 0)
    c.bytes.invariant.ordered c.bytes.invariant.valid comma

pub returns-in_err-push_csv_piece-clause-too_big : goal.returns-in_err-push_csv_piece-clause-too_big
returns-in_err-push_csv_piece-clause-too_big c =
    let comma : IsComma c.args.text.now c.bytes.at c.bytes.depth (get_or c.args.text.now c.bytes.at 0) =
    record { low = c.bytes-test.true; here = refl; outer = sym c.if-is_outer_comma.ensures } in
    let p = err_from_is_err_and c.from_residual.result c.from_residual.ensures.1 in
    rw (p.1, p.2) (λ fault. overfull-csv c.args.text.now c.bytes.items c.bytes.start c.bytes.at c.bytes.depth
    (get_or c.args.text.now c.bytes.at 0) c.bytes.invariant comma
    (c.in_err-push_csv_piece.ensures.too_big fault))

pub bytes-preserved : goal.bytes-preserved
bytes-preserved c = elim c.if-is_outer_comma.branch [
  | then-is_outer_comma+in_ok-push_csv_piece w ↦
      let comma : IsComma c.args.text.now c.bytes.at c.bytes.depth (get_or c.args.text.now c.bytes.at 0) =
      record { low = c.bytes-test.true; here = refl; outer = sym w.if-is_outer_comma.ensures } in
      rw (w.items-is, w.start-is, w.depth-is)
      (splitting-comma c.args.text.now c.bytes.items _ c.bytes.start c.bytes.at c.bytes.depth
      (get_or c.args.text.now c.bytes.at 0) c.bytes.invariant comma w.in_ok-push_csv_piece.ensures.ok
      w.in_ok-push_csv_piece.ensures.fits)
  | else-is_outer_comma w ↦
      rw (w.items-is, w.start-is, w.depth-is)
      (splitting-inside c.args.text.now c.bytes.items c.bytes.start c.bytes.at c.bytes.depth
      (get_or c.args.text.now c.bytes.at 0) _ c.bytes.invariant c.bytes-test.true refl
      (sym w.if-is_outer_comma.ensures) w.depth_behind-depth.ensures)
]
