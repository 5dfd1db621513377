use Rattle.lsl_bytes.proofs.TextLemmas.{counted-found, counted-no_count, counted-short}
use Rattle.lsl_bytes.proofs.texts.take_counted.Goals as goal

pub returns-in_err-count : goal.returns-in_err-count
returns-in_err-count c = rw c.from_residual.ensures
    (counted-no_count c.args.bytes.now c.args.place c.in_err-count.ensures)

pub returns-in_err-part : goal.returns-in_err-part
returns-in_err-part c =
    rw c.from_residual-in_err-part.ensures
    (counted-short c.args.bytes.now c.args.place c.in_ok-count.count c.in_ok-count.start
    c.in_ok-count.ensures c.in_err-part.ensures.lookup.0)

pub returns : goal.returns
returns c =
    let part = c.in_ok-part.ensures.lookup.0 in
    counted-found c.args.bytes.now c.in_ok-part.part.now c.args.place c.in_ok-count.count c.in_ok-count.start
    c.in_ok-count.ensures part.1 part.2
