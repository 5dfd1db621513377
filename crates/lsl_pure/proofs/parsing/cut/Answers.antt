use Rattle.std.proofs.Common.{◌≡◌, ◌+◌, Some, map, drop, length, ap, arith}
use Rattle.std.proofs.lemmas.Result.{err_from_is_err_and}
use Rattle.lsl_pure.specs.Parsing.{first_mark}
use Rattle.lsl_pure.specs.Spelling.{spelled_mark}
use Rattle.lsl_pure.proofs.FirstLemmas.{found-first}
use Rattle.lsl_pure.proofs.ParsingLemmas.{cutting-none, cutting-some, overfull-mark, overfull-piece, piece-valid, stands_from}
use Rattle.lsl_pure.proofs.parsing.cut.Goals as goal

pub places-preserved-in-None : goal.places-preserved-in-None
places-preserved-in-None c =
    let marks = map spelled_mark c.args.marks.now in
    cutting-none c.args.keep_nulls marks c.args.text.now c.places.items c.places.start c.places.at
    c.places.invariant c.places-test.true
    (found-first marks c.args.text.now c.in_ok-firsts.firsts.items c.deref.result.now c.places.at _
    c.in_ok-firsts.ensures c.deref.ensures.value c.places-test.true c.in-None.ensures)

pub push_piece-requires-clause-valid : goal.push_piece-requires-clause-valid
push_piece-requires-clause-valid c =
    let marks = map spelled_mark c.args.marks.now in
    let found : first_mark marks (drop c.places.at c.args.text.now) ≡ Some (spelled_mark c.in-Some.mark.now) =
    found-first marks c.args.text.now c.in_ok-firsts.firsts.items c.deref.result.now c.places.at _
    c.in_ok-firsts.ensures c.deref.ensures.value c.places-test.true c.in-Some.ensures in
    let stands = stands_from c.args.marks.now c.args.text.now c.places.at c.in-Some.mark.now c.requires.nonempty
    c.places-test.true found in
    piece-valid c.args.text.now c.places.start c.places.at c.places.invariant.ordered c.places.invariant.within
    c.places.invariant.valid stands.leads

pub returns-in_err-push_piece-in-Some-clause-too_big : goal.returns-in_err-push_piece-in-Some-clause-too_big
returns-in_err-push_piece-in-Some-clause-too_big c =
    let marks = map spelled_mark c.args.marks.now in
    let found : first_mark marks (drop c.places.at c.args.text.now) ≡ Some (spelled_mark c.in-Some.mark.now) =
    found-first marks c.args.text.now c.in_ok-firsts.firsts.items c.deref.result.now c.places.at _
    c.in_ok-firsts.ensures c.deref.ensures.value c.places-test.true c.in-Some.ensures in
    let stands = stands_from c.args.marks.now c.args.text.now c.places.at c.in-Some.mark.now c.requires.nonempty
    c.places-test.true found in
    let p = err_from_is_err_and c.from_residual-in_err-push_piece-in-Some.result
    c.from_residual-in_err-push_piece-in-Some.ensures.1 in
    rw (p.1, p.2) (λ fault. overfull-piece c.args.keep_nulls marks c.args.text.now c.places.items c.places.start
    c.places.at c.in-Some.mark.now c.places.invariant stands found
    (c.in_err-push_piece-in-Some.ensures.too_big fault))

pub returns-in_err-push_mark-in-Some-clause-too_big : goal.returns-in_err-push_mark-in-Some-clause-too_big
returns-in_err-push_mark-in-Some-clause-too_big c =
    let marks = map spelled_mark c.args.marks.now in
    let found : first_mark marks (drop c.places.at c.args.text.now) ≡ Some (spelled_mark c.in-Some.mark.now) =
    found-first marks c.args.text.now c.in_ok-firsts.firsts.items c.deref.result.now c.places.at _
    c.in_ok-firsts.ensures c.deref.ensures.value c.places-test.true c.in-Some.ensures in
    let stands = stands_from c.args.marks.now c.args.text.now c.places.at c.in-Some.mark.now c.requires.nonempty
    c.places-test.true found in
    let p = err_from_is_err_and c.from_residual-in_err-push_mark-in-Some.result
    c.from_residual-in_err-push_mark-in-Some.ensures.1 in
    rw (p.1, p.2) (λ fault. overfull-mark c.args.keep_nulls marks c.args.text.now c.places.items _
    c.places.start c.places.at c.in-Some.mark.now c.places.invariant stands found
    c.in_ok-push_piece-in-Some.ensures.ok (c.in_err-push_mark-in-Some.ensures.too_big fault))

pub places-smaller : goal.places-smaller
places-smaller c =
    let marks = map spelled_mark c.args.marks.now in
    let found : first_mark marks (drop c.places.at c.args.text.now) ≡ Some (spelled_mark c.in-Some.mark.now) =
    found-first marks c.args.text.now c.in_ok-firsts.firsts.items c.deref.result.now c.places.at _
    c.in_ok-firsts.ensures c.deref.ensures.value c.places-test.true c.in-Some.ensures in
    let stands = stands_from c.args.marks.now c.args.text.now c.places.at c.in-Some.mark.now c.requires.nonempty
    c.places-test.true found in
    omega (arith, ap length c.bytes.ensures.value, stands.size, c.places-test.true)

pub places-preserved : goal.places-preserved
places-preserved c =
    let marks = map spelled_mark c.args.marks.now in
    let found : first_mark marks (drop c.places.at c.args.text.now) ≡ Some (spelled_mark c.in-Some.mark.now) =
    found-first marks c.args.text.now c.in_ok-firsts.firsts.items c.deref.result.now c.places.at _
    c.in_ok-firsts.ensures c.deref.ensures.value c.places-test.true c.in-Some.ensures in
    let stands = stands_from c.args.marks.now c.args.text.now c.places.at c.in-Some.mark.now c.requires.nonempty
    c.places-test.true found in
    cutting-some c.args.keep_nulls marks c.args.text.now c.places.items _ c.push_mark.new.items c.places.start
    c.places.at (c.places.at + length c.bytes.result.now) c.in-Some.mark.now c.places.invariant stands found
    c.in_ok-push_piece-in-Some.ensures.ok c.in_ok-push_mark-in-Some.ensures.ok
    c.in_ok-push_mark-in-Some.ensures.fits (ap (λ b. c.places.at + length b) c.bytes.ensures.value)
