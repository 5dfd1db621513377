use Rattle.std.proofs.Common.{◌<◌, ◌≤◌, length, ◌∙◌, arith}
use Rattle.std.specs.Prelude.{map}
use Rattle.std.proofs.lemmas.Result.{err_from_is_err_and}
use Rattle.lsl_tree.specs.Scripts.{header_of}
use Rattle.lsl_type.specs.Headers.{headers_of, no_headers}
use Rattle.lsl_bodies.specs.Verdict.{each_verdict}
use Rattle.lsl_type.specs.HeaderVerdicts.{header_verdict}
use Rattle.lsl_bodies.proofs.Walks.{each_next, each_stop, each_end, each_map, fails_as}
use Rattle.lsl_type.proofs.HeaderWalks.{header_next}
use Rattle.lsl_type.proofs.headers.headers.Goals as goal

pub returns-in_err-add : goal.returns-in_err-add
returns-in_err-add c =
    let xs = c.args.list.now in
    let h = headers_of c.loop-header.headers in
    let lt : c.loop-header.header-index < length xs = omega arith in
    let p = err_from_is_err_and c.from_residual.result c.from_residual.ensures.1 in
    rw (p.1, p.2) (fails_as c.in_err-add.field-0.0 (header_next h c.header-item.result)
    (each_verdict header_verdict no_headers (map header_of xs)) c.in_err-add.ensures (λ f v.
    each_map header_verdict header_of no_headers xs
    ∙ each_stop header_next h f xs c.loop-header.header-index c.header-item.result _ lt c.header-item.is v
    c.loop-header.invariant))

pub loop-header-preserved : goal.loop-header-preserved
loop-header-preserved c =
    let xs = c.args.list.now in
    let lt : c.loop-header.header-index < length xs = omega arith in
    each_next header_next (headers_of c.loop-header.headers) (headers_of c.add.new.self) xs
    c.loop-header.header-index c.header-item.result _ lt c.header-item.is c.in_ok-add.ensures
    c.loop-header.invariant

pub returns : goal.returns
returns c =
    let xs = c.args.list.now in
    let over : length xs ≤ c.loop-header.header-index = omega arith in
    each_map header_verdict header_of no_headers xs
    ∙ each_end header_next (headers_of c.loop-header.headers) xs c.loop-header.header-index _ over
    c.loop-header.invariant
