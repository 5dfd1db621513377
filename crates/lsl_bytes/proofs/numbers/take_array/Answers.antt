use Rattle.std.proofs.Common.{◌+◌}
use Rattle.lsl_bytes.proofs.NumberLemmas.{array_bytes, IsArray}
use Rattle.lsl_bytes.proofs.PlaceLemmas.{front-stands, same-fronts, takes_some}
use Rattle.lsl_bytes.proofs.numbers.take_array.Goals as goal

pub returns : goal.returns
returns g c =
    let rest = c.in_ok-get.ensures.lookup.0 in
    let field = c.in_ok-field.ensures.cases in
    let stands = front-stands c.args.bytes.now c.in_ok-get.field-0.now c.in_ok-field.field.now c.args.place
    g.row.N rest.2 rest.0 field.enough field.same in
    takes_some array_bytes (IsArray g.row.N) (same-fronts g.row.N) c.args.bytes.now c.args.place
    c.in_ok-field.field.now (c.args.place + g.row.N) stands.0 stands.1
