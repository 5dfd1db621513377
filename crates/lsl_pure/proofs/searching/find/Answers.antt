use Rattle.std.proofs.Common.{sym}
use Rattle.lsl_pure.proofs.SearchLemmas.{first_place-at}
use Rattle.lsl_pure.proofs.searching.find.Goals as goal

pub returns-then-starts_with-clause-first : goal.returns-then-starts_with-clause-first
returns-then-starts_with-clause-first g c =
    first_place-at g.T.PartialEq.eq c.args.list.now c.places.rest.now c.args.sought.now c.places.at
    (sym c.if-starts_with.ensures.value) c.places.invariant.1
