use Rattle.std.proofs.Common.{arith}
use Rattle.lsl_bytes.proofs.ListLemmas.{list-found, list-no_atoms, list-no_count, list-too_long}
use Rattle.lsl_bytes.proofs.elements.take_items.Goals as goal

pub returns-in_default : goal.returns-in_default
returns-in_default c = list-no_count c.args.bytes.now c.args.place c.in_default.ensures

pub returns-then-count-gt-MAX_ITEMS : goal.returns-then-count-gt-MAX_ITEMS
returns-then-count-gt-MAX_ITEMS c = list-too_long c.args.bytes.now c.args.place c.in-Some.count c.in-Some.start
    c.in-Some.ensures (omega arith)

pub returns-in_default-2 : goal.returns-in_default-2
returns-in_default-2 c =
    list-no_atoms c.args.bytes.now c.args.place c.in-Some.count c.in-Some.start c.in-Some.ensures
    (rw c.in_default-2.is at c.in_ok-atoms.ensures)

pub returns : goal.returns
returns c =
    let takes = rw c.in-Some-2.is at c.in_ok-atoms.ensures in
    rw c.in_ok-from_vec.ensures (list-found c.args.bytes.now c.args.place c.in-Some.count c.in-Some.start
    c.in-Some-2.atoms.items c.in-Some-2.next (omega arith) c.in-Some.ensures takes)
