use Rattle.std.proofs.Common.{◌≡◌, arith}
use Rattle.lsl_bytes.proofs.ValueLemmas.{value-atom_found, value-atom_none, value-list_found, value-list_none, value-no_tag}
use Rattle.lsl_bytes.proofs.values.take_value.Goals as goal

pub returns-in_default : goal.returns-in_default
returns-in_default c = value-no_tag c.args.bytes.now c.args.place c.in_default.ensures

pub returns-in-Some-2 : goal.returns-in-Some-2
returns-in-Some-2 c =
    let tagged = rw c.in-7.is at c.in-Some.ensures in
    value-list_found c.args.bytes.now c.args.place c.in-Some.next c.in-Some-2.items c.in-Some-2.next tagged
    (rw c.in-Some-2.is at c.in_ok-items-in-7.ensures)

pub returns-in-None : goal.returns-in-None
returns-in-None c =
    let tagged = rw c.in-7.is at c.in-Some.ensures in
    value-list_none c.args.bytes.now c.args.place c.in-Some.next tagged (rw c.in-None.is at c.in_ok-items-in-7.ensures)

pub returns-in-Some-3 : goal.returns-in-Some-3
returns-in-Some-3 c =
    rw c.value_of.ensures (value-atom_found c.args.bytes.now c.args.place c.in-Some-3.atom c.in-Some-3.next
    (rw c.in-Some-3.is at c.in_ok-atom-in_default-tag.ensures))

pub returns-in-None-2 : goal.returns-in-None-2
returns-in-None-2 c =
    let other : (c.in-Some.tag ≡ 7 → ⊥) = λ e. omega arith in
    value-atom_none c.args.bytes.now c.args.place c.in-Some.tag c.in-Some.next c.in-Some.ensures other
    (rw c.in-None-2.is at c.in_ok-atom-in_default-tag.ensures)
