use Rattle.std.proofs.Common.{length, ap, arith, length-append}
use Rattle.std.proofs.lemmas.List.{length-take, length-drop}
use Rattle.lsl_value.specs.declared.list.Atom.{Atom}
use Rattle.lsl_pure.proofs.ChargeLemmas.{length-le-charge, charge-inserted}
use Rattle.lsl_pure.proofs.list_cuts.insert.Goals as goal

pub returns-then-charge-gt-MOST_CHARGE-clause-too_big : goal.returns-then-charge-gt-MOST_CHARGE-clause-too_big
returns-then-charge-gt-MOST_CHARGE-clause-too_big c = λ _.
    omega (
      arith,
      charge-inserted c.args.items c.args.other
          c.args.at,
      c.if-charge-gt-MOST_CHARGE.true,
      c.charge.ensures,
      c.charge-2.ensures,
    )

pub from_vec-requires : goal.from_vec-requires
from_vec-requires c =
    omega (
      arith,
      length-le-charge c.args.items,
      length-le-charge c.args.other,
      c.if-charge-gt-MOST_CHARGE.false,
      c.charge.ensures,
      c.charge-2.ensures,
      ap length c.in_ok-append-2.ensures.items,
      ap length c.in_ok-append.ensures.items,
      ap length c.in_ok-tail.ensures.items,
      ap length c.in_ok-tail.ensures.tail,
      ap length c.in_ok-reserve.ensures.items,
      ap length c.in_ok-list.ensures.value,
      ap length c.in_ok-more.ensures.value,
      length-append {A = Atom},
      length-take {A = Atom},
      length-drop {A = Atom},
    )
