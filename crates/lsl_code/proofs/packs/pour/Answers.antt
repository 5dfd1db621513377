use Rattle.std.proofs.Common.{arith, ap, length, rules}
use Rattle.std.proofs.lemmas.List.{length_push}
use Rattle.lsl_code.proofs.Packing.{poured_all, poured_on}
use Rattle.lsl_code.proofs.packs.pour.Goals as goal

pub loop-value-preserved : goal.loop-value-preserved
loop-value-preserved c =
    let on = c.in_ok-put.ensures.ok in
    let more = ap length on in
    let one = length_push c.loop-value.to.items c.in-Some.value in
    let before = c.loop-value.invariant.longer in
    record {
      moved = poured_on c.loop-value.to.items c.put.new.list.items c.loop-value.from.items c.pop.new.self.items _
          c.in-Some.value c.loop-value.invariant.moved c.in-Some.ensures.items on;
      longer = omega (arith, more, one, before);
    }

pub returns-clause-moved : goal.returns-clause-moved
returns-clause-moved c =
    poured_all c.loop-value.to.items c.loop-value.from.items _ c.loop-value.invariant.moved (search rules)
