use Rattle.std.proofs.Common.{◌≡◌, ◌+◌, ◌*◌, ◌≤◌, take}
use Rattle.lsl_value.specs.Atoms.{list_charge_of}
use Rattle.lsl_value.proofs.list.list_charge.Given as goal

abbrev pub invariant-loop-atom : goal.invariant-loop-atom
invariant-loop-atom l = record {
  charged : l.charge
      ≡ list_charge_of (take l.atom-index l.atoms);
  bounded : l.charge ≤ 16 + 1048600 * l.atom-index;
}
