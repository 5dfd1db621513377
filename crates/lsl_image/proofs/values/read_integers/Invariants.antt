use Rattle.std.proofs.Common.{◌≡◌, drop, length}
use Rattle.lsl_running.specs.Charging.{charges_of}
use Rattle.lsl_image.specs.Charges.{integers_charge}
use Rattle.lsl_image.specs.Layout.{values_of}
use Rattle.lsl_image.specs.Leading.{LeadsBehind}
use Rattle.lsl_image.proofs.values.read_integers.Given as goal

-- the integers so far are read, one of each kind
abbrev pub invariant-loop-kind : goal.invariant-loop-kind
invariant-loop-kind l = record {
  many : length l.values.items ≡ l.kind-index;
  leads : LeadsBehind l.bytes (drop l.kind-index l.kinds) l.next l.values.items (values_of l.kinds) l.place;
  charged : charges_of l.values.items ≡ integers_charge (length l.values.items);
}
