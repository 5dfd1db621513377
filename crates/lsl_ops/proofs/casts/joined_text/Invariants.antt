use Rattle.std.proofs.Common.{◌≡◌, ◌≤◌, length, take, sum_by}
use Rattle.std.specs.List.{flat_map}
use Rattle.std.specs.Str.{encode_utf8_all}
use Rattle.lsl_value.specs.Atoms.{item_charge_of, text_of_atom}
use Rattle.lsl_ops.proofs.casts.joined_text.Given as goal

abbrev pub invariant-loop-atom : goal.invariant-loop-atom
invariant-loop-atom l = record {
  joined : l.text ≡ flat_map text_of_atom (take l.atom-index l.items);
  short : length (encode_utf8_all l.text) ≤ sum_by item_charge_of (take l.atom-index l.items);
}
