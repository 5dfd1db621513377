use Rattle.std.proofs.Common.{◌≡◌, ◌++◌, take}
use Rattle.std.specs.List.{flat_map, AllByRecursion}
use Rattle.lsl_bytes.specs.Fields.{IsValue, value_bytes}
use Rattle.lsl_image.proofs.write_events.write_values.Given as goal

-- this many are written, and fit
abbrev pub invariant-loop-value : goal.invariant-loop-value
invariant-loop-value l = record {
  written : l.out.items ≡ l.fn.out.items ++ flat_map value_bytes (take l.value-index l.values);
  fits : AllByRecursion IsValue (take l.value-index l.values);
}
