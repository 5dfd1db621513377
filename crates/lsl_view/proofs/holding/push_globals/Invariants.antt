use Rattle.std.proofs.Common.{◌≡◌, ◌++◌, length, min, take}
use Rattle.std.specs.List.{flat_map}
use Rattle.lsl_view.specs.State.{global_line}
use Rattle.lsl_view.specs.StateParts.{globals_shown}
use Rattle.lsl_view.proofs.holding.push_globals.Given as goal

abbrev pub invariant-loop-i : goal.invariant-loop-i
invariant-loop-i l = record {
  written : l.out.items ≡ l.fn.out.items ++ flat_map global_line (take l.i (globals_shown l.names l.values));
  end : l.count ≡ min (length l.names) (length l.values);
}
