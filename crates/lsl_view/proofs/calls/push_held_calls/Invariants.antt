use Rattle.std.proofs.Common.{◌≡◌, ◌++◌, length, map, take}
use Rattle.std.specs.List.{flat_map}
use Rattle.lsl_view.specs.State.{held_lines}
use Rattle.lsl_view.specs.StateParts.{held_frame}
use Rattle.lsl_view.proofs.calls.push_held_calls.Given as goal

abbrev pub invariant-loop-i : goal.invariant-loop-i
invariant-loop-i l = record {
  written : l.out.items
      ≡ l.fn.out.items ++ flat_map held_lines (map (held_frame l.unit.functions) (take l.i l.sack));
  end : l.i-end ≡ length l.sack;
}
