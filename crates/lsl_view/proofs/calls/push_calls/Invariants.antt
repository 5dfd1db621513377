use Rattle.std.proofs.Common.{◌≡◌, ◌++◌, length, map, take}
use Rattle.std.specs.List.{flat_map}
use Rattle.lsl_view.specs.Calls.{shown_frame}
use Rattle.lsl_view.specs.Lines.{call_line}
use Rattle.lsl_view.proofs.calls.push_calls.Given as goal

-- the lines of this many calls are written
abbrev pub invariant-loop-i : goal.invariant-loop-i
invariant-loop-i l = record {
  written : l.out.items
      ≡ l.fn.out.items ++ flat_map call_line (map (shown_frame l.unit.functions) (take l.i l.sack));
  end : l.i-end ≡ length l.sack;
}
