use Rattle.std.proofs.Common.{◌≡◌, ◌++◌, map, take}
use Rattle.std.specs.List.{flat_map}
use Rattle.lsl_lines.specs.Journal.{spaced}
use Rattle.lsl_view.specs.Values.{value_word}
use Rattle.lsl_view.proofs.values.push_values.Given as goal

-- this many words are written
abbrev pub invariant-loop-value : goal.invariant-loop-value
invariant-loop-value l =
    l.out.items ≡ l.fn.out.items ++ flat_map spaced (map value_word (take l.value-index l.values))
