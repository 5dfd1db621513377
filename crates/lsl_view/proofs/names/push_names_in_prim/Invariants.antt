use Rattle.std.proofs.Common.{◌≡◌, ◌++◌, map, take}
use Rattle.lsl_lines.specs.declared.file.ScriptLine.{ScriptLine}
use Rattle.lsl_view.proofs.names.push_names_in_prim.Given as goal

abbrev pub invariant-scripts : goal.invariant-scripts
invariant-scripts l =
    l.names.items ≡ l.fn.names.items ++ map (λ (s : ScriptLine). s.name) (take l.script-index l.prim.scripts)
