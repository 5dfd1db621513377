use Rattle.std.proofs.Common.{◌≡◌, ◌+◌, ◌++◌, take}
use Rattle.lsl_view.specs.Lines.{lines_behind}
use Rattle.lsl_view.specs.Parts.{shown_behind}
use Rattle.lsl_view.proofs.scripts.push_scripts.Given as goal

-- the lines of the scripts so far, and the place of the next one
abbrev pub invariant-loop-script : goal.invariant-loop-script
invariant-loop-script l = record {
  written : l.out.items
      ≡ l.fn.out.items
      ++ lines_behind l.before (shown_behind l.library l.names l.before (take l.script-index l.scripts));
  place : l.place ≡ l.before + l.script-index;
}
