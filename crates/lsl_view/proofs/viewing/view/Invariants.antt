use Rattle.std.proofs.Common.{◌≡◌, length, take}
use Rattle.std.specs.List.{flat_map}
use Rattle.lsl_view.specs.Lines.{lines_behind}
use Rattle.lsl_view.specs.Parts.{scripts_of, shown_behind}
use Rattle.lsl_view.proofs.viewing.view.Given as goal

-- the lines of the objects so far, and how many scripts they have
abbrev pub invariant-loop-placed : goal.invariant-loop-placed
invariant-loop-placed l = record {
  written : l.out.items
      ≡ lines_behind 0 (shown_behind l.library l.names 0 (flat_map scripts_of (take l.placed-index l.parts.objects)));
  before : l.before ≡ length (flat_map scripts_of (take l.placed-index l.parts.objects));
}
