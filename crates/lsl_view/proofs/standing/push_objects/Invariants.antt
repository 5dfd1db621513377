use Rattle.std.proofs.Common.{◌≡◌, ◌+◌, ◌≤◌, ◌++◌, drop, length}
use Rattle.std.specs.List.{flat_map}
use Rattle.lsl_view.specs.Parts.{scripts_of}
use Rattle.lsl_view.specs.State.{objects_behind}
use Rattle.lsl_view.specs.StateParts.{most_scripts, objects_shown}
use Rattle.lsl_view.proofs.standing.push_objects.Given as goal

-- what is written, with the lines of the objects that are left, which have few scripts
abbrev pub invariant-loop-placed : goal.invariant-loop-placed
invariant-loop-placed l = record {
  left : l.out.items ++ objects_behind l.number l.before
      (objects_shown l.scene.library.now l.scene.names.now l.scene.clock l.before (drop l.placed-index l.objects))
      ≡ l.fn.out.items ++ objects_behind 0 0
      (objects_shown l.scene.library.now l.scene.names.now l.scene.clock 0 l.objects);
  few : l.before + length (flat_map scripts_of (drop l.placed-index l.objects)) ≤ most_scripts;
  number : l.number ≡ l.placed-index;
}
