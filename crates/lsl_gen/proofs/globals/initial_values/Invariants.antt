use Rattle.std.proofs.Common.{◌≡◌, [], drop, map}
use Rattle.lsl_value.specs.Values.{kind_of}
use Rattle.lsl_tree.specs.Initials.{AreKindedInitials}
use Rattle.lsl_tree.specs.Program.{initial_of}
use Rattle.lsl_meaning.specs.Globals.{globals_behind}
use Rattle.lsl_gen.proofs.globals.initial_values.Given as goal

abbrev pub invariant-loop-initial : goal.invariant-loop-initial
invariant-loop-initial l =
    (globals_behind l.values (map initial_of (drop l.initial-index l.initials))
    ≡ globals_behind [] (map initial_of l.initials))
    × AreKindedInitials (map kind_of l.values) (map initial_of (drop l.initial-index l.initials))
