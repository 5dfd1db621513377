use Rattle.std.proofs.Common.{◌≡◌, ◌+◌, ◌++◌, drop}
use Rattle.lsl_view.specs.State.{states_behind}
use Rattle.lsl_view.specs.StateParts.{states_shown}
use Rattle.lsl_view.proofs.holding.Scene.push_scripts.Given as goal

-- what is written, with the lines of the scripts that are left, and the place of the next one
abbrev pub invariant-loop-script : goal.invariant-loop-script
invariant-loop-script l = record {
  left : l.out.items ++ states_behind l.place
      (states_shown l.self.library.now l.self.names.now l.self.clock l.place (drop l.script-index l.scripts))
      ≡ l.fn.out.items ++ states_behind l.before
      (states_shown l.self.library.now l.self.names.now l.self.clock l.before l.scripts);
  place : l.place ≡ l.before + l.script-index;
}
