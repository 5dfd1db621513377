use Rattle.std.proofs.Common.{map, take}
use Rattle.lsl_view.specs.Globals.{HaveGlobals}
use Rattle.lsl_top.proofs.running.globals_of.Given as goal

abbrev pub invariant-loop-text : goal.invariant-loop-text
invariant-loop-text l = HaveGlobals (take l.text-index (map (λ t. t.items) l.texts)) l.globals
