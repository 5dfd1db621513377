use Rattle.std.proofs.Common.{◌≡◌, drop}
use Rattle.std.specs.Prelude.{fold}
use Rattle.lsl_world.specs.Regions.{with_object}
use Rattle.lsl_world.proofs.naming.Regions.add_objects.Given as goal

-- with those that are left the regions are those of all
abbrev pub invariant-loop-line : goal.invariant-loop-line
invariant-loop-line l = fold with_object l.self (drop l.line-index l.lines) ≡ fold with_object l.fn.self l.lines
