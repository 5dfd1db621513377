use Rattle.std.proofs.Common.{◌≡◌, ◌++◌, drop}
use Rattle.lsl_gen.specs.OpenJumps.{led, still_open}
use Rattle.lsl_gen.proofs.jumps.close_jumps.Given as goal

abbrev pub invariant-loop-jump : goal.invariant-loop-jump
invariant-loop-jump l =
    (led l.labels (drop l.jump-index l.inner) l.draft ≡ led l.labels l.inner l.fn.draft)
    × (l.jumps.items ++ still_open l.labels (drop l.jump-index l.inner)
    ≡ l.fn.jumps.items ++ still_open l.labels l.inner)
