use Rattle.std.proofs.Common.{◌≡◌, replicate}
use Rattle.lsl_handoff.specs.Cards.{blank}
use Rattle.lsl_handoff.proofs.field.Cards.at_start.Given as goal

-- this many are blank
abbrev pub invariant-loop-region : goal.invariant-loop-region
invariant-loop-region l = l.list.items ≡ replicate l._region blank
