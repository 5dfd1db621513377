use Rattle.std.proofs.Common.{◌≡◌, ◌↔◌, drop}
use Rattle.lsl_code.specs.Kinds.{kinds_of}
use Rattle.lsl_code.proofs.checking.have_kinds.Given as goal

-- the kinds are the same from here on exactly where all are
abbrev pub invariant-loop-i : goal.invariant-loop-i
invariant-loop-i l =
    (kinds_of (drop l.i l.values) ≡ drop l.i l.kinds) ↔ (kinds_of l.values ≡ l.kinds)
