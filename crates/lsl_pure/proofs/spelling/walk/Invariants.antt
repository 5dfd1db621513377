use Rattle.std.proofs.Common.{◌≡◌, ◌+◌, drop}
use Rattle.lsl_pure.specs.Spelling.{front_len}
use Rattle.lsl_pure.proofs.spelling.walk.Given as goal

abbrev pub invariant-bytes : goal.invariant-bytes
invariant-bytes l = (l.at ≡ l.b-index) × (l.b-index + front_len l.left (drop l.b-index l.bytes)
    ≡ front_len l.characters l.bytes)
