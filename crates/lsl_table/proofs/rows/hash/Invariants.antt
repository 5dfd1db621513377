use Rattle.std.proofs.Common.{◌≡◌, ◌<◌, take}
use Rattle.lsl_table.specs.Names.{hash_of}
use Rattle.lsl_table.proofs.rows.hash.Given as goal

abbrev pub invariant-loop-byte : goal.invariant-loop-byte
invariant-loop-byte l = record { hashed : l.hash ≡ hash_of l.base (take l.byte-index l.text); small : l.hash < 65521 }
