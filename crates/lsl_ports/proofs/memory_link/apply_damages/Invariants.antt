use Rattle.std.proofs.Common.{◌≡◌, take, fold}
use Rattle.lsl_ports.specs.Stored.{damaged_by}
use Rattle.lsl_ports.proofs.memory_link.apply_damages.Given as goal

abbrev pub invariant-loop-damage : goal.invariant-loop-damage
invariant-loop-damage l = l.bytes ≡ fold (damaged_by l.call) l.fn.bytes (take l.damage-index l.damages)
