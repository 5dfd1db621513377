use Rattle.std.proofs.Common.{◌≡◌, length}
use Rattle.lsl_bytes.proofs.ListLemmas.{IsTaking}
use Rattle.lsl_bytes.proofs.elements.take_atoms.Given as goal

abbrev pub invariant-atoms : goal.invariant-atoms
invariant-atoms l = (length l.atoms.items ≡ l.i) × IsTaking l.bytes l.place l.count l.atoms.items l.next
