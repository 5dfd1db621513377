use Rattle.std.proofs.Common.{◌≡◌, ◌++◌, take}
use Rattle.std.specs.List.{flat_map, AllByRecursion}
use Rattle.lsl_bytes.specs.Fields.{IsAtom, atom_bytes}
use Rattle.lsl_bytes.proofs.elements.append_atoms.Given as goal

abbrev pub invariant-atoms : goal.invariant-atoms
invariant-atoms l = record {
  written : l.out.items ≡ l.fn.out.items ++ flat_map atom_bytes (take l.atom-index l.atoms);
  valid : AllByRecursion IsAtom (take l.atom-index l.atoms);
}
