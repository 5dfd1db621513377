use Rattle.std.proofs.Common.{Result, Ok, Err, OnErr, take, rules}
use Rattle.std.specs.List.{flat_map}
use Rattle.lsl_bytes.specs.Fields.{atom_bytes}
use Rattle.lsl_bytes.proofs.PlaceLemmas.{front-kept}
use Rattle.lsl_bytes.proofs.elements.append_atoms.Goals as goal

at_err : {T E : Type 0} (r : Result T E) (P : Type 0) → P → OnErr r P
at_err (Ok x) P holds = tt
at_err (Err e) P holds = holds

pub returns-in_err-append_atom-clause-front : goal.returns-in_err-append_atom-clause-front
returns-in_err-append_atom-clause-front c =
    at_err c.from_residual.result _
    (front-kept c.args.out.now.items c.atoms.out.items c.append_atom.new.out.items
    (flat_map atom_bytes (take c.atoms.atom-index c.args.atoms.now)) _ _ (search rules) c.atoms.invariant.written
    c.in_err-append_atom.ensures.front)
