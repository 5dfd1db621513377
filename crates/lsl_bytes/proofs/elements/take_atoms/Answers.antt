use Rattle.std.proofs.Common.{arith, ◌≡◌, sym, ap, subst, List, [], ◌∷◌, ◌++◌, length, length-append}
use Rattle.lsl_value.specs.declared.list.Atom.{Atom}
use Rattle.lsl_bytes.proofs.ListLemmas.{IsTaking, taking-all, taking-more, taking-stops}
use Rattle.lsl_bytes.proofs.elements.take_atoms.Goals as goal

pub returns-in-None : goal.returns-in-None
returns-in-None c =
    taking-stops c.args.bytes.now c.args.place c.args.count c.atoms.atoms.items c.atoms.next (omega arith)
    c.atoms.invariant.1 (rw c.in-None.is at c.in_ok-atom.ensures)

pub atoms-preserved : goal.atoms-preserved
atoms-preserved c =
    let more = taking-more c.args.bytes.now c.args.place c.args.count c.atoms.atoms.items c.atoms.next
    c.in-Some.atom c.in-Some.behind (omega arith) c.atoms.invariant.1
    (rw c.in-Some.is at c.in_ok-atom.ensures) in
    let pushed : c.push.new.self.items ≡ c.atoms.atoms.items ++ c.in-Some.atom ∷ [] =
    c.in_ok-push-in-Some.ensures.items in (
      omega (arith, ap length pushed, length-append c.atoms.atoms.items (c.in-Some.atom ∷ [])),
      subst
          (λ (atoms : List Atom). IsTaking c.args.bytes.now c.args.place c.args.count atoms c.in-Some.behind)
          (sym pushed) more,
    )

pub returns : goal.returns
returns c = taking-all c.args.bytes.now c.args.place c.args.count c.atoms.atoms.items c.atoms.next (omega arith)
    c.atoms.invariant.1
