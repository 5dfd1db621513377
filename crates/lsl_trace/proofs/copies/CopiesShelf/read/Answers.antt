use Rattle.lsl_trace.proofs.CopiesRead.{not-aside, reads-copy, reads-other}
use Rattle.lsl_trace.proofs.copies.CopiesShelf.read.Goals as goal

pub returns-in-Some-clause-ok : goal.returns-in-Some-clause-ok
returns-in-Some-clause-ok g c =
    reads-copy c.args.self.now.copies.now c.args.name.now c.args.place c.copy_from.new.piece
    (not-aside c.args.name.now (c.type_inv.name 0).fits) c.copy_from.result
    (g.S.Shelf.held c.args.self.now.shelf.now) c.in-Some.copy.now c.in-Some.ensures
    (rw c.as_slice.ensures.value at c.copy_from.ensures.copied)

pub returns-in-None-clause-ok : goal.returns-in-None-clause-ok
returns-in-None-clause-ok g c =
    reads-other c.args.self.now.copies.now c.args.name.now c.args.place c.read.new.piece
    (not-aside c.args.name.now (c.type_inv.name 0).fits) c.read.result
    (g.S.Shelf.held c.args.self.now.shelf.now) c.in-None.ensures c.read.ensures.ok
