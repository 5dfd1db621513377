use Rattle.std.proofs.Common.{◌+◌, ◌-◌, arith, ◌∙◌}
use Rattle.lsl_ports.proofs.FileHeads.{gains_read}
use Rattle.lsl_ports.proofs.reading.read_piece.Goals as goal

pub returns-clause-ok : goal.returns-clause-ok
returns-clause-ok g c =
    let len = c.args.bytes.now.ok.0 in
    gains_read (g.S.Shelf.held c.args.shelf.now) c.args.name.now c.args.bytes.now.items c.deref_mut.result.now
    c.read.new.piece _ _ c.truncate.new.self.items c.len-place.result
    (c.len-place.result + c.args.room - c.args.bytes.now.len) c.args.room c.resize.new.self.len
    c.in_ok-count.count
    (omega arith) c.requires.some (omega arith) c.in_ok-resize.ensures.len
    (c.deref_mut.ensures.value ∙ c.in_ok-resize.ensures.items) c.read.auto.piece
    c.in_ok-count.ensures.within c.in_ok-count.ensures.ok c.truncate.ensures.items
