use Rattle.std.proofs.Common.{Some, refl, sym, ap, ◌∙◌, subst}
use Rattle.std.specs.Str.{encode_utf8_all}
use Rattle.lsl_ports.specs.Trips.{Honest}
use Rattle.lsl_image.specs.Images.{IsIntact}
use Rattle.lsl_top.specs.Answers.{Makes}
use Rattle.lsl_top.specs.Made.{made_line, two_files}
use Rattle.lsl_top.specs.Ports.{Concludes, log, wire}
use Rattle.lsl_top.specs.declared.status.Status.{Status}
use Rattle.lsl_top.specs.declared.status.Status.TheVariants.{Ok, NoMemory}
use Rattle.lsl_top.proofs.Summed.{concludes-line, concludes-lost, concludes-refused, over-of, two-made}
use Rattle.lsl_top.proofs.making.make_of.Goals as goal

pub returns-in-Ok : goal.returns-in-Ok
returns-in-Ok g c =
    let number = c.args.number in
    let held = Some (two_files c.new-shelf.result.world.now c.new-shelf.result.script.now) in
    let later = Some (two_files c.replay.new.shelf.world.now c.replay.new.shelf.script.now) in
    let is = two-made number c.new-shelf.result.world.now c.new-shelf.result.script.now
    (c.new-shelf.ensures.world ∙ ap encode_utf8_all c.requires.world)
    (c.new-shelf.ensures.script ∙ ap encode_utf8_all c.requires.script) in
    let old = wire (g.L.Link.trips c.args.link.now) (g.L.Link.faults c.args.link.now) in
    let new = wire (g.L.Link.trips c.replay.new.link) (g.L.Link.faults c.replay.new.link) in
    let a = log (g.K.Sink.sunk c.args.sink.now) (g.K.Sink.faults c.args.sink.now) in
    let b = log (g.K.Sink.sunk c.write_line.new.sink) (g.K.Sink.faults c.write_line.new.sink) in
    let bytes = c.replay.new.sink in
    subst (λ (status : Status). Concludes g.L.Link.gives (Honest IsIntact) (λ from. Unit {0})
    (λ grade from trips. Makes grade from trips number) a b old new status) (sym c.status_after.ensures)
    (concludes-line number held is g.L.Link.gives later old new bytes a b c.write_line.result
    (over-of number held is g.L.Link.gives later old new bytes c.new-report.result Ok c.replay.result
    c.new-report.ensures
    c.in-Ok.is c.replay.ensures) (c.write_line.ensures (made_line number bytes) c.made_line.ensures))

pub returns-in-NoMemory : goal.returns-in-NoMemory
returns-in-NoMemory g c =
    let number = c.args.number in
    let held = Some (two_files c.new-shelf.result.world.now c.new-shelf.result.script.now) in
    let later = Some (two_files c.replay.new.shelf.world.now c.replay.new.shelf.script.now) in
    let is = two-made number c.new-shelf.result.world.now c.new-shelf.result.script.now
    (c.new-shelf.ensures.world ∙ ap encode_utf8_all c.requires.world)
    (c.new-shelf.ensures.script ∙ ap encode_utf8_all c.requires.script) in
    let old = wire (g.L.Link.trips c.args.link.now) (g.L.Link.faults c.args.link.now) in
    let new = wire (g.L.Link.trips c.replay.new.link) (g.L.Link.faults c.replay.new.link) in
    concludes-lost number held is g.L.Link.gives later old new c.replay.new.sink
    (log (g.K.Sink.sunk c.args.sink.now) (g.K.Sink.faults c.args.sink.now))
    (over-of number held is g.L.Link.gives later old new c.replay.new.sink c.new-report.result NoMemory c.replay.result
    c.new-report.ensures c.in-NoMemory.is c.replay.ensures)

pub returns-in_default : goal.returns-in_default
returns-in_default g c =
    let number = c.args.number in
    let again = c.replay-in_default in
    let held = Some (two_files c.new-shelf.result.world.now c.new-shelf.result.script.now) in
    let later = Some (two_files c.replay.new.shelf.world.now c.replay.new.shelf.script.now) in
    let ended = Some (two_files again.new.shelf.world.now again.new.shelf.script.now) in
    let is = two-made number c.new-shelf.result.world.now c.new-shelf.result.script.now
    (c.new-shelf.ensures.world ∙ ap encode_utf8_all c.requires.world)
    (c.new-shelf.ensures.script ∙ ap encode_utf8_all c.requires.script) in
    let old = wire (g.L.Link.trips c.args.link.now) (g.L.Link.faults c.args.link.now) in
    let new = wire (g.L.Link.trips c.replay.new.link) (g.L.Link.faults c.replay.new.link) in
    concludes-refused number held is g.L.Link.gives later old new c.replay.new.sink c.replay.result again.result ended
    (log (g.K.Sink.sunk c.args.sink.now) (g.K.Sink.faults c.args.sink.now))
    (log (g.K.Sink.sunk again.new.sink) (g.K.Sink.faults again.new.sink))
    (wire (g.L.Link.trips again.new.link) (g.L.Link.faults again.new.link)) c.replay.ensures.unchanged
    c.in_default.not-Ok
    c.in_default.not-NoMemory
    (over-of number held is g.L.Link.gives later old new c.replay.new.sink c.new-report.result c.replay.result
    c.replay.result c.new-report.ensures refl c.replay.ensures) again.ensures
