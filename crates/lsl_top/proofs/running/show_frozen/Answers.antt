use Rattle.std.proofs.Common.{◌≡◌, Err, List, inl, inr, refl, sym, ap, subst}
use Rattle.std.specs.Prelude.{IfOk}
use Rattle.lsl_code.specs.declared.woven_units.Woven.{Woven as Code}
use Rattle.lsl_view.specs.Names.{script_names}
use Rattle.lsl_view.specs.Parts.{view_of_parts}
use Rattle.lsl_world.specs.Frozen.{parts_in}
use Rattle.lsl_top.specs.Answers.{Shows}
use Rattle.lsl_top.specs.Lines.{image_refusal_of}
use Rattle.lsl_top.specs.Ports.{Finishes, log}
use Rattle.lsl_top.specs.declared.status.Status.{Status}
use Rattle.lsl_top.specs.declared.status.Status.TheVariants.{Ok, BadImage}
use Rattle.lsl_top.proofs.Counted.{names-counted}
use Rattle.lsl_top.proofs.Finishing.{finish-memory, finish-written}
use Rattle.lsl_top.proofs.running.show_frozen.Goals as goal

pub view_of-requires-clause-sound : goal.view_of-requires-clause-sound
view_of-requires-clause-sound g c = c.in-Ok.ensures.sound

pub view_of-requires-clause-names : goal.view_of-requires-clause-names
view_of-requires-clause-names g c =
    names-counted c.args.cast.units c.args.play.now.world.now c.args.play.now.frozen.items (parts_in c.in-Ok.world)
    c.in-Ok.ensures.found

pub returns-in-Ok : goal.returns-in-Ok
returns-in-Ok g c =
    let name = c.args.name.now in
    let units = c.args.cast.units in
    let file = c.args.play.now.world.now in
    let text = c.args.play.now.frozen.items in
    let parts = parts_in c.in-Ok.world in
    let lines = view_of_parts units (script_names file) parts in
    let old = log (g.K.Sink.sunk c.args.sink.now) (g.K.Sink.faults c.args.sink.now) in
    let new = log (g.K.Sink.sunk c.write_line.new.sink) (g.K.Sink.faults c.write_line.new.sink) in
    subst (λ (status : Status). Finishes (Shows units file name text) old new status) (sym c.status_after.ensures)
    (finish-written (Shows units file name text) Ok lines old new c.write_line.result tt
    (inl (parts, c.in-Ok.ensures.found, refl))
    (c.write_line.ensures lines
    (subst (λ (z : List Code). IfOk c.view_of.result (λ line. line.items ≡ view_of_parts z (script_names file) parts))
    c.in-Ok.ensures.units c.view_of.ensures)))

pub returns-in-Err-Fault : goal.returns-in-Err-Fault
returns-in-Err-Fault g c =
    let name = c.args.name.now in
    let units = c.args.cast.units in
    let file = c.args.play.now.world.now in
    let text = c.args.play.now.frozen.items in
    let fault = c.in-Err-Fault.fault in
    let refused = c.in-Err-Fault.ensures.refused fault (ap (λ r. Err r) c.in-Err-Fault.field-0-is) in
    let old = log (g.K.Sink.sunk c.args.sink.now) (g.K.Sink.faults c.args.sink.now) in
    let new =
    log (g.K.Sink.sunk c.write_line-in-Err-Fault.new.sink) (g.K.Sink.faults c.write_line-in-Err-Fault.new.sink) in
    subst (λ (status : Status). Finishes (Shows units file name text) old new status)
    (sym c.status_after-in-Err-Fault.ensures)
    (finish-written (Shows units file name text) BadImage (image_refusal_of name fault) old new
    c.write_line-in-Err-Fault.result tt (inr (fault, refused, refl))
    (c.write_line-in-Err-Fault.ensures (image_refusal_of name fault) c.image_refusal.ensures))

pub returns-in-Err-NoMemory : goal.returns-in-Err-NoMemory
returns-in-Err-NoMemory g c =
    finish-memory (Shows c.args.cast.units c.args.play.now.world.now c.args.name.now c.args.play.now.frozen.items)
    (log (g.K.Sink.sunk c.args.sink.now) (g.K.Sink.faults c.args.sink.now))
