use Rattle.std.proofs.Common.{Err, refl, sym, ap, subst, inl, inr}
use Rattle.lsl_tree.specs.Program.{program_of}
use Rattle.lsl_top.specs.Answers.{Checks}
use Rattle.lsl_top.specs.Lines.{accepted_line, refusal_of}
use Rattle.lsl_top.specs.Ports.{Finishes, log}
use Rattle.lsl_top.specs.declared.status.Status.{Status}
use Rattle.lsl_top.specs.declared.status.Status.TheVariants.{Ok, BadScript}
use Rattle.lsl_top.proofs.Finishing.{finish-written, finish-memory}
use Rattle.lsl_top.proofs.commands.write_check.Goals as goal

pub returns-in-Ok : goal.returns-in-Ok
returns-in-Ok g c =
    let name = c.args.name.now in
    let text = c.args.text.now in
    let old = log (g.K.Sink.sunk c.args.sink.now) (g.K.Sink.faults c.args.sink.now) in
    let new = log (g.K.Sink.sunk c.write_line.new.sink) (g.K.Sink.faults c.write_line.new.sink) in
    subst (λ (status : Status). Finishes (Checks name text) old new status) (sym c.status_after.ensures)
    (finish-written (Checks name text) Ok (accepted_line name) old new c.write_line.result tt
    (inl (program_of c.in-Ok._program, c.in-Ok.ensures.found, refl))
    (c.write_line.ensures (accepted_line name) c.acceptance.ensures))

pub returns-in-Err-Fault : goal.returns-in-Err-Fault
returns-in-Err-Fault g c =
    let name = c.args.name.now in
    let text = c.args.text.now in
    let fault = c.in-Err-Fault.fault in
    let old = log (g.K.Sink.sunk c.args.sink.now) (g.K.Sink.faults c.args.sink.now) in
    let new = log (g.K.Sink.sunk c.write_line-in-Err-Fault.new.sink)
    (g.K.Sink.faults c.write_line-in-Err-Fault.new.sink) in
    subst (λ (status : Status). Finishes (Checks name text) old new status) (sym c.status_after-in-Err-Fault.ensures)
    (finish-written (Checks name text) BadScript (refusal_of name fault) old new c.write_line-in-Err-Fault.result tt
    (inr (fault, c.in-Err-Fault.ensures.first fault (ap (λ r. Err r) c.in-Err-Fault.field-0-is), refl))
    (c.write_line-in-Err-Fault.ensures (refusal_of name fault) c.refusal.ensures))

pub returns-in-Err-NoMemory : goal.returns-in-Err-NoMemory
returns-in-Err-NoMemory g c =
    finish-memory (Checks c.args.name.now c.args.text.now)
    (log (g.K.Sink.sunk c.args.sink.now) (g.K.Sink.faults c.args.sink.now))
