use Rattle.std.proofs.Common.{inl, inr, refl, subst, sym}
use Rattle.lsl_top.specs.Lines.{note_refusal_of, refusal_of}
use Rattle.lsl_top.specs.Meant.{play_in, read_in}
use Rattle.lsl_top.specs.Notes.{FirstBad}
use Rattle.lsl_top.specs.Ports.{Finishes, log}
use Rattle.lsl_top.specs.Prepared.{IsUnfit, Refuses}
use Rattle.lsl_top.specs.Scripts.{FirstRefused}
use Rattle.lsl_top.specs.declared.status.Status.{Status}
use Rattle.lsl_top.specs.declared.status.Status.TheVariants.{BadNote, BadScript}
use Rattle.lsl_top.proofs.Finishing.{finish-written}
use Rattle.lsl_top.proofs.commands.refuse.Goals as goal

pub returns-in-Script : goal.returns-in-Script
returns-in-Script g c =
    let play = play_in c.args.play.now in
    let read = read_in c.args.play.now in
    let refused = c.in-Script.refused in
    let name = c.name_at.result.now in
    let old = log (g.K.Sink.sunk c.args.sink.now) (g.K.Sink.faults c.args.sink.now) in
    let new = log (g.K.Sink.sunk c.write_line.new.sink) (g.K.Sink.faults c.write_line.new.sink) in
    let first : FirstRefused play.names read.texts name refused.fault = record {
      place = refused.place;
      named = c.name_at.ensures;
      refused = subst (IsUnfit read) c.in-Script.is c.requires;
    } in
    subst (λ (status : Status). Finishes (Refuses play read) old new status) (sym c.status_after.ensures)
    (finish-written (Refuses play read) BadScript (refusal_of name refused.fault) old new c.write_line.result tt
    (inl (name, refused.fault, first, refl))
    (c.write_line.ensures (refusal_of name refused.fault) c.refusal.ensures))

pub returns-in-Note : goal.returns-in-Note
returns-in-Note g c =
    let play = play_in c.args.play.now in
    let read = read_in c.args.play.now in
    let bad = c.in-Note.bad in
    let name = c.name_at-in-Note.result.now in
    let old = log (g.K.Sink.sunk c.args.sink.now) (g.K.Sink.faults c.args.sink.now) in
    let new = log (g.K.Sink.sunk c.write_line-in-Note.new.sink) (g.K.Sink.faults c.write_line-in-Note.new.sink) in
    let (built, at) = subst (IsUnfit read) c.in-Note.is c.requires in
    let first : FirstBad play.cards read.notes name bad.fault =
    record { place = bad.place; named = c.name_at-in-Note.ensures; bad = at } in
    subst (λ (status : Status). Finishes (Refuses play read) old new status) (sym c.status_after-in-Note.ensures)
    (finish-written (Refuses play read) BadNote (note_refusal_of name bad.fault) old new c.write_line-in-Note.result tt
    (inr (built, (name, bad.fault, first, refl)))
    (c.write_line-in-Note.ensures (note_refusal_of name bad.fault) c.note_refusal.ensures))
