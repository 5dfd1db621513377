use Rattle.std.proofs.Common.{◌∙◌, sym, subst, Some, None, arith}
use Rattle.std.proofs.lemmas.Result.{err_from_is_err_and}
use Rattle.lsl_handoff.specs.declared.note.Note.{Note}
use Rattle.lsl_handoff.specs.Drives.{moment}
use Rattle.lsl_handoff.specs.Handovers.{note_of}
use Rattle.lsl_handoff.proofs.GoingLemmas.{asked-note, asked-of, counts-rested, given-of, goes-cut, goes-fault, goes-off, goes-rested, goes-unheard, heard-of, less-on, rested-of, under-way-first, under-way-on}
use Rattle.lsl_handoff.proofs.handover.hand_over.Goals as goal

pub returns-in_err-drive-clause-goes : goal.returns-in_err-drive-clause-goes
returns-in_err-drive-clause-goes g c =
    let p = err_from_is_err_and c.from_residual.result c.from_residual.ensures.1 in
    rw (p.1, p.2)
    (goes-fault g.L.Link.gives c.args.objects c.args.regions (g.P.Parcels.stands c.args.parcels.now) c.args.way
    c.args.parcel c.args.field.now c.depart.new.field (g.L.Link.trips c.args.link.now) c.in_err-drive.field-0.0
    c.in_err-drive.ensures.first
    c.in_err-drive.ensures.unchanged)

pub notes-init : goal.notes-init
notes-init g c = record {
  under = under-way-first g.L.Link.gives c.args.objects c.args.regions (g.P.Parcels.stands c.args.parcels.now)
      c.args.way c.args.parcel c.args.field.now c.in_ok-drive.ensures.first c.requires.way
      (g.L.Link.trips c.args.link.now)
      (moment c.in_ok-drive.drive c.depart.new.field) c.in_ok-drive.ensures.ok.1;
  way = c.in_ok-drive.ensures.ok.0;
  departs = c.in_ok-drive.ensures.first;
  counted = omega arith;
}

pub returns-in_err-note-clause-goes : goal.returns-in_err-note-clause-goes
returns-in_err-note-clause-goes g c =
    let p = err_from_is_err_and c.from_residual-in_err-note.result c.from_residual-in_err-note.ensures.1 in
    let now = c.notes.invariant in
    rw (p.1, p.2)
    (goes-cut g.L.Link.gives c.args.objects c.args.regions (g.P.Parcels.stands c.args.parcels.now) c.args.way
    c.args.parcel c.args.field.now now.departs (g.L.Link.trips c.args.link.now) (g.L.Link.trips c.notes.link)
    (moment c.notes.drive c.notes.field) c.notes.given now.under c.notes.field)

pub carry-requires-clause-note : goal.carry-requires-clause-note
carry-requires-clause-note g c =
    let now = c.notes.invariant in
    let asked = asked-of c.args.way c.notes.drive.way now.way (moment c.notes.drive c.notes.field) c.in_ok-note.field-0
    (Some c.in-Some.note) c.in_ok-note.ensures c.in-Some.is in
    (asked-note g.L.Link.gives c.args.objects c.args.regions (g.P.Parcels.stands c.args.parcels.now) c.args.way
    c.args.parcel c.args.field.now now.departs (g.L.Link.trips c.args.link.now) (g.L.Link.trips c.notes.link)
    (moment c.notes.drive c.notes.field) c.notes.given now.under c.in-Some.note asked c.trip_fits.ensures
    c.requires.counts
    c.requires.way).0

pub carry-requires-clause-own : goal.carry-requires-clause-own
carry-requires-clause-own g c offer =
    let now = c.notes.invariant in
    let asked = asked-of c.args.way c.notes.drive.way now.way (moment c.notes.drive c.notes.field) c.in_ok-note.field-0
    (Some c.in-Some.note) c.in_ok-note.ensures c.in-Some.is in
    let known = (asked-note g.L.Link.gives c.args.objects c.args.regions (g.P.Parcels.stands c.args.parcels.now)
    c.args.way c.args.parcel c.args.field.now now.departs (g.L.Link.trips c.args.link.now)
    (g.L.Link.trips c.notes.link) (moment c.notes.drive c.notes.field) c.notes.given now.under c.in-Some.note asked
    c.trip_fits.ensures c.requires.counts c.requires.way).1 in
    subst (λ (n : Note). g.P.Parcels.is_own c.args.parcels.now n) (sym (known offer))
    (c.requires.own c.in-Some.note.trip)

pub returns-in_err-back-clause-goes : goal.returns-in_err-back-clause-goes
returns-in_err-back-clause-goes g c =
    let p = err_from_is_err_and c.from_residual-in_err-back.result c.from_residual-in_err-back.ensures.1 in
    let now = c.notes.invariant in
    let asked = asked-of c.args.way c.notes.drive.way now.way (moment c.notes.drive c.notes.field) c.in_ok-note.field-0
    (Some c.in-Some.note) c.in_ok-note.ensures c.in-Some.is in
    rw (p.1, p.2)
    (goes-off g.L.Link.gives c.args.objects c.args.regions (g.P.Parcels.stands c.args.parcels.now) c.args.way
    c.args.parcel c.args.field.now now.departs (g.L.Link.trips c.args.link.now) (g.L.Link.trips c.notes.link)
    (moment c.notes.drive c.notes.field) c.notes.given now.under
    (g.L.Link.trips c.carry.new.link) c.in-Some.note asked c.notes.field c.in_err-back.ensures.went)

pub returns-in_err-given-clause-goes : goal.returns-in_err-given-clause-goes
returns-in_err-given-clause-goes g c =
    let p = err_from_is_err_and c.from_residual-in_err-given.result c.from_residual-in_err-given.ensures.1 in
    let now = c.notes.invariant in
    let asked = asked-of c.args.way c.notes.drive.way now.way (moment c.notes.drive c.notes.field) c.in_ok-note.field-0
    (Some c.in-Some.note) c.in_ok-note.ensures c.in-Some.is in
    rw (p.1, p.2)
    (goes-unheard g.L.Link.gives c.args.objects c.args.regions (g.P.Parcels.stands c.args.parcels.now) c.args.way
    c.args.parcel c.args.field.now now.departs (g.L.Link.trips c.args.link.now) (g.L.Link.trips c.notes.link)
    (moment c.notes.drive c.notes.field) c.notes.given now.under
    (g.L.Link.trips c.carry.new.link) c.in-Some.note asked c.in_ok-back.back c.in_ok-back.ensures.went c.hear.new.field)

pub notes-smaller : goal.notes-smaller
notes-smaller g c =
    let now = c.notes.invariant in
    let asked = asked-of c.args.way c.notes.drive.way now.way (moment c.notes.drive c.notes.field) c.in_ok-note.field-0
    (Some c.in-Some.note) c.in_ok-note.ensures c.in-Some.is in
    let heard = heard-of c.args.way c.notes.drive.way now.way (moment c.notes.drive c.notes.field)
    (note_of c.in_ok-back.back) (moment c.hear.new.drive c.hear.new.field) c.in_ok-given.ensures.hears in
    less-on g.L.Link.gives c.args.objects c.args.regions (g.P.Parcels.stands c.args.parcels.now) c.args.way
    c.args.parcel c.args.field.now now.departs (g.L.Link.trips c.args.link.now) (g.L.Link.trips c.notes.link)
    (moment c.notes.drive c.notes.field) c.notes.given now.under
    (g.L.Link.trips c.carry.new.link) c.in-Some.note asked c.in_ok-back.back c.in_ok-back.ensures.went c.requires.counts
    c.requires.way (moment c.hear.new.drive c.hear.new.field) heard

pub notes-preserved : goal.notes-preserved
notes-preserved g c =
    let now = c.notes.invariant in
    let asked = asked-of c.args.way c.notes.drive.way now.way (moment c.notes.drive c.notes.field) c.in_ok-note.field-0
    (Some c.in-Some.note) c.in_ok-note.ensures c.in-Some.is in
    let heard = heard-of c.args.way c.notes.drive.way now.way (moment c.notes.drive c.notes.field)
    (note_of c.in_ok-back.back) (moment c.hear.new.drive c.hear.new.field) c.in_ok-given.ensures.hears in
    record {
      under = under-way-on g.L.Link.gives c.args.objects c.args.regions (g.P.Parcels.stands c.args.parcels.now)
          c.args.way c.args.parcel c.args.field.now now.departs (g.L.Link.trips c.args.link.now)
          (g.L.Link.trips c.notes.link)
          (moment c.notes.drive c.notes.field) c.notes.given now.under
          (g.L.Link.trips c.carry.new.link) c.in-Some.note asked c.in_ok-back.back c.in_ok-back.ensures.went
          c.requires.counts c.requires.way (moment c.hear.new.drive c.hear.new.field) heard c.in_ok-given.given
          (given-of c.args.way c.notes.drive.way now.way (moment c.notes.drive c.notes.field) c.in_ok-back.back
          c.notes.given c.in_ok-given.given c.in_ok-given.ensures.given);
      way = c.in_ok-given.ensures.way ∙ now.way;
      departs = now.departs;
      counted = omega (arith, now.counted, c.in_ok-back.ensures.counted);
    }

pub returns-in_err-rest-clause-goes : goal.returns-in_err-rest-clause-goes
returns-in_err-rest-clause-goes g c =
    let p = err_from_is_err_and c.from_residual-in_err-rest.result c.from_residual-in_err-rest.ensures.1 in
    let now = c.notes.invariant in
    rw (p.1, p.2)
    (goes-cut g.L.Link.gives c.args.objects c.args.regions (g.P.Parcels.stands c.args.parcels.now) c.args.way
    c.args.parcel c.args.field.now now.departs (g.L.Link.trips c.args.link.now) (g.L.Link.trips c.notes.link)
    (moment c.notes.drive c.notes.field) c.notes.given now.under c.rest.new.field)

pub returns-clause-goes : goal.returns-clause-goes
returns-clause-goes g c =
    let now = c.notes.invariant in
    let none = asked-of c.args.way c.notes.drive.way now.way (moment c.notes.drive c.notes.field) c.in_ok-note.field-0
    None c.in_ok-note.ensures c.in_default.is in
    let rests = rested-of c.args.way c.notes.drive.way now.way (moment c.notes.drive c.notes.field) c.rest.new.field
    c.in_ok-rest.ensures.rests in
    goes-rested g.L.Link.gives c.args.objects c.args.regions (g.P.Parcels.stands c.args.parcels.now) c.args.way
    c.args.parcel c.args.field.now now.departs (g.L.Link.trips c.args.link.now) (g.L.Link.trips c.notes.link)
    (moment c.notes.drive c.notes.field) c.notes.given now.under c.rest.new.field rests c.came.result
    (omega (arith, c.ranges.objects), omega (arith, c.ranges.regions)) c.requires.short c.requires.counts c.requires.way
    none c.came.ensures

pub returns-clause-counts : goal.returns-clause-counts
returns-clause-counts g c =
    let now = c.notes.invariant in
    let rests = rested-of c.args.way c.notes.drive.way now.way (moment c.notes.drive c.notes.field) c.rest.new.field
    c.in_ok-rest.ensures.rests in
    counts-rested g.L.Link.gives c.args.objects c.args.regions (g.P.Parcels.stands c.args.parcels.now) c.args.way
    c.args.parcel c.args.field.now now.departs (g.L.Link.trips c.args.link.now) (g.L.Link.trips c.notes.link)
    (moment c.notes.drive c.notes.field) c.notes.given now.under c.rest.new.field rests
    c.requires.counts c.requires.way
