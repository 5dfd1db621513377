use Rattle.std.proofs.Common.{◌≡◌, ◌≤◌, None}
use Rattle.lsl_handoff.specs.Cards.{depart_fault}
use Rattle.lsl_handoff.specs.Drives.{moment}
use Rattle.lsl_handoff.specs.Fields.{card_at}
use Rattle.lsl_handoff.proofs.GoingLemmas.{IsUnderWay}
use Rattle.lsl_handoff.proofs.HandoverLemmas.{left}
use Rattle.lsl_handoff.proofs.handover.hand_over.Given as goal

-- the trips so far lead from the departure to the drive as it is
abbrev pub invariant-notes : goal.invariant-notes
invariant-notes g l =
    record {
      under : IsUnderWay g.L.Link.gives l.objects l.regions (g.P.Parcels.stands l.parcels) l.way l.fn.parcel l.fn.field
          (g.L.Link.trips l.fn.link) (g.L.Link.trips l.link) (moment l.drive l.field) l.given;
      way : l.drive.way ≡ l.way;
      departs : depart_fault (card_at l.fn.field l.way.object l.way.from) l.way.from l.way.to ≡ None;
      counted : g.L.Link.faults l.fn.link ≤ g.L.Link.faults l.link;
    }

abbrev pub decreases-notes : goal.decreases-notes
decreases-notes g l = left l.way (moment l.drive l.field)
