use Rattle.std.proofs.Common.{◌∙◌, ap, length}
use Rattle.std.specs.Prelude.{map}
use Rattle.lsl_world.specs.Seats.{seats_of_objects}
use Rattle.lsl_world.specs.Starts.{object_of_line}
use Rattle.lsl_world.proofs.Indexing.{numbered-none}
use Rattle.lsl_world.proofs.Kept.{on-ok}
use Rattle.lsl_world.proofs.world.begin.Goals as goal

pub note_timers-requires : goal.note_timers-requires
note_timers-requires c =
    record { numbered = numbered-none (length c.hold.new.self.seats) c.args.due.now c.requires.no_time }

pub returns-clause-objects : goal.returns-clause-objects
returns-clause-objects c =
    on-ok c.add_file.result
    (c.hold.ensures.objects ∙ c.in_ok-add_objects.ensures.objects ∙ ap (map object_of_line) c.as_slice.ensures)

pub returns-clause-seats : goal.returns-clause-seats
returns-clause-seats c =
    on-ok c.add_file.result
    (c.hold.ensures.seats ∙ c.in_ok-add_objects.ensures.seats
    ∙ ap (seats_of_objects c.args.units.now 0) c.as_slice.ensures)

pub returns-clause-exact : goal.returns-clause-exact
returns-clause-exact c = on-ok c.add_file.result c.in_ok-note_timers.ensures.exact

pub returns-clause-index : goal.returns-clause-index
returns-clause-index c = on-ok c.add_file.result c.in_ok-note_timers.ensures.index
