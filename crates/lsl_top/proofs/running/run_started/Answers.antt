use Rattle.std.proofs.Common.{◌∙◌, List, refl, sym, subst}
use Rattle.std.specs.Prelude.{All}
use Rattle.lsl_ports.specs.Trips.{Honest}
use Rattle.lsl_image.specs.Images.{IsIntact}
use Rattle.lsl_lines.specs.declared.file.Step.{Step}
use Rattle.lsl_post.specs.Told.{Told}
use Rattle.lsl_world.specs.Lossy.{Stage, plain_stage, travel_from}
use Rattle.lsl_world.specs.Programs.{rules_of}
use Rattle.lsl_world.specs.Sizes.{IsStepOf, Size, size_of_file}
use Rattle.lsl_world.specs.Stages.{IsAt}
use Rattle.lsl_world.specs.Starts.{start}
use Rattle.lsl_world.proofs.Staging.{plain-travels}
use Rattle.lsl_top.specs.Answers.{ComesFromStart}
use Rattle.lsl_top.specs.Goes.{IsLast}
use Rattle.lsl_top.specs.Meant.{last_of}
use Rattle.lsl_top.specs.Pieces.{pieces_at, pieces_from}
use Rattle.lsl_top.specs.Ports.{Concludes, log, wire}
use Rattle.lsl_top.specs.declared.status.Status.{Status}
use Rattle.lsl_top.proofs.Finishing.{concludes-memory, concludes-performed}
use Rattle.lsl_top.proofs.Frozen.{lasts-started}
use Rattle.lsl_top.proofs.Runs.{performs-by}
use Rattle.lsl_top.proofs.Staged.{at-plain, plain-at}
use Rattle.lsl_top.proofs.running.run_started.Goals as goal

pub write_run-requires-clause-sound : goal.write_run-requires-clause-sound
write_run-requires-clause-sound g c = c.in-Ok.ensures.sound

pub write_run-requires-clause-steps : goal.write_run-requires-clause-steps
write_run-requires-clause-steps g c =
    subst (λ (size : Size). All (IsStepOf size) c.as_slice.result.now) (sym c.in-Ok.ensures.size)
    (subst (λ (steps : List Step). All (IsStepOf (size_of_file c.args.file.now)) steps) (sym c.as_slice.ensures)
    c.requires.file.steps_fit)

pub write_run-requires-clause-carded : goal.write_run-requires-clause-carded
write_run-requires-clause-carded g c = λ cards some. absurd (let no = sym c.in-Ok.ensures.begun.plain ∙ some in cc)

pub write_run-requires-clause-named : goal.write_run-requires-clause-named
write_run-requires-clause-named g c =
    λ k d lt cards some. absurd (let no = sym c.in-Ok.ensures.begun.plain ∙ some in cc)

pub returns-in-Ok : goal.returns-in-Ok
returns-in-Ok g c = λ programs run.
    let last = last_of c.args.last in
    let units = c.args.cast.units in
    let file = c.args.file.now in
    let cards = c.args.cast.cards in
    let world = c.in-Ok.world in
    let begin = start (rules_of programs) file cards in
    let old = (log (g.K.Sink.sunk c.args.sink.now) (g.K.Sink.faults c.args.sink.now)) in
    let new = (log (g.K.Sink.sunk c.write_run.new.sink) (g.K.Sink.faults c.write_run.new.sink)) in
    let before = (wire (g.L.Link.trips c.args.link.now) (g.L.Link.faults c.args.link.now)) in
    let after = (wire (g.L.Link.trips c.write_run.new.link) (g.L.Link.faults c.write_run.new.link)) in
    subst (λ (status : Status). Concludes g.L.Link.gives (Honest IsIntact) (λ from. Unit {0})
    (λ grade from trips. ComesFromStart grade trips last units programs file cards) old new before after status)
    (sym c.status_after.ensures)
    (concludes-performed g.L.Link.gives (Honest IsIntact) (λ from. Unit {0})
    (λ grade from trips. ComesFromStart grade trips last units programs file cards) (λ ps stage. IsAt ps world stage)
    (λ ps stage trips.
    IsLast last units ps (travel_from units (rules_of ps) world.regions file.steps trips stage).value.world)
    (λ ps stage trips. pieces_at last units (rules_of ps) world.regions file.steps trips stage) programs
    (λ from. plain_stage begin) (λ from trips. pieces_from last units (rules_of programs) file.steps trips begin)
    (λ from fits. at-plain programs world begin (c.in-Ok.ensures.of programs run) c.in-Ok.ensures.begun.plain)
    (λ from trips fair. fair)
    (λ from trips. plain-at units (rules_of programs) world.regions last file.steps trips begin) old new before after
    c.write_run.result (λ from trips. (tt, refl))
    (λ from trips is. (
      lasts-started units programs file cards run c.requires.file c.requires.units last trips
          (subst (λ (t : Told Stage). IsLast last units programs t.value.world)
          (plain-travels units (rules_of programs) world.regions file.steps trips begin) is),
      refl,
    ))
    (performs-by g.L.Link.gives (λ ps stage. IsAt ps world stage) last world.units units world.regions world.regions
    c.as_slice.result.now file.steps old new before after c.write_run.result c.in-Ok.ensures.units refl
    c.as_slice.ensures c.write_run.ensures))

pub returns-in-Err : goal.returns-in-Err
returns-in-Err g c = λ programs run.
    concludes-memory g.L.Link.gives (Honest IsIntact) (λ from. Unit {0})
    (λ grade from trips. ComesFromStart grade trips (last_of c.args.last) c.args.cast.units programs c.args.file.now
    c.args.cast.cards)
    (log (g.K.Sink.sunk c.args.sink.now) (g.K.Sink.faults c.args.sink.now))
    (wire (g.L.Link.trips c.args.link.now) (g.L.Link.faults c.args.link.now))
