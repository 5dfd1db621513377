use Rattle.std.proofs.Common.{◌≡◌, List, [], refl, sym, subst}
use Rattle.std.specs.Prelude.{All}
use Rattle.lsl_lines.specs.declared.file.Step.{Step}
use Rattle.lsl_world.specs.Handing.{CanHand}
use Rattle.lsl_world.specs.Lossy.{WereCarried, lossy_stage, travel_from}
use Rattle.lsl_world.specs.Programs.{rules_of}
use Rattle.lsl_world.specs.Regions.{regions_of_file}
use Rattle.lsl_world.specs.Sizes.{IsStepOf, Size, size_of_file}
use Rattle.lsl_world.specs.Stages.{IsAt}
use Rattle.lsl_world.specs.Starts.{start}
use Rattle.lsl_top.specs.Answers.{lossy_answer}
use Rattle.lsl_top.specs.Goes.{IsLast}
use Rattle.lsl_top.specs.Pieces.{pieces_at}
use Rattle.lsl_top.specs.Plays.{Homes}
use Rattle.lsl_top.specs.Ports.{Concludes, log, wire}
use Rattle.lsl_top.specs.declared.status.Status.{Status}
use Rattle.lsl_top.proofs.Finishing.{concludes-memory, concludes-performed}
use Rattle.lsl_top.proofs.Runs.{performs-by}
use Rattle.lsl_top.proofs.running.run_lossy.Goals as goal

pub write_run-requires-clause-sound : goal.write_run-requires-clause-sound
write_run-requires-clause-sound g c = c.in-Ok.ensures.sound

pub write_run-requires-clause-steps : goal.write_run-requires-clause-steps
write_run-requires-clause-steps g c =
    subst (λ (size : Size). All (IsStepOf size) c.as_slice.result.now) (sym c.in-Ok.ensures.size)
    (subst (λ (steps : List Step). All (IsStepOf (size_of_file c.args.file.now)) steps) (sym c.as_slice.ensures)
    c.requires.file.steps_fit)

pub write_run-requires-clause-carded : goal.write_run-requires-clause-carded
write_run-requires-clause-carded g c = c.in-Ok.ensures.carded

pub write_run-requires-clause-named : goal.write_run-requires-clause-named
write_run-requires-clause-named g c =
    subst (λ (steps : List Step). All (CanHand c.in-Ok.world) steps) (sym c.as_slice.ensures) c.in-Ok.ensures.named

pub returns-in-Ok : goal.returns-in-Ok
returns-in-Ok g c = λ programs run.
    let units = c.args.cast.units in
    let file = c.args.file.now in
    let world = c.in-Ok.world in
    let regions = regions_of_file file in
    let begin = start (rules_of programs) file c.args.cast.cards in
    let old = (log (g.K.Sink.sunk c.args.sink.now) (g.K.Sink.faults c.args.sink.now)) in
    let new = (log (g.K.Sink.sunk c.write_run.new.sink) (g.K.Sink.faults c.write_run.new.sink)) in
    let before = (wire (g.L.Link.trips c.args.link.now) (g.L.Link.faults c.args.link.now)) in
    let after = (wire (g.L.Link.trips c.write_run.new.link) (g.L.Link.faults c.write_run.new.link)) in
    subst (λ (status : Status). Concludes g.L.Link.gives (WereCarried []) (λ from. Unit {0})
    (λ grade from trips answer. answer ≡ lossy_answer units programs file trips begin) old new before after status)
    (sym c.status_after.ensures)
    (concludes-performed g.L.Link.gives (WereCarried []) (λ from. Unit {0})
    (λ grade from trips answer. answer ≡ lossy_answer units programs file trips begin)
    (λ ps stage. IsAt ps world stage)
    (λ ps stage trips. IsLast Homes units ps
    (travel_from units (rules_of ps) regions file.steps trips stage).value.world)
    (λ ps stage trips. pieces_at Homes units (rules_of ps) regions file.steps trips stage) programs
    (λ from. lossy_stage regions begin) (λ from trips. (lossy_answer units programs file trips begin).pieces)
    (λ from fits. c.in-Ok.ensures.at programs run) (λ from trips fair. fair) (λ from trips. refl) old new before after
    c.write_run.result (λ from trips. refl) (λ from trips last. refl)
    (performs-by g.L.Link.gives (λ ps stage. IsAt ps world stage) Homes world.units units world.regions regions
    c.as_slice.result.now file.steps old new before after c.write_run.result c.in-Ok.ensures.units
    c.in-Ok.ensures.regions c.as_slice.ensures c.write_run.ensures))

pub returns-in-Err : goal.returns-in-Err
returns-in-Err g c = λ programs run.
    concludes-memory g.L.Link.gives (WereCarried []) (λ from. Unit {0})
    (λ grade from trips answer. answer
    ≡ lossy_answer c.args.cast.units programs c.args.file.now trips (start (rules_of programs) c.args.file.now c.args.cast.cards))
    (log (g.K.Sink.sunk c.args.sink.now) (g.K.Sink.faults c.args.sink.now))
    (wire (g.L.Link.trips c.args.link.now) (g.L.Link.faults c.args.link.now))
