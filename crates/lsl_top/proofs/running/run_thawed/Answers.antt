use Rattle.std.proofs.Common.{◌≡◌, ◌∙◌, ℕ, Err, List, Vec, Global, map, inl, inr, refl, sym, ap, subst}
use Rattle.std.specs.Prelude.{All}
use Rattle.lsl_ports.specs.Trips.{Honest, Trip}
use Rattle.lsl_image.specs.Images.{IsIntact}
use Rattle.lsl_lines.specs.declared.file.Step.{Step}
use Rattle.lsl_region.specs.Worlds.{World}
use Rattle.lsl_world.specs.Frozen.{parts_in}
use Rattle.lsl_world.specs.Lossy.{plain_stage, travel_from}
use Rattle.lsl_world.specs.Programs.{rules_of}
use Rattle.lsl_world.specs.Sizes.{IsStepOf, Size, size_of_file}
use Rattle.lsl_world.specs.Stages.{IsAt}
use Rattle.lsl_top.specs.Answers.{Answer, Comes, Grade, image_refused}
use Rattle.lsl_top.specs.Goes.{IsLast}
use Rattle.lsl_top.specs.Lines.{image_refusal_of}
use Rattle.lsl_top.specs.Pieces.{pieces_at, pieces_from}
use Rattle.lsl_top.specs.Plays.{Homes, Thawing}
use Rattle.lsl_top.specs.Ports.{Concludes, log, status_after, wire}
use Rattle.lsl_top.specs.Thaws.{IsFrom}
use Rattle.lsl_top.specs.declared.status.Status.{Status}
use Rattle.lsl_top.specs.declared.status.Status.TheVariants.{BadImage}
use Rattle.lsl_top.proofs.Finishing.{concludes-finished, concludes-memory, concludes-performed, finish-written}
use Rattle.lsl_top.proofs.Runs.{performs-by}
use Rattle.lsl_top.proofs.Staged.{at-plain, plain-at}
use Rattle.lsl_top.proofs.running.run_thawed.Goals as goal

pub write_run-requires-clause-sound : goal.write_run-requires-clause-sound
write_run-requires-clause-sound g c = c.in-Ok.ensures.sound

pub write_run-requires-clause-steps : goal.write_run-requires-clause-steps
write_run-requires-clause-steps g c =
    subst (λ (size : Size). All (IsStepOf size) c.as_slice.result.now) (sym c.in-Ok.ensures.size)
    (subst (λ (steps : List Step). All (IsStepOf (size_of_file c.args.play.now.world.now)) steps) (sym c.as_slice.ensures)
    c.requires.range.steps_fit)

pub write_run-requires-clause-carded : goal.write_run-requires-clause-carded
write_run-requires-clause-carded g c = λ cards some. absurd (let no = sym c.in-Ok.ensures.plain ∙ some in cc)

pub write_run-requires-clause-named : goal.write_run-requires-clause-named
write_run-requires-clause-named g c =
    λ k d lt cards some. absurd (let no = sym c.in-Ok.ensures.plain ∙ some in cc)

pub returns-in-Ok : goal.returns-in-Ok
returns-in-Ok g c = λ programs run.
    let name = c.args.name.now in
    let texts = map (λ (t : Vec ℕ Global). t.items) c.args.play.now.texts.items in
    let units = c.args.cast.units in
    let file = c.args.play.now.world.now in
    let text = c.args.play.now.frozen.items in
    let cards = c.args.cast.cards in
    let world = c.in-Ok.world in
    let thaws = c.in-Ok.ensures in
    let old = (log (g.K.Sink.sunk c.args.sink.now) (g.K.Sink.faults c.args.sink.now)) in
    let new = (log (g.K.Sink.sunk c.write_run.new.sink) (g.K.Sink.faults c.write_run.new.sink)) in
    let before = (wire (g.L.Link.trips c.args.link.now) (g.L.Link.faults c.args.link.now)) in
    let after = (wire (g.L.Link.trips c.write_run.new.link) (g.L.Link.faults c.write_run.new.link)) in
    subst (λ (status : Status). Concludes g.L.Link.gives (Honest IsIntact) (IsFrom units programs file cards text)
    (λ grade from trips. Comes grade from trips (Thawing name) texts units programs file cards text) old new before after
    status)
    (sym c.status_after.ensures)
    (concludes-performed g.L.Link.gives (Honest IsIntact) (IsFrom units programs file cards text)
    (λ grade from trips. Comes grade from trips (Thawing name) texts units programs file cards text)
    (λ ps stage. IsAt ps world stage)
    (λ ps stage trips.
    IsLast Homes units ps (travel_from units (rules_of ps) world.regions file.steps trips stage).value.world)
    (λ ps stage trips. pieces_at Homes units (rules_of ps) world.regions file.steps trips stage) programs
    (λ from. plain_stage from) (λ from trips. pieces_from Homes units (rules_of programs) file.steps trips from)
    (λ from fits. at-plain programs world from (thaws.of programs from run fits) thaws.plain)
    (λ from trips fair. fair)
    (λ from trips. plain-at units (rules_of programs) world.regions Homes file.steps trips from) old new before after
    c.write_run.result (λ from trips. inl (parts_in world, thaws.found, refl))
    (λ from trips last. inl (parts_in world, thaws.found, refl))
    (performs-by g.L.Link.gives (λ ps stage. IsAt ps world stage) Homes world.units units world.regions world.regions
    c.as_slice.result.now file.steps old new before after c.write_run.result thaws.units refl c.as_slice.ensures
    c.write_run.ensures))

pub returns-in-Err-NoMemory : goal.returns-in-Err-NoMemory
returns-in-Err-NoMemory g c = λ programs run.
    concludes-memory g.L.Link.gives (Honest IsIntact)
    (IsFrom c.args.cast.units programs c.args.play.now.world.now c.args.cast.cards c.args.play.now.frozen.items)
    (λ grade from trips. Comes grade from trips (Thawing c.args.name.now)
    (map (λ (t : Vec ℕ Global). t.items) c.args.play.now.texts.items) c.args.cast.units programs c.args.play.now.world.now
    c.args.cast.cards c.args.play.now.frozen.items)
    (log (g.K.Sink.sunk c.args.sink.now) (g.K.Sink.faults c.args.sink.now))
    (wire (g.L.Link.trips c.args.link.now) (g.L.Link.faults c.args.link.now))

pub returns-in-Err-Fault : goal.returns-in-Err-Fault
returns-in-Err-Fault g c = λ programs run.
    let name = c.args.name.now in
    let texts = map (λ (t : Vec ℕ Global). t.items) c.args.play.now.texts.items in
    let units = c.args.cast.units in
    let file = c.args.play.now.world.now in
    let text = c.args.play.now.frozen.items in
    let cards = c.args.cast.cards in
    let fault = c.in-Err-Fault.fault in
    let refused = c.in-Err-Fault.ensures.refused fault (ap (λ r. Err r) c.in-Err-Fault.field-0-is) in
    let old = (log (g.K.Sink.sunk c.args.sink.now) (g.K.Sink.faults c.args.sink.now)) in
    let new = (log (g.K.Sink.sunk c.write_line.new.sink) (g.K.Sink.faults c.write_line.new.sink)) in
    let link = (wire (g.L.Link.trips c.args.link.now) (g.L.Link.faults c.args.link.now)) in
    let IsThis : Answer → Type 0 = λ answer. answer ≡ image_refused name fault in
    let IsAll : Grade → World → List Trip → Answer → Type 0 =
    λ grade from trips. Comes grade from trips (Thawing name) texts units programs file cards text in
    subst (λ (status : Status). Concludes g.L.Link.gives (Honest IsIntact)
    (IsFrom units programs file cards text) IsAll old new link link status)
    (sym c.status_after-in-Err-Fault.ensures)
    (concludes-finished g.L.Link.gives (Honest IsIntact) IsThis
    (IsFrom units programs file cards text) IsAll old new link
    (status_after c.write_line.result BadImage) (λ grade from trips answer e. inr (fault, refused, e))
    (finish-written IsThis BadImage (image_refusal_of name fault) old new c.write_line.result tt refl
    (c.write_line.ensures (image_refusal_of name fault) c.image_refusal.ensures)))
