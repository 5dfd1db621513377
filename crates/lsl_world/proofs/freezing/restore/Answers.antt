use Rattle.std.proofs.Common.{◌≤◌, ◌∙◌, ℕ, List, ap, arith, length, subst, sym}
use Rattle.std.specs.Prelude.{All, map}
use Rattle.std.proofs.lemmas.Result.{err_from_is_err_and}
use Rattle.lsl_image.specs.declared.parts.Placed.{Placed}
use Rattle.lsl_image.specs.declared.parts.Shape.{Shape}
use Rattle.lsl_image.specs.declared.parts.WorldParts.{WorldParts}
use Rattle.lsl_image.specs.Images.{WorldFirst, WorldImage}
use Rattle.lsl_image.specs.Reading.{IsRefusedBy}
use Rattle.lsl_post.specs.Timing.{latest_clock}
use Rattle.lsl_world.specs.Frozen.{IsImageIn, shapes_of_file}
use Rattle.lsl_world.specs.Ranges.{IsObjectOf}
use Rattle.lsl_world.specs.Seats.{seats_of_objects}
use Rattle.lsl_world.specs.Starts.{object_of_line}
use Rattle.lsl_world.specs.Timers.{IsIndexOf, timings_of}
use Rattle.lsl_world.proofs.Beginning.{sized}
use Rattle.lsl_world.proofs.FileShapes.{file-shapes, keys-known}
use Rattle.lsl_world.proofs.ImageShapes.{image-shapes, image-valid}
use Rattle.lsl_world.proofs.Indexing.{numbered-none}
use Rattle.lsl_world.proofs.Thawing.{fixed-size, start-fixed, start-home, thawed-is}
use Rattle.lsl_world.proofs.freezing.restore.Goals as goal

pub returns-in_err-clock-clause-every : goal.returns-in_err-clock-clause-every
returns-in_err-clock-clause-every c = λ parts image.
    let known = file-shapes c.args.units.now c.args.file.now c.hold.new.self
    (c.hold.ensures.objects ∙ c.in_ok-add_objects.ensures.objects ∙ ap (map object_of_line) c.as_slice.ensures)
    (c.hold.ensures.seats ∙ c.in_ok-add_objects.ensures.seats
    ∙ ap (seats_of_objects c.args.units.now 0) c.as_slice.ensures) in
    let p = err_from_is_err_and c.from_residual-in_err-clock.result c.from_residual-in_err-clock.ensures.1 in
    rw (p.1, p.2)
    (c.in_err-clock.ensures.every parts
    (subst (λ (s : List Shape). WorldImage s c.args.units.now parts c.args.bytes.now) (sym known) image))

pub returns-in_err-clock-clause-first : goal.returns-in_err-clock-clause-first
returns-in_err-clock-clause-first c =
    let known = file-shapes c.args.units.now c.args.file.now c.hold.new.self
    (c.hold.ensures.objects ∙ c.in_ok-add_objects.ensures.objects ∙ ap (map object_of_line) c.as_slice.ensures)
    (c.hold.ensures.seats ∙ c.in_ok-add_objects.ensures.seats
    ∙ ap (seats_of_objects c.args.units.now 0) c.as_slice.ensures) in
    let p = err_from_is_err_and c.from_residual-in_err-clock.result c.from_residual-in_err-clock.ensures.1 in
    rw (p.1, p.2)
    (subst (λ (s : List Shape). IsRefusedBy (WorldFirst s c.args.units.now c.args.bytes.now) c.in_err-clock.field-0.0)
    known c.in_err-clock.ensures.first)

pub returns-in_err-clock-clause-only : goal.returns-in_err-clock-clause-only
returns-in_err-clock-clause-only c = λ fault first.
    let known = file-shapes c.args.units.now c.args.file.now c.hold.new.self
    (c.hold.ensures.objects ∙ c.in_ok-add_objects.ensures.objects ∙ ap (map object_of_line) c.as_slice.ensures)
    (c.hold.ensures.seats ∙ c.in_ok-add_objects.ensures.seats
    ∙ ap (seats_of_objects c.args.units.now 0) c.as_slice.ensures) in
    let p = err_from_is_err_and c.from_residual-in_err-clock.result c.from_residual-in_err-clock.ensures.1 in
    rw (p.1, p.2)
    (c.in_err-clock.ensures.only fault
    (subst (λ (s : List Shape). WorldFirst s c.args.units.now c.args.bytes.now fault) (sym known) first))

pub thaw-requires-clause-home : goal.thaw-requires-clause-home
thaw-requires-clause-home c =
    let file = c.args.file.now in
    start-home c.args.units.now file c.args.cards c.hold.new.self
    (c.hold.ensures.objects ∙ c.in_ok-add_objects.ensures.objects ∙ ap (map object_of_line) c.as_slice.ensures)
    (c.hold.ensures.seats ∙ c.in_ok-add_objects.ensures.seats
    ∙ ap (seats_of_objects c.args.units.now 0) c.as_slice.ensures) c.hold.ensures.cards
    (subst (λ (n : ℕ). All (IsObjectOf n) file.objects) (sym c.requires.units) c.requires.file.objects_fit)

pub thaw-requires-clause-valid : goal.thaw-requires-clause-valid
thaw-requires-clause-valid c =
    let file = c.args.file.now in
    let parts = c.in_ok-clock.field-0 in
    let known = file-shapes c.args.units.now file c.hold.new.self
    (c.hold.ensures.objects ∙ c.in_ok-add_objects.ensures.objects ∙ ap (map object_of_line) c.as_slice.ensures)
    (c.hold.ensures.seats ∙ c.in_ok-add_objects.ensures.seats
    ∙ ap (seats_of_objects c.args.units.now 0) c.as_slice.ensures) in
    let image : IsImageIn c.args.units.now file parts c.args.bytes.now =
    subst (λ (s : List Shape). WorldImage s c.args.units.now parts c.args.bytes.now) known
    c.in_ok-clock.ensures.found in
    (image-valid (shapes_of_file file) c.args.units.now parts c.args.bytes.now
    (keys-known (length file.files) file.objects c.requires.file.objects_fit) image).objects

pub thaw-requires-clause-shapes : goal.thaw-requires-clause-shapes
thaw-requires-clause-shapes c =
    image-shapes _ c.args.units.now c.in_ok-clock.field-0 c.args.bytes.now c.in_ok-clock.ensures.found

pub returns-clause-found : goal.returns-clause-found
returns-clause-found c =
    let file = c.args.file.now in
    let parts = c.in_ok-clock.field-0 in
    let known = file-shapes c.args.units.now file c.hold.new.self
    (c.hold.ensures.objects ∙ c.in_ok-add_objects.ensures.objects ∙ ap (map object_of_line) c.as_slice.ensures)
    (c.hold.ensures.seats ∙ c.in_ok-add_objects.ensures.seats
    ∙ ap (seats_of_objects c.args.units.now 0) c.as_slice.ensures) in
    let image : IsImageIn c.args.units.now file parts c.args.bytes.now =
    subst (λ (s : List Shape). WorldImage s c.args.units.now parts c.args.bytes.now) known
    c.in_ok-clock.ensures.found in
    subst (λ (objects : List Placed). IsImageIn c.args.units.now file
    (record { clock = parts.clock; objects = objects }) c.args.bytes.now) (sym c.in_ok-thaw.ensures.parts) image

pub returns-clause-every : goal.returns-clause-every
returns-clause-every c = λ parts image.
    let known = file-shapes c.args.units.now c.args.file.now c.hold.new.self
    (c.hold.ensures.objects ∙ c.in_ok-add_objects.ensures.objects ∙ ap (map object_of_line) c.as_slice.ensures)
    (c.hold.ensures.seats ∙ c.in_ok-add_objects.ensures.seats
    ∙ ap (seats_of_objects c.args.units.now 0) c.as_slice.ensures) in
    sym
    (ap {A = List Placed} {B = WorldParts} (λ objects. record {
      clock = c.in_ok-clock.field-0.clock;
      objects = objects;
    }) c.in_ok-thaw.ensures.parts
    ∙ c.in_ok-clock.ensures.every parts
    (subst (λ (s : List Shape). WorldImage s c.args.units.now parts c.args.bytes.now) (sym known) image))

pub returns-clause-only : goal.returns-clause-only
returns-clause-only c = λ fault first.
    let known = file-shapes c.args.units.now c.args.file.now c.hold.new.self
    (c.hold.ensures.objects ∙ c.in_ok-add_objects.ensures.objects ∙ ap (map object_of_line) c.as_slice.ensures)
    (c.hold.ensures.seats ∙ c.in_ok-add_objects.ensures.seats
    ∙ ap (seats_of_objects c.args.units.now 0) c.as_slice.ensures) in
    c.in_ok-clock.ensures.only fault
    (subst (λ (s : List Shape). WorldFirst s c.args.units.now c.args.bytes.now fault) (sym known) first)

pub returns-clause-of : goal.returns-clause-of
returns-clause-of c = λ programs w world runs agrees wanted units grid due time.
    let codes = c.args.units.now in
    let file = c.args.file.now in
    let parts = c.in_ok-clock.field-0 in
    let objects = c.hold.ensures.objects ∙ c.in_ok-add_objects.ensures.objects
    ∙ ap (map object_of_line) c.as_slice.ensures in
    let seats = c.hold.ensures.seats ∙ c.in_ok-add_objects.ensures.seats
    ∙ ap (seats_of_objects codes 0) c.as_slice.ensures in
    let all = subst (λ (n : ℕ). All (IsObjectOf n) file.objects) (sym c.requires.units) c.requires.file.objects_fit in
    let known = file-shapes codes file c.hold.new.self objects seats in
    let image : IsImageIn codes file parts c.args.bytes.now =
    subst (λ (s : List Shape). WorldImage s codes parts c.args.bytes.now) known c.in_ok-clock.ensures.found in
    let valid = image-valid (shapes_of_file file) codes parts c.args.bytes.now
    (keys-known (length file.files) file.objects c.requires.file.objects_fit) image in
    let timely : parts.clock ≤ latest_clock = omega (arith, valid.clock) in
    thawed-is codes file c.args.cards c.hold.new.self objects seats c.hold.ensures.cards all programs runs w
    c.thaw.new.self parts c.args.bytes.now world agrees image wanted c.in_ok-thaw.ensures.stands
    c.in_ok-thaw.ensures.seated timely
    (λ clock v stands. subst (λ (d : List (ℕ × ℕ)). IsIndexOf (timings_of v) d) (sym due)
    (c.in_ok-note_timers.ensures.exact codes clock v stands)) units time grid

pub returns-clause-fixed : goal.returns-clause-fixed
returns-clause-fixed c = λ programs runs.
    let file = c.args.file.now in
    c.in_ok-thaw.ensures.fixed
    ∙ start-fixed c.args.units.now file c.args.cards c.hold.new.self
    (c.hold.ensures.objects ∙ c.in_ok-add_objects.ensures.objects ∙ ap (map object_of_line) c.as_slice.ensures)
    (c.hold.ensures.seats ∙ c.in_ok-add_objects.ensures.seats
    ∙ ap (seats_of_objects c.args.units.now 0) c.as_slice.ensures) c.hold.ensures.cards
    (subst (λ (n : ℕ). All (IsObjectOf n) file.objects) (sym c.requires.units) c.requires.file.objects_fit) programs
    runs

pub returns-clause-size : goal.returns-clause-size
returns-clause-size c =
    sym
    (fixed-size c.thaw.new.self c.hold.new.self c.in_ok-thaw.ensures.fixed
    ∙ sized c.args.units.now c.args.file.now c.hold.new.self
    (c.hold.ensures.objects ∙ c.in_ok-add_objects.ensures.objects ∙ ap (map object_of_line) c.as_slice.ensures)
    (c.hold.ensures.seats ∙ c.in_ok-add_objects.ensures.seats
    ∙ ap (seats_of_objects c.args.units.now 0) c.as_slice.ensures))

pub returns-clause-timely : goal.returns-clause-timely
returns-clause-timely c =
    let file = c.args.file.now in
    let parts = c.in_ok-clock.field-0 in
    let known = file-shapes c.args.units.now file c.hold.new.self
    (c.hold.ensures.objects ∙ c.in_ok-add_objects.ensures.objects ∙ ap (map object_of_line) c.as_slice.ensures)
    (c.hold.ensures.seats ∙ c.in_ok-add_objects.ensures.seats
    ∙ ap (seats_of_objects c.args.units.now 0) c.as_slice.ensures) in
    let image : IsImageIn c.args.units.now file parts c.args.bytes.now =
    subst (λ (s : List Shape). WorldImage s c.args.units.now parts c.args.bytes.now) known
    c.in_ok-clock.ensures.found in
    let valid = image-valid (shapes_of_file file) c.args.units.now parts c.args.bytes.now
    (keys-known (length file.files) file.objects c.requires.file.objects_fit) image in
    omega (arith, valid.clock)

pub note_timers-requires : goal.note_timers-requires
note_timers-requires c =
    record { numbered = numbered-none (length c.thaw.new.self.seats) c.args.due.now c.requires.no_time }
