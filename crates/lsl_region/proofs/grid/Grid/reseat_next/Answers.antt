use Rattle.std.proofs.Common.{◌<◌, ◌∙◌, ap, length, reverse, rules, sym, arith}
use Rattle.std.specs.Prelude.{is_some, slice_set}
use Rattle.std.proofs.lemmas.List.{length-reverse}
use Rattle.lsl_region.specs.declared.grid.Seat.{Seat}
use Rattle.lsl_region.specs.Grids.{Contents}
use Rattle.lsl_region.specs.ObjectParts.{parts_in_seat}
use Rattle.lsl_region.proofs.Coming.{seat-here}
use Rattle.lsl_region.proofs.Reseating.{behind-other, behind-own, reverse-last, seat-empty, seat-other, seat-own, seat-there}
use Rattle.lsl_region.proofs.Seats.{read-at}
use Rattle.lsl_region.proofs.grid.Grid.reseat_next.Goals as goal

pub returns-then-not-is_of-clause-seats : goal.returns-then-not-is_of-clause-seats
returns-then-not-is_of-clause-seats c = λ seat sits.
    let is = seat-here c.args.seat c.index.result.now seat c.self.view_is (search (rules, c.requires.seat))
    c.index.ensures sits in
    seat-other c.args.place c.args.self.now.seats c.args.seat seat (reverse c.args.scripts.now.items) sits
    (ap (λ (z : Seat). is_some (parts_in_seat c.args.place z)) (sym is) ∙ sym c.is_of.ensures ∙ c.if-not-is_of.true)

pub returns-then-not-is_of-clause-scripts : goal.returns-then-not-is_of-clause-scripts
returns-then-not-is_of-clause-scripts c = λ seat sits.
    let is = seat-here c.args.seat c.index.result.now seat c.self.view_is (search (rules, c.requires.seat))
    c.index.ensures sits in
    behind-other (parts_in_seat c.args.place seat) (reverse c.args.scripts.now.items)
    (ap (λ (z : Seat). is_some (parts_in_seat c.args.place z)) (sym is) ∙ sym c.is_of.ensures ∙ c.if-not-is_of.true)

pub seat_script-requires-clause-fits : goal.seat_script-requires-clause-fits
seat_script-requires-clause-fits c = λ seat sits.
    let is = seat-here c.args.seat c.index.result.now seat c.self.view_is (search (rules, c.requires.seat))
    c.index.ensures sits in
    c.requires.fits seat c.pop.new.self.items c.in-Some.parts sits
    (ap (λ (z : Seat). is_some (parts_in_seat c.args.place z)) (sym is) ∙ sym c.is_of.ensures ∙ c.if-not-is_of.false)
    c.in-Some.ensures.items

pub seat_script-requires-clause-there : goal.seat_script-requires-clause-there
seat_script-requires-clause-there c = λ seat sits.
    let is = seat-here c.args.seat c.index.result.now seat c.self.view_is (search (rules, c.requires.seat))
    c.index.ensures sits in
    seat-there c.args.place seat
    (ap (λ (z : Seat). is_some (parts_in_seat c.args.place z)) (sym is) ∙ sym c.is_of.ensures ∙ c.if-not-is_of.false)

pub returns-in-Some-clause-seats : goal.returns-in-Some-clause-seats
returns-in-Some-clause-seats c = λ seat sits.
    let is = seat-here c.args.seat c.index.result.now seat c.self.view_is (search (rules, c.requires.seat))
    c.index.ensures sits in
    c.seat_script.ensures.seats seat sits
    ∙ ap (λ (t : Seat). slice_set c.args.self.now.seats c.args.seat t)
    (seat-own seat (parts_in_seat c.args.place seat) c.in-Some.parts (reverse c.pop.new.self.items)
    (reverse c.args.scripts.now.items)
    (ap (λ (z : Seat). is_some (parts_in_seat c.args.place z)) (sym is) ∙ sym c.is_of.ensures ∙ c.if-not-is_of.false)
    (reverse-last c.args.scripts.now.items c.pop.new.self.items c.in-Some.parts c.in-Some.ensures.items))

pub returns-in-Some-clause-scripts : goal.returns-in-Some-clause-scripts
returns-in-Some-clause-scripts c = λ seat sits.
    let is = seat-here c.args.seat c.index.result.now seat c.self.view_is (search (rules, c.requires.seat))
    c.index.ensures sits in
    behind-own (parts_in_seat c.args.place seat) c.in-Some.parts (reverse c.pop.new.self.items)
    (reverse c.args.scripts.now.items)
    (ap (λ (z : Seat). is_some (parts_in_seat c.args.place z)) (sym is) ∙ sym c.is_of.ensures ∙ c.if-not-is_of.false)
    (reverse-last c.args.scripts.now.items c.pop.new.self.items c.in-Some.parts c.in-Some.ensures.items)

pub returns-in_default-clause-seats : goal.returns-in_default-clause-seats
returns-in_default-clause-seats c = λ seat sits.
    let scripts = c.args.scripts.now in
    seat-empty c.args.place c.args.self.now.seats c.args.seat seat (reverse scripts.items) sits
    (λ h. c.in_default.ensures.variant.1 (omega (arith, h, length-reverse scripts.items, scripts.ok.0)))
