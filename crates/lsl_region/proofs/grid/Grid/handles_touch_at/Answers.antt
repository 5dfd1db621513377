use Rattle.std.proofs.Common.{◌≡◌, ◌<◌, Bool, length, rules, ap, sym, ◌∙◌}
use Rattle.std.specs.Prelude.{◌&&◌, nat_eq, slice_get}
use Rattle.std.proofs.lemmas.Option.{slice_get_within}
use Rattle.lsl_code.specs.declared.woven_units.Woven.{Woven as Code}
use Rattle.lsl_region.specs.declared.grid.Seat.{Seat}
use Rattle.lsl_region.specs.Grids.{Contents}
use Rattle.lsl_region.specs.Touching.{has_touch}
use Rattle.lsl_region.proofs.Seats.{read-at}
use Rattle.lsl_region.proofs.Touches.{same-some}
use Rattle.lsl_region.proofs.grid.Grid.handles_touch_at.Goals as goal

pub unit-requires : goal.unit-requires
unit-requires c =
    let h : c.args.place < length c.self.inside.seats.items = search (rules, c.requires.place) in
    let seat = c.index-seat.result.now in
    let at = read-at c.self.inside.seats.items c.args.place seat h c.index-seat.ensures in
    let k = c.requires.seated c.args.place seat
    (ap (λ (g : Contents). slice_get g.seats c.args.place) (sym c.self.view_is) ∙ at) in
    slice_get_within c.args.library.now seat.unit k.unit k.has

pub returns-then-not-is_in : goal.returns-then-not-is_in
returns-then-not-is_in c = λ seat unit parts e has script.
    let h : c.args.place < length c.self.inside.seats.items = search (rules, c.requires.place) in
    let read = c.index-seat.result.now in
    let at = read-at c.self.inside.seats.items c.args.place read h c.index-seat.ensures in
    let is : read ≡ seat = same-some read seat
    (sym at ∙ ap (λ (g : Contents). slice_get g.seats c.args.place) c.self.view_is ∙ e) in
    let here = ap (λ (z : Seat). nat_eq z.object c.args.object && nat_eq z.prim c.args.prim) (sym is)
    ∙ sym c.is_in.ensures ∙ c.if-not-is_in.true in
    sym (ap (λ (b : Bool). b && has_touch unit.states parts.state) here)

pub returns : goal.returns
returns c = λ seat unit parts e has script.
    let h : c.args.place < length c.self.inside.seats.items = search (rules, c.requires.place) in
    let read = c.index-seat.result.now in
    let at = read-at c.self.inside.seats.items c.args.place read h c.index-seat.ensures in
    let is : read ≡ seat = same-some read seat
    (sym at ∙ ap (λ (g : Contents). slice_get g.seats c.args.place) c.self.view_is ∙ e) in
    let here = ap (λ (z : Seat). nat_eq z.object c.args.object && nat_eq z.prim c.args.prim) (sym is)
    ∙ sym c.is_in.ensures ∙ c.if-not-is_in.false in
    let code : c.unit.result.now ≡ unit = same-some c.unit.result.now unit
    (c.unit.ensures.unit ∙ ap (λ (z : Seat). slice_get c.args.library.now z.unit) is ∙ has) in
    c.script_handles_touch.ensures parts (ap (λ (z : Seat). z.script) is ∙ script)
    ∙ ap (λ (u : Code). has_touch u.states parts.state) code
    ∙ sym (ap (λ (b : Bool). b && has_touch unit.states parts.state) here)
