use Rattle.std.proofs.Common.{◌<◌, ◌≤◌, ◌+◌, ◌∙◌, ℕ, List, length, take, ap, sym, arith, rules}
use Rattle.std.proofs.lemmas.List.{length-take-le}
use Rattle.lsl_region.specs.declared.objects.Linkset.{Linkset}
use Rattle.lsl_region.specs.Notes.{prims_in}
use Rattle.lsl_region.proofs.CardTold.{found-same, prims-few, seat-within}
use Rattle.lsl_region.proofs.Seats.{read-at}
use Rattle.lsl_region.proofs.grid.Grid.card_of.Goals as goal

pub slice_bounds-prims_before-end : goal.slice_bounds-prims_before-end
slice_bounds-prims_before-end c =
    let h : c.args.place < length c.self.inside.seats.items = search (rules, c.requires) in
    let at = read-at c.self.inside.seats.items c.args.place c.index-seat.result.now h c.index-seat.ensures in
    let within = seat-within c.self.inside.objects.items c.self.inside.seats.items c.args.place
    c.index-seat.result.now c.self.invariant.0 at in
    let long = ap (λ (os : List Linkset). length os) c.deref.ensures.value in
    let short : c.index-seat.result.now.object ≤ length c.deref.result.now = omega (arith, within.0, long) in
    sym (length-take-le c.index-seat.result.now.object c.deref.result.now short)

pub prims_before-requires : goal.prims_before-requires
prims_before-requires c =
    let few = prims-few c.self.inside.objects.items c.self.inside.seats.items c.index-seat.result.now.object
    c.self.invariant.0 in
    let same = ap (λ (os : List Linkset). prims_in (take c.index-seat.result.now.object os)) c.deref.ensures.value in
    omega (arith, few, same)

pub overflow_cast-prim : goal.overflow_cast-prim
overflow_cast-prim c =
    let h : c.args.place < length c.self.inside.seats.items = search (rules, c.requires) in
    let at = read-at c.self.inside.seats.items c.args.place c.index-seat.result.now h c.index-seat.ensures in
    let within = seat-within c.self.inside.objects.items c.self.inside.seats.items c.args.place
    c.index-seat.result.now c.self.invariant.0 at in
    omega (arith, within.1)

pub overflow_add-prim : goal.overflow_add-prim
overflow_add-prim c =
    let h : c.args.place < length c.self.inside.seats.items = search (rules, c.requires) in
    let at = read-at c.self.inside.seats.items c.args.place c.index-seat.result.now h c.index-seat.ensures in
    let within = seat-within c.self.inside.objects.items c.self.inside.seats.items c.args.place
    c.index-seat.result.now c.self.invariant.0 at in
    let few = prims-few c.self.inside.objects.items c.self.inside.seats.items c.index-seat.result.now.object
    c.self.invariant.0 in
    let same = ap (λ (os : List Linkset). prims_in (take c.index-seat.result.now.object os)) c.deref.ensures.value in
    omega (arith, within.1, few, same, c.prims_before.ensures)

pub overflow_add-prim-2 : goal.overflow_add-prim-2
overflow_add-prim-2 c =
    let h : c.args.place < length c.self.inside.seats.items = search (rules, c.requires) in
    let at = read-at c.self.inside.seats.items c.args.place c.index-seat.result.now h c.index-seat.ensures in
    let within = seat-within c.self.inside.objects.items c.self.inside.seats.items c.args.place
    c.index-seat.result.now c.self.invariant.0 at in
    let few = prims-few c.self.inside.objects.items c.self.inside.seats.items c.index-seat.result.now.object
    c.self.invariant.0 in
    let same = ap (λ (os : List Linkset). prims_in (take c.index-seat.result.now.object os)) c.deref.ensures.value in
    omega (arith, within.1, few, same, c.prims_before.ensures)

pub returns-clause-value : goal.returns-clause-value
returns-clause-value c = λ seat e.
    let h : c.args.place < length c.self.inside.seats.items = search (rules, c.requires) in
    let at = read-at c.self.inside.seats.items c.args.place c.index-seat.result.now h c.index-seat.ensures in
    let same = ap (λ (os : List Linkset). prims_in (take c.index-seat.result.now.object os)) c.deref.ensures.value in
    c.find.ensures.number
    ∙ found-same _ c.args.self.now c.args.place c.index-seat.result.now seat _ c.args.name.now c.self.view_is at e
    (ap (λ (k : ℕ). k + c.index-seat.result.now.prim + 1) (c.prims_before.ensures ∙ same))
