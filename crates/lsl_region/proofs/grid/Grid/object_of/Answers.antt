use Rattle.std.proofs.Common.{◌<◌, length, rules, subst}
use Rattle.std.proofs.lemmas.Option.{slice_get_within}
use Rattle.lsl_region.specs.declared.grid.Seat.{Seat}
use Rattle.lsl_region.proofs.Seats.{object-is, object-read, read-at}
use Rattle.lsl_region.proofs.grid.Grid.object_of.Goals as goal

pub index-requires-2 : goal.index-requires-2
index-requires-2 c =
    let h : c.args.place < length c.self.inside.seats.items = search (rules, c.requires) in
    let q = c.self.invariant.0.placed c.args.place _
    (read-at c.self.inside.seats.items c.args.place _ h c.index.ensures) in
    let k : c.index.result.now.object < length c.self.inside.objects.items
    = slice_get_within c.self.inside.objects.items _ q.object q.there in
    search (rules, k)

pub returns-clause-value : goal.returns-clause-value
returns-clause-value c = λ seat e.
    let h : c.args.place < length c.self.inside.seats.items = search (rules, c.requires) in
    let at = read-at c.self.inside.seats.items c.args.place _ h c.index.ensures in
    let o = object-read c.self.inside.objects.items c.self.inside.seats.items c.args.place _ c.index-2.result.now
    c.self.invariant.0 at c.index-2.ensures in
    (object-is _ c.args.self.now c.args.place _ seat _ c.self.view_is at e o.0).1

pub returns-clause-within : goal.returns-clause-within
returns-clause-within c = λ seat e.
    let h : c.args.place < length c.self.inside.seats.items = search (rules, c.requires) in
    let at = read-at c.self.inside.seats.items c.args.place _ h c.index.ensures in
    let o = object-read c.self.inside.objects.items c.self.inside.seats.items c.args.place _ c.index-2.result.now
    c.self.invariant.0 at c.index-2.ensures in
    subst (λ (s : Seat). s.prim < length c.index-2.result.now.prims)
    (object-is _ c.args.self.now c.args.place _ seat _ c.self.view_is at e o.0).0 o.1

pub returns-clause-few : goal.returns-clause-few
returns-clause-few c =
    let h : c.args.place < length c.self.inside.seats.items = search (rules, c.requires) in
    let at = read-at c.self.inside.seats.items c.args.place _ h c.index.ensures in
    let o = object-read c.self.inside.objects.items c.self.inside.seats.items c.args.place _ c.index-2.result.now
    c.self.invariant.0 at c.index-2.ensures in
    (c.self.invariant.0.formed c.index.result.now.object c.index-2.result.now o.0).few
