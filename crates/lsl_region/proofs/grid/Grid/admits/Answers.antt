use Rattle.std.proofs.Common.{◌<◌, length, rules, ◌∙◌}
use Rattle.std.proofs.lemmas.Option.{slice_get_within}
use Rattle.lsl_region.proofs.Seats.{admitted, object-read, read-at}
use Rattle.lsl_region.proofs.grid.Grid.admits.Goals as goal

pub index-requires : goal.index-requires
index-requires c =
    let h : c.args.place < length c.self.inside.seats.items = search (rules, c.requires) in
    let q = c.self.invariant.0.placed c.args.place _
    (read-at c.self.inside.seats.items c.args.place _ h c.index-seat.ensures) in
    let k : c.index-seat.result.now.object < length c.self.inside.objects.items
    = slice_get_within c.self.inside.objects.items _ q.object q.there in
    search (rules, k)

pub prim-prim-requires : goal.prim-prim-requires
prim-prim-requires c =
    let h : c.args.place < length c.self.inside.seats.items = search (rules, c.requires) in
    (object-read c.self.inside.objects.items c.self.inside.seats.items c.args.place _ _ c.self.invariant.0
    (read-at c.self.inside.seats.items c.args.place _ h c.index-seat.ensures) c.index.ensures).1

pub returns : goal.returns
returns c = λ other e.
    let h : c.args.place < length c.self.inside.seats.items = search (rules, c.requires) in
    let at = read-at c.self.inside.seats.items c.args.place _ h c.index-seat.ensures in
    c.admits.ensures
    ∙ admitted c.args.audience.now c.args.listens.now _ _ c.args.place _ other c.index.result.now _ c.self.view_is at
    (object-read c.self.inside.objects.items c.self.inside.seats.items c.args.place _ _ c.self.invariant.0 at
    c.index.ensures).0 c.prim-prim.ensures e
