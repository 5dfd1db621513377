use Rattle.std.proofs.Common.{◌<◌, ◌∙◌, ap, length, refl, rules}
use Rattle.std.specs.Prelude.{Some}
use Rattle.std.proofs.Math.ListN.{length-set}
use Rattle.lsl_post.specs.declared.parts.ScriptParts.{ScriptParts}
use Rattle.lsl_region.specs.Hearing.{listens_on}
use Rattle.lsl_region.specs.declared.grid.Seat.{Seat}
use Rattle.lsl_region.specs.Grids.{Contents, outline_of}
use Rattle.lsl_region.specs.Turning.{with_seated}
use Rattle.lsl_region.proofs.Coming.{seat-is}
use Rattle.lsl_region.proofs.Told.{row-set}
use Rattle.lsl_region.proofs.Outlines.{outline-seated}
use Rattle.lsl_region.proofs.Seats.{placed-set, read-at}
use Rattle.lsl_region.proofs.grid.Grid.put_back.Goals as goal

pub invariant_of-self : goal.invariant_of-self
invariant_of-self c =
    let h : c.args.place < length c.self.inside.seats.items = search (rules, c.requires) in (
      placed-set c.self.inside.objects.items c.self.inside.seats.items c.args.place c.index_mut.result.now _
          (read-at c.self.inside.seats.items c.args.place _ h c.index_mut.ensures.value) refl refl c.self.invariant.0,
      row-set c.self.inside.hearers c.follow.new.self c.self.inside.seats.items c.args.place _ h
          c.follow.ensures.count c.follow.ensures.others
          (λ channel. c.follow.ensures.told channel
          ∙ ap (λ (parts : ScriptParts). listens_on channel parts.listens) c.parts.ensures) c.self.invariant.1,
    )

pub returns : goal.returns
returns c =
    let h : c.args.place < length c.self.inside.seats.items = search (rules, c.requires) in
    let at = read-at c.self.inside.seats.items c.args.place c.index_mut.result.now h c.index_mut.ensures.value in
    let inside : Contents = record {
      objects = c.self.inside.objects.items;
      seats = c.self.inside.seats.items;
      cards = c.self.inside.cards;
    } in
    record {
      seats = λ seat sits.
          ap (λ (x : Seat). with_seated inside c.args.place x (Some c.args.script)) (seat-is inside c.args.self.now
          c.args.place c.index_mut.result.now seat c.self.view_is at sits)
          ∙ ap (λ (g : Contents). with_seated g c.args.place seat (Some c.args.script)) c.self.view_is;
      len = length-set c.self.inside.seats.items c.args.place _
          ∙ ap (λ (g : Contents). length g.seats) c.self.view_is;
      outline = outline-seated inside c.args.place c.index_mut.result.now _ at refl
          ∙ ap outline_of c.self.view_is;
    }
