use Rattle.std.proofs.Common.{◌≡◌, ◌<◌, ℕ, ◌+◌, Bool, ◌++◌, length, rules, refl, false, ap, sym, ◌∙◌, subst, append-nil, get_or}
use Rattle.std.specs.Prelude.{Some, slice_get, if◌then◌else◌}
use Rattle.lsl_post.specs.Journal.{Tells}
use Rattle.lsl_post.specs.Told.{Told, quiet}
use Rattle.lsl_script.specs.Codes.{HasUnit, rules_of}
use Rattle.lsl_script.specs.Parts.{parts_of}
use Rattle.lsl_script.specs.Scripts.{Script, post_to}
use Rattle.lsl_region.specs.declared.grid.Seat.{Seat}
use Rattle.lsl_region.specs.Grids.{Contents, AreSeated, FitsSeat, Stands, seat_of, outline_of}
use Rattle.lsl_region.specs.Posting.{admits}
use Rattle.lsl_region.specs.Worlds.{Member, World}
use Rattle.lsl_region.proofs.Told.{row-kept}
use Rattle.lsl_region.proofs.Placed.{changed, sits}
use Rattle.lsl_region.proofs.Posts.{admits-is, if-script, post-none, post-script, same-script, thing-meant}
use Rattle.std.proofs.lemmas.Option.{slice_get-get_or, slice_get_within}
use Rattle.lsl_region.proofs.Results.{OnOk-map}
use Rattle.lsl_region.proofs.Outlines.{outline-seated}
use Rattle.lsl_region.proofs.Seats.{no_seat, placed-set, read-at, seated-set, seated-unit}
use Rattle.lsl_region.proofs.grid.Grid.post_at.Goals as goal

pub returns-then-not-is_addressed-clause-does : goal.returns-then-not-is_addressed-clause-does
returns-then-not-is_addressed-clause-does c = λ away clock w st home.
    let codes = c.args.library.now in
    let grid = c.args.self.now in
    let place = c.args.place in
    let audience = c.args.notice.now.audience.now in
    let seat : Seat = get_or grid.seats place no_seat in
    let at : slice_get grid.seats place ≡ Some seat = slice_get-get_or grid.seats place no_seat c.requires.place in
    let s = sits codes away clock grid w st place seat at in
    let is : seat ≡ seat_of codes false s.member = s.is ∙ ap (λ (b : Bool). seat_of codes b s.member) home in
    let script : seat.script ≡ Some (parts_of codes s.member.script) = ap (λ (z : Seat). z.script) is in
    let e = sym (admits-is codes away clock grid w audience seat s.member st is)
    ∙ sym (c.is_addressed.ensures seat (parts_of codes s.member.script) at script) ∙ c.if-not-is_addressed.true in
    subst (λ (a : Told World). Stands codes away clock grid a.value × (c.args.out.now ≡ c.args.out.now ++ a.entries))
    (post-none (rules_of codes) audience c.args.notice.now.event.now place w s.member s.at e)
    (st, sym (append-nil c.args.out.now))

pub unit-unit-requires : goal.unit-unit-requires
unit-unit-requires c =
    let h : c.args.place < length c.self.inside.seats.items = search (rules, c.requires.place) in
    let seat = c.index_mut-seat.result.now in
    let at = read-at c.self.inside.seats.items c.args.place seat h c.index_mut-seat.ensures.value in
    let k = c.requires.seated c.args.place seat
    (ap (λ (g : Contents). slice_get g.seats c.args.place) (sym c.self.view_is) ∙ at) in
    slice_get_within c.args.library.now seat.unit k.unit k.has

pub post_seat-requires-clause-fits : goal.post_seat-requires-clause-fits
post_seat-requires-clause-fits c =
    let h : c.args.place < length c.self.inside.seats.items = search (rules, c.requires.place) in
    let seat = c.index_mut-seat.result.now in
    let at = read-at c.self.inside.seats.items c.args.place seat h c.index_mut-seat.ensures.value in
    let k = c.requires.seated c.args.place seat
    (ap (λ (g : Contents). slice_get g.seats c.args.place) (sym c.self.view_is) ∙ at) in
    seated-unit c.args.library.now seat c.unit-unit.result.now k c.unit-unit.ensures.unit

pub invariant_of-self : goal.invariant_of-self
invariant_of-self c =
    let h : c.args.place < length c.self.inside.seats.items = search (rules, c.requires.place) in
    let seat = c.index_mut-seat.result.now in
    let at = read-at c.self.inside.seats.items c.args.place seat h c.index_mut-seat.ensures.value in (
      placed-set c.self.inside.objects.items c.self.inside.seats.items c.args.place seat _ at refl refl
          c.self.invariant.0,
      row-kept c.self.inside.hearers c.self.inside.seats.items c.args.place _ h
          (c.post_seat.ensures.row _ (c.self.invariant.1.each c.args.place seat at)) c.self.invariant.1,
    )

pub returns-clause-does : goal.returns-clause-does
returns-clause-does c = λ away clock w old home.
    let codes = c.args.library.now in
    let place = c.args.place in
    let audience = c.args.notice.now.audience.now in
    let e = c.args.notice.now.event.now in
    let inside : Contents = record {
      objects = c.self.inside.objects.items;
      seats = c.self.inside.seats.items;
      cards = c.self.inside.cards;
    } in
    let st : Stands codes away clock inside w
    = subst (λ (g : Contents). Stands codes away clock g w) (sym c.self.view_is) old in
    let seat = c.index_mut-seat.result.now in
    let h : place < length c.self.inside.seats.items = search (rules, c.requires.place) in
    let at = read-at c.self.inside.seats.items place seat h c.index_mut-seat.ensures.value in
    let now-at : slice_get c.args.self.now.seats place ≡ Some seat
    = ap (λ (g : Contents). slice_get g.seats place) (sym c.self.view_is) ∙ at in
    changed codes away clock inside _ w place seat c.post_seat.new.seat
    (λ (m : Member). if admits audience w m then post_to (rules_of codes) (place + 1) e m.script else quiet m.script)
    st home at refl refl refl
    (λ m l. if-script codes false m.script (admits audience w m) _ _
    (post-script codes (rules_of codes) (place + 1) e m.script l) (same-script codes false m.script l))
    c.post_seat.result _ _
    (λ m k is.
    let script : seat.script ≡ Some (parts_of codes m.script) = ap (λ (z : Seat). z.script) is in
    let has : HasUnit codes m.script.code c.unit-unit.result.now
    = ap (slice_get codes) (ap (λ (z : Seat). z.unit) (sym is)) ∙ sym c.unit-unit.ensures.unit in
    let meant = sym (admits-is codes away clock c.args.self.now w audience seat m old is)
    ∙ sym (c.is_addressed.ensures seat (parts_of codes m.script) now-at script) ∙ c.if-not-is_addressed.false in
    subst (λ (t : Told Script). Tells c.post_seat.result
    (λ u _. c.post_seat.new.seat ≡ Some (parts_of codes u)) c.args.out.now c.post_seat.new.out t)
    (thing-meant (rules_of codes) audience e place w m meant)
    (subst (λ (n : ℕ). Tells c.post_seat.result (λ u _. c.post_seat.new.seat ≡ Some (parts_of codes u))
    c.args.out.now c.post_seat.new.out (post_to (rules_of codes) n e m.script)) c.number.ensures
    (c.post_seat.ensures.told codes m.script has script)))

pub returns-clause-grid : goal.returns-clause-grid
returns-clause-grid c =
    let codes = c.args.library.now in
    let h : c.args.place < length c.self.inside.seats.items = search (rules, c.requires.place) in
    let seat = c.index_mut-seat.result.now in
    let inside : Contents = record {
      objects = c.self.inside.objects.items;
      seats = c.self.inside.seats.items;
      cards = c.self.inside.cards;
    } in
    record {
      seated = OnOk-map c.post_seat.result (FitsSeat c.unit-unit.result.now c.post_seat.new.seat) _
          (λ fits. seated-set codes c.self.inside.seats.items c.args.place
          (record seat { script = c.post_seat.new.seat })
          (record { unit = c.unit-unit.result.now; has = sym c.unit-unit.ensures.unit; fits = fits })
          (subst (λ (g : Contents). AreSeated codes g.seats) (sym c.self.view_is) c.requires.seated) h)
          c.post_seat.ensures.fits;
      outline = outline-seated inside c.args.place seat _
          (read-at c.self.inside.seats.items c.args.place _ h c.index_mut-seat.ensures.value) refl
          ∙ ap outline_of c.self.view_is;
    }
