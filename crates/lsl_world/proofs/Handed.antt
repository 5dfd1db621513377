-- The result, in a world, of handing an object over by notes.
use Rattle.std.proofs.Common.{◌≡◌, ◌≢◌, ◌∙◌, refl, sym, ap, subst, arith, ℕ, suc, ◌-◌, ◌<◌, ◌^◌, inl, inr, nat_eq, Bool, true, false, List, [], ◌++◌, length, get_or, if◌then◌else◌, Option, Some, None}
use Rattle.std.specs.Prelude.{not, slice_set, MatchResult, OnOk}
use Rattle.std.specs.declared.result.Result.{Result}
use Rattle.std.specs.declared.result.Result.TheVariants.{Ok, Err}
use Rattle.std.proofs.lemmas.Bool.{eqb-false, eqb-true, ne_eqb}
use Rattle.std.proofs.lemmas.List.{get_or-map, length-map}
use Rattle.std.proofs.lemmas.Slice.Eq.{bytes_eq-Decides}
use Rattle.lsl_code.specs.declared.woven_units.Woven.{Woven as Code}
use Rattle.lsl_ports.specs.Trips.{Trip}
use Rattle.lsl_post.specs.declared.entries.Entry.{Entry}
use Rattle.lsl_post.specs.Journal.{Part, Tells}
use Rattle.lsl_post.specs.Told.{Told, quiet}
use Rattle.lsl_post.proofs.Amid.{part-none}
use Rattle.lsl_handoff.specs.declared.card.Card.{Card}
use Rattle.lsl_handoff.specs.declared.drive.Way.{Way}
use Rattle.lsl_handoff.specs.declared.faults.DepartFault.{DepartFault}
use Rattle.lsl_handoff.specs.declared.faults.DepartFault.TheVariants.{NotLive, Here, LastTrip}
use Rattle.lsl_handoff.specs.declared.note.Note.{Note}
use Rattle.lsl_handoff.specs.Cards.{depart_fault, is_live, last_trip}
use Rattle.lsl_handoff.specs.DriveLaws.{IsAtRest, departure, next_offer, next_trip}
use Rattle.lsl_handoff.specs.Drives.{HasWay}
use Rattle.lsl_handoff.specs.Entries.{AreAllPast, AreCarried, MayRest, Rests, arrives, entries_by}
use Rattle.lsl_handoff.specs.Fields.{IsOneOf, card_at}
use Rattle.lsl_handoff.specs.Handovers.{HasCounts, IsCut, IsGivenOf, IsHandedOver, IsTaken}
use Rattle.lsl_handoff.specs.Notes.{offer_of}
use Rattle.lsl_handoff.proofs.HandoverLemmas.{drives-cut}
use Rattle.lsl_image.specs.declared.parts.ObjectParts.{ObjectParts}
use Rattle.lsl_image.specs.Images.{ObjectImage}
use Rattle.lsl_image.specs.Object.{object as object_layout}
use Rattle.lsl_image.specs.Valid.{shape_of}
use Rattle.lsl_image.proofs.ImageLemmas.{image-one}
use Rattle.lsl_lines.specs.declared.file.Step.{Step}
use Rattle.lsl_lines.specs.declared.file.Step.TheVariants.{Cross}
use Rattle.lsl_tree.specs.Program.{Program}
use Rattle.lsl_script.specs.Rules.{Rules}
use Rattle.lsl_region.specs.declared.objects.Linkset.{Linkset}
use Rattle.lsl_region.specs.Crossings.{CanArrive, IsSent, image_in, region_in}
use Rattle.lsl_region.specs.Grids.{AreSeated, Contents, Stands}
use Rattle.lsl_region.specs.Journeys.{arrive, contents_of}
use Rattle.lsl_region.specs.ObjectParts.{parts_of_object}
use Rattle.lsl_region.specs.Worlds.{World as SourceWorld, no_object, object_at}
use Rattle.lsl_region.proofs.Journeys.{contents-is}
use Rattle.lsl_region.proofs.Passages.{bytes-differ}
use Rattle.lsl_world.specs.declared.world.World.{World}
use Rattle.lsl_world.specs.Handing.{IsImageFrom, IsOwnImage}
use Rattle.lsl_world.specs.Kept.{region_of, regions_of}
use Rattle.lsl_world.specs.Orders.{AreAtMost, AreInOrder, DrivesTo, Hands, IsDriven, IsDrivenPartly, SendsIf, SendsNotes, hand_on, parcel_of, place_in, way_to}
use Rattle.lsl_world.specs.Programs.{rules_of}
use Rattle.lsl_world.specs.Regions.{IsNamed, name_in, number_in, number_of, way_between}
use Rattle.lsl_world.specs.Sizes.{HasNumber}
use Rattle.lsl_world.specs.Stands.{IsOf}
use Rattle.lsl_world.specs.Steps.{next}
use Rattle.lsl_world.specs.Timers.{IsIndexOf, timings_of}
use Rattle.lsl_world.specs.Travels.{is_crossing}
use Rattle.lsl_world.proofs.Going.{with_due}
use Rattle.lsl_world.proofs.Kept.{on-ok, part-all}
use Rattle.lsl_world.proofs.Numbering.{name-number, named-number, one-region}
use Rattle.lsl_world.proofs.Ordering.{most-next, order-moved, order-stays}
use Rattle.lsl_world.proofs.Regions.{regions-cross}
use Rattle.lsl_world.proofs.Saving.{tells-quiet}

-- which way there is between regions that are named
module _ (names : List (List ℕ)) (object : ℕ) (here there : List ℕ) (named_here : IsNamed names here)
    (named_there : IsNamed names there) where
  abbrev first_number : ℕ
  first_number = number_in names here

  abbrev last_number : ℕ
  last_number = number_in names there

  abbrev way_if : Bool → Option Way
  way_if same = if same then None else Some (record { object = object; from = first_number; to = last_number })

  between : way_between object (number_of names here) (number_of names there)
      ≡ (if nat_eq first_number last_number then None else Some
      (record { object = object; from = first_number; to = last_number }))
  between =
      ap (λ (o : Option ℕ). way_between object o (number_of names there)) (named-number names here named_here)
      ∙ ap (λ (o : Option ℕ). way_between object (Some first_number) o) (named-number names there named_there)

  pub no-way : way_between object (number_of names here) (number_of names there) ≡ None → here ≡ there
  no-way none = go (nat_eq first_number last_number) refl (sym between ∙ none) where
    go : (b : Bool) → nat_eq first_number last_number ≡ b → way_if b ≡ None → here ≡ there
    go true same e = one-region names here there named_here named_there (eqb-true first_number last_number same)
    go false same e = absurd (cc)

  pub record IsWay (way : Way) : Type 0 where
    pub way_is : way ≡ record { object = object; from = first_number; to = last_number }
    pub apart : here ≢ there

  pub a-way : (way : Way) → way_between object (number_of names here) (number_of names there) ≡ Some way → IsWay way
  a-way way some = go (nat_eq first_number last_number) refl (sym between ∙ some) where
    go : (b : Bool) → nat_eq first_number last_number ≡ b
        → (if b then None else Some (record { object = object; from = first_number; to = last_number })) ≡ Some way
        → IsWay way
    go true same e = absurd (cc)
    go false same e = record {
      way_is = cc;
      apart = λ is. (let no : first_number ≢ last_number = eqb-false first_number last_number same in no
          (ap (number_in names) is));
    }

-- an object that is live doesn't depart to another region only on its last trip
pub only-last : (live here last : Bool) (fault : DepartFault)
    → (if live then (if here then Some Here else if last then Some LastTrip else None) else Some NotLive) ≡ Some fault
    → live ≡ true → here ≡ false → fault ≡ LastTrip
only-last true false true fault e l h = cc
only-last true false false fault e l h = absurd (cc)
only-last true true last fault e l h = absurd (cc)
only-last false here last fault e l h = absurd (cc)

pub not-last : (live here last : Bool)
    → (if live then (if here then Some Here else if last then Some LastTrip else None) else Some NotLive) ≡ None
    → last ≡ false
not-last true false false e = refl
not-last true false true e = absurd (cc)
not-last true true last e = absurd (cc)
not-last false here last e = absurd (cc)

-- an object of a world in memory arrives in this region
module _ (programs : List Program) (world : World) (w : SourceWorld) (is : IsOf programs world w) (object : ℕ)
    (region : List ℕ) where
  abbrev at_place : ℕ
  at_place = object - 1

  abbrev at_step : Step
  at_step = Cross object region

  abbrev at_rules : Rules
  at_rules = rules_of programs

  grid-at : region_in world.grid at_place ≡ (object_at w at_place).region
  grid-at = ap (λ (os : List Linkset). (get_or os at_place no_object).region) is.stands.objects

  -- what the object's arrival reports is what its crossing reports
  next-arrives : region_in world.grid at_place ≢ region → next at_rules at_step w ≡ arrive at_rules at_place region w
  next-arrives apart =
      ap (λ (b : Bool). if b then quiet w else arrive at_rules at_place region w)
      (bytes-differ (object_at w at_place).region region (λ e. apart (grid-at ∙ e)))

  module _ (apart : region_in world.grid at_place ≢ region) (grid : Contents) (due : List (ℕ × ℕ))
      (before after : List Entry) where
    pub comes-noted : {U F : Type 0} (result : Result U F)
        → Stands world.units None world.clock grid (arrive at_rules at_place region w).value
        → after ≡ before ++ (arrive at_rules at_place region w).entries → AreSeated world.units grid.seats
        → OnOk result ((codes : List Code) (clock : ℕ) (v : SourceWorld) → Stands codes None clock grid v
        → IsIndexOf (timings_of v) due)
        → Tells result (λ v _. IsOf programs (with_due world grid due) v) before after (next at_rules at_step w)
    comes-noted (Ok u) stands told seated index =
        subst (λ (a : Told SourceWorld). IsOf programs (with_due world grid due) a.value
        × (after ≡ before ++ a.entries))
        (sym (next-arrives apart)) (
          record {
            runs = is.runs;
            seated = seated;
            timely = is.timely;
            stands = stands;
            index = index world.units world.clock _ stands;
          },
          told,
        )
    comes-noted (Err f) stands told seated index =
        subst (λ (a : Told SourceWorld). Part before after a.entries) (sym (next-arrives apart))
        (part-all before after (arrive at_rules at_place region w).entries told)

    pub comes-failed : {U F : Type 0} (result : Result U F) (f : F) → result ≡ Err f → after ≡ before
        → Tells result (λ v _. IsOf programs (with_due world grid due) v) before after (next at_rules at_step w)
    comes-failed {U} {F} result f err same =
        subst (λ (x : Result U F). Tells x (λ v _. IsOf programs (with_due world grid due) v) before after
        (next at_rules at_step w)) (sym err)
        (subst (λ (es : List Entry). Part before es (next at_rules at_step w).entries) (sym same)
        (part-none before (next at_rules at_step w).entries))

-- a crossing of this object, in a world that the world in memory is
module _ (programs : List Program) (world : World) (w : SourceWorld) (is : IsOf programs world w)
    (regions : List (List ℕ)) (old : List (List Card)) (order : AreInOrder regions old (regions_of w)) (object : ℕ)
    (region : List ℕ) (there : HasNumber (length world.grid.objects) object) (named : IsNamed regions region)
    (entries : List (List ℕ)) (past : AreAllPast (length w.objects) (length regions) old entries) where
  abbrev place : ℕ
  place = object - 1

  abbrev step : Step
  step = Cross object region

  abbrev homes : List (List ℕ)
  homes = regions_of w

  abbrev here : List ℕ
  here = get_or homes place []

  abbrev r : Rules
  r = rules_of programs

  abbrev image : List ℕ
  image = image_in world.units world.grid place

  many : length world.grid.objects ≡ length w.objects
  many = ap length is.stands.objects

  many-homes : length homes ≡ length w.objects
  many-homes = length-map w.objects region_of

  one : IsOneOf (length homes) object
  one = (omega (arith, there.0), omega (arith, there.1, many, many-homes))

  object-here : (object_at w place).region ≡ here
  object-here = sym (get_or-map region_of w.objects place no_object [] (omega (arith, one.0, one.1, many-homes)))

  pub grid-here : region_in world.grid place ≡ here
  grid-here = ap (λ (os : List Linkset). (get_or os place no_object).region) is.stands.objects ∙ object-here

  pub named-here : IsNamed regions here
  named-here = order.named object one

  grid-is : world.grid ≡ contents_of world.units w
  grid-is = contents-is world.units world.clock world.grid w is.stands

  image-same : image ≡ parcel_of world.units w object
  image-same = ap (λ (g : Contents). image_in world.units g place) grid-is

  crosses-not : here ≡ region → is_crossing w step ≡ false
  crosses-not e = ap not ((bytes_eq-Decides (object_at w place).region region).1 (object-here ∙ e))

  crosses-so : here ≢ region → is_crossing w step ≡ true
  crosses-so apart = ap not (bytes-differ (object_at w place).region region (λ e. apart (sym object-here ∙ e)))

  abbrev tests : Bool → Bool → Told SourceWorld
  tests crossing arrived = if crossing then (if arrived then next r step w else quiet w) else quiet w

  module _ (trips : List Trip) where
    abbrev arrived_so : Bool
    arrived_so = arrives old (way_to regions homes object region) (parcel_of world.units w object) trips

    hand-not : is_crossing w step ≡ false → hand_on world.units r regions old step trips w ≡ quiet w
    hand-not e = ap (λ (b : Bool). tests b arrived_so) e

    hand-struck : is_crossing w step ≡ true → arrived_so ≡ false
        → hand_on world.units r regions old step trips w ≡ quiet w
    hand-struck e f = ap (λ (b : Bool). tests b arrived_so) e ∙ ap (λ (b : Bool). tests true b) f

    hand-moved : is_crossing w step ≡ true → arrived_so ≡ true
        → hand_on world.units r regions old step trips w ≡ next r step w
    hand-moved e f = ap (λ (b : Bool). tests b arrived_so) e ∙ ap (λ (b : Bool). tests true b) f

    -- nothing is reported
    module _ {T E : Type 0} (new_world : World) (new : List (List Card)) (result : Result T E) (log : List Entry)
        (still : hand_on world.units r regions old step trips w ≡ quiet w) (now : IsOf programs new_world w)
        (ordered : AreInOrder regions new homes)
        (later : AreAllPast (length w.objects) (length regions) new (entries_by entries trips))
        (few : (most : ℕ) → AreAtMost most old → AreAtMost (suc most) new)
        (sent : SendsNotes step result world.units regions w old new trips) where
      pub hands-still : Hands world.units r (IsOf programs new_world) regions old new step w entries trips log log
          result
      hands-still = record {
        tells = subst (λ (a : Told SourceWorld). Tells result (λ v _. IsOf programs new_world v) log log a) (sym still)
            (tells-quiet result programs new_world w log now);
        ordered = on-ok result (subst (λ (a : Told SourceWorld). AreInOrder regions new (regions_of a.value))
            (sym still)
            ordered);
        past = on-ok result later;
        few = λ most are. on-ok result (few most are);
        sent = sent;
      }

    -- it is reported that the object comes
    module _ {T E : Type 0} (new_world : World) (new : List (List Card)) (result : Result T E)
        (before after : List Entry)
        (moves : hand_on world.units r regions old step trips w ≡ next r step w)
        (crossing : is_crossing w step ≡ true)
        (told : Tells result (λ v _. IsOf programs new_world v) before after (next r step w))
        (ordered : AreInOrder regions new (slice_set homes place region))
        (later : AreAllPast (length w.objects) (length regions) new (entries_by entries trips))
        (few : (most : ℕ) → AreAtMost most old → AreAtMost (suc most) new)
        (sent : SendsNotes step result world.units regions w old new trips) where
      pub hands-moved : Hands world.units r (IsOf programs new_world) regions old new step w entries trips before after
          result
      hands-moved = record {
        tells = subst (λ (a : Told SourceWorld). Tells result (λ v _. IsOf programs new_world v) before after a)
            (sym moves) told;
        ordered = on-ok result (subst (λ (a : Told SourceWorld). AreInOrder regions new (regions_of a.value))
            (sym moves)
            (subst (λ (hs : List (List ℕ)). AreInOrder regions new hs) (sym (regions-cross r step w crossing))
            ordered));
        past = on-ok result later;
        few = λ most are. on-ok result (few most are);
        sent = sent;
      }

  abbrev more : (most : ℕ) → AreAtMost most old → AreAtMost (suc most) old
  more most are q s = omega (arith, are q s)

  -- the object is there
  pub hands-here : {T E : Type 0} (result : Result T E) (log : List Entry) → here ≡ region
      → Hands world.units r (IsOf programs world) regions old old step w entries [] log log result
  hands-here result log same =
      hands-still [] world old result log (hand-not [] (crosses-not same)) is order past more
      (subst (λ (b : Bool). SendsIf b result world.units regions w (way_to regions homes object region) old old [])
      (sym (crosses-not same)) (refl, refl))

  -- it goes on its way
  module _ (way : Way) (way_is : way ≡ way_to regions homes object region) (apart : here ≢ region) where
    own-object : way.object ≡ object
    own-object = ap (λ (x : Way). x.object) way_is

    from-is : way.from ≡ place_in regions homes object
    from-is = ap (λ (x : Way). x.from) way_is

    to-is : way.to ≡ number_in regions region
    to-is = ap (λ (x : Way). x.to) way_is

    crossing : is_crossing w step ≡ true
    crossing = crosses-so apart

    numbers-differ : way.to ≢ way.from
    numbers-differ e =
        apart (one-region regions here region named-here named (sym from-is ∙ sym e ∙ to-is))

    resting : IsAtRest old way.object way.from
    resting =
        subst (λ (o : ℕ). IsAtRest old o way.from) (sym own-object)
        (subst (λ (s : ℕ). IsAtRest old object s) (sym from-is) (order.rest object one))

    -- it departs, or its last trip was made
    departs-unless : (fault : DepartFault)
        → depart_fault (card_at old way.object way.from) way.from way.to ≡ Some fault → fault ≡ LastTrip
    departs-unless fault e =
        only-last (is_live (card_at old way.object way.from).phase) (nat_eq way.to way.from)
        (nat_eq (card_at old way.object way.from).trip last_trip) fault e
        (ap is_live resting.live.1) (ne_eqb way.to way.from numbers-differ)

    own-region : name_in regions way.from ≡ region_in world.grid (way.object - 1)
    own-region =
        ap (name_in regions) from-is ∙ name-number regions here named-here ∙ sym grid-here
        ∙ ap (λ (o : ℕ). region_in world.grid (o - 1)) (sym own-object)

    abbrev own_image : List ℕ
    own_image = image_in world.units world.grid (way.object - 1)

    image-is : own_image ≡ parcel_of world.units w object
    image-is = ap (λ (o : ℕ). image_in world.units world.grid (o - 1)) own-object ∙ image-same

    arrives-so : (trips : List Trip) → arrives old way own_image trips
        ≡ arrives old (way_to regions homes object region) (parcel_of world.units w object) trips
    arrives-so trips =
        ap (λ (x : Way). arrives old x own_image trips) way_is
        ∙ ap (λ (p : List ℕ). arrives old (way_to regions homes object region) p trips) image-is

    -- the same drive, in the world
    driven-so : {T E : Type 0} (result : Result T E) (new : List (List Card)) (trips : List Trip)
        → MatchResult result (λ _. IsDriven world.units regions w (way_to regions homes object region) old new trips)
        (λ _. IsDrivenPartly world.units regions w (way_to regions homes object region) old trips)
        → SendsNotes step result world.units regions w old new trips
    driven-so result new trips it =
        subst (λ (b : Bool). SendsIf b result world.units regions w (way_to regions homes object region) old new trips)
        (sym crossing) it

    cut-so : (trips : List Trip)
        → IsCut (length world.grid.objects) (length regions) (IsTaken (IsImageFrom world.units world.grid regions)) way
        (departure old way own_image) trips
        → IsDrivenPartly world.units regions w (way_to regions homes object region) old trips
    cut-so trips cut =
        subst (λ (p : List ℕ). IsCut (length w.objects) (length regions)
        (IsTaken (IsImageFrom world.units (contents_of world.units w) regions)) (way_to regions homes object region)
        (departure old (way_to regions homes object region) p) trips) image-is
        (subst (λ (x : Way). IsCut (length w.objects) (length regions)
        (IsTaken (IsImageFrom world.units (contents_of world.units w) regions)) x (departure old x own_image) trips)
        way_is
        (subst (λ (g : Contents). IsCut (length w.objects) (length regions)
        (IsTaken (IsImageFrom world.units g regions)) way (departure old way own_image) trips) grid-is
        (subst (λ (n : ℕ). IsCut n (length regions) (IsTaken (IsImageFrom world.units world.grid regions)) way
        (departure old way own_image) trips) many cut)))

    over-so : (new : List (List Card)) (trips : List Trip) (landed : Option Note)
        → IsHandedOver (length world.grid.objects) (length regions)
        (IsTaken (IsImageFrom world.units world.grid regions))
        way own_image trips old new landed
        → IsDriven world.units regions w (way_to regions homes object region) old new trips
    over-so new trips landed over = inl (
      landed,
      subst (λ (p : List ℕ). IsHandedOver (length w.objects) (length regions)
          (IsTaken (IsImageFrom world.units (contents_of world.units w) regions)) (way_to regions homes object region) p
          trips old new landed) image-is
          (subst (λ (x : Way). IsHandedOver (length w.objects) (length regions)
          (IsTaken (IsImageFrom world.units (contents_of world.units w) regions)) x own_image trips old new landed)
          way_is
          (subst (λ (g : Contents). IsHandedOver (length w.objects) (length regions)
          (IsTaken (IsImageFrom world.units g regions)) way own_image trips old new landed) grid-is
          (subst (λ (n : ℕ). IsHandedOver n (length regions) (IsTaken (IsImageFrom world.units world.grid regions)) way
          own_image trips old new landed) many over))),
    )

    -- memory ran out on its way
    pub hands-cut : {T E : Type 0} (result : Result T E) (e : E) (new_world : World) (new : List (List Card))
        (trips : List Trip) (log : List Entry) → result ≡ Err e
        → IsCut (length world.grid.objects) (length regions) (IsTaken (IsImageFrom world.units world.grid regions)) way
        (departure old way own_image) trips
        → Hands world.units r (IsOf programs new_world) regions old new step w entries trips log log result
    hands-cut {T} {E} result e new_world new trips log err cut =
        subst (λ (x : Result T E). Hands world.units r (IsOf programs new_world) regions old new step w entries
        trips log
        log x) (sym err)
        (record {
          tells = part-none log (hand_on world.units r regions old step trips w).entries;
          ordered = tt;
          past = tt;
          few = λ most are. tt;
          sent = (let failed : Result T E = Err e in driven-so failed new trips (cut-so trips cut));
        })

    -- its last trip was made
    pub hands-last : {T E : Type 0} (result : Result T E) (log : List Entry) (fault : DepartFault)
        → depart_fault (card_at old way.object way.from) way.from way.to ≡ Some fault
        → Hands world.units r (IsOf programs world) regions old old step w entries [] log log result
    hands-last result log fault e =
        hands-still [] world old result log (hand-struck [] crossing refl) is order past more (sent result)
      where
        last : IsDriven world.units regions w (way_to regions homes object region) old old []
        last = inr (
          subst (λ (x : Way). depart_fault (card_at old x.object x.from) x.from x.to ≡ Some LastTrip) way_is
              (e ∙ ap (λ (f : DepartFault). Some f) (departs-unless fault e)),
          refl,
          refl,
        )

        sent : {T E : Type 0} (x : Result T E) → SendsNotes step x world.units regions w old old []
        sent {T} {E} (Ok t) = let done : Result T E = Ok t in driven-so done old [] last
        sent {T} {E} (Err f) = let failed : Result T E = Err f in driven-so failed old [] tt

    module _ (sent_is : IsSent world.units world.grid (way.object - 1))
        (own_fits : CanArrive world.units world.grid (way.object - 1) (parts_of_object world.grid (way.object - 1)))
      where
        own-offer : IsImageFrom world.units world.grid regions (next_offer old way own_image)
            (parts_of_object world.grid (way.object - 1))
        own-offer = record {
          image = subst (λ (s : List ℕ). ObjectImage s (shape_of (parts_of_object world.grid (way.object - 1)))
              world.units
              (parts_of_object world.grid (way.object - 1)) own_image) (sym own-region) sent_is;
          fits = own_fits;
        }

        may-rest : (trips : List Trip) → AreCarried (length w.objects) (length regions) entries trips
            → MayRest (length world.grid.objects) (length regions)
            (IsTaken (IsImageFrom world.units world.grid regions))
            (place_in regions homes) old way own_image entries trips
        may-rest trips carried = record {
          rest = λ q there. order.rest q (subst (λ (n : ℕ). IsOneOf n q) order.counts.rows there);
          home = ap (place_in regions homes) own-object ∙ sym from-is;
          fit = order.fit;
          takes = (parts_of_object world.grid (way.object - 1), own-offer);
          past = subst (λ (n : ℕ). AreAllPast n (length regions) old entries) (sym many) past;
          carried = subst (λ (n : ℕ). AreCarried n (length regions) entries trips) (sym many) carried;
        }

        -- it was driven to the end
        module _ (trips : List Trip) (new : List (List Card)) (landed : Option Note) (given : Option ObjectParts)
            (over : IsHandedOver (length world.grid.objects) (length regions)
            (IsTaken (IsImageFrom world.units world.grid regions)) way own_image trips old new landed)
            (given_of : IsGivenOf (IsImageFrom world.units world.grid regions) landed given)
            (rests : Rests (length world.grid.objects) (length regions) old new way own_image entries trips landed)
            (new_counts : HasCounts (length world.grid.objects) (length regions) new) where
          abbrev came : Bool
          came = arrives old way own_image trips

          fits : next_trip old way < 2 ^ 64
          fits =
              let few : (card_at old way.object way.from).trip < 2 ^ 64 = order.fit way.object way.from in
              let far : (card_at old way.object way.from).trip ≢ 18446744073709551615 =
              eqb-false (card_at old way.object way.from).trip 18446744073709551615
              (not-last (is_live (card_at old way.object way.from).phase) (nat_eq way.to way.from)
              (nat_eq (card_at old way.object way.from).trip last_trip) over.departs) in
              omega (arith, few, far)

          counts-new : HasCounts (length homes) (length regions) new
          counts-new = subst (λ (n : ℕ). HasCounts n (length regions) new) (many ∙ sym many-homes) new_counts

          one-way : IsOneOf (length homes) way.object
          one-way = subst (λ (o : ℕ). IsOneOf (length homes) o) (sym own-object) one

          home-way : place_in regions homes way.object ≡ way.from
          home-way = ap (place_in regions homes) own-object ∙ sym from-is

          later : AreAllPast (length w.objects) (length regions) new (entries_by entries trips)
          later = subst (λ (n : ℕ). AreAllPast n (length regions) new (entries_by entries trips)) many rests.past

          few-more : (most : ℕ) → AreAtMost most old → AreAtMost (suc most) new
          few-more =
              most-next regions homes old new way region order counts-new one-way home-way (sym to-is) named
              rests.others
              (if came then way.to else way.from) rests.rests rests.after

          pub not-given : given ≡ None → came ≡ false
          not-given none = go came refl where
            go : (b : Bool) → came ≡ b → b ≡ false
            go false e = refl
            go true e =
                let some : landed ≡ Some (next_offer old way own_image) =
                rests.landed_is ∙ ap (λ (b : Bool). if b then Some (next_offer old way own_image) else None) e in
                absurd (subst (λ (x : Option Note). IsGivenOf (IsImageFrom world.units world.grid regions) x None) some
                (subst (λ (x : Option ObjectParts). IsGivenOf (IsImageFrom world.units world.grid regions) landed x)
                none
                given_of))

          pub given-own : (parts : ObjectParts) → given ≡ Some parts
              → (came ≡ true) × (parts ≡ parts_of_object world.grid (way.object - 1))
          given-own parts some = go came refl where
            stands : (o : Option Note) → landed ≡ o → IsGivenOf (IsImageFrom world.units world.grid regions) o
                (Some parts)
            stands o e =
                subst (λ (x : Option Note). IsGivenOf (IsImageFrom world.units world.grid regions) x (Some parts)) e
                (subst (λ (x : Option ObjectParts). IsGivenOf (IsImageFrom world.units world.grid regions) landed x)
                some
                given_of)

            go : (b : Bool) → came ≡ b
                → (b ≡ true) × (parts ≡ parts_of_object world.grid (way.object - 1))
            go false e =
                absurd (stands None
                (rests.landed_is ∙ ap (λ (b : Bool). if b then Some (next_offer old way own_image) else None) e))
            go true e =
                let from_offer = stands (Some (next_offer old way own_image))
                (rests.landed_is ∙ ap (λ (b : Bool). if b then Some (next_offer old way own_image) else None) e) in (
                  refl,
                  image-one (object_layout (name_in regions way.from)
                      (shape_of (parts_of_object world.grid (way.object - 1))) world.units) own_image parts
                      (parts_of_object world.grid (way.object - 1)) from_offer.image own-offer.image,
                )

          driven-sent : {T E : Type 0} (x : Result T E) → SendsNotes step x world.units regions w old new trips
          driven-sent {T} {E} (Ok t) =
              let done : Result T E = Ok t in driven-so done new trips (over-so new trips landed over)
          driven-sent {T} {E} (Err e) =
              let failed : Result T E = Err e in
              driven-so failed new trips (cut-so trips
              (drives-cut (length world.grid.objects) (length regions)
              (IsTaken (IsImageFrom world.units world.grid regions)) way trips (departure old way own_image) over.last
              over.drives))

          -- the object stays
          pub hands-stays : {T E : Type 0} (result : Result T E) (log : List Entry) → given ≡ None
              → Hands world.units r (IsOf programs world) regions old new step w entries trips log log result
          hands-stays result log none =
              let out = not-given none in
              hands-still trips world new result log (hand-struck trips crossing (sym (arrives-so trips) ∙ out)) is
              (order-stays regions homes old new way region order counts-new one-way home-way (sym to-is) named
              rests.others
              (subst (λ (b : Bool). IsAtRest new way.object (if b then way.to else way.from)) out rests.rests)
              (subst (λ (b : Bool). (card_at new way.object (if b then way.to else way.from)).trip ≡ next_trip old way)
              out
              rests.after) fits)
              later few-more (driven-sent result)

          -- the object comes
          pub hands-comes : {T E : Type 0} (result : Result T E) (new_world : World) (before after : List Entry)
              (parts : ObjectParts) → given ≡ Some parts
              → Tells result (λ v _. IsOf programs new_world v) before after (next r step w)
              → Hands world.units r (IsOf programs new_world) regions old new step w entries trips before after result
          hands-comes result new_world before after parts some told =
              let yes = (given-own parts some).0 in
              hands-moved trips new_world new result before after
              (hand-moved trips crossing (sym (arrives-so trips) ∙ yes))
              crossing told
              (subst (λ (o : ℕ). AreInOrder regions new (slice_set homes (o - 1) region)) own-object
              (order-moved regions homes old new way region order counts-new one-way home-way (sym to-is) named
              rests.others
              (subst (λ (b : Bool). IsAtRest new way.object (if b then way.to else way.from)) yes rests.rests)
              (subst (λ (b : Bool). (card_at new way.object (if b then way.to else way.from)).trip ≡ next_trip old way)
              yes
              rests.after) fits))
              later few-more (driven-sent result)

        -- by the result of the drive
        module _ {T E : Type 0} (result : Result T E) (new_world : World) (new : List (List Card)) (trips : List Trip)
            (before after : List Entry) (carried : AreCarried (length w.objects) (length regions) entries trips)
            (new_counts : HasCounts (length world.grid.objects) (length regions) new) where
          abbrev IsHands : Type 0
          IsHands = Hands world.units r (IsOf programs new_world) regions old new step w entries trips before after
              result

          abbrev Stayed : Option ObjectParts → Type 0
          Stayed given = given ≡ None → (new_world ≡ world) × (after ≡ before)

          abbrev Came : Option ObjectParts → Type 0
          Came given =
              given ≡ Some (parts_of_object world.grid (way.object - 1))
              → Tells result (λ v _. IsOf programs new_world v) before after (next r step w)

          still-hands : (new_world ≡ world) × (after ≡ before)
              → Hands world.units r (IsOf programs world) regions old new step w entries trips before before result
              → IsHands
          still-hands same hands =
              subst (λ (log : List Entry). Hands world.units r (IsOf programs new_world) regions old new step w
              entries trips
              before log result) (sym same.1)
              (subst (λ (x : World). Hands world.units r (IsOf programs x) regions old new step w entries trips
              before before result) (sym same.0) hands)

          by-given : (given : Option ObjectParts) → Stayed given → Came given
              → DrivesTo world.units regions world.grid way old new trips given → IsHands
          by-given None stayed came (inl (landed, over, given_of, rests)) =
              still-hands (stayed refl)
              (hands-stays trips new landed None over given_of
              (rests (place_in regions homes) entries (may-rest trips carried)) new_counts result before refl)
          by-given (Some parts) stayed came (inl (landed, over, given_of, rests)) =
              let all = rests (place_in regions homes) entries (may-rest trips carried) in
              let own = (given-own trips new landed (Some parts) over given_of all new_counts parts refl).1 in
              hands-comes trips new landed (Some parts) over given_of all new_counts result new_world before after
              parts refl
              (came (ap (λ (p : ObjectParts). Some p) own))
          by-given None stayed came (inr (fault, e, none, same, gone)) =
              still-hands (stayed refl)
              (subst (λ (ts : List Trip). Hands world.units r (IsOf programs world) regions old new step w entries ts
              before
              before result) (sym none)
              (subst (λ (cs : List (List Card)). Hands world.units r (IsOf programs world) regions old cs step w
              entries []
              before before result) (sym same) (hands-last result before fault e)))
          by-given (Some parts) stayed came (inr (fault, e, none, same, gone)) = absurd (cc)

          pub hands-driven : (given : Option ObjectParts) → Stayed given → Came given
              → DrivesTo world.units regions world.grid way old new trips given → IsHands
          hands-driven = by-given

-- a drive by other names of the same numbers and bytes
abbrev pub OverBy : List Code → List (List ℕ) → Contents → Way → (old new : List (List Card)) → List Trip
    → Option ObjectParts → (n m : ℕ) → List ℕ → Type 0
OverBy codes regions grid way old new trips given n m parcel =
    (landed : Option Note) × IsHandedOver n m (IsTaken (IsImageFrom codes grid regions)) way parcel trips old new landed
    × IsGivenOf (IsImageFrom codes grid regions) landed given
    × ((place : ℕ → ℕ) (entries : List (List ℕ))
    → MayRest n m (IsTaken (IsImageFrom codes grid regions)) place old way parcel entries trips
    → Rests n m old new way parcel entries trips landed)

module _ (codes : List Code) (regions : List (List ℕ)) (grid : Contents) (way : Way) (old new : List (List Card))
    (trips : List Trip) (n m k l : ℕ) (parcel image : List ℕ) (objects : n ≡ k) (count : m ≡ l) (same : parcel ≡ image)
  where
    pub over-as : (given : Option ObjectParts) → OverBy codes regions grid way old new trips given n m parcel
        → OverBy codes regions grid way old new trips given k l image
    over-as given over =
        subst (λ (p : List ℕ). OverBy codes regions grid way old new trips given k l p) same
        (subst (λ (q : ℕ). OverBy codes regions grid way old new trips given k q parcel) count
        (subst (λ (o : ℕ). OverBy codes regions grid way old new trips given o m parcel) objects over))

    pub cut-as : IsCut n m (IsTaken (IsImageFrom codes grid regions)) way (departure old way parcel) trips
        → IsCut k l (IsTaken (IsImageFrom codes grid regions)) way (departure old way image) trips
    cut-as cut =
        subst (λ (p : List ℕ). IsCut k l (IsTaken (IsImageFrom codes grid regions)) way (departure old way p) trips)
        same
        (subst (λ (q : ℕ). IsCut k q (IsTaken (IsImageFrom codes grid regions)) way (departure old way parcel) trips)
        count
        (subst (λ (o : ℕ). IsCut o m (IsTaken (IsImageFrom codes grid regions)) way (departure old way parcel) trips)
        objects cut))

-- each offer of an object's image, as it is, is an own one
pub own-image : (codes : List Code) (regions : List (List ℕ)) (grid : Contents) (way : Way) (parcel : List ℕ)
    → name_in regions way.from ≡ region_in grid (way.object - 1) → parcel ≡ image_in codes grid (way.object - 1)
    → IsSent codes grid (way.object - 1)
    → CanArrive codes grid (way.object - 1) (parts_of_object grid (way.object - 1)) → (trip : ℕ)
    → IsOwnImage codes grid regions (offer_of way.object trip way.from way.to parcel)
own-image codes regions grid way parcel here same sent fits trip =
    let parts = parts_of_object grid (way.object - 1) in
    record {
      image = subst (λ (s : List ℕ). ObjectImage s (shape_of parts) codes parts parcel) (sym here)
          (subst (λ (p : List ℕ). ObjectImage (region_in grid (way.object - 1)) (shape_of parts) codes parts p)
          (sym same)
          sent);
      fits = fits;
    }

-- both regions have a card of the object
pub has-way : (n m : ℕ) (cards : List (List Card)) (way : Way) → HasCounts n m cards → IsOneOf n way.object
    → IsOneOf m way.from → IsOneOf m way.to → HasWay cards way
has-way n m cards way counts object from to =
    let row = subst (λ (k : ℕ). IsOneOf k way.object) (sym counts.rows) object in
    let long = counts.cards way.object object in (
      (row, subst (λ (k : ℕ). IsOneOf k way.from) (sym long) from),
      (row, subst (λ (k : ℕ). IsOneOf k way.to) (sym long) to),
    )
