-- The result of a step of a world in memory is its result at its stage.
use Rattle.std.proofs.Common.{◌≡◌, ◌≢◌, ◌∙◌, ◌-◌, ◌<◌, ◌≤◌, ◌^◌, ◌⊎◌, inl, inr, refl, ap, sym, subst, arith, ℕ, Bool, true, false, if◌then◌else◌, List, [], ◌∷◌, ◌++◌, append-nil, get_or, length, take, Option, Some, None}
use Rattle.std.specs.Prelude.{Contains, not}
use Rattle.std.specs.declared.result.Result.{Result}
use Rattle.std.specs.declared.result.Result.TheVariants.{Ok, Err}
use Rattle.std.proofs.Math.ListN.{get_or-map}
use Rattle.std.proofs.lemmas.List.{length-map}
use Rattle.std.proofs.lemmas.List.Elements.{Contains-append_cases, Contains-append_right}
use Rattle.lsl_code.specs.declared.woven_units.Woven.{Woven as Code}
use Rattle.lsl_ports.specs.Growth.{Begins}
use Rattle.lsl_ports.specs.Trips.{Trip, sent_of}
use Rattle.lsl_post.specs.declared.entries.Entry.{Entry}
use Rattle.lsl_post.specs.Journal.{Part, Tells}
use Rattle.lsl_post.specs.Told.{Told, as_value, quiet}
use Rattle.lsl_handoff.specs.declared.card.Card.{Card}
use Rattle.lsl_handoff.specs.declared.drive.Way.{Way}
use Rattle.lsl_handoff.specs.declared.faults.DepartFault.{DepartFault}
use Rattle.lsl_handoff.specs.declared.faults.DepartFault.TheVariants.{LastTrip}
use Rattle.lsl_handoff.specs.declared.note.Note.{Note}
use Rattle.lsl_handoff.specs.Cards.{depart_fault}
use Rattle.lsl_handoff.specs.DriveLaws.{AreAtRest, Neither, IsPast, departure, next_offer, next_trip}
use Rattle.lsl_handoff.specs.Drives.{HasWay, Moment, asks, rested}
use Rattle.lsl_handoff.specs.Entries.{AreAllPast, AreCarried, CameBackOf, arrives, comes}
use Rattle.lsl_handoff.specs.Fields.{IsOneOf, card_at}
use Rattle.lsl_handoff.specs.Handovers.{Drives, HasCounts, IsCut, IsHandedOver}
use Rattle.lsl_handoff.specs.NoteBytes.{IsNoteOf, note_bytes}
use Rattle.lsl_handoff.specs.NoteLaws.{AreCounts}
use Rattle.lsl_handoff.specs.Notes.{cancel_of}
use Rattle.lsl_handoff.proofs.HandoverLemmas.{left}
use Rattle.lsl_handoff.proofs.Moving.{Moves}
use Rattle.lsl_handoff.proofs.WrittenLemmas.{written-is}
use Rattle.lsl_image.specs.Images.{ObjectImage}
use Rattle.lsl_image.specs.Valid.{shape_of}
use Rattle.lsl_tree.specs.Program.{Program}
use Rattle.lsl_script.specs.Rules.{Rules}
use Rattle.lsl_region.specs.Crossings.{region_in}
use Rattle.lsl_region.specs.Grids.{Contents}
use Rattle.lsl_region.specs.Journeys.{Sends, contents_of, is_in_region}
use Rattle.lsl_region.specs.ObjectParts.{parts_of_object}
use Rattle.lsl_region.specs.Worlds.{World as SourceWorld, no_object}
use Rattle.lsl_region.proofs.Journeys.{contents-is}
use Rattle.lsl_lines.specs.declared.file.Step.{Step}
use Rattle.lsl_lines.specs.declared.file.Step.TheVariants.{Cross}
use Rattle.lsl_world.specs.declared.world.World.{World}
use Rattle.lsl_world.specs.Kept.{region_of, regions_of}
use Rattle.lsl_world.specs.Lossy.{Driven, Gone, IsFairBy, IsFairFrom, Stage, WasCarried, WereCarried, bytes_of, departs_unless, goes, goes_by, goes_plainly}
use Rattle.lsl_world.specs.Orders.{AreInOrder, Hands, IsDriven, IsOfferIn, IsSentOf, SendsIf, SendsNotes, SendsOf, SendsOfStep, hand_on, parcel_of, place_in, way_to}
use Rattle.lsl_world.specs.Programs.{rules_of}
use Rattle.lsl_world.specs.Regions.{IsNamed, LeadsToNamed, name_in}
use Rattle.lsl_world.specs.Sizes.{HasNumber, IsStepOf}
use Rattle.lsl_world.specs.Stages.{DoesAt, IsAt, IsOrderly}
use Rattle.lsl_world.specs.Stands.{IsOf, prims_of, size_of}
use Rattle.lsl_world.specs.Steps.{next}
use Rattle.lsl_world.specs.Travels.{Does, go_on, is_crossing}
use Rattle.lsl_world.proofs.Crossed.{IsReady, cross-gone, drive, far, here-gone, objects-same, ready-behind, rest, same-count, stage_by, told-is, trip-fits, way-has, with_world}
use Rattle.lsl_world.proofs.Following.{Follows, follows, follows-cut}
use Rattle.lsl_world.proofs.Heard.{AreKnown, note-intact}
use Rattle.lsl_world.proofs.Landing.{Lands, begins-so, begins-with, departs-asks, is_first, lands, most-trips, stays-silent}
use Rattle.lsl_world.proofs.Numbering.{name-number}
use Rattle.lsl_world.proofs.Regions.{regions-stay}
use Rattle.lsl_world.proofs.Shapes.{keys_of, next-keys, next-units, offers-kept, units_of}

-- ---- what is reported

tells-to : {T E X Y : Type 0} (r : Result T E) (First : X → Type 0) (Second : Y → Type 0) (old new : List Entry)
    (f : X → Y) (a : Told X) → (First a.value → Second (f a.value)) → Tells r (λ x _. First x) old new a
    → Tells r (λ y _. Second y) old new (as_value f a)
tells-to (Ok t) First Second old new f a into told = (into told.0, told.1)
tells-to (Err e) First Second old new f a into told = told

nothing-added : (added missing : List Entry) → added ++ missing ≡ [] → added ≡ []
nothing-added [] missing e = refl
nothing-added (a ∷ added) missing e = absurd (cc)

-- where nothing was to be reported, nothing was, and that is a prefix of all
part-nothing : (old new entries : List Entry) → Part old new [] → Part old new entries
part-nothing old new entries part = record {
  added = [];
  missing = entries;
  now = part.now ∙ ap (λ (es : List Entry). old ++ es) (nothing-added part.added part.missing part.all);
  all = refl;
}

sends-nothing : {T E : Type 0} (result : Result T E) → Sends result [] []
sends-nothing (Ok t) = refl
sends-nothing (Err e) = record { others = []; whole = refl }

-- the trips of first notes are no more than these
take-all : (notes : List Note) (trips : List Trip) → Begins (sent_of trips) (bytes_of notes)
    → take (length notes) trips ≡ trips
take-all [] [] begins = refl
take-all [] (t ∷ trips) begins = absurd (let none = begins.whole in cc)
take-all (n ∷ notes) [] begins = refl
take-all (n ∷ notes) (t ∷ trips) begins =
    ap (λ (ts : List Trip). t ∷ ts)
    (take-all notes trips (begins-with t trips (note_bytes n) (bytes_of notes) begins).others)

begins-same : (trips : List Trip) (all : List (List ℕ)) → sent_of trips ≡ all → Begins (sent_of trips) all
begins-same trips all e = record { others = []; whole = append-nil (sent_of trips) ∙ e }

begins-nil : (xs all : List (List ℕ)) → Begins xs all → Begins xs (all ++ [])
begins-nil xs all begins = subst (λ (z : List (List ℕ)). Begins xs z) (sym (append-nil all)) begins

-- ---- what came back, and what was handed over

among-notes : (notes : List Note) (bytes : List ℕ) → Contains (bytes_of notes) bytes
    → (note : Note) × Contains notes note × (note_bytes note ≡ bytes)
among-notes [] bytes (k, lt, at) = absurd (omega (arith, lt))
among-notes (n ∷ notes) bytes has =
    go (Contains-append_cases (note_bytes n ∷ []) (bytes_of notes) bytes has) (λ more. among-notes notes bytes more)
  where
    go : Contains (note_bytes n ∷ []) bytes ⊎ Contains (bytes_of notes) bytes
        → (Contains (bytes_of notes) bytes → (note : Note) × Contains notes note × (note_bytes note ≡ bytes))
        → (note : Note) × Contains (n ∷ notes) note × (note_bytes note ≡ bytes)
    go (inl (k, lt, at)) on =
        let none : k ≡ 0 = omega (arith, lt) in
        (n, (0, omega arith, refl), subst (λ (i : ℕ). get_or (note_bytes n ∷ []) i bytes ≡ bytes) none at)
    go (inr more) on =
        let (note, there, same) = on more in (note, Contains-append_right (n ∷ []) notes note there, same)

module _ (objects regions : ℕ) where
  came-so : (entries : List (List ℕ)) (back : Option (List ℕ)) → WasCarried entries back
      → CameBackOf objects regions entries back
  came-so entries None was = tt
  came-so entries (Some bytes) (inl among) = inl among
  came-so entries (Some bytes) (inr broken) =
      inr (λ note read. broken (note-intact objects regions bytes note read))

  all-carried : (entries : List (List ℕ)) (trips : List Trip) → WereCarried entries trips
      → AreCarried objects regions entries trips
  all-carried entries [] fair = tt
  all-carried entries (t ∷ trips) fair =
      (came-so (entries ++ t.sent ∷ []) t.back fair.0, all-carried (entries ++ t.sent ∷ []) trips fair.1)

  all-past : (ranges : AreCounts objects regions) (cards : List (List Card)) (notes : List Note)
      → ((note : Note) → Contains notes note → IsPast cards note)
      → ((note : Note) → Contains notes note → IsNoteOf objects regions (note_bytes note) note)
      → AreAllPast objects regions cards (bytes_of notes)
  all-past ranges cards notes past are note (bytes, among, read) =
      let (n, there, same) = among-notes notes bytes among in
      let own : IsNoteOf objects regions bytes n =
      subst (λ (z : List ℕ). IsNoteOf objects regions z n) same (are n there) in
      let is : n ≡ note =
      sym (written-is objects regions ranges.0 ranges.1 bytes own.fits n own)
      ∙ written-is objects regions ranges.0 ranges.1 bytes read.fits note read in
      subst (λ (x : Note). IsPast cards x) is (past n there)

no-past : (objects regions : ℕ) (cards : List (List Card)) → AreAllPast objects regions cards []
no-past objects regions cards note (bytes, (k, lt, at), read) = absurd (omega (arith, lt))

none-carried : (objects regions : ℕ) (entries : List (List ℕ)) (trips : List Trip) → trips ≡ []
    → AreCarried objects regions entries trips
none-carried objects regions entries trips none =
    subst (λ (ts : List Trip). AreCarried objects regions entries ts) (sym none) tt

-- a step that isn't a crossing reports what it reports without notes
stays-quiet : (there : Bool) (w : SourceWorld) (a : Told SourceWorld) → not there ≡ false
    → quiet w ≡ (if there then quiet w else a)
stays-quiet true w a e = refl
stays-quiet false w a e = absurd (cc)

hand_on-here : (codes : List Code) (r : Rules) (regions : List (List ℕ)) (cards : List (List Card)) (step : Step)
    (trips : List Trip) (w : SourceWorld) → is_crossing w step ≡ false
    → hand_on codes r regions cards step trips w ≡ next r step w
hand_on-here codes r regions cards (Cross object region) trips w e =
    ap (λ (b : Bool). if b
    then (if arrives cards (way_to regions (regions_of w) object region) (parcel_of codes w object) trips
    then next r (Cross object region) w
    else quiet w)
    else quiet w) e
    ∙ stays-quiet (is_in_region w (object - 1) region) w _ e
hand_on-here codes r regions cards step trips w e = refl

sends-none : {T E : Type 0} (step : Step) (result : Result T E) (codes : List Code) (regions : List (List ℕ))
    (w : SourceWorld) (old new : List (List Card)) (trips : List Trip) → is_crossing w step ≡ false
    → SendsNotes step result codes regions w old new trips → (trips ≡ []) × (new ≡ old)
sends-none (Cross object region) result codes regions w old new trips e sends =
    subst (λ (b : Bool). SendsIf b result codes regions w (way_to regions (regions_of w) object region) old new trips) e
    sends
sends-none step result codes regions w old new trips e sends = sends

some-same : {A : Type 0} (x y : A) → Some x ≡ Some y → x ≡ y
some-same x y e = cc

-- ---- a step of a world in memory

module _ (T E : Type 0) (programs : List Program) (old new : World) (units : new.units ≡ old.units)
    (names : new.regions ≡ old.regions) (trips : List Trip) (before after : List Entry) (stage : Stage)
    (is : IsAt programs old stage) (fair : IsFairFrom stage trips) where
  abbrev r : Rules
  r = rules_of programs

  abbrev codes : List Code
  codes = old.units

  abbrev regions : List (List ℕ)
  regions = old.regions

  abbrev w : SourceWorld
  w = stage.world

  abbrev pub IsDone : Step → Result T E → Type 0
  IsDone step result = DoesAt codes r regions (λ s. IsAt programs new s) step stage trips before after result

  -- a world in which objects cross as images
  pub at-plain : (step : Step) (result : Result T E) → old.cards ≡ None → new.cards ≡ None
      → Does codes r (IsOf programs new) step w trips before after result → IsDone step result
  at-plain step result were are does =
      let none : stage.cards ≡ None = sym is.cards ∙ were in
      record {
        tells = subst
            (λ (o : Option (List (List Card))).
            Tells result (λ s _. IsAt programs new s) before after (goes_by o codes r regions step stage trips).told)
            (sym none)
            (tells-to result (λ v. IsOf programs new v) (λ s. IsAt programs new s) before after
            (λ v. with_world stage v)
            (go_on r step trips w)
            (λ of. record {
              of = of;
              cards = are ∙ sym none;
              ordered = λ cards some. absurd (let no : None ≡ Some cards = sym none ∙ some in cc);
            }) (does.tells (subst (λ (o : Option (List (List Card))). IsFairBy o stage.notes trips) none fair)));
        sent = subst (λ (o : Option (List (List Card))).
            Sends result trips (goes_by o codes r regions step stage trips).sent) (sym none) does.sent;
      }

  -- and one in which they are handed over by notes
  module _ (cards later : List (List Card)) (were : old.cards ≡ Some cards) (are : new.cards ≡ Some later) where
    abbrev HandsFor : Step → Result T E → List (List ℕ) → Type 0
    HandsFor step result entries =
        Hands codes r (IsOf programs new) regions cards later step w entries trips before after result

    have : stage.cards ≡ Some cards
    have = sym is.cards ∙ were

    order : IsOrderly codes regions cards stage
    order = is.ordered cards have

    at-now : (s : Stage) → IsOf programs new s.world → s.cards ≡ Some later → IsOrderly codes regions later s
        → IsAt programs new s
    at-now s of some ordered = record {
      of = of;
      cards = are ∙ sym some;
      ordered = λ cs e. subst (λ (x : List (List Card)). IsOrderly new.units new.regions x s)
          (some-same later cs (sym some ∙ e))
          (subst (λ (c : List Code). IsOrderly c new.regions later s) (sym units)
          (subst (λ (ns : List (List ℕ)). IsOrderly codes ns later s) (sym names) ordered));
    }

    stays-orderly : (v : SourceWorld) → keys_of v ≡ keys_of w → units_of v ≡ units_of w → regions_of v ≡ regions_of w
        → IsOrderly codes regions cards (with_world stage v)
    stays-orderly v keys scripts same = record {
      order = subst (λ (hs : List (List ℕ)). AreInOrder regions cards hs) (sym same) order.order;
      past = order.past;
      notes = λ n has. subst (λ (k : ℕ). IsNoteOf k (length regions) (note_bytes n) n) (sym (same-count v w same))
          (order.notes n has);
      offers = λ n has. offers-kept codes regions v w keys scripts n.kind n (order.offers n has);
    }

    pub at-here : (step : Step) (result : Result T E) → is_crossing w step ≡ false → trips ≡ []
        → HandsFor step result []
        → IsDone step result
    at-here step result here none hands =
        let v = (next r step w).value in
        let same : later ≡ cards = (sends-none step result codes regions w cards later trips here hands.sent).1 in
        let gone = here-gone codes r regions stage step here trips in
        record {
          tells = subst (λ (g : Gone). Tells result (λ s _. IsAt programs new s) before after g.told) (sym gone)
              (tells-to result (λ x. IsOf programs new x) (λ s. IsAt programs new s) before after
              (λ x. with_world stage x) (next r step w)
              (λ of. at-now (with_world stage v) of (have ∙ ap (λ (cs : List (List Card)). Some cs) (sym same))
              (subst (λ (cs : List (List Card)). IsOrderly codes regions cs (with_world stage v)) (sym same)
              (stays-orderly v (next-keys r step w) (next-units r step w) (regions-stay r step w here))))
              (subst (λ (a : Told SourceWorld). Tells result (λ x _. IsOf programs new x) before after a)
              (hand_on-here codes r regions cards step trips w here) hands.tells));
          sent = subst (λ (g : Gone). Sends result trips g.sent) (sym gone)
              (subst (λ (ts : List Trip). Sends result ts []) (sym none) (sends-nothing result));
        }

    -- a crossing
    module _ (object : ℕ) (region : List ℕ) (named : IsNamed regions region)
        (number : HasNumber (length old.grid.objects) object)
        (crossing : is_crossing w (Cross object region) ≡ true) where
      abbrev step : Step
      step = Cross object region

      abbrev homes : List (List ℕ)
      homes = regions_of w

      abbrev here : List ℕ
      here = get_or homes (object - 1) []

      abbrev way : Way
      way = way_to regions homes object region

      abbrev parcel : List ℕ
      parcel = parcel_of codes w object

      abbrev objects : ℕ
      objects = length w.objects

      abbrev HandsBy : Result T E → Type 0
      HandsBy result =
          (entries : List (List ℕ)) → AreAllPast objects (length regions) cards entries
          → AreCarried objects (length regions) entries trips → HandsFor step result entries

      same-objects : length old.grid.objects ≡ objects
      same-objects = ap length is.of.stands.objects

      own-number : HasNumber objects object
      own-number = subst (λ (n : ℕ). HasNumber n object) same-objects number

      one : IsOneOf (length homes) object
      one =
          let many : length homes ≡ objects = length-map w.objects region_of in
          (omega (arith, own-number.0), omega (arith, own-number.1, many))

      has : HasWay cards way
      has = way-has regions homes cards order.order object one region named

      -- nothing was carried
      module _ (none : trips ≡ []) where
        silent : hand_on codes r regions cards step trips w ≡ quiet w
        silent =
            ap (λ (b : Bool). if b
            then (if arrives cards way parcel trips then next r step w else quiet w) else quiet w) crossing
            ∙ ap (λ (ts : List Trip). if arrives cards way parcel ts then next r step w else quiet w) none

        last-gone : depart_fault (card_at cards way.object way.from) way.from way.to ≡ Some LastTrip
            → goes codes r regions step stage trips ≡ record { told = quiet stage; sent = []; behind = trips }
        last-gone fault =
            ap (λ (o : Option (List (List Card))). goes_by o codes r regions step stage trips) have
            ∙ ap (λ (b : Bool). if b
            then departs_unless (depart_fault (card_at cards way.object way.from) way.from way.to) codes r regions step
            way cards stage trips
            else goes_plainly codes r step stage trips) crossing
            ∙ ap (λ (f : Option DepartFault). departs_unless f codes r regions step way cards stage trips) fault

        at-silent : (result : Result T E) → HandsBy result → IsDone step result
        at-silent (Err e) hands =
            let it = hands [] (no-past objects (length regions) cards)
            (none-carried objects (length regions) [] trips none) in
            record {
              tells = part-nothing before after (goes codes r regions step stage trips).told.entries
                  (subst (λ (a : Told SourceWorld). Part before after a.entries) silent it.tells);
              sent = subst (λ (ts : List Trip). Begins (sent_of ts) (goes codes r regions step stage trips).sent)
                  (sym none)
                  (record { others = (goes codes r regions step stage trips).sent; whole = refl });
            }
        at-silent (Ok t) hands = go driven
          where
            it : HandsFor step (Ok t) []
            it =
                hands [] (no-past objects (length regions) cards)
                (none-carried objects (length regions) [] trips none)

            driven : IsDriven codes regions w way cards later trips
            driven =
                subst (λ (b : Bool). SendsIf {T = T} {E = E} b (Ok t) codes regions w way cards later trips) crossing
                it.sent

            told : IsOf programs new w × (after ≡ before ++ [])
            told =
                subst (λ (a : Told SourceWorld). IsOf programs new a.value × (after ≡ before ++ a.entries)) silent
                it.tells

            go : IsDriven codes regions w way cards later trips → IsDone step (Ok t)
            go (inl (landed, over)) =
                absurd (let begins = subst (λ (ts : List Trip). IsHandedOver objects (length regions)
                (IsOfferIn codes regions w) way parcel ts cards later landed) none over in
                let asks-none = ap (asks way) begins.drives ∙ begins.ends in
                let asks-some = departs-asks cards way parcel has begins.departs in
                let no : Some (next_offer cards way parcel) ≡ None = sym asks-some ∙ asks-none in cc)
            go (inr (fault, empty, same)) = record {
              tells = subst (λ (g : Gone). IsAt programs new g.told.value × (after ≡ before ++ g.told.entries))
                  (sym (last-gone fault)) (
                    at-now stage told.0 (have ∙ ap (λ (cs : List (List Card)). Some cs) (sym same))
                        (subst (λ (cs : List (List Card)). IsOrderly codes regions cs stage) (sym same) order),
                    told.1,
                  );
              sent = subst (λ (g : Gone). sent_of trips ≡ g.sent) (sym (last-gone fault))
                  (ap (λ (ts : List Trip). sent_of ts) none);
            }

      -- notes were carried
      module _ (sends : IsSentOf codes regions old.grid (object - 1)) where
        abbrev source : Contents
        source = contents_of codes w

        so : IsSentOf codes regions source (object - 1)
        so =
            subst (λ (g : Contents). IsSentOf codes regions g (object - 1))
            (contents-is codes old.clock old.grid w is.of.stands) sends

        abbrev few_regions : length regions < 2 ^ 32
        few_regions = so.counts.1

        ready : IsReady regions stage cards
        ready = record { are = have; order = order.order; few = so.counts.0; past = order.past }

        fair-so : WereCarried (bytes_of stage.notes) trips
        fair-so = subst (λ (o : Option (List (List Card))). IsFairBy o stage.notes trips) have fair

        entries-past : AreAllPast objects (length regions) cards (bytes_of stage.notes)
        entries-past = all-past objects (length regions) so.counts cards stage.notes order.past order.notes

        carried : AreCarried objects (length regions) (bytes_of stage.notes) trips
        carried = all-carried objects (length regions) (bytes_of stage.notes) trips fair-so

        abbrev Takes : Note → Type 0
        Takes = IsOfferIn codes regions w

        known : AreKnown objects (length regions) so.counts Takes stage.notes
        known n has-it = record {
          is = (order.notes n has-it).is;
          passes = order.offers n has-it;
          short = (order.notes n has-it).fits;
        }

        named-as : name_in regions way.from ≡ region_in source (object - 1)
        named-as =
            name-number regions here (order.order.named object one)
            ∙ get_or-map region_of w.objects (object - 1) no_object

        takes : Takes (next_offer cards way parcel)
        takes = (
          parts_of_object source (object - 1),
          record {
            image = subst (λ (name : List ℕ). ObjectImage name (shape_of (parts_of_object source (object - 1))) codes
                (parts_of_object source (object - 1)) parcel) (sym named-as) so.sent;
            fits = so.fits;
          },
        )

        -- it departs
        module _ (fine : depart_fault (card_at cards way.object way.from) way.from way.to ≡ None) where
          abbrev d : Driven
          d = drive codes r regions few_regions stage cards ready object region named own-number crossing trips

          counts : HasCounts objects (length regions) cards
          counts =
              subst (λ (n : ℕ). HasCounts n (length regions) cards) (length-map w.objects region_of) order.order.counts

          abbrev at_rest : AreAtRest cards (place_in regions homes)
          at_rest = rest codes r regions few_regions stage cards ready object region named own-number crossing

          abbrev fits : next_trip cards way < 2 ^ 64
          fits = trip-fits codes r regions few_regions stage cards ready object region named own-number crossing fine

          abbrev far_apart : way.from ≢ way.to
          far_apart = far codes r regions few_regions stage cards ready object region named own-number crossing

          abbrev FollowsTo : Moment → Type 0
          FollowsTo last =
              Follows objects (length regions) Takes so.counts way parcel so.short cards counts has far_apart
              (place_in regions homes) at_rest order.order.fit (next_trip cards way) fits takes stage.notes d last trips

          moves : Moves way (next_trip cards way) parcel cards (Contains stage.notes) Neither
              (departure cards way parcel)
          moves =
              begins-so objects (length regions) so.counts way parcel cards counts has (place_in regions homes)
              at_rest refl
              fine order.order.fit fits stage.notes order.past

          few-trips : left way (departure cards way parcel) ≤ 32
          few-trips =
              omega (
                arith,
                most-trips objects (length regions) so.counts way parcel cards counts has (place_in regions homes)
                    at_rest
                    refl fine order.order.fit fits stage.notes order.past,
              )

          followed : (last : Moment)
              → Drives objects (length regions) Takes way (departure cards way parcel) trips last → asks way last ≡ None
              → FollowsTo last
          followed last drives ends =
              follows objects (length regions) Takes so.counts way parcel so.short cards counts has far_apart
              (place_in regions homes) at_rest order.order.fit (next_trip cards way) fits takes trips 32 stage.notes
              Neither
              (departure cards way parcel) last moves tt few-trips known fair-so drives ends

          cut-off : IsCut objects (length regions) Takes way (departure cards way parcel) trips
              → Begins (sent_of trips) (bytes_of d.notes)
          cut-off cut =
              follows-cut objects (length regions) Takes so.counts way parcel so.short cards counts has far_apart
              (place_in regions homes) at_rest order.order.fit (next_trip cards way) fits takes trips 32 stage.notes
              Neither
              (departure cards way parcel) moves tt few-trips known fair-so cut

          landed : Begins (sent_of trips) (bytes_of d.notes) → Lands cards way parcel stage.notes d trips
          landed begins =
              lands objects (length regions) so.counts way parcel cards counts has (place_in regions homes) at_rest
              refl fine
              order.order.fit fits stage.notes order.past 31 (omega arith) trips [] fair-so
              (begins-nil (sent_of trips) (bytes_of d.notes) begins)

          -- by what came back
          module _ (begins : Begins (sent_of trips) (bytes_of d.notes)) where
            it : Lands cards way parcel stage.notes d trips
            it = landed begins

            abbrev has_come : Bool
            has_come = is_first it.first false

            abbrev told : Told SourceWorld
            told = if has_come then next r step w else quiet w

            abbrev now : Stage
            now = stage_by codes r regions few_regions stage cards ready object region named own-number crossing fine
                trips it has_come

            gone : goes codes r regions step stage trips ≡ record {
              told = as_value (λ v. record {
                world = v;
                cards = Some (rested d.last.field way);
                notes = stage.notes ++
                    d.notes;
              })
                  told;
              sent = bytes_of d.notes;
              behind = d.behind;
            }
            gone =
                cross-gone codes r regions few_regions stage cards ready object region named own-number crossing
                fine trips
                ∙ told-is codes r regions few_regions stage cards ready object region named own-number crossing fine
                trips it

            arrives-so : arrives cards way parcel trips ≡ has_come
            arrives-so =
                ap (λ (ts : List Trip). comes (note_bytes (next_offer cards way parcel))
                (note_bytes (cancel_of way.object (next_trip cards way) way.from way.to)) ts)
                (sym (take-all d.notes trips begins)) ∙ it.told

            told-so : hand_on codes r regions cards step trips w ≡ told
            told-so =
                ap (λ (b : Bool). if b
                then (if arrives cards way parcel trips then next r step w else quiet w) else quiet w) crossing
                ∙ ap (λ (b : Bool). if b then next r step w else quiet w) arrives-so

            keys-same : (b : Bool) → keys_of (if b then next r step w else quiet w).value ≡ keys_of w
            keys-same true = next-keys r step w
            keys-same false = refl

            units-same : (b : Bool) → units_of (if b then next r step w else quiet w).value ≡ units_of w
            units-same true = next-units r step w
            units-same false = refl

            behind : IsReady regions now (rested d.last.field way)
            behind =
                ready-behind codes r regions few_regions stage cards ready object region named own-number crossing
                fine trips
                it

            -- all that was handed over is known
            module _ (all : AreKnown objects (length regions) so.counts Takes (stage.notes ++ d.notes)) where
              orderly : IsOrderly codes regions (rested d.last.field way) now
              orderly = record {
                order = behind.order;
                past = behind.past;
                notes = λ n has-it. subst (λ (k : ℕ). IsNoteOf k (length regions) (note_bytes n) n)
                    (sym (objects-same codes r regions few_regions stage cards ready object region named own-number
                    crossing
                    fine trips it))
                    (record { is = (all n has-it).is; bytes_are = refl; fits = (all n has-it).short });
                offers = λ n has-it. offers-kept codes regions told.value w (keys-same has_come) (units-same has_come)
                    n.kind n (all n has-it).passes;
              }

          at-driven : (result : Result T E) → HandsBy result → IsDone step result
          at-driven (Err e) hands =
              let h = hands (bytes_of stage.notes) entries-past carried in
              let begins = cut-off (subst (λ (b : Bool). SendsIf {T = T} {E = E} b (Err e) codes regions w way cards
              later trips)
              crossing h.sent) in
              record {
                tells = subst (λ (g : Gone). Part before after g.told.entries) (sym (gone begins))
                    (subst (λ (a : Told SourceWorld). Part before after a.entries) (told-so begins) h.tells);
                sent = subst (λ (g : Gone). Begins (sent_of trips) g.sent) (sym (gone begins)) begins;
              }
          at-driven (Ok t) hands =
              go (subst (λ (b : Bool). SendsIf {T = T} {E = E} b (Ok t) codes regions w way cards later trips) crossing
              (hands (bytes_of stage.notes) entries-past carried).sent)
              (hands (bytes_of stage.notes) entries-past carried).tells
            where
              go : IsDriven codes regions w way cards later trips
                  → Tells {T = T} {E = E} (Ok t) (λ v _. IsOf programs new v) before after
                  (hand_on codes r regions cards step trips w)
                  → IsDone step (Ok t)
              go (inr (fault, empty, same)) tells =
                  absurd (let no : Some LastTrip ≡ None = sym fault ∙ fine in cc)
              go (inl (by, over)) tells =
                  let f = followed over.last over.drives over.ends in
                  let begins = begins-same trips (bytes_of d.notes) f.sent_is in
                  let cards_are : later ≡ rested d.last.field way =
                  over.rests ∙ ap (λ (m : Moment). rested m.field way) (sym f.last_is) in
                  let all = subst (λ (a : Told SourceWorld). IsOf programs new a.value × (after ≡ before ++ a.entries))
                  (told-so begins) tells in
                  record {
                    tells = subst (λ (g : Gone). IsAt programs new g.told.value × (after ≡ before ++ g.told.entries))
                        (sym (gone begins)) (
                          at-now (now begins) all.0 (ap (λ (cs : List (List Card)). Some cs) (sym cards_are))
                              (subst (λ (cs : List (List Card)). IsOrderly codes regions cs (now begins))
                              (sym cards_are)
                              (orderly begins f.known)),
                          all.1,
                        );
                    sent = subst (λ (g : Gone). sent_of trips ≡ g.sent) (sym (gone begins)) f.sent_is;
                  }

        -- it doesn't, so nothing was carried
        cut-silent : (fault : DepartFault)
            → depart_fault (card_at cards way.object way.from) way.from way.to ≡ Some fault → (ts : List Trip)
            → IsCut objects (length regions) Takes way (departure cards way parcel) ts → ts ≡ []
        cut-silent fault e [] cut = refl
        cut-silent fault e (t ∷ ts) (note, asked, sent, more) =
            absurd (let rest_here = (order.order.rest object one).live in
            let silent = stays-silent cards way parcel has fault e rest_here.0 rest_here.1 in
            let no : Some note ≡ None = sym asked ∙ silent in cc)

        at-faulty : (fault : DepartFault)
            → depart_fault (card_at cards way.object way.from) way.from way.to ≡ Some fault → (result : Result T E)
            → HandsBy result → IsDone step result
        at-faulty fault e (Err f) hands =
            at-silent (cut-silent fault e trips
            (subst (λ (b : Bool). SendsIf {T = T} {E = E} b (Err f) codes regions w way cards later trips) crossing
            (hands (bytes_of stage.notes) entries-past carried).sent)) (Err f) hands
        at-faulty fault e (Ok t) hands =
            go (subst (λ (b : Bool). SendsIf {T = T} {E = E} b (Ok t) codes regions w way cards later trips) crossing
            (hands (bytes_of stage.notes) entries-past carried).sent)
          where
            go : IsDriven codes regions w way cards later trips → IsDone step (Ok t)
            go (inl (by, over)) = absurd (let no : Some fault ≡ None = sym e ∙ over.departs in cc)
            go (inr (last, empty, same)) = at-silent empty (Ok t) hands

        at-carried : (result : Result T E) → HandsBy result → IsDone step result
        at-carried result hands =
            go (depart_fault (card_at cards way.object way.from) way.from way.to) refl
          where
            go : (f : Option DepartFault)
                → depart_fault (card_at cards way.object way.from) way.from way.to ≡ f → IsDone step result
            go None e = at-driven e result hands
            go (Some fault) e = at-faulty fault e result hands

      pub at-cross : (result : Result T E) → HandsBy result → SendsOf codes regions old.grid object trips
          → IsDone step result
      at-cross result hands (inl none) = at-silent none result hands
      at-cross result hands (inr sends) = at-carried sends result hands

    -- any step
    abbrev pub HandsAll : Step → Result T E → Type 0
    HandsAll step result =
        (entries : List (List ℕ)) → AreInOrder regions cards (regions_of w)
        → AreAllPast (length w.objects) (length regions) cards entries
        → AreCarried (length w.objects) (length regions) entries trips → HandsFor step result entries

    by-crossing : (step : Step) (result : Result T E) → LeadsToNamed regions step
        → ((object : ℕ) (region : List ℕ) → step ≡ Cross object region → HasNumber (length old.grid.objects) object)
        → HandsAll step result → SendsOfStep codes regions old.grid step trips → is_crossing w step ≡ true
        → IsDone step result
    by-crossing (Cross object region) result named number hands sends crossing =
        at-cross object region named (number object region refl) crossing result
        (λ entries. hands entries order.order) sends
    by-crossing step result named number hands sends crossing = absurd (cc)

    -- where the object is there already, nothing was carried
    trips-none : (step : Step) (result : Result T E) → is_crossing w step ≡ false → HandsAll step result
        → SendsOfStep codes regions old.grid step trips → trips ≡ []
    trips-none (Cross object region) result apart hands (inl none) = none
    trips-none (Cross object region) result apart hands (inr sends) =
        let counts : AreCounts (length w.objects) (length regions) =
        subst (λ (n : ℕ). AreCounts n (length regions)) (ap length is.of.stands.objects) sends.counts in
        let back = subst (λ (o : Option (List (List Card))). IsFairBy o stage.notes trips) have fair in
        let it = hands (bytes_of stage.notes) order.order
        (all-past (length w.objects) (length regions) counts cards stage.notes order.past order.notes)
        (all-carried (length w.objects) (length regions) (bytes_of stage.notes) trips back) in
        (sends-none (Cross object region) result codes regions w cards later trips apart it.sent).0
    trips-none s result apart hands sends = sends

    pub at-lossy : (step : Step) (result : Result T E) → LeadsToNamed regions step
        → ((object : ℕ) (region : List ℕ) → step ≡ Cross object region → HasNumber (length old.grid.objects) object)
        → HandsAll step result → SendsOfStep codes regions old.grid step trips → IsDone step result
    at-lossy step result named number hands sends = go (is_crossing w step) refl where
      go : (b : Bool) → is_crossing w step ≡ b → IsDone step result
      go true crossing = by-crossing step result named number hands sends crossing
      go false here =
          let none = trips-none step result here hands sends in
          at-here step result here none
          (hands [] order.order (no-past (length w.objects) (length regions) cards)
          (none-carried (length w.objects) (length regions) [] trips none))

  -- a step of either world
  pub at-any : (step : Step) (result : Result T E) → (old.cards ≡ None → new.cards ≡ None)
      → (old.cards ≡ None → Does codes r (IsOf programs new) step w trips before after result)
      → ((cards : List (List Card)) → old.cards ≡ Some cards → (later : List (List Card)) × (new.cards ≡ Some later)
      × ((entries : List (List ℕ)) → AreInOrder regions cards (regions_of w)
      → AreAllPast (length w.objects) (length regions) cards entries
      → AreCarried (length w.objects) (length regions) entries trips
      → Hands codes r (IsOf programs new) regions cards later step w entries trips before after result)
      × SendsOfStep codes regions old.grid step trips)
      → ((cards : List (List Card)) → old.cards ≡ Some cards → LeadsToNamed regions step)
      → IsStepOf (size_of old) step → IsDone step result
  at-any step result plain does lossy named number = go old.cards refl where
    number-of : (s : Step) → IsStepOf (size_of old) s → (object : ℕ) (region : List ℕ) → s ≡ Cross object region
        → HasNumber (length old.grid.objects) object
    number-of s number object region e =
        subst (λ (n : ℕ). HasNumber n object) (length-map old.grid.objects prims_of)
        (subst (λ (x : Step). IsStepOf (size_of old) x) e number)

    go : (o : Option (List (List Card))) → old.cards ≡ o → IsDone step result
    go None none = at-plain step result none (plain none) (does none)
    go (Some cards) some =
        let (later, are, hands, sends) = lossy cards some in
        at-lossy cards later some are step result (named cards some) (number-of step number) hands sends
