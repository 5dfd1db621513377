-- A crossing at a stage, by the result of its drive, and steps that aren't crossings.
use Rattle.std.proofs.Common.{◌≡◌, ◌≢◌, ◌∙◌, ◌-◌, ◌<◌, ◌^◌, ◌⊎◌, inl, inr, refl, ap, sym, subst, arith, ℕ, suc, nat_eq, Bool, true, false, if◌then◌else◌, List, [], ◌∷◌, ◌++◌, drop, get_or, length, take, Option, Some, None}
use Rattle.std.specs.Prelude.{is_some, not}
use Rattle.std.proofs.lemmas.Bool.{eqb-false, ne_eqb}
use Rattle.std.proofs.lemmas.List.{length-map, length-set, map-append, take-append-drop}
use Rattle.std.proofs.lemmas.Slice.Eq.{bytes_eq-Decides}
use Rattle.lsl_code.specs.declared.woven_units.Woven.{Woven as Code}
use Rattle.lsl_ports.specs.Growth.{Begins}
use Rattle.lsl_ports.specs.Trips.{Trip, sent_of}
use Rattle.lsl_post.specs.Told.{Told, as_value, each_of, lead, next_to, quiet}
use Rattle.lsl_handoff.specs.declared.card.Card.{Card}
use Rattle.lsl_handoff.specs.declared.card.Phase.{Phase}
use Rattle.lsl_handoff.specs.declared.drive.Way.{Way}
use Rattle.lsl_handoff.specs.declared.faults.DepartFault.{DepartFault}
use Rattle.lsl_handoff.specs.declared.faults.DepartFault.TheVariants.{Here, LastTrip, NotLive}
use Rattle.lsl_handoff.specs.declared.note.Note.{Note}
use Rattle.lsl_handoff.specs.Cards.{depart_fault, is_live, last_trip}
use Rattle.lsl_handoff.specs.DriveLaws.{First, Neither, OfferFirst, CancelFirst, ArePast, AreAtRest, IsAtRest, departure, landed_as, next_offer, next_trip, rests_in}
use Rattle.lsl_handoff.specs.Drives.{HasWay, rested}
use Rattle.lsl_handoff.specs.Entries.{comes, entries_by}
use Rattle.lsl_handoff.specs.Fields.{IsOneOf, card_at}
use Rattle.lsl_handoff.specs.Handovers.{HasCounts, landed_unless}
use Rattle.lsl_handoff.specs.NoteBytes.{note_bytes}
use Rattle.lsl_handoff.specs.Notes.{cancel_of}
use Rattle.lsl_handoff.proofs.HandoverLemmas.{counts-long, rested-long}
use Rattle.lsl_script.specs.Rules.{Rules}
use Rattle.lsl_region.specs.Worlds.{World}
use Rattle.lsl_lines.specs.declared.file.Step.{Step}
use Rattle.lsl_lines.specs.declared.file.Step.TheVariants.{Cross}
use Rattle.lsl_world.specs.Kept.{leads_elsewhere, region_of, regions_behind, regions_of}
use Rattle.lsl_world.specs.Lossy.{Driven, Gone, Stage, WereCarried, bytes_of, cancel_for, departs_unless, driven, goes, goes_by, goes_driven, goes_plainly, is_new_offer, kept_lossy, most_notes, offer_came, own_trips, travel_from, trips_behind}
use Rattle.lsl_world.specs.Orders.{AreAtMost, AreInOrder, parcel_of, place_in, way_to}
use Rattle.lsl_world.specs.Regions.{IsNamed, number_in}
use Rattle.lsl_world.specs.Sizes.{HasNumber}
use Rattle.lsl_world.specs.Steps.{next, reference}
use Rattle.lsl_world.specs.Travels.{is_crossing}
use Rattle.lsl_world.proofs.Landing.{IsOpen, Lands, begins-behind, begins-with, drive-behind, first-note, is_first, offer-new, whole-or-none}
use Rattle.lsl_world.proofs.Numbering.{number-there, one-region}
use Rattle.lsl_world.proofs.Ordering.{most-next, order-moved, order-stays}
use Rattle.lsl_world.proofs.Regions.{go_on-here, leads-by-regions, regions-cross, regions-stay}
use Rattle.lsl_world.proofs.Runs.{images-none, left-here}
use Rattle.lsl_world.proofs.Spelling.{cancel-is}
use Rattle.lsl_world.proofs.Staging.{carried-second, entries-are}

-- ---- the steps that are kept, by their trips

-- where no trip is left, the entries don't matter
kept-anyhow : (homes : List (List ℕ)) (a b : List (List ℕ)) (steps : List Step)
    → kept_lossy homes a steps [] ≡ kept_lossy homes b steps []
kept-anyhow homes a b [] = refl
kept-anyhow homes a b (step ∷ steps) =
    go (leads_elsewhere homes step) (kept-anyhow homes a b steps)
  where
    go : (elsewhere : Bool) → kept_lossy homes a steps [] ≡ kept_lossy homes b steps []
        → (if elsewhere then kept_lossy homes a steps [] else step ∷ kept_lossy homes a steps [])
        ≡ (if elsewhere then kept_lossy homes b steps [] else step ∷ kept_lossy homes b steps [])
    go true e = e
    go false e = ap (λ (ks : List Step). step ∷ ks) e

-- the first trip decides the offer and the cancel
offer-comes : (offer : Note) (n : ℕ) (trips : List Trip) (more : List (List ℕ))
    → Begins (sent_of trips) (note_bytes offer ∷ more)
    → offer_came (take (suc n) trips)
    ≡ comes (note_bytes offer) (note_bytes (cancel_of offer.object offer.trip offer.from offer.to)) (take (suc n) trips)
offer-comes offer n [] more begins = refl
offer-comes offer n (t ∷ trips) more begins =
    let carries = begins-with t trips (note_bytes offer) more begins in
    ap (λ (z : List ℕ). comes z (cancel_for z) (t ∷ take n trips)) carries.first
    ∙ ap (λ (z : List ℕ). comes (note_bytes offer) z (t ∷ take n trips)) (cancel-is offer)

-- what follows was carried this way too
behind-carried : (entries : List (List ℕ)) (n : ℕ) (trips : List Trip) → WereCarried entries trips
    → WereCarried (entries_by entries (take n trips)) (drop n trips)
behind-carried entries n trips fair =
    carried-second entries (take n trips) (drop n trips)
    (subst (λ (ts : List Trip). WereCarried entries ts) (sym (take-append-drop n trips)) fair)

-- ---- where an object rests, by which of its questions came first

landed-is : (way : Way) (offer : Note) (new : List (List Card)) → way.from ≢ way.to → (f : First)
    → IsAtRest new way.object (rests_in way f) → (landed : Option Note) → landed ≡ landed_as f offer
    → is_some (landed_unless (is_live (card_at new way.object way.from).phase) landed) ≡ is_first f false
landed-is way offer new apart Neither rest landed e =
    none (is_live (card_at new way.object way.from).phase) landed e
  where
    none : (b : Bool) (o : Option Note) → o ≡ None → is_some (landed_unless b o) ≡ false
    none true o e = refl
    none false o e = ap (λ (x : Option Note). is_some x) e
landed-is way offer new apart OfferFirst rest landed e =
    ap (λ (p : Phase). is_some (landed_unless (is_live p) landed)) (rest.away way.from apart)
    ∙ ap (λ (x : Option Note). is_some x) e
landed-is way offer new apart CancelFirst rest landed e =
    none (is_live (card_at new way.object way.from).phase) landed e
  where
    none : (b : Bool) (o : Option Note) → o ≡ None → is_some (landed_unless b o) ≡ false
    none true o e = refl
    none false o e = ap (λ (x : Option Note). is_some x) e

rests-as : (way : Way) (f : First) → rests_in way f ≡ (if is_first f false then way.to else way.from)
rests-as way Neither = refl
rests-as way OfferFirst = refl
rests-as way CancelFirst = refl

fault-none : (live here last : Bool) → live ≡ true → here ≡ false → last ≡ false
    → (if live then (if here then Some Here else if last then Some LastTrip else None) else Some NotLive) ≡ None
fault-none true false false l h e = refl
fault-none true false true l h e = absurd (cc)
fault-none true true last l h e = absurd (cc)
fault-none false here last l h e = absurd (cc)

last-free : (live here last : Bool)
    → (if live then (if here then Some Here else if last then Some LastTrip else None) else Some NotLive) ≡ None
    → last ≡ false
last-free true false false e = refl
last-free true false true e = absurd (cc)
last-free true true last e = absurd (cc)
last-free false here last e = absurd (cc)

-- ---- stages

-- the cards of a stage are in order, and all notes that were handed over are past
pub record IsReady (regions : List (List ℕ)) (stage : Stage) (cards : List (List Card)) : Type 0 where
  pub are : stage.cards ≡ Some cards
  pub order : AreInOrder regions cards (regions_of stage.world)
  pub few : length stage.world.objects < 2 ^ 32
  pub past : ArePast cards stage.notes

pub same-count : (v w : World) → regions_of v ≡ regions_of w → length v.objects ≡ length w.objects
same-count v w e = sym (length-map v.objects region_of) ∙ ap length e ∙ length-map w.objects region_of

-- both regions of a crossing have a card of its object
pub way-has : (regions homes : List (List ℕ)) (cards : List (List Card)) → AreInOrder regions cards homes
    → (object : ℕ) → IsOneOf (length homes) object → (region : List ℕ) → IsNamed regions region
    → HasWay cards (way_to regions homes object region)
way-has regions homes cards order object one region named =
    let from = number_in regions (get_or homes (object - 1) []) in
    let to = number_in regions region in
    let row = subst (λ (k : ℕ). IsOneOf k object) (sym order.counts.rows) one in
    let long = order.counts.cards object one in (
      (
        row,
        subst (λ (k : ℕ). IsOneOf k from) (sym long)
            (number-there regions (get_or homes (object - 1) []) (order.named object one)),
      ),
      (row, subst (λ (k : ℕ). IsOneOf k to) (sym long) (number-there regions region named)),
    )

-- ---- steps at a stage

abbrev pub with_world : Stage → World → Stage
with_world stage w = record stage { world = w }

module _ (codes : List Code) (r : Rules) (regions : List (List ℕ)) where
  -- ---- a step that isn't a crossing

  module _ (stage : Stage) (step : Step) (here : is_crossing stage.world step ≡ false) where
    plain-goes : (trips : List Trip) → goes_plainly codes r step stage trips ≡ record {
      told = as_value (λ w. with_world stage w) (next r step stage.world);
      sent = [];
      behind = trips;
    }
    plain-goes trips = λ i. record {
      told = as_value (λ w. with_world stage w) (go_on-here r step trips stage.world here i);
      sent = images-none codes step stage.world here i;
      behind = left-here step trips stage.world here i;
    }

    abbrev pub once : Gone → List Trip → Type 0
    once gone trips = gone ≡ record {
      told = as_value (λ w. with_world stage w) (next r step stage.world);
      sent = [];
      behind = trips;
    }

    here-goes : (cards : Option (List (List Card))) (trips : List Trip)
        → once (goes_by cards codes r regions step stage trips) trips
    here-goes None trips = plain-goes trips
    here-goes (Some cards) trips = by step here plain-goes where
      by : (s : Step) → is_crossing stage.world s ≡ false
          → ((ts : List Trip) → goes_plainly codes r s stage ts ≡ record {
            told = as_value (λ w. with_world stage w) (next r s stage.world);
            sent = [];
            behind = ts;
          })
          → goes_by (Some cards) codes r regions s stage trips ≡ record {
            told = as_value (λ w. with_world stage w) (next r s stage.world);
            sent = [];
            behind = trips;
          }
      by (Cross object region) e plain =
          ap (λ (b : Bool). if b
          then departs_unless
          (depart_fault (card_at cards (way_to regions (regions_of stage.world) object region).object
          (way_to regions (regions_of stage.world) object region).from)
          (way_to regions (regions_of stage.world) object region).from
          (way_to regions (regions_of stage.world) object region).to) codes r regions (Cross object region)
          (way_to regions (regions_of stage.world) object region) cards stage trips
          else goes_plainly codes r (Cross object region) stage trips) e ∙ plain trips
      by s e plain = plain trips

    pub here-gone : (trips : List Trip) → once (goes codes r regions step stage trips) trips
    here-gone trips = here-goes stage.cards trips

    abbrev pub here_behind : Stage
    here_behind = with_world stage (next r step stage.world).value

    pub here-regions : regions_of (next r step stage.world).value ≡ regions_of stage.world
    here-regions = regions-stay r step stage.world here

    pub here-ready : (cards : List (List Card)) → IsReady regions stage cards → IsReady regions here_behind cards
    here-ready cards ready = record {
      are = ready.are;
      order = subst (λ (hs : List (List ℕ)). AreInOrder regions cards hs) (sym here-regions) ready.order;
      few = (let same = same-count (next r step stage.world).value stage.world here-regions in
          omega (arith, ready.few, same));
      past = ready.past;
    }

module _ (codes : List Code) (r : Rules) (regions : List (List ℕ)) (few_regions : length regions < 2 ^ 32) where
  -- ---- a crossing

  module _ (stage : Stage) (cards : List (List Card)) (ready : IsReady regions stage cards) (object : ℕ)
      (region : List ℕ) (named : IsNamed regions region) (number : HasNumber (length stage.world.objects) object)
      (crossing : is_crossing stage.world (Cross object region) ≡ true) where
    abbrev pub w : World
    w = stage.world

    abbrev pub step : Step
    step = Cross object region

    abbrev pub homes : List (List ℕ)
    homes = regions_of w

    abbrev pub here : List ℕ
    here = get_or homes (object - 1) []

    abbrev pub way : Way
    way = way_to regions homes object region

    abbrev pub parcel : List ℕ
    parcel = parcel_of codes w object

    abbrev pub drive : List Trip → Driven
    drive trips = driven way most_notes stage.notes (departure cards way parcel) trips

    pub many : length homes ≡ length w.objects
    many = length-map w.objects region_of

    pub one : IsOneOf (length homes) object
    one = (omega (arith, number.0), omega (arith, number.1, many))

    pub has : HasWay cards way
    has = way-has regions homes cards ready.order object one region named

    elsewhere : here ≢ region
    elsewhere e =
        let so : leads_elsewhere homes step ≡ true = leads-by-regions step w ∙ crossing in
        let not-so : leads_elsewhere homes step ≡ false = ap not ((bytes_eq-Decides here region).1 e) in
        let clash : true ≡ false = sym so ∙ not-so in absurd (cc)

    pub far : way.from ≢ way.to
    far e = elsewhere (one-region regions here region (ready.order.named object one) named e)

    pub rest : AreAtRest cards (place_in regions homes)
    rest q there = ready.order.rest q (subst (λ (n : ℕ). IsOneOf n q) ready.order.counts.rows there)

    -- it departs, unless it made its last trip
    pub fine-unless : (card_at cards way.object way.from).trip ≢ last_trip
        → depart_fault (card_at cards way.object way.from) way.from way.to ≡ None
    fine-unless other =
        let live = (ready.order.rest object one).live in
        fault-none (is_live (card_at cards way.object way.from).phase) (nat_eq way.to way.from)
        (nat_eq (card_at cards way.object way.from).trip last_trip) (ap (λ (p : Phase). is_live p) live.1)
        (ne_eqb way.to way.from (λ e. far (sym e)))
        (ne_eqb (card_at cards way.object way.from).trip last_trip other)

    module _ (fine : depart_fault (card_at cards way.object way.from) way.from way.to ≡ None) where
      pub trip-fits : next_trip cards way < 2 ^ 64
      trip-fits =
          let few : (card_at cards way.object way.from).trip < 2 ^ 64 = ready.order.fit way.object way.from in
          let free : (card_at cards way.object way.from).trip ≢ 18446744073709551615 =
          eqb-false (card_at cards way.object way.from).trip 18446744073709551615
          (last-free (is_live (card_at cards way.object way.from).phase) (nat_eq way.to way.from)
          (nat_eq (card_at cards way.object way.from).trip last_trip) fine) in
          omega (arith, few, free)

      pub cross-gone : (trips : List Trip)
          → goes codes r regions step stage trips ≡ goes_driven r regions step way stage (drive trips)
      cross-gone trips =
          ap (λ (o : Option (List (List Card))). goes_by o codes r regions step stage trips) ready.are
          ∙ ap (λ (b : Bool). if b
          then departs_unless (depart_fault (card_at cards way.object way.from) way.from way.to) codes r regions
          step way
          cards stage trips
          else goes_plainly codes r step stage trips) crossing
          ∙ ap (λ (f : Option DepartFault). departs_unless f codes r regions step way cards stage trips) fine

      abbrev pub offer : Note
      offer = next_offer cards way parcel

      -- it begins with a new offer
      pub begins-offer : (trips : List Trip) (more : List (List ℕ))
          → Begins (sent_of trips) ((goes codes r regions step stage trips).sent ++ more)
          → Begins (sent_of trips) (bytes_of (drive trips).notes ++ more)
      begins-offer trips more begins =
          subst (λ (gone : Gone). Begins (sent_of trips) (gone.sent ++ more)) (cross-gone trips) begins

      pub opens-offer : (trips : List Trip) (more : List (List ℕ))
          → Begins (sent_of trips) ((goes codes r regions step stage trips).sent ++ more)
          → IsOpen (bytes_of stage.notes) trips
      opens-offer [] more begins = tt
      opens-offer (t ∷ trips) more begins =
          let first = first-note (length homes) (length regions) (omega (arith, many, ready.few), few_regions) way
          parcel cards
          ready.order.counts has (place_in regions homes) rest refl fine ready.order.fit trip-fits stage.notes
          ready.past 31
          (omega arith) (t ∷ trips) in
          let sends = subst (λ (ns : List Note). Begins (sent_of (t ∷ trips)) (bytes_of ns ++ more)) first
          (begins-offer (t ∷ trips) more begins) in
          subst (λ (z : List ℕ). is_new_offer (bytes_of stage.notes) z ≡ true)
          (sym (begins-with t trips (note_bytes offer) _ sends).first)
          (offer-new (length homes) (length regions) (omega (arith, many, ready.few), few_regions) way parcel cards
          ready.order.counts has (place_in regions homes) rest refl fine ready.order.fit trip-fits stage.notes
          ready.past)

      -- by what came back
      module _ (trips : List Trip) (lands : Lands cards way parcel stage.notes (drive trips) trips) where
        abbrev pub d : Driven
        d = drive trips

        abbrev pub new : List (List Card)
        new = rested d.last.field way

        abbrev pub came : Bool
        came = is_first lands.first false

        abbrev pub told_by : Bool → Told World
        told_by c = if c then next r step w else quiet w

        abbrev pub stage_by : Bool → Stage
        stage_by c = record { world = (told_by c).value; cards = Some new; notes = stage.notes ++ d.notes }

        abbrev pub homes_by : Bool → List (List ℕ)
        homes_by c = if c then regions_behind homes step else homes

        homes-are : (c : Bool) → regions_of (told_by c).value ≡ homes_by c
        homes-are true = regions-cross r step w crossing
        homes-are false = refl

        pub lands-so : is_some (landed_unless (is_live (card_at new way.object way.from).phase) d.last.landed) ≡ came
        lands-so = landed-is way offer new far lands.first lands.come.rests d.last.landed lands.come.landed_is

        pub told-is : goes_driven r regions step way stage d ≡ record {
          told = as_value (λ v. record { world = v; cards = Some new; notes = stage.notes ++ d.notes }) (told_by came);
          sent = bytes_of d.notes;
          behind = d.behind;
        }
        told-is = ap {A = Bool} {B = Gone} (λ (b : Bool). record {
          told = as_value (λ v. record { world = v; cards = Some new; notes = stage.notes ++ d.notes }) (told_by b);
          sent = bytes_of d.notes;
          behind = d.behind;
        }) lands-so

        counts-new : HasCounts (length homes) (length regions) new
        counts-new =
            counts-long (length homes) (length regions) cards new ready.order.counts
            (rested-long way cards has d.last.field lands.on)

        rests-by : IsAtRest new way.object (if came then way.to else way.from)
        rests-by = subst (λ (q : ℕ). IsAtRest new way.object q) (rests-as way lands.first) lands.come.rests

        after-by : (card_at new way.object (if came then way.to else way.from)).trip ≡ next_trip cards way
        after-by =
            subst (λ (q : ℕ). (card_at new way.object q).trip ≡ next_trip cards way) (rests-as way lands.first)
            lands.come.after

        order-by : (c : Bool) → IsAtRest new way.object (if c then way.to else way.from)
            → (card_at new way.object (if c then way.to else way.from)).trip ≡ next_trip cards way
            → AreInOrder regions new (homes_by c)
        order-by true rests after =
            order-moved regions homes cards new way region ready.order counts-new one refl refl named
            lands.come.others rests
            after trip-fits
        order-by false rests after =
            order-stays regions homes cards new way region ready.order counts-new one refl refl named
            lands.come.others rests
            after trip-fits

        count-by : (c : Bool) → length (homes_by c) ≡ length homes
        count-by true = length-set homes (object - 1) region
        count-by false = refl

        pub objects-same : length (told_by came).value.objects ≡ length w.objects
        objects-same =
            sym (length-map (told_by came).value.objects region_of) ∙ ap length (homes-are came) ∙ count-by came ∙ many

        pub ready-behind : IsReady regions (stage_by came) new
        ready-behind = record {
          are = refl;
          order = subst (λ (hs : List (List ℕ)). AreInOrder regions new hs) (sym (homes-are came))
              (order-by came rests-by after-by);
          few = omega (arith, ready.few, objects-same);
          past = lands.come.past;
        }

        pub most-behind : (most : ℕ) → AreAtMost most cards → AreAtMost (suc most) new
        most-behind most are =
            most-next regions homes cards new way region ready.order counts-new one refl refl named lands.come.others
            (if came then way.to else way.from) rests-by after-by most are

        pub behind-is : d.behind ≡ drop (length d.notes) trips
        behind-is = drive-behind way most_notes stage.notes (departure cards way parcel) trips

        pub begins-on : (more : List (List ℕ)) → Begins (sent_of trips) (bytes_of d.notes ++ more)
            → Begins (sent_of d.behind) more
        begins-on more begins =
            subst (λ (ts : List Trip). Begins (sent_of ts) more) (sym behind-is)
            (begins-behind d.notes trips more begins)

        -- and the other steps
        module _ (steps : List Step) (more : List (List ℕ)) (fair : WereCarried (bytes_of stage.notes) trips)
            (begins : Begins (sent_of trips) (bytes_of d.notes ++ more))
            (opened : IsOpen (bytes_of (stage.notes ++ d.notes)) (drop (length d.notes) trips)) where
          abbrev pub entries : List (List ℕ)
          entries = bytes_of stage.notes

          abbrev pub all : List (List ℕ)
          all = bytes_of (stage.notes ++ d.notes)

          abbrev pub own : List Trip
          own = take (length d.notes) trips

          all-are : sent_of own ≡ bytes_of d.notes → entries_by entries own ≡ all
          all-are whole =
              entries-are entries own ∙ ap (λ (z : List (List ℕ)). entries ++ z) whole
              ∙ sym (map-append (λ (n : Note). note_bytes n) stage.notes d.notes)

          pub fair-behind : WereCarried all d.behind
          fair-behind =
              subst (λ (ts : List Trip). WereCarried all ts) (sym behind-is)
              (by (whole-or-none d.notes trips more begins))
            where
              by : (sent_of own ≡ bytes_of d.notes) ⊎ (drop (length d.notes) trips ≡ [])
                  → WereCarried all (drop (length d.notes) trips)
              by (inl whole) =
                  subst (λ (es : List (List ℕ)). WereCarried es (drop (length d.notes) trips)) (all-are whole)
                  (behind-carried entries (length d.notes) trips fair)
              by (inr none) = subst (λ (ts : List Trip). WereCarried all ts) (sym none) tt

          same-kept : (hs : List (List ℕ))
              → kept_lossy hs (entries_by entries own) steps (drop (length d.notes) trips)
              ≡ kept_lossy hs all steps (drop (length d.notes) trips)
          same-kept hs = by (whole-or-none d.notes trips more begins) where
            by : (sent_of own ≡ bytes_of d.notes) ⊎ (drop (length d.notes) trips ≡ [])
                → kept_lossy hs (entries_by entries own) steps (drop (length d.notes) trips)
                ≡ kept_lossy hs all steps (drop (length d.notes) trips)
            by (inl whole) =
                ap (λ (es : List (List ℕ)). kept_lossy hs es steps (drop (length d.notes) trips)) (all-are whole)
            by (inr none) =
                subst (λ (ts : List Trip). kept_lossy hs (entries_by entries own) steps ts ≡ kept_lossy hs all steps ts)
                (sym none) (kept-anyhow hs (entries_by entries own) all steps)

          abbrev kept_by : Bool → List Trip → List (List ℕ) → List Trip → List Step
          kept_by c mine es ts =
              if c
              then step ∷ kept_lossy (regions_behind homes step) (entries_by es mine) steps ts
              else kept_lossy homes (entries_by es mine) steps ts

          abbrev kept_so : Bool → List Step
          kept_so c =
              if c then step ∷ kept_lossy (regions_behind homes step) all steps d.behind
              else kept_lossy homes all steps d.behind

          came-is : offer_came own ≡ came
          came-is =
              ap (λ (n : ℕ). offer_came (take n trips)) (ap length lands.notes_are)
              ∙ offer-comes offer (length lands.rest_notes) trips (bytes_of lands.rest_notes ++ more)
              (subst (λ (ns : List Note). Begins (sent_of trips) (bytes_of ns ++ more)) lands.notes_are begins)
              ∙ ap (λ (n : ℕ). comes (note_bytes offer)
              (note_bytes (cancel_of way.object (next_trip cards way) way.from way.to)) (take n trips))
              (sym (ap length lands.notes_are)) ∙ lands.told

          kept-same : (c : Bool) → kept_by c own entries (drop (length d.notes) trips) ≡ kept_so c
          kept-same true =
              ap (λ (ks : List Step). step ∷ ks)
              (same-kept (regions_behind homes step)
              ∙ ap (λ (ts : List Trip). kept_lossy (regions_behind homes step) all steps ts) (sym behind-is))
          kept-same false =
              same-kept homes ∙ ap (λ (ts : List Trip). kept_lossy homes all steps ts) (sym behind-is)

          kept-is : kept_lossy homes entries (step ∷ steps) trips ≡ kept_so came
          kept-is =
              let parts = lands.own opened in
              ap (λ (b : Bool). if b
              then kept_by (offer_came (own_trips entries trips)) (own_trips entries trips) entries
              (trips_behind entries trips)
              else step ∷ kept_lossy homes entries steps trips) (leads-by-regions step w ∙ crossing)
              ∙ ap (λ (ts : List Trip). kept_by (offer_came ts) ts entries (trips_behind entries trips)) parts.0
              ∙ ap (λ (ts : List Trip). kept_by (offer_came own) own entries ts) parts.1
              ∙ ap (λ (b : Bool). kept_by b own entries (drop (length d.notes) trips)) came-is ∙ kept-same came

          -- what the others report, from where this one leads
          module _ (on : as_value (λ s. s.world) (travel_from codes r regions steps d.behind (stage_by came))
              ≡ reference r (kept_lossy (regions_of (told_by came).value) all steps d.behind)
              (told_by came).value) where
            next-kept : (c : Bool) (a : Told World)
                → a ≡ reference r (kept_lossy (regions_of (told_by c).value) all steps d.behind) (told_by c).value
                → lead (told_by c).entries a ≡ reference r (kept_so c) w
            unfolding each_of
            next-kept true a e =
                ap (λ (x : Told World). lead (next r step w).entries x) e
                ∙ ap (λ (hs : List (List ℕ)). lead (next r step w).entries
                (reference r (kept_lossy hs all steps d.behind) (next r step w).value)) (homes-are true)
            next-kept false a e = e

            pub cross-kept : as_value (λ s. s.world)
                (next_to (goes codes r regions step stage trips).told
                (λ s. travel_from codes r regions steps (goes codes r regions step stage trips).behind s))
                ≡ reference r (kept_lossy homes entries (step ∷ steps) trips) w
            cross-kept =
                ap (λ (gone : Gone). as_value (λ s. s.world)
                (next_to gone.told (λ s. travel_from codes r regions steps gone.behind s))) (cross-gone trips ∙ told-is)
                ∙ next-kept came (as_value (λ s. s.world) (travel_from codes r regions steps d.behind (stage_by came)))
                on
                ∙ ap (λ (ks : List Step). reference r ks w) (sym kept-is)
