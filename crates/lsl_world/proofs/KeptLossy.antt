-- A run in which objects are handed over by notes is the run of the kept steps.
use Rattle.std.proofs.Common.{◌≡◌, ◌∙◌, ◌+◌, ◌-◌, ◌<◌, ◌^◌, refl, ap, sym, subst, arith, ℕ, suc, Bool, true, false, if◌then◌else◌, List, [], ◌∷◌, ◌++◌, drop, length, Some, None}
use Rattle.std.specs.Prelude.{All}
use Rattle.std.proofs.lemmas.List.{length-map}
use Rattle.lsl_code.specs.declared.woven_units.Woven.{Woven as Code}
use Rattle.lsl_ports.specs.Growth.{Begins}
use Rattle.lsl_ports.specs.Trips.{Trip, sent_of}
use Rattle.lsl_post.specs.Told.{Told, as_value, each_of, lead, next_to, quiet}
use Rattle.lsl_handoff.specs.declared.card.Card.{Card}
use Rattle.lsl_handoff.specs.declared.drive.Way.{Way}
use Rattle.lsl_handoff.specs.Cards.{depart_fault}
use Rattle.lsl_handoff.specs.DriveLaws.{departure}
use Rattle.lsl_handoff.specs.Drives.{rested}
use Rattle.lsl_handoff.specs.Entries.{entries_by}
use Rattle.lsl_handoff.specs.Fields.{card_at}
use Rattle.lsl_script.specs.Rules.{Rules}
use Rattle.lsl_region.specs.Worlds.{World}
use Rattle.lsl_lines.specs.declared.file.Step.{Step}
use Rattle.lsl_lines.specs.declared.file.Step.TheVariants.{Cross}
use Rattle.lsl_world.specs.Kept.{region_of, regions_behind, regions_of}
use Rattle.lsl_world.specs.Lossy.{Driven, Gone, LossyRunsKeepSteps, Stage, WereCarried, bytes_of, driven, goes, kept_lossy, most_notes, offer_came, own_trips, sent_from, travel_from, trips_behind}
use Rattle.lsl_world.specs.Orders.{AreAtMost, parcel_of, place_in, way_to}
use Rattle.lsl_world.specs.Regions.{IsNamed, LeadsToNamed}
use Rattle.lsl_world.specs.Sizes.{HasNumber, IsStepOf, Size}
use Rattle.lsl_world.specs.Steps.{next, reference}
use Rattle.lsl_world.specs.Travels.{is_crossing}
use Rattle.lsl_world.proofs.Crossed.{IsReady, begins-offer, begins-on, behind-is, cross-gone, cross-kept, fair-behind, fine-unless, has, here-gone, here-ready, here-regions, here_behind, most-behind, objects-same, opens-offer, ready-behind, rest, same-count, stage_by, told-is, trip-fits}
use Rattle.lsl_world.proofs.Landing.{IsOpen, Lands, is_first, lands}
use Rattle.lsl_world.proofs.Regions.{leads-by-regions}

module _ (codes : List Code) (r : Rules) (regions : List (List ℕ)) (few_regions : length regions < 2 ^ 32) where
  -- a stage where the objects made at most this many trips
  record IsReadyFor (stage : Stage) (cards : List (List Card)) (most : ℕ) : Type 0 where
    ready : IsReady regions stage cards
    at_most : AreAtMost most cards

  here-so : (stage : Stage) (step : Step) (here : is_crossing stage.world step ≡ false) (cards : List (List Card))
      (most : ℕ) → IsReadyFor stage cards most → IsReadyFor (here_behind codes r regions stage step here) cards most
  here-so stage step here cards most ready =
      record { ready = here-ready codes r regions stage step here cards ready.ready; at_most = ready.at_most }

  fine-so : (stage : Stage) (cards : List (List Card)) (most : ℕ) → IsReadyFor stage cards most → most + 1 < 2 ^ 64 - 1
      → (object : ℕ) (region : List ℕ) → IsNamed regions region → HasNumber (length stage.world.objects) object
      → is_crossing stage.world (Cross object region) ≡ true
      → depart_fault
      (card_at cards (way_to regions (regions_of stage.world) object region).object
      (way_to regions (regions_of stage.world) object region).from)
      (way_to regions (regions_of stage.world) object region).from
      (way_to regions (regions_of stage.world) object region).to
      ≡ None
  fine-so stage cards most ready room object region named number crossing =
      fine-unless codes r regions few_regions stage cards ready.ready object region named number crossing
      (λ e. (let low = ready.at_most object (way_to regions (regions_of stage.world) object region).from in
      omega (arith, low, room, e)))

  -- ---- the steps are in their ranges

  record AreFine (steps : List Step) (objects : ℕ) : Type 0 where
    named : All (LeadsToNamed regions) steps
    size : Size
    as_many : length size.prims ≡ objects
    there : All (IsStepOf size) steps

  fine-rest : (step : Step) (steps : List Step) (m n : ℕ) → m ≡ n → AreFine (step ∷ steps) n → AreFine steps m
  fine-rest step steps m n same fine = record {
    named = λ k x within. fine.named (suc k) x (omega (arith, within));
    size = fine.size;
    as_many = fine.as_many ∙ sym same;
    there = λ k x within. fine.there (suc k) x (omega (arith, within));
  }

  record IsFineCross (object : ℕ) (region : List ℕ) (objects : ℕ) : Type 0 where
    named : IsNamed regions region
    number : HasNumber objects object

  fine-cross : (object : ℕ) (region : List ℕ) (steps : List Step) (n : ℕ) → AreFine (Cross object region ∷ steps) n
      → IsFineCross object region n
  fine-cross object region steps n fine = record {
    named = fine.named 0 (Cross object region) (omega arith);
    number = subst (λ (k : ℕ). HasNumber k object) fine.as_many
        (fine.there 0 (Cross object region) (omega arith));
  }

  -- ---- the next trip carries a new offer

  abbrev Opens : List Step → Type 0
  Opens steps =
      (stage : Stage) (cards : List (List Card)) (most : ℕ) (trips : List Trip) → IsReadyFor stage cards most
      → most + length steps < 2 ^ 64 - 1 → AreFine steps (length stage.world.objects)
      → Begins (sent_of trips) (sent_from codes r regions steps trips stage) → IsOpen (bytes_of stage.notes) trips

  -- what a step hands over, and what the others do
  abbrev sent_with : Step → List Step → List Trip → Stage → List (List ℕ)
  sent_with step steps trips stage =
      let gone = goes codes r regions step stage trips in
      gone.sent ++ sent_from codes r regions steps gone.behind gone.told.value

  module _ (step : Step) (steps : List Step) (on : Opens steps) (stage : Stage) (cards : List (List Card)) (most : ℕ)
      (trips : List Trip) (ready : IsReadyFor stage cards most) (room : most + suc (length steps) < 2 ^ 64 - 1)
      (fine : AreFine (step ∷ steps) (length stage.world.objects))
      (begins : Begins (sent_of trips) (sent_with step steps trips stage)) where
    opens-here : is_crossing stage.world step ≡ false → IsOpen (bytes_of stage.notes) trips
    opens-here here =
        let v = (next r step stage.world).value in
        on (here_behind codes r regions stage step here) cards most trips (here-so stage step here cards most ready)
        (omega (arith, room))
        (fine-rest step steps (length v.objects) (length stage.world.objects)
        (same-count v stage.world (here-regions codes r regions stage step here)) fine)
        (subst (λ (gone : Gone). Begins (sent_of trips)
        (gone.sent ++ sent_from codes r regions steps gone.behind gone.told.value))
        (here-gone codes r regions stage step here trips) begins)

    opens-cross : (s : Step) → step ≡ s → is_crossing stage.world s ≡ true → IsOpen (bytes_of stage.notes) trips
    opens-cross (Cross object region) same crossing =
        let ok = fine-cross object region steps (length stage.world.objects)
        (subst (λ (x : Step). AreFine (x ∷ steps) (length stage.world.objects)) same fine) in
        let gone = goes codes r regions (Cross object region) stage trips in
        opens-offer codes r regions few_regions stage cards ready.ready object region ok.named ok.number crossing
        (fine-so stage cards most ready (omega (arith, room)) object region ok.named ok.number crossing) trips
        (sent_from codes r regions steps gone.behind gone.told.value)
        (subst (λ (x : Step). Begins (sent_of trips) (sent_with x steps trips stage)) same begins)
    opens-cross s same crossing = absurd (cc)

    opens-step : IsOpen (bytes_of stage.notes) trips
    opens-step = go (is_crossing stage.world step) refl where
      go : (b : Bool) → is_crossing stage.world step ≡ b → IsOpen (bytes_of stage.notes) trips
      go false here = opens-here here
      go true crossing = opens-cross step refl crossing

  opens : (steps : List Step) → Opens steps
  unfolding sent_from
  opens [] stage cards most [] ready room fine begins = tt
  opens [] stage cards most (t ∷ trips) ready room fine begins = absurd (let none = begins.whole in cc)
  opens (step ∷ steps) stage cards most trips ready room fine begins =
      opens-step step steps (opens steps) stage cards most trips ready room fine begins

  -- ---- the run

  run-none : (w : World) → quiet w ≡ reference r [] w
  unfolding each_of
  run-none w = refl

  run-more : (s : Step) (steps : List Step) (v : World)
      → lead (next r s v).entries (reference r steps (next r s v).value) ≡ reference r (s ∷ steps) v
  unfolding each_of
  run-more s steps v = refl

  abbrev Keeps : List Step → Type 0
  Keeps steps =
      (stage : Stage) (cards : List (List Card)) (most : ℕ) (trips : List Trip) → IsReadyFor stage cards most
      → most + length steps < 2 ^ 64 - 1 → AreFine steps (length stage.world.objects)
      → WereCarried (bytes_of stage.notes) trips
      → Begins (sent_of trips) (sent_from codes r regions steps trips stage)
      → as_value (λ x. x.world) (travel_from codes r regions steps trips stage)
      ≡ reference r (kept_lossy (regions_of stage.world) (bytes_of stage.notes) steps trips) stage.world

  -- what a step reports, and what the others do
  abbrev told_with : Step → List Step → List Trip → Stage → Told World
  told_with step steps trips stage =
      let gone = goes codes r regions step stage trips in
      as_value (λ x. x.world) (next_to gone.told (λ s. travel_from codes r regions steps gone.behind s))

  module _ (step : Step) (steps : List Step) (more_opens : Opens steps) (more_keeps : Keeps steps) (stage : Stage)
      (cards : List (List Card)) (most : ℕ) (trips : List Trip) (ready : IsReadyFor stage cards most)
      (room : most + suc (length steps) < 2 ^ 64 - 1) (fine : AreFine (step ∷ steps) (length stage.world.objects))
      (fair : WereCarried (bytes_of stage.notes) trips)
      (begins : Begins (sent_of trips) (sent_with step steps trips stage)) where
    abbrev w_now : World
    w_now = stage.world

    abbrev homes_now : List (List ℕ)
    homes_now = regions_of w_now

    abbrev entries_now : List (List ℕ)
    entries_now = bytes_of stage.notes

    abbrev IsKept : Step → Type 0
    IsKept s =
        told_with s steps trips stage ≡ reference r (kept_lossy homes_now entries_now (s ∷ steps) trips) w_now

    abbrev tested : Bool → List Step
    tested b =
        if b
        then (if offer_came (own_trips entries_now trips)
        then step
        ∷ kept_lossy (regions_behind homes_now step) (entries_by entries_now (own_trips entries_now trips)) steps
        (trips_behind entries_now trips)
        else kept_lossy homes_now (entries_by entries_now (own_trips entries_now trips)) steps
        (trips_behind entries_now trips))
        else step ∷ kept_lossy homes_now entries_now steps trips

    kept-here : is_crossing w_now step ≡ false → IsKept step
    kept-here here =
        let v = (next r step w_now).value in
        let on = more_keeps (here_behind codes r regions stage step here) cards most trips
        (here-so stage step here cards most ready)
        (omega (arith, room))
        (fine-rest step steps (length v.objects) (length w_now.objects)
        (same-count v w_now (here-regions codes r regions stage step here)) fine) fair
        (subst (λ (gone : Gone). Begins (sent_of trips)
        (gone.sent ++ sent_from codes r regions steps gone.behind gone.told.value))
        (here-gone codes r regions stage step here trips) begins) in
        ap (λ (gone : Gone). as_value (λ x. x.world)
        (next_to gone.told (λ s. travel_from codes r regions steps gone.behind s)))
        (here-gone codes r regions stage step here trips)
        ∙ ap (λ (a : Told World). lead (next r step w_now).entries a)
        (on ∙ ap (λ (hs : List (List ℕ)). reference r (kept_lossy hs entries_now steps trips) v)
        (here-regions codes r regions stage step here))
        ∙ run-more step (kept_lossy homes_now entries_now steps trips) w_now
        ∙ ap (λ (b : Bool). reference r (tested b) w_now) (sym (leads-by-regions step w_now ∙ here))

    module _ (object : ℕ) (region : List ℕ) (crossing : is_crossing w_now (Cross object region) ≡ true)
        (ok : IsFineCross object region (length w_now.objects))
        (rest_fine : (n : ℕ) → n ≡ length w_now.objects → AreFine steps n)
        (sends : Begins (sent_of trips) (sent_with (Cross object region) steps trips stage)) where
      room_here : most + 1 < 2 ^ 64 - 1
      room_here = omega (arith, room)

      abbrev way_now : Way
      way_now = way_to regions homes_now object region

      departs : depart_fault (card_at cards way_now.object way_now.from) way_now.from way_now.to ≡ None
      departs = fine-so stage cards most ready room_here object region ok.named ok.number crossing

      abbrev parcel_now : List ℕ
      parcel_now = parcel_of codes w_now object

      abbrev drive_now : Driven
      drive_now = driven way_now most_notes stage.notes (departure cards way_now parcel_now) trips

      abbrev gone_now : Gone
      gone_now = goes codes r regions (Cross object region) stage trips

      abbrev others : List (List ℕ)
      others = sent_from codes r regions steps gone_now.behind gone_now.told.value

      begun : Begins (sent_of trips) (bytes_of drive_now.notes ++ others)
      begun = begins-offer codes r regions few_regions stage cards ready.ready object region ok.named ok.number crossing
          departs trips others sends

      few-homes : length homes_now < 2 ^ 32
      few-homes = omega (arith, ready.ready.few, length-map w_now.objects region_of)

      it : Lands cards way_now parcel_now stage.notes drive_now trips
      it =
          lands (length homes_now) (length regions) (few-homes, few_regions) way_now parcel_now cards
          ready.ready.order.counts
          (has codes r regions few_regions stage cards ready.ready object region ok.named ok.number crossing)
          (place_in regions homes_now)
          (rest codes r regions few_regions stage cards ready.ready object region ok.named ok.number crossing) refl
          departs ready.ready.order.fit
          (trip-fits codes r regions few_regions stage cards ready.ready object region ok.named ok.number crossing
          departs) stage.notes ready.ready.past 31
          (omega arith) trips others fair begun

      abbrev there : Stage
      there =
          stage_by codes r regions few_regions stage cards ready.ready object region ok.named ok.number crossing departs
          trips it
          (is_first it.first false)

      abbrev cards_behind : List (List Card)
      cards_behind = rested drive_now.last.field way_now

      now-ready : IsReadyFor there cards_behind (suc most)
      now-ready = record {
        ready = ready-behind codes r regions few_regions stage cards ready.ready object region ok.named ok.number
            crossing
            departs trips it;
        at_most = most-behind codes r regions few_regions stage cards ready.ready object region ok.named ok.number
            crossing
            departs trips it most ready.at_most;
      }

      now-gone : gone_now ≡ record {
        told = as_value (λ v. record { world = v; cards = Some cards_behind; notes = stage.notes ++ drive_now.notes })
            (if is_first it.first false then next r (Cross object region) w_now else quiet w_now);
        sent = bytes_of drive_now.notes;
        behind = drive_now.behind;
      }
      now-gone =
          cross-gone codes r regions few_regions stage cards ready.ready object region ok.named ok.number crossing
          departs trips
          ∙ told-is codes r regions few_regions stage cards ready.ready object region ok.named ok.number crossing
          departs trips it

      now-fine : AreFine steps (length there.world.objects)
      now-fine =
          rest_fine (length there.world.objects)
          (objects-same codes r regions few_regions stage cards ready.ready object region ok.named ok.number crossing
          departs trips it)

      now-begins : Begins (sent_of drive_now.behind) (sent_from codes r regions steps drive_now.behind there)
      now-begins =
          subst (λ (z : List (List ℕ)). Begins (sent_of drive_now.behind) z)
          (ap (λ (gone : Gone). sent_from codes r regions steps gone.behind gone.told.value) now-gone)
          (begins-on codes r regions few_regions stage cards ready.ready object region ok.named ok.number crossing
          departs trips it others begun)

      now-opens : IsOpen (bytes_of (stage.notes ++ drive_now.notes)) (drop (length drive_now.notes) trips)
      now-opens =
          subst (λ (ts : List Trip). IsOpen (bytes_of (stage.notes ++ drive_now.notes)) ts)
          (behind-is codes r regions few_regions stage cards ready.ready object region ok.named ok.number crossing
          departs trips it)
          (more_opens there cards_behind (suc most) drive_now.behind now-ready (omega (arith, room)) now-fine
          now-begins)

      kept-cross : IsKept (Cross object region)
      kept-cross =
          cross-kept codes r regions few_regions stage cards ready.ready object region ok.named ok.number crossing
          departs trips it steps others fair
          begun now-opens
          (more_keeps there cards_behind (suc most) drive_now.behind now-ready (omega (arith, room)) now-fine
          (fair-behind codes r regions few_regions stage cards ready.ready object region ok.named ok.number crossing
          departs trips it steps others fair
          begun now-opens) now-begins)

    by-step : (s : Step) → step ≡ s → is_crossing w_now s ≡ true → IsKept s
    by-step (Cross object region) same crossing =
        let fine_now = subst (λ (x : Step). AreFine (x ∷ steps) (length w_now.objects)) same fine in
        kept-cross object region crossing (fine-cross object region steps (length w_now.objects) fine_now)
        (λ n e. fine-rest (Cross object region) steps n (length w_now.objects) e fine_now)
        (subst (λ (x : Step). Begins (sent_of trips) (sent_with x steps trips stage)) same begins)
    by-step s same crossing = absurd (cc)

    kept-step : IsKept step
    kept-step = go (is_crossing w_now step) refl where
      go : (b : Bool) → is_crossing w_now step ≡ b → IsKept step
      go false here = kept-here here
      go true crossing = by-step step refl crossing

  keeps : (steps : List Step) → Keeps steps
  unfolding sent_from travel_from
  keeps [] stage cards most trips ready room fine fair begins = run-none stage.world
  keeps (step ∷ steps) stage cards most trips ready room fine fair begins =
      kept-step step steps (opens steps) (keeps steps) stage cards most trips ready room fine fair begins

pub lossy-keeps : LossyRunsKeepSteps
lossy-keeps codes r regions steps stage cards most size trips are order at_most room few_regions few named as_many
    there past
    fair begins =
    keeps codes r regions few_regions steps stage cards most trips
    (record { ready = record { are = are; order = order; few = few; past = past }; at_most = at_most }) room
    (record { named = named; size = size; as_many = as_many; there = there }) fair begins
