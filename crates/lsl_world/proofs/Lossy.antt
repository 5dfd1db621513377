-- A world in which objects are handed over by notes from its start on, and steps in it that hand nothing over.
use Rattle.std.proofs.Common.{◌≡◌, ◌∙◌, refl, sym, ap, subst, arith, ℕ, ◌-◌, ◌<◌, ◌≤◌, false, List, [], ◌∷◌, ◌++◌, length, map, take, get_or}
use Rattle.std.specs.Prelude.{All}
use Rattle.std.specs.declared.result.Result.{Result}
use Rattle.std.specs.declared.result.Result.TheVariants.{Ok, Err}
use Rattle.std.proofs.lemmas.List.{get_or-map, length-map, take_all}
use Rattle.std.proofs.lemmas.List.Elements.{All-nil}
use Rattle.lsl_code.specs.declared.woven_units.Woven.{Woven as Code}
use Rattle.lsl_handoff.specs.declared.card.Card.{Card}
use Rattle.lsl_handoff.specs.DriveLaws.{IsAtRest}
use Rattle.lsl_handoff.specs.Entries.{AreAllPast}
use Rattle.lsl_handoff.specs.Fields.{IsOneOf, field_at_start}
use Rattle.lsl_handoff.specs.Handovers.{HasCounts}
use Rattle.lsl_handoff.proofs.BeginningLemmas.{counts-start, rests-start, trips-start}
use Rattle.lsl_lines.specs.declared.file.Step.{Step}
use Rattle.lsl_lines.specs.declared.file.Step.TheVariants.{Cross}
use Rattle.lsl_image.specs.Images.{IsIntact}
use Rattle.lsl_ports.specs.Trips.{Honest, Trip, sent_of}
use Rattle.lsl_post.specs.declared.entries.Entry.{Entry}
use Rattle.lsl_post.specs.Journal.{Tells}
use Rattle.lsl_post.specs.Told.{Told}
use Rattle.lsl_script.specs.Rules.{Rules}
use Rattle.lsl_region.specs.declared.objects.Linkset.{Linkset}
use Rattle.lsl_region.specs.Grids.{Contents}
use Rattle.lsl_region.specs.Journeys.{Sends}
use Rattle.lsl_region.specs.Worlds.{World as SourceWorld, no_object}
use Rattle.lsl_world.specs.declared.world.World.{World}
use Rattle.lsl_world.specs.Kept.{region_of, regions_of}
use Rattle.lsl_world.specs.Orders.{AreAtMost, AreInOrder, Hands, SendsNotes, SendsOfStep, hand_on}
use Rattle.lsl_world.specs.Regions.{AreInNamed, IsNamed, number_in}
use Rattle.lsl_world.specs.Sizes.{Size}
use Rattle.lsl_world.specs.Stands.{prims_of, size_of}
use Rattle.lsl_world.specs.Steps.{next}
use Rattle.lsl_world.specs.Travels.{Does, images_of, is_crossing}
use Rattle.lsl_world.proofs.Counts.{IsHere}
use Rattle.lsl_world.proofs.Going.{go_on-here, images-here}
use Rattle.lsl_world.proofs.Kept.{on-ok}
use Rattle.lsl_world.proofs.Numbering.{number-there}
use Rattle.lsl_world.proofs.Regions.{regions-stay}

-- a step that isn't a crossing continues as always
hand-here : (codes : List Code) (r : Rules) (regions : List (List ℕ)) (cards : List (List Card)) (step : Step)
    → IsHere step → (trips : List Trip) (w : SourceWorld) → hand_on codes r regions cards step trips w ≡ next r step w
hand-here codes r regions cards (Cross object region) here trips w = absurd here
hand-here codes r regions cards step here trips w = refl

sends-here : {T E : Type 0} (step : Step) → IsHere step → (result : Result T E) (codes : List Code)
    (regions : List (List ℕ)) (w : SourceWorld) (cards : List (List Card))
    → SendsNotes step result codes regions w cards cards []
sends-here (Cross object region) here result codes regions w cards = absurd here
sends-here step here result codes regions w cards = (refl, refl)

crosses-here : (step : Step) → IsHere step → (w : SourceWorld) → is_crossing w step ≡ false
crosses-here (Cross object region) here w = absurd here
crosses-here step here w = refl

pub hands-other : {T E : Type 0} (codes : List Code) (r : Rules) (IsNow : SourceWorld → Type 0)
    (regions : List (List ℕ)) (cards : List (List Card)) (step : Step) → IsHere step → (w : SourceWorld)
    (entries : List (List ℕ)) (before after : List Entry) (result : Result T E)
    → AreInOrder regions cards (regions_of w) → AreAllPast (length w.objects) (length regions) cards entries
    → Tells result (λ v _. IsNow v) before after (next r step w)
    → Hands codes r IsNow regions cards cards step w entries [] before after result
hands-other codes r IsNow regions cards step here w entries before after result order past tells =
    let same = hand-here codes r regions cards step here [] w in
    record {
      tells = subst (λ a. Tells result (λ v _. IsNow v) before after a) (sym same) tells;
      ordered = on-ok result (subst (λ (a : _). AreInOrder regions cards (regions_of a.value)) (sym same)
          (subst (λ (hs : List (List ℕ)). AreInOrder regions cards hs)
          (sym (regions-stay r step w (crosses-here step here w))) order));
      past = on-ok result past;
      few = λ most are. on-ok result (λ q s. omega (arith, are q s));
      sent = sends-here step here result codes regions w cards;
    }

-- this many homes are all
pub homes-numbered : (regions : List (List ℕ)) (objects : List Linkset) (homes : List ℕ) (place : ℕ)
    → length objects ≤ place → homes ≡ map (λ (o : Linkset). number_in regions o.region) (take place objects)
    → homes ≡ map (λ (o : Linkset). number_in regions o.region) objects
homes-numbered regions objects homes place over so =
    so ∙ ap (map (λ (o : Linkset). number_in regions o.region)) (take_all place objects over)

-- cards at the start are in order
module _ (regions : List (List ℕ)) (objects : List Linkset) (named : AreInNamed regions objects) where
  abbrev homes : List (List ℕ)
  homes = map region_of objects

  abbrev numbers : List ℕ
  numbers = map (λ (o : Linkset). number_in regions o.region) objects

  abbrev cards : List (List Card)
  cards = field_at_start numbers (length regions)

  pub numbers-there : All (IsOneOf (length regions)) numbers
  numbers-there = λ place number within. (let few : place < length objects =
      omega (arith, within, length-map objects (λ (o : Linkset). number_in regions o.region)) in
      subst (λ (n : ℕ). IsOneOf (length regions) n)
      (sym (get_or-map (λ (o : Linkset). number_in regions o.region) objects place no_object number few))
      (number-there regions (get_or objects place no_object).region (named place no_object few)))

  many : length numbers ≡ length homes
  many = length-map objects (λ (o : Linkset). number_in regions o.region) ∙ sym (length-map objects region_of)

  home-number : (object : ℕ) → IsOneOf (length homes) object
      → get_or numbers (object - 1) 0 ≡ number_in regions (get_or homes (object - 1) [])
  home-number object one =
      let few : object - 1 < length objects = omega (arith, one.0, one.1, length-map objects region_of) in
      get_or-map (λ (o : Linkset). number_in regions o.region) objects (object - 1) no_object 0 few
      ∙ ap (number_in regions) (sym (get_or-map region_of objects (object - 1) no_object [] few))

  pub order-start : AreInOrder regions cards homes
  order-start = record {
    counts = subst (λ (n : ℕ). HasCounts n (length regions) cards) many
        (counts-start numbers (length regions) numbers-there);
    named = λ object one. (let few : object - 1 < length objects =
        omega (arith, one.0, one.1, length-map objects region_of) in
        subst (λ (region : List ℕ). IsNamed regions region)
        (sym (get_or-map region_of objects (object - 1) no_object [] few)) (named (object - 1) no_object few));
    rest = λ object one. subst (λ (n : ℕ). IsAtRest cards object n) (home-number object one)
        (rests-start numbers (length regions) numbers-there object
        (subst (λ (n : ℕ). IsOneOf n object) (sym many) one));
    fit = λ object region. omega (arith, trips-start numbers (length regions) numbers-there object region);
  }

  pub most-start : AreAtMost 0 cards
  most-start = λ object region. omega (arith, trips-start numbers (length regions) numbers-there object region)

  pub carded-start : HasCounts (length objects) (length regions) cards
  carded-start =
      subst (λ (n : ℕ). HasCounts n (length regions) cards)
      (length-map objects (λ (o : Linkset). number_in regions o.region))
      (counts-start numbers (length regions) numbers-there)

-- no bytes were sent, so no trip was made
none-sent : (trips : List Trip) → sent_of trips ≡ [] → trips ≡ []
none-sent [] e = refl
none-sent (t ∷ trips) e = absurd (cc)

none-begun : (xs others : List (List ℕ)) → xs ++ others ≡ [] → xs ≡ []
none-begun [] others e = refl
none-begun (x ∷ xs) others e = absurd (cc)

no-trips : {T E : Type 0} (result : Result T E) (trips : List Trip) → Sends result trips [] → trips ≡ []
no-trips (Ok t) trips sent = none-sent trips sent
no-trips (Err e) trips sent = none-sent trips (none-begun (sent_of trips) sent.others sent.whole)

-- a step that isn't a crossing carries nothing
pub sends-other : {T E : Type 0} (codes : List Code) (regions : List (List ℕ)) (grid : Contents) (step : Step)
    → IsHere step → (w : SourceWorld) (trips : List Trip) (result : Result T E)
    → Sends result trips (images_of codes step w) → SendsOfStep codes regions grid step trips
sends-other codes regions grid (Cross object region) here w trips result sent = absurd here
sends-other codes regions grid step here w trips result sent =
    no-trips result trips (subst (λ (images : List (List ℕ)). Sends result trips images)
    (images-here codes step here w) sent)

pub here-unless : (step : Step) → ((object : ℕ) (region : List ℕ) → step ≡ Cross object region → ⊥) → IsHere step
here-unless (Cross object region) not = absurd (not object region refl)
here-unless step not = tt

-- where a step isn't a crossing, its result is the same
pub hands-does : {T E : Type 0} (codes : List Code) (r : Rules) (IsNow : SourceWorld → Type 0)
    (regions : List (List ℕ)) (cards : List (List Card)) (step : Step) → IsHere step → (w : SourceWorld)
    (entries : List (List ℕ)) (trips : List Trip) (before after : List Entry) (result : Result T E)
    → AreInOrder regions cards (regions_of w) → AreAllPast (length w.objects) (length regions) cards entries
    → Does codes r IsNow step w trips before after result
    → Hands codes r IsNow regions cards cards step w entries trips before after result
hands-does codes r IsNow regions cards step here w entries trips before after result order past does =
    let none : trips ≡ [] = no-trips result trips
    (subst (λ (images : List (List ℕ)). Sends result trips images) (images-here codes step here w) does.sent) in
    subst (λ (ts : List Trip). Hands codes r IsNow regions cards cards step w entries ts before after result) (sym none)
    (hands-other codes r IsNow regions cards step here w entries before after result order past
    (subst (λ (a : Told SourceWorld). Tells result (λ v _. IsNow v) before after a) (go_on-here r step here trips w)
    (does.tells (subst (λ (ts : List Trip). Honest IsIntact ts) (sym none) (All-nil _)))))

-- as many objects
pub count-kept : (old new : World) → size_of new ≡ size_of old → length new.grid.objects ≡ length old.grid.objects
count-kept old new same =
    sym (length-map new.grid.objects prims_of) ∙ ap (λ (s : Size). length s.prims) same
    ∙ length-map old.grid.objects prims_of
