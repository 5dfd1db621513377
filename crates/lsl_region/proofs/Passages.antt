-- The result of a crossing over a link in the world that the grid represents.
use Rattle.std.proofs.Common.{◌≡◌, ◌≢◌, inl, inr, ◌∙◌, refl, sym, ap, subst, arith, ℕ, Bool, true, false, List, [], ◌∷◌, ◌++◌, length, get_or, take, append-nil}
use Rattle.std.specs.Prelude.{not, ◌&&◌, if◌then◌else◌, Option, Some, None, MatchResult, OnOk}
use Rattle.std.specs.Str.{bytes_eq}
use Rattle.std.specs.declared.result.Result.{Result}
use Rattle.std.specs.declared.result.Result.TheVariants.{Ok, Err}
use Rattle.std.proofs.lemmas.Slice.Eq.{bytes_eq-Decides}
use Rattle.std.proofs.lemmas.List.Elements.{All-nil}
use Rattle.lsl_ports.specs.Growth.{Begins}
use Rattle.lsl_ports.specs.Trips.{CameBackSo, Honest, Trip, Went, sent_of}
use Rattle.lsl_code.specs.declared.woven_units.Woven.{Woven as Code}
use Rattle.lsl_post.specs.declared.entries.Entry.{Entry}
use Rattle.lsl_post.specs.Journal.{Part}
use Rattle.lsl_post.specs.Told.{Told, quiet}
use Rattle.lsl_post.proofs.Amid.{part-none}
use Rattle.lsl_image.specs.declared.faults.ImageFault.{ImageFault}
use Rattle.lsl_image.specs.declared.parts.ObjectParts.{ObjectParts}
use Rattle.lsl_image.specs.Images.{IsIntact}
use Rattle.lsl_image.specs.Object.{object}
use Rattle.lsl_image.specs.Valid.{shape_of}
use Rattle.lsl_image.proofs.ImageLemmas.{image-no_fault, image-one}
use Rattle.lsl_script.specs.Codes.{Meant}
use Rattle.lsl_region.specs.declared.crossing.Crossed.{Crossed}
use Rattle.lsl_region.specs.declared.crossing.Crossed.TheVariants.{Moved, Stayed, Here}
use Rattle.lsl_region.specs.declared.crossing.StayedWhy.TheVariants.{Link, Image}
use Rattle.lsl_region.specs.declared.objects.Linkset.{Linkset}
use Rattle.lsl_region.specs.Crossings.{Brings, BringsFault, ComesOf, CrossesAs, IsOneTrip, IsSent, Stays, arrived, image_in, images_to, kept_entries, region_in}
use Rattle.lsl_region.specs.Grids.{Contents, Stands}
use Rattle.lsl_region.specs.Journeys.{Travels, arrive, came_back, contents_of, cross_by, is_in_region}
use Rattle.lsl_region.specs.ObjectParts.{parts_of_object}
use Rattle.lsl_region.specs.Worlds.{World, no_object, object_at}
use Rattle.lsl_region.proofs.Journeys.{arrives, contents-is}

pub bytes-differ : (a b : List ℕ) → a ≢ b → bytes_eq a b ≡ false
bytes-differ a b n = go (bytes_eq a b) refl
  where
    go : (t : Bool) → bytes_eq a b ≡ t → t ≡ false
    go true e = absurd (n ((bytes_eq-Decides a b).0 e))
    go false e = refl

pub images-elsewhere : (codes : List Code) (grid : Contents) (place : ℕ) (region : List ℕ)
    → region_in grid place ≢ region → images_to codes grid place region ≡ image_in codes grid place ∷ []
images-elsewhere codes grid place region n =
    ap {A = Bool} {B = List (List ℕ)} (λ b. if b then [] else image_in codes grid place ∷ [])
    (bytes-differ (region_in grid place) region n)

pub images-here : (codes : List Code) (grid : Contents) (place : ℕ) (region : List ℕ)
    → region_in grid place ≡ region → images_to codes grid place region ≡ []
images-here codes grid place region e =
    ap {A = Bool} {B = List (List ℕ)} (λ b. if b then [] else image_in codes grid place ∷ [])
    ((bytes_eq-Decides (region_in grid place) region).1 e)

-- the first of two trips that are one
one-honest : (trips : List Trip) (trip : Trip) → trips ≡ trip ∷ [] → Honest IsIntact trips
    → CameBackSo IsIntact trip.sent trip.back
one-honest trips trip e h =
    subst (λ (ts : List Trip). Honest IsIntact ts) e h 0 trip (omega arith)

module _ (codes : List Code) (m : Meant codes) (clock place : ℕ) (region : List ℕ) (old : Contents) (w : World)
    (st : Stands codes None clock old w) where
  region-same : region_in old place ≡ (object_at w place).region
  region-same = ap (λ (os : List Linkset). (get_or os place no_object).region) st.objects

  in-region : region_in old place ≡ region → is_in_region w place region ≡ true
  in-region e = (bytes_eq-Decides (object_at w place).region region).1 (sym region-same ∙ e)

  not-in-region : region_in old place ≢ region → is_in_region w place region ≡ false
  not-in-region n = bytes-differ (object_at w place).region region (λ e. n (region-same ∙ e))

  abbrev by_tests : Bool → Bool → Told World
  by_tests here back =
      if not here && not back
      then quiet w
      else (if here then quiet w else arrive m.rules place region w)

  crossed-here : (trips : List Trip) → region_in old place ≡ region
      → cross_by m.rules place region trips w ≡ quiet w
  crossed-here trips e = ap (λ (b : Bool). by_tests b (came_back trips)) (in-region e) ∙ go (came_back trips)
    where
      go : (b : Bool) → by_tests true b ≡ quiet w
      go true = refl
      go false = refl

  crossed-refused : (trips : List Trip) → region_in old place ≢ region → came_back trips ≡ false
      → cross_by m.rules place region trips w ≡ quiet w
  crossed-refused trips n e =
      ap (λ (b : Bool). by_tests b (came_back trips)) (not-in-region n) ∙ ap (λ (b : Bool). by_tests false b) e

  crossed-over : (trips : List Trip) → region_in old place ≢ region → came_back trips ≡ true
      → cross_by m.rules place region trips w ≡ arrive m.rules place region w
  crossed-over trips n e =
      ap (λ (b : Bool). by_tests b (came_back trips)) (not-in-region n) ∙ ap (λ (b : Bool). by_tests false b) e

  images-same : images_to codes old place region ≡ images_to codes (contents_of codes w) place region
  images-same = ap (λ (g : Contents). images_to codes g place region) (contents-is codes clock old w st)

  -- nothing came of it
  stays-quiet : (new : Contents) (before after : List Entry) (trips : List Trip) → Stays old new before after
      → cross_by m.rules place region trips w ≡ quiet w
      → Stands codes None clock new (cross_by m.rules place region trips w).value
      × (after ≡ before ++ (cross_by m.rules place region trips w).entries)
  stays-quiet new before after trips s e = subst (λ (t : Told World).
      Stands codes None clock new t.value × (after ≡ before ++ t.entries)) (sym e)
      (subst (λ (g : Contents). Stands codes None clock g w) (sym s.same) st, s.silent ∙ sym (append-nil before))

  one-sent : (trips : List Trip) (back : Option (List ℕ)) → region_in old place ≢ region
      → IsOneTrip trips (image_in codes old place) back
      → sent_of trips ≡ images_to codes (contents_of codes w) place region
  one-sent trips back n one =
      ap sent_of one ∙ sym (images-elsewhere codes old place region n) ∙ images-same

  pub travels-here : {E : Type 0} (new : Contents) (before after : List Entry) (trips : List Trip)
      → region_in old place ≡ region → trips ≡ [] → Stays old new before after
      → Travels {E = E} codes m.rules clock place region w trips new before after (Ok Here)
  travels-here new before after trips e none s = record {
    tells = λ honest. stays-quiet new before after trips s (crossed-here trips e);
    sent = ap sent_of none ∙ sym (images-here codes old place region e) ∙ images-same;
  }

  travels-lost : {E : Type 0} (new : Contents) (before after : List Entry) (trips : List Trip)
      → region_in old place ≢ region → IsOneTrip trips (image_in codes old place) None → Stays old new before after
      → Travels {E = E} codes m.rules clock place region w trips new before after (Ok (Stayed Link))
  travels-lost new before after trips n one s = record {
    tells = λ honest. stays-quiet new before after trips s (crossed-refused trips n (ap came_back one));
    sent = one-sent trips None n one;
  }

  travels-refused : {E : Type 0} (new : Contents) (before after : List Entry) (trips : List Trip) (back : List ℕ)
      (fault : ImageFault)
      → region_in old place ≢ region → IsOneTrip trips (image_in codes old place) (Some back)
      → BringsFault codes old place fault back → IsSent codes old place → Stays old new before after
      → Travels {E = E} codes m.rules clock place region w trips new before after (Ok (Stayed (Image fault)))
  travels-refused new before after trips back fault n one wrong sent s =
      let parts = parts_of_object old place in
      let other : image_in codes old place ≢ back = λ e.
      image-no_fault (object (region_in old place) (shape_of parts) codes) back parts fault
      (subst (λ (bytes : List ℕ). Brings codes old place parts bytes) e sent) wrong in
      record {
        tells = λ honest. stays-quiet new before after trips s (crossed-refused trips n
            (ap came_back one ∙ bytes-differ (image_in codes old place) back other));
        sent = one-sent trips (Some back) n one;
      }

  travels-moved : {E : Type 0} (new : Contents) (before after : List Entry) (trips : List Trip) (back : List ℕ)
      (parts : ObjectParts)
      → region_in old place ≢ region → IsOneTrip trips (image_in codes old place) (Some back)
      → Brings codes old place parts back → IsSent codes old place
      → new ≡ (arrived codes old place region parts).value
      → after ≡ before ++ (arrived codes old place region parts).entries
      → Travels {E = E} codes m.rules clock place region w trips new before after (Ok Moved)
  travels-moved new before after trips back parts n one image sent there told = record {
    tells = λ honest. go (one-honest trips _ one honest);
    sent = one-sent trips (Some back) n one;
  }
    where
      own : ObjectParts
      own = parts_of_object old place

      go : CameBackSo IsIntact (image_in codes old place) (Some back)
          → Stands codes None clock new (cross_by m.rules place region trips w).value
          × (after ≡ before ++ (cross_by m.rules place region trips w).entries)
      go (inr broken) = absurd (broken image.0)
      go (inl same) =
          let is : parts ≡ own = image-one (object (region_in old place) (shape_of own) codes) back parts own image
          (subst (λ (bytes : List ℕ). Brings codes old place own bytes) (sym same) sent) in
          let a = arrives codes m clock place region old w st in
          let back_so : came_back trips ≡ true =
          ap came_back one ∙ (bytes_eq-Decides (image_in codes old place) back).1 (sym same) in
          let first : (arrived codes old place region parts).value ≡ (arrived codes old place region own).value =
          ap (λ (p : ObjectParts). (arrived codes old place region p).value) is in
          let second : (arrived codes old place region parts).entries ≡ (arrived codes old place region own).entries =
          ap (λ (p : ObjectParts). (arrived codes old place region p).entries) is in
          subst (λ (t : Told World). Stands codes None clock new t.value × (after ≡ before ++ t.entries))
          (sym (crossed-over trips n back_so)) (
            subst (λ (g : Contents). Stands codes None clock g (arrive m.rules place region w).value)
                (sym (there ∙ first)) a.stands,
            told ∙ ap (λ (es : List Entry). before ++ es) (second ∙ a.entries),
          )

  travels-ok : {E : Type 0} (new : Contents) (before after : List Entry) (trips : List Trip) (crossed : Crossed)
      → IsSent codes old place → CrossesAs codes place region old new before after trips crossed
      → Travels {E = E} codes m.rules clock place region w trips new before after (Ok crossed)
  travels-ok new before after trips Here sent x = travels-here new before after trips x.0 x.1 x.2
  travels-ok new before after trips (Stayed Link) sent x = travels-lost new before after trips x.0 x.1 x.2
  travels-ok new before after trips (Stayed (Image fault)) sent x =
      travels-refused new before after trips x.1.0 fault x.0 x.1.1 x.1.2 sent x.2
  travels-ok new before after trips Moved sent x =
      travels-moved new before after trips x.1.0 x.1.1 x.0 x.1.2 x.1.3 sent x.1.4 x.1.5

  pub travels : {E : Type 0} (new : Contents) (before after : List Entry) (trips : List Trip) (r : Result Crossed E)
      → OnOk r (IsSent codes old place)
      → MatchResult r (CrossesAs codes place region old new before after trips)
      (λ _. Stays old new before after × Begins (sent_of trips) (images_to codes old place region))
      → Travels codes m.rules clock place region w trips new before after r
  travels new before after trips (Ok crossed) sent x = travels-ok new before after trips crossed sent x
  travels new before after trips (Err e) sent x = record {
    tells = λ honest. subst (λ (es : List Entry).
        Part before es (cross_by m.rules place region trips w).entries) (sym x.0.silent) (part-none before _);
    sent = subst (λ (images : List (List ℕ)). Begins (sent_of trips) images) images-same x.1;
  }

-- what came back is one trip's
one-trip : (codes : List Code) (place : ℕ) (region : List ℕ) (old new : Contents) (before after : List Entry)
    (trips : List Trip) (back : List ℕ) (crossed : Crossed) → region_in old place ≢ region
    → IsOneTrip trips (image_in codes old place) (Some back)
    → ComesOf codes place region old new before after back crossed
    → CrossesAs codes place region old new before after trips crossed
one-trip codes place region old new before after trips back Here n one x = absurd x
one-trip codes place region old new before after trips back (Stayed Link) n one x = absurd x
one-trip codes place region old new before after trips back (Stayed (Image fault)) n one x =
    (n, (back, one, x.0), x.1)
one-trip codes place region old new before after trips back Moved n one x =
    (n, (back, x.0, one, x.1, x.2, x.3))

begins-all : (images : List (List ℕ)) (trips : List Trip) → sent_of trips ≡ images → Begins (sent_of trips) images
begins-all images trips e =
    record { others = []; whole = append-nil (sent_of trips) ∙ e }

-- the effect on the object of what came back, with the entries after the first `before` struck
pub came : {E : Type 0} (codes : List Code) (place : ℕ) (region there : List ℕ) (old new : Contents)
    (before room after : List Entry) (count : ℕ) (trips : List Trip) (back : List ℕ) (r : Result Crossed E)
    → region_in old place ≢ region → there ≡ region → count ≡ length before → take count room ≡ before
    → IsOneTrip trips (image_in codes old place) (Some back)
    → MatchResult r
    (λ crossed. ComesOf codes place there old new (take count room) (kept_entries crossed count after) back crossed)
    (λ _. Stays old new (take count room) (take count after))
    → MatchResult r
    (λ crossed. CrossesAs codes place region old new before (kept_entries crossed (length before) after) trips crossed)
    (λ _. Stays old new before (take (length before) after)
    × Begins (sent_of trips) (image_in codes old place ∷ []))
came codes place region there old new before room after count trips back (Ok crossed) n here same first one x =
    one-trip codes place region old new before (kept_entries crossed (length before) after) trips back crossed n one
    (subst (λ (z : List ℕ). ComesOf codes place z old new before (kept_entries crossed (length before) after) back
    crossed) here
    (subst (λ (z : List Entry). ComesOf codes place there old new z (kept_entries crossed (length before) after) back
    crossed) first
    (subst (λ (k : ℕ). ComesOf codes place there old new (take count room) (kept_entries crossed k after) back crossed)
    same x)))
came codes place region there old new before room after count trips back (Err e) n here same first one x = (
  record { same = x.same; silent = ap (λ (k : ℕ). take k after) (sym same) ∙ x.silent ∙ first },
  begins-all (image_in codes old place ∷ []) trips (ap sent_of one),
)

-- the entries after the first `before` are struck, unless it moved
pub struck : {E : Type 0} (codes : List Code) (place : ℕ) (region : List ℕ) (old new : Contents)
    (before after kept : List Entry) (count : ℕ) (trips : List Trip) (r : Result Crossed E)
    → region_in old place ≢ region → count ≡ length before
    → MatchResult r
    (λ crossed. CrossesAs codes place region old new before (kept_entries crossed (length before) after) trips crossed)
    (λ _. Stays old new before (take (length before) after)
    × Begins (sent_of trips) (image_in codes old place ∷ []))
    → MatchResult r (λ crossed. kept ≡ kept_entries crossed count after) (λ _. kept ≡ take count after)
    → MatchResult r (CrossesAs codes place region old new before kept trips)
    (λ _. Stays old new before kept × Begins (sent_of trips) (images_to codes old place region))
struck codes place region old new before after kept count trips (Ok crossed) n same x e =
    subst (λ (z : List Entry). CrossesAs codes place region old new before z trips crossed)
    (sym (e ∙ ap (λ (k : ℕ). kept_entries crossed k after) same)) x
struck codes place region old new before after kept count trips (Err y) n same x e = (
  record { same = x.0.same; silent = e ∙ ap (λ (k : ℕ). take k after) same ∙ x.0.silent },
  subst (λ (images : List (List ℕ)). Begins (sent_of trips) images)
      (sym (images-elsewhere codes old place region n)) x.1,
)

-- no trip was made
pub no-trip : (gives : List ℕ → Option (List ℕ) → Type 0) (told : Option (List Trip)) → Went gives told told []
no-trip gives None = record { grew = refl; given = All-nil _ }
no-trip gives (Some trips) =
    record { grew = ap (λ (ts : List Trip). Some ts) (sym (append-nil trips)); given = All-nil _ }

-- before the link was called
pub not-begun : (codes : List Code) (place : ℕ) (old : Contents) (before after : List Entry)
    → take (length before) after ≡ before
    → Stays old old before (take (length before) after) × Begins (sent_of []) (image_in codes old place ∷ [])
not-begun codes place old before after kept = (
  record { same = refl; silent = kept },
  record { others = image_in codes old place ∷ []; whole = refl },
)
