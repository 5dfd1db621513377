-- Runs at stages: trips that were made, and then others.
use Rattle.std.proofs.Common.{◌≡◌, ℕ, zero, suc, Bool, true, false, List, [], ◌∷◌, ◌++◌, length, drop, take, Option, Some, None, refl, ap, ap₂, sym, ◌∙◌, subst, arith, append-nil, append_assoc}
use Rattle.std.specs.Prelude.{if◌then◌else◌}
use Rattle.std.proofs.lemmas.List.{length-map, map-append}
use Rattle.std.proofs.lemmas.List.Elements.{All-drop, All-take}
use Rattle.lsl_code.specs.declared.woven_units.Woven.{Woven as Code}
use Rattle.lsl_ports.specs.Trips.{CameBackSo, Honest, Trip, sent_of}
use Rattle.lsl_post.specs.Told.{Told, as_value, lead}
use Rattle.lsl_handoff.specs.declared.card.Card.{Card}
use Rattle.lsl_handoff.specs.declared.drive.Way.{Way}
use Rattle.lsl_handoff.specs.declared.faults.DepartFault.{DepartFault}
use Rattle.lsl_handoff.specs.declared.note.Note.{Note}
use Rattle.lsl_handoff.specs.Cards.{depart_fault}
use Rattle.lsl_handoff.specs.DriveLaws.{departure}
use Rattle.lsl_handoff.specs.Drives.{Moment, asks, hears, rested}
use Rattle.lsl_handoff.specs.Entries.{entries_by}
use Rattle.lsl_handoff.specs.Fields.{card_at}
use Rattle.lsl_handoff.specs.NoteBytes.{note_bytes}
use Rattle.lsl_image.specs.Images.{IsIntact}
use Rattle.lsl_script.specs.Rules.{Rules}
use Rattle.lsl_region.specs.Worlds.{World}
use Rattle.lsl_lines.specs.declared.file.Step.{Step}
use Rattle.lsl_lines.specs.declared.file.Step.TheVariants.{Cross}
use Rattle.lsl_world.specs.Kept.{regions_of}
use Rattle.lsl_world.specs.Lossy.{Driven, Gone, IsFairBy, IsFairFrom, PlainRunsTravel, Stage, WereCarried, bytes_of, departs_unless, driven, driven_on, driven_unless, first_back, goes, goes_by, goes_driven, goes_lossily, goes_plainly, heard, most_notes, plain_stage, sent_from, travel_from}
use Rattle.lsl_world.specs.Orders.{parcel_of, way_to}
use Rattle.lsl_world.specs.Travels.{go_on, images, images_of, is_crossing, left, travel}
use Rattle.lsl_world.proofs.Regions.{go_on-here}
use Rattle.lsl_world.proofs.Runs.{images-none, images-one}

-- ---- steps by trips

go_on-first : (r : Rules) (step : Step) (trip : Trip) (first second : List Trip) (w : World)
    → go_on r step (trip ∷ first) w ≡ go_on r step (trip ∷ second) w
go_on-first r (Cross object region) trip first second w = refl
go_on-first r step trip first second w = refl

left-as : (step : Step) (trips : List Trip) (w : World) (crossing : Bool) → is_crossing w step ≡ crossing
    → left step w trips ≡ (if crossing then drop 1 trips else trips)
left-as step trips w crossing e = ap (λ (b : Bool). if b then drop 1 trips else trips) e

none-of : (ts : List Trip) → length ts ≡ 0 → ts ≡ []
none-of [] e = refl
none-of (t ∷ ts) e = absurd (omega arith)

-- no bytes were sent, so no trip was made
pub none-sent : (ts : List Trip) → sent_of ts ≡ [] → ts ≡ []
none-sent [] e = refl
none-sent (t ∷ ts) e = absurd (cc)

module _ (codes : List Code) (r : Rules) (step : Step) (ts us : List Trip) (w : World)
    (sent : sent_of ts ≡ images_of codes step w) where
  many : length ts ≡ length (images_of codes step w)
  many = sym (length-map ts (λ (t : Trip). t.sent)) ∙ ap length sent

  none : is_crossing w step ≡ false → ts ≡ []
  none e = none-of ts (many ∙ ap length (images-none codes step w e))

  one : is_crossing w step ≡ true → length ts ≡ 1
  one e = many ∙ images-one codes step w e

  left-behind : (trips : List Trip) → length trips ≡ 1 → drop 1 (trips ++ us) ≡ us
  left-behind [] e = absurd (omega arith)
  left-behind (t ∷ []) e = refl
  left-behind (t ∷ (u ∷ trips)) e = absurd (omega arith)

  left-then : left step w (ts ++ us) ≡ us
  left-then = go (is_crossing w step) refl
    where
      go : (b : Bool) → is_crossing w step ≡ b → left step w (ts ++ us) ≡ us
      go true e = left-as step (ts ++ us) w true e ∙ left-behind ts (one e)
      go false e = left-as step (ts ++ us) w false e ∙ ap (λ (z : List Trip). z ++ us) (none e)

  go_on-then : go_on r step (ts ++ us) w ≡ go_on r step ts w
  go_on-then = go (is_crossing w step) refl
    where
      first : (trips : List Trip) → length trips ≡ 1 → go_on r step (trips ++ us) w ≡ go_on r step trips w
      first [] e = absurd (omega arith)
      first (t ∷ trips) e = go_on-first r step t (trips ++ us) trips w

      go : (b : Bool) → is_crossing w step ≡ b → go_on r step (ts ++ us) w ≡ go_on r step ts w
      go true e = first ts (one e)
      go false e = go_on-here r step (ts ++ us) w e ∙ sym (go_on-here r step ts w e)

-- ---- a drive by its trips, and others after it

abbrev with_behind : Driven → List Trip → Driven
with_behind d us = record d { behind = us }

module _ (way : Way) (most : ℕ) (handed : List Note) (m : Moment) where
  -- what is asked is carried, and the rest of the drive follows
  abbrev asked_on : Note → List Trip → Driven
  asked_on note trips =
      driven_on note (driven way most (handed ++ note ∷ [])
      (hears way m (heard (handed ++ note ∷ []) (first_back trips))) (drop 1 trips))

  abbrev by_asked : Option Note → List Trip → Driven
  by_asked o trips = driven_unless o (record { last = m; notes = []; behind = trips }) (λ note. asked_on note trips)

  -- where the rest of a drive stops at the end of its trips, so does all of it
  asked-then : (o : Option Note) (ts us : List Trip)
      → ((note : Note) (n : Moment) (rest : List Trip)
      → sent_of rest ≡ bytes_of (driven way most (handed ++ note ∷ []) n rest).notes
      → driven way most (handed ++ note ∷ []) n (rest ++ us)
      ≡ with_behind (driven way most (handed ++ note ∷ []) n rest) us)
      → sent_of ts ≡ bytes_of (by_asked o ts).notes → by_asked o (ts ++ us) ≡ with_behind (by_asked o ts) us
  asked-then None [] us on sent = refl
  asked-then None (t ∷ ts) us on sent = absurd (cc)
  asked-then (Some note) [] us on sent = absurd (cc)
  asked-then (Some note) (t ∷ ts) us on sent =
      ap (λ (d : Driven). driven_on note d)
      (on note (hears way m (heard (handed ++ note ∷ []) t.back)) ts (ap (λ (xs : List (List ℕ)). drop 1 xs) sent))

pub driven-then : (way : Way) (most : ℕ) (handed : List Note) (m : Moment) (ts us : List Trip)
    → sent_of ts ≡ bytes_of (driven way most handed m ts).notes
    → driven way most handed m (ts ++ us) ≡ with_behind (driven way most handed m ts) us
unfolding driven
driven-then way zero handed m [] us sent = refl
driven-then way zero handed m (t ∷ ts) us sent = absurd (cc)
driven-then way (suc most) handed m ts us sent =
    asked-then way most handed m (asks way m) ts us
    (λ note n rest are. driven-then way most (handed ++ note ∷ []) n rest us are) sent

-- ---- steps at a stage

abbrev with_left : Gone → List Trip → Gone
with_left gone us = record gone { behind = us }

module _ (codes : List Code) (r : Rules) (regions : List (List ℕ)) where
  plain-then : (step : Step) (stage : Stage) (ts us : List Trip) → sent_of ts ≡ images_of codes step stage.world
      → goes_plainly codes r step stage (ts ++ us) ≡ with_left (goes_plainly codes r step stage ts) us
  plain-then step stage ts us sent =
      ap₂ (λ (a : Told World) (rest : List Trip). record {
        told = as_value (λ w. record stage { world = w }) a;
        sent = images_of codes step stage.world;
        behind = rest;
      }) (go_on-then codes r step ts us stage.world sent) (left-then codes r step ts us stage.world sent)

  departs-then : (fault : Option DepartFault) (step : Step) (way : Way) (cards : List (List Card)) (stage : Stage)
      (ts us : List Trip) → sent_of ts ≡ (departs_unless fault codes r regions step way cards stage ts).sent
      → departs_unless fault codes r regions step way cards stage (ts ++ us)
      ≡ with_left (departs_unless fault codes r regions step way cards stage ts) us
  departs-then (Some fault) step way cards stage [] us sent = refl
  departs-then (Some fault) step way cards stage (t ∷ ts) us sent = absurd (cc)
  departs-then None step way cards stage ts us sent =
      ap (λ (d : Driven). goes_driven r regions step way stage d)
      (driven-then way most_notes stage.notes (departure cards way (parcel_of codes stage.world way.object)) ts us sent)

  -- a crossing, which may be one
  module _ (object : ℕ) (region : List ℕ) (cards : List (List Card)) (stage : Stage) where
    abbrev way : Way
    way = way_to regions (regions_of stage.world) object region

    abbrev fault : Option DepartFault
    fault = depart_fault (card_at cards way.object way.from) way.from way.to

    abbrev either : Bool → List Trip → Gone
    either crossing trips =
        if crossing then departs_unless fault codes r regions (Cross object region) way cards stage trips
        else goes_plainly codes r (Cross object region) stage trips

    either-then : (b : Bool) (ts us : List Trip) → sent_of ts ≡ (either b ts).sent
        → either b (ts ++ us) ≡ with_left (either b ts) us
    either-then true ts us are = departs-then fault (Cross object region) way cards stage ts us are
    either-then false ts us are = plain-then (Cross object region) stage ts us are

  lossy-then : (step : Step) (cards : List (List Card)) (stage : Stage) (ts us : List Trip)
      → sent_of ts ≡ (goes_lossily codes r regions step cards stage ts).sent
      → goes_lossily codes r regions step cards stage (ts ++ us)
      ≡ with_left (goes_lossily codes r regions step cards stage ts) us
  lossy-then (Cross object region) cards stage ts us sent =
      either-then object region cards stage (is_crossing stage.world (Cross object region)) ts us sent
  lossy-then step cards stage ts us sent = plain-then step stage ts us sent

  pub goes-then : (step : Step) (stage : Stage) (ts us : List Trip)
      → sent_of ts ≡ (goes codes r regions step stage ts).sent
      → goes codes r regions step stage (ts ++ us) ≡ with_left (goes codes r regions step stage ts) us
  goes-then step stage ts us sent = go stage.cards sent
    where
      go : (o : Option (List (List Card))) → sent_of ts ≡ (goes_by o codes r regions step stage ts).sent
          → goes_by o codes r regions step stage (ts ++ us) ≡ with_left (goes_by o codes r regions step stage ts) us
      go None are = plain-then step stage ts us are
      go (Some cards) are = lossy-then step cards stage ts us are

-- ---- what came back is fair

drop-append : {A : Type 0} (xs ys : List A) → drop (length xs) (xs ++ ys) ≡ ys
drop-append [] ys = refl
drop-append (x ∷ xs) ys = drop-append xs ys

take-append : {A : Type 0} (xs ys : List A) → take (length xs) (xs ++ ys) ≡ xs
take-append [] ys = refl
take-append (x ∷ xs) ys = ap (λ zs. x ∷ zs) (take-append xs ys)

honest-first : (ts us : List Trip) → Honest IsIntact (ts ++ us) → Honest IsIntact ts
honest-first ts us h =
    subst (λ (z : List Trip). Honest IsIntact z) (take-append ts us)
    (All-take (λ (t : Trip). CameBackSo IsIntact t.sent t.back) (length ts) (ts ++ us) h)

honest-second : (ts us : List Trip) → Honest IsIntact (ts ++ us) → Honest IsIntact us
honest-second ts us h =
    subst (λ (z : List Trip). Honest IsIntact z) (drop-append ts us)
    (All-drop (λ (t : Trip). CameBackSo IsIntact t.sent t.back) (length ts) (ts ++ us) h)

carried-first : (entries : List (List ℕ)) (ts us : List Trip) → WereCarried entries (ts ++ us)
    → WereCarried entries ts
carried-first entries [] us h = tt
carried-first entries (t ∷ ts) us h = (h.0, carried-first (entries ++ t.sent ∷ []) ts us h.1)

pub carried-second : (entries : List (List ℕ)) (ts us : List Trip) → WereCarried entries (ts ++ us)
    → WereCarried (entries_by entries ts) us
carried-second entries [] us h = h
carried-second entries (t ∷ ts) us h = carried-second (entries ++ t.sent ∷ []) ts us h.1

pub entries-are : (entries : List (List ℕ)) (ts : List Trip) → entries_by entries ts ≡ entries ++ sent_of ts
entries-are entries [] = sym (append-nil entries)
entries-are entries (t ∷ ts) =
    entries-are (entries ++ t.sent ∷ []) ts ∙ append_assoc entries (t.sent ∷ []) (sent_of ts)

pub fair-first : (stage : Stage) (ts us : List Trip) → IsFairFrom stage (ts ++ us) → IsFairFrom stage ts
fair-first stage ts us fair = go stage.cards fair
  where
    go : (o : Option (List (List Card))) → IsFairBy o stage.notes (ts ++ us) → IsFairBy o stage.notes ts
    go None h = honest-first ts us h
    go (Some cards) h = carried-first (bytes_of stage.notes) ts us h

-- where objects are handed over by notes, they still are after a step, and all that it hands over is known
record StillHanded (stage : Stage) (gone : Gone) : Type 0 where
  cards : List (List Card)
  cards_are : gone.told.value.cards ≡ Some cards
  notes_are : bytes_of gone.told.value.notes ≡ bytes_of stage.notes ++ gone.sent

module _ (codes : List Code) (r : Rules) (regions : List (List ℕ)) where
  plain-still : (step : Step) (cards : List (List Card)) (stage : Stage) (ts : List Trip) → stage.cards ≡ Some cards
      → images_of codes step stage.world ≡ [] → StillHanded stage (goes_plainly codes r step stage ts)
  plain-still step cards stage ts are none = record {
    cards = cards;
    cards_are = are;
    notes_are = sym (ap (λ (z : List (List ℕ)). bytes_of stage.notes ++ z) none ∙ append-nil (bytes_of stage.notes));
  }

  departs-still : (f : Option DepartFault) (step : Step) (on : Way) (cards : List (List Card)) (stage : Stage)
      (ts : List Trip) → stage.cards ≡ Some cards
      → StillHanded stage (departs_unless f codes r regions step on cards stage ts)
  departs-still (Some f) step on cards stage ts are =
      record { cards = cards; cards_are = are; notes_are = sym (append-nil (bytes_of stage.notes)) }
  departs-still None step on cards stage ts are =
      let d = driven on most_notes stage.notes (departure cards on (parcel_of codes stage.world on.object)) ts in
      record {
        cards = rested d.last.field on;
        cards_are = refl;
        notes_are = map-append (λ (note : Note). note_bytes note) stage.notes d.notes;
      }

  either-still : (object : ℕ) (region : List ℕ) (cards : List (List Card)) (stage : Stage) (ts : List Trip)
      → stage.cards ≡ Some cards → (b : Bool) → is_crossing stage.world (Cross object region) ≡ b
      → StillHanded stage (either codes r regions object region cards stage b ts)
  either-still object region cards stage ts are true e =
      departs-still (fault codes r regions object region cards stage) (Cross object region)
      (way codes r regions object region cards stage) cards stage ts are
  either-still object region cards stage ts are false e =
      plain-still (Cross object region) cards stage ts are (images-none codes (Cross object region) stage.world e)

  lossy-still : (step : Step) (cards : List (List Card)) (stage : Stage) (ts : List Trip) → stage.cards ≡ Some cards
      → StillHanded stage (goes_lossily codes r regions step cards stage ts)
  lossy-still (Cross object region) cards stage ts are =
      either-still object region cards stage ts are (is_crossing stage.world (Cross object region)) refl
  lossy-still step cards stage ts are = plain-still step cards stage ts are refl

  pub fair-second : (step : Step) (stage : Stage) (ts us : List Trip)
      → sent_of ts ≡ (goes codes r regions step stage ts).sent → IsFairFrom stage (ts ++ us)
      → IsFairFrom (goes codes r regions step stage ts).told.value us
  fair-second step stage ts us sent fair = go stage.cards refl sent fair
    where
      go : (o : Option (List (List Card))) → stage.cards ≡ o
          → sent_of ts ≡ (goes_by o codes r regions step stage ts).sent → IsFairBy o stage.notes (ts ++ us)
          → IsFairFrom (goes_by o codes r regions step stage ts).told.value us
      go None e are h =
          subst (λ (c : Option (List (List Card))). IsFairBy c stage.notes us) (sym e) (honest-second ts us h)
      go (Some cards) e are h =
          let gone = goes_lossily codes r regions step cards stage ts in
          let still = lossy-still step cards stage ts e in
          let entries : entries_by (bytes_of stage.notes) ts ≡ bytes_of gone.told.value.notes =
          entries-are (bytes_of stage.notes) ts ∙ ap (λ (z : List (List ℕ)). bytes_of stage.notes ++ z) are
          ∙ sym still.notes_are in
          subst (λ (c : Option (List (List Card))). IsFairBy c gone.told.value.notes us) (sym still.cards_are)
          (subst (λ (z : List (List ℕ)). WereCarried z us) entries (carried-second (bytes_of stage.notes) ts us h))

-- ---- runs without notes

module _ (codes : List Code) (r : Rules) (regions : List (List ℕ)) where
  pub plain-travels : (steps : List Step) (trips : List Trip) (w : World)
      → travel_from codes r regions steps trips (plain_stage w)
      ≡ as_value (λ v. plain_stage v) (travel r steps trips w)
  unfolding travel_from travel
  plain-travels [] trips w = refl
  plain-travels (step ∷ steps) trips w =
      let a = go_on r step trips w in
      ap (λ (t : Told Stage). lead a.entries t) (plain-travels steps (left step w trips) a.value)

  pub plain-sends : (steps : List Step) (trips : List Trip) (w : World)
      → sent_from codes r regions steps trips (plain_stage w) ≡ images codes r steps trips w
  unfolding sent_from images
  plain-sends [] trips w = refl
  plain-sends (step ∷ steps) trips w =
      ap (λ (z : List (List ℕ)). images_of codes step w ++ z)
      (plain-sends steps (left step w trips) (go_on r step trips w).value)

pub plain-runs : PlainRunsTravel
plain-runs codes r regions steps trips w = (
  ap (λ (t : Told Stage). as_value (λ s. s.world) t) (plain-travels codes r regions steps trips w),
  plain-sends codes r regions steps trips w,
)
