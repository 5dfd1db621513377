-- No step changes what an image isn't asked for: the objects' owners, their prims' keys, and of each script its prim,
-- its
-- name and its code.
use Rattle.std.proofs.Common.{◌≡◌, ℕ, zero, suc, ◌+◌, ◌-◌, Bool, true, false, List, [], ◌∷◌, length, get_or, refl, ap, ◌∙◌}
use Rattle.std.specs.Prelude.{ℤ, Option, Some, None, if◌then◌else◌, not, ◌&&◌, map, max, min, pos, slice_get, slice_set}
use Rattle.std.specs.Ordering.{int_eq}
use Rattle.lsl_ports.specs.Trips.{Trip}
use Rattle.lsl_value.specs.declared.names.BuiltinId.{BuiltinId}
use Rattle.lsl_value.specs.declared.names.BuiltinId.TheVariants as builtin
use Rattle.lsl_value.specs.declared.tagged.Value.{Value}
use Rattle.lsl_table.specs.declared.calls.Home.{Home}
use Rattle.lsl_table.specs.declared.calls.Home.TheVariants as home
use Rattle.lsl_running.specs.Results.{Whole, Ends, Asks, Cut, Fails, Lost}
use Rattle.lsl_post.specs.declared.parts.Pair.{Pair}
use Rattle.lsl_post.specs.declared.entries.Voice.TheVariants as voice
use Rattle.lsl_post.specs.declared.events.Event.{Event}
use Rattle.lsl_post.specs.Listens.{Standing}
use Rattle.lsl_post.specs.Mailbox.{timer_due, timer_read}
use Rattle.lsl_post.specs.Told.{Told, as_value, each, next_to, quiet, until}
use Rattle.lsl_script.specs.declared.going.Going.{Going}
use Rattle.lsl_script.specs.declared.going.Going.TheVariants.{Stays, Leaves, Enters, Restarts}
use Rattle.lsl_script.specs.Handlers.{event_due, given, gone, take_next, with_event_due}
use Rattle.lsl_script.specs.Rules.{Rules}
use Rattle.lsl_script.specs.Scripts.{Doing, Resting, Flying, Stopped, Flight, Script, post_to, ring_to, timer_event}
use Rattle.lsl_region.specs.declared.grid.Seat.{Seat}
use Rattle.lsl_region.specs.declared.objects.Linkset.{Linkset}
use Rattle.lsl_region.specs.declared.objects.Primitive.{Primitive}
use Rattle.lsl_region.specs.Answers.{acted, answer, answer_at_home, answer_in, card_asked, change_by, home_of, integer_at, line_asked, listen_asked, listened_script, nothing, pairs_by, queried, says, mailed, stored, text_at, told_by, with_mailed, with_name, with_store}
use Rattle.lsl_region.specs.Arrivals.{touch_prim}
use Rattle.lsl_region.specs.GridParts.{fixed_in, lasting}
use Rattle.lsl_region.specs.Grids.{Contents, seat_of}
use Rattle.lsl_region.specs.Journeys.{arrive, came_back, cross, is_in_region}
use Rattle.lsl_region.specs.Posting.{post_all, post_where, ring_at}
use Rattle.lsl_region.specs.Segments.{asked, came, flown, flown_in, is_ready_at, segment, turn, whole_in_flight}
use Rattle.lsl_region.specs.Texts.{cut_name}
use Rattle.lsl_region.specs.Worlds.{Member, World, at_member, changed_at, no_object, object_at, with_object}
use Rattle.lsl_region.proofs.Outlines.{map-set_same, named-nameless}
use Rattle.lsl_lines.specs.declared.file.Step.{Step}
use Rattle.lsl_lines.specs.declared.file.Step.TheVariants.{Clock, Say, Touch, Changed, Rez, Go, Run, Pause, Cross}
use Rattle.lsl_world.specs.Steps.{next, round_or_last, rounds, turn_in}
use Rattle.lsl_world.specs.Travels.{go_on, left, travel}

abbrev seated : Member → Seat
seated m = seat_of [] true m

abbrev with_seats : World → List Seat → Contents
with_seats w seats = record { objects = map lasting w.objects; seats = seats; cards = w.cards }

-- a member with another script of the same code
same-seat : (m : Member) (s : Script) → s.code ≡ m.script.code → seated (record m { script = s }) ≡ seated m
same-seat m s e = ap {A = ℕ} {B = Seat} (λ code. record {
  object = m.object;
  prim = m.prim;
  name = m.name;
  unit = code;
  script = None;
}) e

member-keeps : (place : ℕ) (thing : Member → Told Script) (w : World)
    → ((m : Member) → (thing m).value.code ≡ m.script.code) → fixed_in (at_member place thing w).value ≡ fixed_in w
member-keeps place thing w keeps = go (slice_get w.members place) refl where
  go : (o : Option Member) → slice_get w.members place ≡ o → fixed_in (changed_at place thing w o).value ≡ fixed_in w
  go None e = refl
  go (Some m) e =
      ap (with_seats w)
      (map-set_same seated w.members place m (record m { script = (thing m).value }) e
      (same-seat m (thing m).value (keeps m)))

module _ {X : Type 0} (P : X → Contents) where
  each-keeps : (thing : ℕ → X → Told X) → ((n : ℕ) (x : X) → P (thing n x).value ≡ P x)
      → (count first : ℕ) (x : X) → P (each thing count first x).value ≡ P x
  unfolding each
  each-keeps thing keeps zero first x = refl
  each-keeps thing keeps (suc count) first x =
      each-keeps thing keeps count (first + 1) (thing first x).value ∙ keeps first x

  until-keeps : (stops : X → Bool) (thing : X → Told X) → ((x : X) → P (thing x).value ≡ P x)
      → (most : ℕ) (x : X) → P (until stops thing most x).value ≡ P x
  unfolding until
  until-keeps stops thing keeps zero x = refl
  until-keeps stops thing keeps (suc most) x = go (stops x) (until-keeps stops thing keeps most (thing x).value) where
    go : (b : Bool) → P (until stops thing most (thing x).value).value ≡ P (thing x).value
        → P (if b then quiet x else next_to (thing x) (λ y. until stops thing most y)).value ≡ P x
    go true more = refl
    go false more = more ∙ keeps x

-- ---- a script stays one of its code

code-if : (b : Bool) (s : Script) (a : Told Script) → a.value.code ≡ s.code
    → (if b then a else quiet s).value.code ≡ s.code
code-if true s a e = e
code-if false s a e = refl

due-code : (number : ℕ) (s : Script) (o : Option Event) → (with_event_due number s o).value.code ≡ s.code
due-code number s None = refl
due-code number s (Some e) = refl

take-code : (number : ℕ) (s : Script) (doing : Doing) → (take_next number s doing).value.code ≡ s.code
take-code number s Resting = due-code number s (event_due s.leaving s.mailbox)
take-code number s (Flying f) = refl
take-code number s (Stopped fault) = refl

gone-code : (r : Rules) (number : ℕ) (s : Script) (going : Going) → (gone r number s going).value.code ≡ s.code
gone-code r number s Stays = refl
gone-code r number s (Leaves n) = refl
gone-code r number s (Enters n) = refl
gone-code r number s Restarts = refl

mailed-code : (id : BuiltinId) (args : List Value) (clock : ℕ) (s : Script) → (mailed id args clock s).0.code ≡ s.code
mailed-code builtin.Listen args clock s = go (listen_asked args s) where
  go : (o : Option (ℤ × Standing)) → (listened_script o s).code ≡ s.code
  go None = refl
  go (Some (number, listens)) = refl
mailed-code builtin.ListenRemove args clock s = refl
mailed-code builtin.ListenControl args clock s = refl
mailed-code builtin.SetTimerEvent args clock s = refl
mailed-code builtin.Sleep args clock s = refl
mailed-code id args clock s = refl

-- ---- so what is fixed stays

post-keeps : (r : Rules) (test : World → Member → Bool) (e : Event) (w : World)
    → fixed_in (post_all r test e w).value ≡ fixed_in w
post-keeps r test e w =
    each-keeps fixed_in (post_where r test e)
    (λ n x. member-keeps n _ x (λ m. code-if (test x m) m.script (post_to r (n + 1) e m.script) refl))
    (length w.members) 0 w

ring-code : (r : Rules) (number clock : ℕ) (s : Script) → (ring_to r number clock s).value.code ≡ s.code
ring-code r number clock s = code-if (timer_due clock s.mailbox) s
    (post_to r number timer_event (record s { mailbox = timer_read clock s.mailbox })) refl

-- an item is replaced by one that agrees in this
set-keeps : {X Y : Type 0} (f : X → Y) (xs : List X) (k : ℕ) (y d : X) → f y ≡ f (get_or xs k d)
    → map f (slice_set xs k y) ≡ map f xs
set-keeps f [] k y d e = refl
set-keeps f (x ∷ xs) zero y d e = ap (λ z. z ∷ map f xs) e
set-keeps f (x ∷ xs) (suc k) y d e = ap (λ zs. f x ∷ zs) (set-keeps f xs k y d e)

-- a prim has another name
named-keeps : (objects : List Linkset) (k : ℕ) (prim : ℕ) (name : List ℕ)
    → map lasting (slice_set objects k
    (record (get_or objects k no_object) { prims = with_name (get_or objects k no_object).prims prim name }))
    ≡ map lasting objects
named-keeps objects k prim name =
    let o : Linkset = get_or objects k no_object in
    set-keeps lasting objects k (record o { prims = with_name o.prims prim name }) no_object
    (ap (λ (prims : List Primitive).
    let named : Linkset = record { owner = o.owner; region = []; prims = prims; store = [] } in named)
    (named-nameless o.prims prim name))

abbrev with_objects : World → List Linkset → Contents
with_objects w objects = record { objects = objects; seats = map seated w.members; cards = w.cards }

module _ (r : Rules) (place : ℕ) (m : Member) (w : World) (at : slice_get w.members place ≡ Some m) where
  mailed-keeps : (id : BuiltinId) (args : List Value)
      → fixed_in (with_mailed place m (mailed id args w.clock m.script) w).value.0 ≡ fixed_in w
  mailed-keeps id args =
      let done = mailed id args w.clock m.script in
      ap (with_seats w)
      (map-set_same seated w.members place m (record m { script = done.0 }) at
      (same-seat m done.0 (mailed-code id args w.clock m.script)))

  -- the object has another store, and its scripts get the event, if there is one
  told-keeps : (object : ℕ) (e : Option Event) (v : World) → fixed_in (told_by r object e v).value ≡ fixed_in v
  told-keeps object None v = refl
  told-keeps object (Some e) v = post-keeps r _ e v

  store-keeps : (pairs : List Pair) → fixed_in (with_store w m pairs) ≡ fixed_in w
  store-keeps pairs =
      let o : Linkset = get_or w.objects m.object no_object in
      ap (with_objects w) (set-keeps lasting w.objects m.object (record o { store = pairs }) no_object refl)

  stored-keeps : (id : BuiltinId) (args : List Value) → fixed_in (stored r m id args w).value.0 ≡ fixed_in w
  stored-keeps id args =
      let pairs = (get_or w.objects m.object no_object).store in
      told-keeps m.object (change_by id args pairs).told (with_store w m (pairs_by id args pairs))
      ∙ store-keeps (pairs_by id args pairs)

  -- the script gets an answer about a notecard
  queried-keeps : (card : Option ℕ) (asked : Option (Option ℕ))
      → fixed_in (queried r place card asked w).value.0 ≡ fixed_in w
  queried-keeps None asked = refl
  queried-keeps (Some card) None = refl
  queried-keeps (Some card) (Some line) = member-keeps place _ w (λ m. refl)

  acted-keeps : (id : BuiltinId) (args : List Value) → fixed_in (acted r place m id args w).value.0 ≡ fixed_in w
  acted-keeps builtin.Say args = post-keeps r _ _ w
  acted-keeps builtin.Whisper args = post-keeps r _ _ w
  acted-keeps builtin.Shout args = post-keeps r _ _ w
  acted-keeps builtin.RegionSay args = go (int_eq (integer_at 0 args) (pos 0)) where
    go : (b : Bool)
        → fixed_in (if b then quiet (w, nothing) else says r place voice.Region m args w).value.0 ≡ fixed_in w
    go true = refl
    go false = post-keeps r _ _ w
  acted-keeps builtin.MessageLinked args = post-keeps r _ _ w
  acted-keeps builtin.SetObjectName args =
      ap (with_objects w) (named-keeps w.objects m.object m.prim (cut_name (text_at 0 args)))
  acted-keeps id args = refl

  home-keeps : (h : Home) (id : BuiltinId) (args : List Value)
      → fixed_in (answer_at_home h r place m id args w).value.0 ≡ fixed_in w
  home-keeps home.Mail id args = mailed-keeps id args
  home-keeps home.Sleep id args = mailed-keeps id args
  home-keeps home.Act id args = acted-keeps id args
  home-keeps home.Store id args = stored-keeps id args
  home-keeps home.Note id args = queried-keeps (card_asked w m args) (line_asked id args)
  home-keeps h id args = refl

answer-keeps : (r : Rules) (place : ℕ) (id : BuiltinId) (args : List Value) (w : World)
    → fixed_in (answer r place id args w).value.0 ≡ fixed_in w
answer-keeps r place id args w = go (slice_get w.members place) refl where
  go : (o : Option Member) → slice_get w.members place ≡ o
      → fixed_in (answer_in r place o id args w).value.0 ≡ fixed_in w
  go None e = refl
  go (Some m) e = home-keeps r place m w e (home_of id) id args

asked-keeps : (r : Rules) (most place : ℕ) (f : Flight) (w : World) → fixed_in (asked r most place f w).value
    ≡ fixed_in w
unfolding asked
asked-keeps r zero place f w = refl
asked-keeps r (suc most) place f w =
    go (asked-keeps r most place) (whole_in_flight r (slice_get w.members place) f)
  where
    go : ((g : Flight) (v : World) → fixed_in (asked r most place g v).value ≡ fixed_in v)
        → (c : Whole) → fixed_in (came r (asked r most place) place f w c).value ≡ fixed_in w
    go more (Asks id args) =
        let x = (answer r place id args w).value in
        more (given x.1 f) x.0 ∙ answer-keeps r place id args w
    go more (Cut calls) = member-keeps place _ w (λ m. refl)
    go more (Ends outcome kept) = member-keeps place _ w
        (λ m. gone-code r (place + 1) (record m.script { kept = kept }) _)
    go more (Fails fault) = member-keeps place _ w (λ m. refl)
    go more Lost = refl

flown-keeps : (r : Rules) (place : ℕ) (w : World) (code : ℕ) (doing : Doing)
    → fixed_in (flown r place w code doing).value ≡ fixed_in w
flown-keeps r place w code Resting = refl
flown-keeps r place w code (Flying f) = asked-keeps r (r.most code + 1) place f w
flown-keeps r place w code (Stopped fault) = refl

segment-keeps : (r : Rules) (place : ℕ) (w : World) → fixed_in (segment r place w).value ≡ fixed_in w
segment-keeps r place w =
    go _ _ ∙ member-keeps place _ w (λ m. take-code (place + 1) m.script m.script.doing)
  where
    go : (v : World) (o : Option Member) → fixed_in (flown_in r place v o).value ≡ fixed_in v
    go v None = refl
    go v (Some m) = flown-keeps r place v m.script.code m.script.doing

turn-keeps : (r : Rules) (most place : ℕ) (w : World) → fixed_in (turn r most place w).value.0 ≡ fixed_in w
turn-keeps r most place w =
    until-keeps {X = World × ℕ} (λ x. fixed_in x.0) (λ x. not (is_ready_at x.0 place))
    (λ x. as_value (λ v. (v, x.1 + 1)) (segment r place x.0))
    (λ x. segment-keeps r place x.0) most (w, 0)

turn_in-keeps : (r : Rules) (place : ℕ) (x : World × ℕ) → fixed_in (turn_in r place x).value.0 ≡ fixed_in x.0
turn_in-keeps r place x = turn-keeps r (min 8 x.1) place x.0

round-keeps : (r : Rules) (x : World × (ℕ × Bool)) → fixed_in (round_or_last r x).value.0 ≡ fixed_in x.0
round-keeps r x =
    each-keeps {X = World × ℕ} (λ y. fixed_in y.0) (turn_in r) (turn_in-keeps r) (length x.0.members) 0 (x.0, x.1.0)

rounds-keep : (r : Rules) (most : ℕ) (w : World) → fixed_in (rounds r most w).value ≡ fixed_in w
rounds-keep r most w =
    until-keeps {X = World × (ℕ × Bool)} (λ x. fixed_in x.0) (λ x. x.1.1) (round_or_last r) (round-keeps r) most
    (w, (most, false))

touch-keeps : (r : Rules) (object : ℕ) (prim : Option ℕ) (key name : List ℕ) (w : World)
    → fixed_in (touch_prim r object prim key name w).value ≡ fixed_in w
touch-keeps r object None key name w = refl
touch-keeps r object (Some prim) key name w = post-keeps r _ _ _ ∙ post-keeps r _ _ _ ∙ post-keeps r _ _ w

arrive-keeps : (r : Rules) (place : ℕ) (region : List ℕ) (w : World) → fixed_in (arrive r place region w).value
    ≡ fixed_in w
arrive-keeps r place region w =
    let there : Linkset = record (object_at w place) { region = region } in
    post-keeps r _ _ (with_object w place there)
    ∙ ap (with_objects w) (set-keeps lasting w.objects place there no_object refl)

cross-keeps : (r : Rules) (place : ℕ) (region : List ℕ) (w : World) → fixed_in (cross r place region w).value
    ≡ fixed_in w
cross-keeps r place region w = go (is_in_region w place region) where
  go : (b : Bool) → fixed_in (if b then quiet w else arrive r place region w).value ≡ fixed_in w
  go true = refl
  go false = arrive-keeps r place region w

next-keeps : (r : Rules) (step : Step) (w : World) → fixed_in (next r step w).value ≡ fixed_in w
next-keeps r (Clock time) w =
    each-keeps fixed_in (ring_at r) (λ n x. member-keeps n _ x (λ m. ring-code r (n + 1) x.clock m.script))
    (length w.members) 0 (record w { clock = max w.clock time })
next-keeps r (Say channel name key text) w = post-keeps r _ _ w
next-keeps r (Touch object link key name) w = touch-keeps r (object - 1) _ key name w
next-keeps r (Changed object flags) w = post-keeps r _ _ w
next-keeps r (Rez object n) w = post-keeps r _ _ w
next-keeps r (Go script most) w = turn-keeps r most (script - 1) w
next-keeps r (Run most) w = rounds-keep r most w
next-keeps r (Pause gaps) w = refl
next-keeps r (Cross object region) w = cross-keeps r (object - 1) region w

go_on-keeps : (r : Rules) (step : Step) (trips : List Trip) (w : World) → fixed_in (go_on r step trips w).value
    ≡ fixed_in w
go_on-keeps r (Cross object region) trips w =
    go (not (is_in_region w (object - 1) region) && not (came_back trips))
  where
    go : (b : Bool) → fixed_in (if b then quiet w else cross r (object - 1) region w).value ≡ fixed_in w
    go true = refl
    go false = cross-keeps r (object - 1) region w
go_on-keeps r step trips w = next-keeps r step w

pub travel-keeps : (r : Rules) (steps : List Step) (trips : List Trip) (w : World)
    → fixed_in (travel r steps trips w).value ≡ fixed_in w
unfolding travel
travel-keeps r [] trips w = refl
travel-keeps r (step ∷ steps) trips w =
    travel-keeps r steps (left step w trips) (go_on r step trips w).value ∙ go_on-keeps r step trips w
