-- No step changes what is known of an object before its image is read: its key, how many prims it has, and of which
-- units
-- its scripts are.
use Rattle.std.proofs.Common.{◌≡◌, ℕ, ◌+◌, ◌-◌, Bool, true, false, List, [], ◌∷◌, length, map, get_or, nat_eq, refl, ap, ap₂, sym, subst, ◌∙◌}
use Rattle.std.specs.Prelude.{Option, Some, None, filter_map, if◌then◌else◌, max, min, slice_get}
use Rattle.std.specs.List.{cons_option}
use Rattle.std.specs.Option.{option_map}
use Rattle.std.proofs.Math.ListN.{get_or-map}
use Rattle.std.proofs.lemmas.List.{length-map}
use Rattle.lsl_code.specs.declared.woven_units.Woven.{Woven as Code}
use Rattle.lsl_handoff.specs.declared.note.Note.{Note}
use Rattle.lsl_handoff.specs.declared.note.NoteKind.{NoteKind}
use Rattle.lsl_handoff.specs.declared.note.NoteKind.TheVariants.{Offer, Taken, Cancel, Refused}
use Rattle.lsl_handoff.specs.Handovers.{Passes}
use Rattle.lsl_image.specs.declared.parts.Shape.{Shape}
use Rattle.lsl_image.specs.Images.{ObjectImage}
use Rattle.lsl_image.specs.Valid.{shape_of, unit_number}
use Rattle.lsl_post.specs.declared.events.Event.{Event}
use Rattle.lsl_post.specs.declared.parts.ScriptParts.{ScriptParts}
use Rattle.lsl_post.specs.Mailbox.{timer_due, timer_read}
use Rattle.lsl_post.specs.Told.{Told, quiet}
use Rattle.lsl_script.specs.Parts.{parts_of}
use Rattle.lsl_script.specs.Rules.{Rules}
use Rattle.lsl_script.specs.Scripts.{Script, post_to, ring_to, timer_event}
use Rattle.lsl_region.specs.declared.objects.Linkset.{Linkset}
use Rattle.lsl_region.specs.declared.objects.Primitive.{Primitive}
use Rattle.lsl_region.specs.Grids.{nameless, seat_of, without_names}
use Rattle.lsl_region.specs.Journeys.{arrive, contents_of, is_in_region}
use Rattle.lsl_region.specs.ObjectParts.{name_of, parts_in_seat, parts_of_object, with_unit}
use Rattle.lsl_region.specs.Posting.{post_all, post_where, ring_at}
use Rattle.lsl_region.specs.Segments.{turn}
use Rattle.lsl_region.specs.Worlds.{Member, World, at_member, changed_at, no_object, object_at, prim_at, with_object}
use Rattle.lsl_region.proofs.Outlines.{map-set_same}
use Rattle.lsl_lines.specs.declared.file.Step.{Step}
use Rattle.lsl_lines.specs.declared.file.Step.TheVariants.{Clock, Say, Touch, Changed, Rez, Go, Run, Pause, Cross}
use Rattle.lsl_world.specs.Orders.{IsOfferIn}
use Rattle.lsl_world.specs.Regions.{name_in}
use Rattle.lsl_world.specs.Steps.{next, round_or_last, rounds, turn_in}
use Rattle.lsl_world.proofs.Counts.{next-keeps, outline, post-keeps, set-keeps}
use Rattle.lsl_world.proofs.Keeping.{IsKept, KeepsCode, each-keeps, touch-keeps, turn-kept, until-keeps}

-- ---- the units of scripts

abbrev pub unit_in : Member → ℕ × ℕ
unit_in m = (m.object, m.script.code)

-- of each script, its object and its code
abbrev pub units_of : World → List (ℕ × ℕ)
units_of w = map unit_in w.members

with-code : (m : Member) (s : Script) → s.code ≡ m.script.code → unit_in (record m { script = s }) ≡ unit_in m
with-code m s e = ap (λ (c : ℕ). let both : ℕ × ℕ = (m.object, c) in both) e

member-units : (place : ℕ) (thing : Member → Told Script) → KeepsCode thing → (w : World)
    → units_of (at_member place thing w).value ≡ units_of w
member-units place thing same w = go (slice_get w.members place) refl where
  go : (o : Option Member) → slice_get w.members place ≡ o
      → units_of (changed_at place thing w o).value ≡ units_of w
  go None at = refl
  go (Some m) at =
      map-set_same unit_in w.members place m (record m { script = (thing m).value }) at
      (with-code m (thing m).value (same m))

posted-code : (r : Rules) (number : ℕ) (e : Event) (s : Script) (b : Bool)
    → (if b then post_to r number e s else quiet s).value.code ≡ s.code
posted-code r number e s true = refl
posted-code r number e s false = refl

ring-code : (r : Rules) (number clock : ℕ) (s : Script) → (ring_to r number clock s).value.code ≡ s.code
ring-code r number clock s = go (timer_due clock s.mailbox) where
  go : (b : Bool)
      → (if b then post_to r number timer_event (record s { mailbox = timer_read clock s.mailbox })
      else quiet s).value.code
      ≡ s.code
  go true = refl
  go false = refl

post-units : (r : Rules) (test : World → Member → Bool) (e : Event) (w : World)
    → units_of (post_all r test e w).value ≡ units_of w
post-units r test e w =
    each-keeps units_of (post_where r test e)
    (λ n x. member-units n _ (λ m. posted-code r (n + 1) e m.script (test x m)) x) (length w.members) 0 w

units-kept : (place : ℕ) → IsKept units_of place
units-kept place = record {
  own = member-units place;
  mail = λ m done w at code. map-set_same unit_in w.members place m (record m { script = done.0 }) at
      (with-code m done.0 code);
  left = post-units;
  named = λ m name w. refl;
  store = λ m pairs w. refl;
}

turn-units : (r : Rules) (most place : ℕ) (w : World) → units_of (turn r most place w).value.0 ≡ units_of w
turn-units r most place w = turn-kept units_of r place (units-kept place) most w

round-units : (r : Rules) (x : World × (ℕ × Bool)) → units_of (round_or_last r x).value.0 ≡ units_of x.0
round-units r x =
    each-keeps {X = World × ℕ} (λ y. units_of y.0) (turn_in r) (λ place y. turn-units r (min 8 y.1) place y.0)
    (length x.0.members) 0 (x.0, x.1.0)

rounds-units : (r : Rules) (most : ℕ) (w : World) → units_of (rounds r most w).value ≡ units_of w
rounds-units r most w =
    until-keeps {X = World × (ℕ × Bool)} (λ x. units_of x.0) (λ x. x.1.1) (round_or_last r) (round-units r) most
    (w, (most, false))

pub next-units : (r : Rules) (step : Step) (w : World) → units_of (next r step w).value ≡ units_of w
next-units r (Clock time) w =
    each-keeps units_of (ring_at r) (λ n x. member-units n _ (λ m. ring-code r (n + 1) x.clock m.script) x)
    (length w.members) 0 (record w { clock = max w.clock time })
next-units r (Say channel name key text) w = post-units r _ _ w
next-units r (Touch object link key name) w = touch-keeps units_of post-units r (object - 1) _ key name w
next-units r (Changed object flags) w = post-units r _ _ w
next-units r (Rez object n) w = post-units r _ _ w
next-units r (Go script most) w = turn-units r most (script - 1) w
next-units r (Run most) w = rounds-units r most w
next-units r (Pause gaps) w = refl
next-units r (Cross object region) w = go (is_in_region w (object - 1) region) where
  go : (b : Bool) → units_of (if b then quiet w else arrive r (object - 1) region w).value ≡ units_of w
  go true = refl
  go false =
      post-units r _ _ (with_object w (object - 1) (record (object_at w (object - 1)) { region = region }))

-- ---- the keys of prims

abbrev key_in : Primitive → List ℕ
key_in prim = prim.key

abbrev pub keys_in : Linkset → List (List ℕ)
keys_in object = map key_in object.prims

abbrev pub keys_of : World → List (List (List ℕ))
keys_of w = map keys_in w.objects

nameless-keys : (prims : List Primitive) → map key_in (map nameless prims) ≡ map key_in prims
nameless-keys [] = refl
nameless-keys (p ∷ prims) = ap (λ (ks : List (List ℕ)). p.key ∷ ks) (nameless-keys prims)

pub outline-keys : (objects : List Linkset) → map keys_in (map without_names objects) ≡ map keys_in objects
outline-keys [] = refl
outline-keys (o ∷ objects) =
    ap₂ (λ (k : List (List ℕ)) (ks : List (List (List ℕ))). k ∷ ks) (nameless-keys o.prims) (outline-keys objects)

same-keys : (v w : World) → outline v ≡ outline w → keys_of v ≡ keys_of w
same-keys v w e =
    sym (outline-keys v.objects) ∙ ap (λ (x : List Linkset × ℕ). map keys_in x.0) e ∙ outline-keys w.objects

pub next-keys : (r : Rules) (step : Step) (w : World) → keys_of (next r step w).value ≡ keys_of w
next-keys r (Cross object region) w = go (is_in_region w (object - 1) region) where
  go : (b : Bool) → keys_of (if b then quiet w else arrive r (object - 1) region w).value ≡ keys_of w
  go true = refl
  go false =
      same-keys (arrive r (object - 1) region w).value
      (with_object w (object - 1) (record (object_at w (object - 1)) { region = region }))
      (post-keeps r _ _ (with_object w (object - 1) (record (object_at w (object - 1)) { region = region })))
      ∙ set-keeps keys_in w.objects (object - 1) (record (object_at w (object - 1)) { region = region }) no_object refl
next-keys r step w = same-keys (next r step w).value w (next-keeps r step tt w)

-- ---- shapes

abbrev units_at : ℕ → List (ℕ × ℕ) → List ℕ
units_at place [] = []
units_at place (u ∷ us) = if nat_eq u.0 place then u.1 ∷ units_at place us else units_at place us

module _ (codes : List Code) (place : ℕ) where
  -- the script in a seat, if it is one of the object's
  abbrev taken_if : Member → Bool → Option ScriptParts
  taken_if m own = if own then option_map (with_unit m.script.code) (Some (parts_of codes m.script)) else None

  seats-units : (ms : List Member)
      → map unit_number (filter_map (parts_in_seat place) (map (seat_of codes false) ms))
      ≡ units_at place (map unit_in ms)
  seats-units [] = refl
  seats-units (m ∷ ms) = go (nat_eq m.object place) (seats-units ms) where
    go : (b : Bool)
        → map unit_number (filter_map (parts_in_seat place) (map (seat_of codes false) ms))
        ≡ units_at place (map unit_in ms)
        → map unit_number
        (cons_option (taken_if m b) (filter_map (parts_in_seat place) (map (seat_of codes false) ms)))
        ≡ (if b then m.script.code ∷ units_at place (map unit_in ms) else units_at place (map unit_in ms))
    go true more = ap (λ (us : List ℕ). m.script.code ∷ us) more
    go false more = more

first-key : (prims : List Primitive) → (prim_at prims 0).key ≡ get_or (map key_in prims) 0 []
first-key [] = refl
first-key (p ∷ prims) = refl

abbrev shape_by : List (List ℕ) → List ℕ → Shape
shape_by keys units = record { key = get_or keys 0 []; prims = length keys; units = units }

module _ (codes : List Code) (place : ℕ) (w : World) where
  shape-is : shape_of (parts_of_object (contents_of codes w) place)
      ≡ shape_by (get_or (keys_of w) place []) (units_at place (units_of w))
  shape-is =
      let here = get_or w.objects place no_object in
      let keys : get_or (keys_of w) place [] ≡ keys_in here = get_or-map keys_in w.objects place no_object in
      λ i. record {
        key = (first-key here.prims ∙ ap (λ (ks : List (List ℕ)). get_or ks 0 []) (sym keys)) i;
        prims = (length-map here.prims name_of ∙ sym (length-map here.prims key_in) ∙ ap length (sym keys)) i;
        units = seats-units codes place w.members i;
      }

pub same-shape : (codes : List Code) (place : ℕ) (v w : World) → keys_of v ≡ keys_of w → units_of v ≡ units_of w
    → shape_of (parts_of_object (contents_of codes v) place) ≡ shape_of (parts_of_object (contents_of codes w) place)
same-shape codes place v w keys units =
    shape-is codes place v
    ∙ ap₂ (λ (ks : List (List (List ℕ))) (us : List (ℕ × ℕ)). shape_by (get_or ks place []) (units_at place us))
    keys units
    ∙ sym (shape-is codes place w)

-- which offers are taken
pub offers-kept : (codes : List Code) (regions : List (List ℕ)) (v w : World) → keys_of v ≡ keys_of w
    → units_of v ≡ units_of w → (kind : NoteKind) (note : Note) → Passes (IsOfferIn codes regions w) kind note
    → Passes (IsOfferIn codes regions v) kind note
offers-kept codes regions v w keys units Offer note (parts, it) =
    let same = same-shape codes (note.object - 1) v w keys units in (
      parts,
      record {
        image = subst (λ (s : Shape). ObjectImage (name_in regions note.from) s codes parts note.parcel) (sym same)
            it.image;
        fits = record { valid = it.fits.valid; shape = it.fits.shape ∙ sym same };
      },
    )
offers-kept codes regions v w keys units Taken note passes = tt
offers-kept codes regions v w keys units Cancel note passes = tt
offers-kept codes regions v w keys units Refused note passes = tt
