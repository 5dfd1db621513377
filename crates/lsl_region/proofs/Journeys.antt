-- A crossing that brought back what was sent is one in the world that the grid represents.
use Rattle.std.proofs.Common.{◌≡◌, ◌∙◌, refl, sym, ap, subst, arith, ℕ, ◌+◌, ◌<◌, suc, zero, Bool, true, false, List, [], ◌∷◌, ◌++◌, length, get_or}
use Rattle.std.specs.Prelude.{nat_eq, if◌then◌else◌, Some, None, map, slice_get, slice_set}
use Rattle.std.specs.List.{cons_option, filter_map}
use Rattle.std.specs.Option.{option_map}
use Rattle.std.specs.declared.result.Result.{Result}
use Rattle.std.specs.declared.result.Result.TheVariants.{Ok}
use Rattle.std.proofs.Math.ListN.{length-set}
use Rattle.std.proofs.lemmas.List.{set-get_or}
use Rattle.std.proofs.lemmas.Option.{slice_get-map}
use Rattle.lsl_code.specs.declared.woven_units.Woven.{Woven as Code}
use Rattle.lsl_notes.specs.declared.cards.Notecard.{Notecard}
use Rattle.lsl_post.specs.declared.entries.Entry.{Entry}
use Rattle.lsl_post.specs.declared.events.Event.{Event}
use Rattle.lsl_post.specs.declared.parts.ScriptParts.{ScriptParts}
use Rattle.lsl_post.specs.Mailbox.{posted_to, with_posted}
use Rattle.lsl_post.specs.Told.{Told, as_value, each, quiet}
use Rattle.lsl_script.specs.Codes.{HasUnit, Meant}
use Rattle.lsl_script.specs.Parts.{parts_of}
use Rattle.lsl_script.specs.Scripts.{Script, entries_of_posting, post_to}
use Rattle.lsl_script.proofs.Posting.{posted_is, posted_told}
use Rattle.lsl_region.specs.declared.grid.Seat.{Seat}
use Rattle.lsl_region.specs.declared.objects.Linkset.{Linkset}
use Rattle.lsl_region.specs.declared.objects.Primitive.{Primitive}
use Rattle.lsl_region.specs.Arrivals.{is_in_object}
use Rattle.lsl_region.specs.Crossings.{arrived, post_in, post_in_seat, post_in_seats, region_changed, states_in, states_of}
use Rattle.lsl_region.specs.Grids.{Contents, Stands, seat_of}
use Rattle.lsl_region.specs.Journeys.{arrive, contents_of}
use Rattle.lsl_region.specs.ObjectParts.{behind_first, in_region, name_of, named, object_in_grid, parts_in_seat, parts_of_object, reseated, with_first, with_parts, with_unit}
use Rattle.lsl_region.specs.Posting.{post_where}
use Rattle.lsl_region.specs.Worlds.{Member, World, no_object, object_at, with_object}
use Rattle.lsl_region.proofs.Notices.{post-script-alone, posts-end, posts-next, posts_from}
use Rattle.lsl_region.proofs.Placed.{changed, stands-length}
use Rattle.lsl_region.proofs.Posts.{if-script, post-script, same-script, to-same}

list-ext : {X : Type 0} (xs ys : List X) → ((n : ℕ) → slice_get xs n ≡ slice_get ys n) → xs ≡ ys
list-ext [] [] h = refl
list-ext [] (y ∷ ys) h = let e = h 0 in absurd cc
list-ext (x ∷ xs) [] h = let e = h 0 in absurd cc
list-ext {X} (x ∷ xs) (y ∷ ys) h =
    let e : Some x ≡ Some y = h 0 in
    let first : x ≡ y = cc in
    ap (λ (z : X). z ∷ xs) first ∙ ap (λ (zs : List X). y ∷ zs) (list-ext xs ys (λ n. h (suc n)))

-- the grid is the one that represents the world
pub contents-is : (codes : List Code) (clock : ℕ) (grid : Contents) (w : World) → Stands codes None clock grid w
    → grid ≡ contents_of codes w
contents-is codes clock grid w st =
    ap {A = List Linkset} {B = Contents} (λ objects. record grid { objects = objects }) st.objects
    ∙ ap {A = List Notecard} {B = Contents} (λ cards. record { objects = w.objects; seats = grid.seats; cards = cards })
    st.cards
    ∙ ap {A = List Seat} {B = Contents} (λ seats. record { objects = w.objects; seats = seats; cards = w.cards })
    (list-ext grid.seats (map (seat_of codes false) w.members)
    (λ n. st.seats n ∙ sym (slice_get-map (seat_of codes false) w.members n)))

named-own : (prims : List Primitive) → named prims (map name_of prims) ≡ prims
named-own [] = refl
named-own (prim ∷ prims) = ap (λ (z : List Primitive). prim ∷ z) (named-own prims)

module _ (codes : List Code) (place : ℕ) where
  own-first : (own : Bool) (m : Member) (scripts : List ScriptParts) (seats others : List Seat)
      → reseated place scripts seats ≡ others
      → with_first (seat_of codes false m)
      (if own then option_map (with_unit m.script.code) (Some (parts_of codes m.script)) else None)
      (cons_option (if own then option_map (with_unit m.script.code) (Some (parts_of codes m.script)) else None)
      scripts)
      ∷ reseated place (behind_first
      (if own then option_map (with_unit m.script.code) (Some (parts_of codes m.script)) else None)
      (cons_option (if own then option_map (with_unit m.script.code) (Some (parts_of codes m.script)) else None)
      scripts))
      seats
      ≡ seat_of codes false m ∷ others
  own-first true m scripts seats others e = ap (λ (z : List Seat). seat_of codes false m ∷ z) e
  own-first false m scripts seats others e = ap (λ (z : List Seat). seat_of codes false m ∷ z) e

  -- the object's own scripts change no seat
  own-scripts : (members : List Member)
      → reseated place (filter_map (parts_in_seat place) (map (seat_of codes false) members))
      (map (seat_of codes false) members)
      ≡ map (seat_of codes false) members
  own-scripts [] = refl
  own-scripts (m ∷ members) =
      own-first (nat_eq m.object place) m
      (filter_map (parts_in_seat place) (map (seat_of codes false) members)) (map (seat_of codes false) members)
      (map (seat_of codes false) members) (own-scripts members)

  -- its own parts change nothing
  with-own : (w : World)
      → with_parts (contents_of codes w) place (parts_of_object (contents_of codes w) place) ≡ contents_of codes w
  with-own w =
      let grid = contents_of codes w in
      let o = object_in_grid grid place in
      ap {A = List Primitive} {B = Contents} (λ prims. record {
        objects = slice_set grid.objects place (record o { prims = prims; store = o.store });
        seats = reseated place (filter_map (parts_in_seat place) grid.seats) grid.seats;
        cards = grid.cards;
      }) (named-own o.prims)
      ∙ ap {A = List Linkset} {B = Contents} (λ objects. record {
        objects = objects;
        seats = reseated place (filter_map (parts_in_seat place) grid.seats) grid.seats;
        cards = grid.cards;
      }) (set-get_or grid.objects place no_object)
      ∙ ap {A = List Seat} {B = Contents}
      (λ seats. record { objects = grid.objects; seats = seats; cards = grid.cards })
      (own-scripts w.members)

  pub own-arrived : (clock : ℕ) (grid : Contents) (w : World) (region : List ℕ) → Stands codes None clock grid w
      → arrived codes grid place region (parts_of_object grid place)
      ≡ as_value (λ (seats : List Seat). record (in_region grid place region) { seats = seats })
      (post_in_seats codes place region_changed 1 grid.seats)
  own-arrived clock grid w region st =
      let is = contents-is codes clock grid w st in
      let same : with_parts grid place (parts_of_object grid place) ≡ grid =
      subst (λ (g : Contents). with_parts g place (parts_of_object g place) ≡ g) (sym is) (with-own w) in
      ap {A = Contents} {B = Told Contents} (λ g.
      as_value (λ (seats : List Seat). record (in_region g place region) { seats = seats })
      (post_in_seats codes place region_changed 1 g.seats)) same

there-is : {X : Type 0} (xs : List X) (n : ℕ) → n < length xs → (x : X) × (slice_get xs n ≡ Some x)
there-is [] n h = absurd (omega arith)
there-is (x ∷ xs) zero h = (x, refl)
there-is (x ∷ xs) (suc n) h = there-is xs n (omega arith)

-- the effect on a script in its seat is the effect on the script
module _ (codes : List Code) (m : Meant codes) (place : ℕ) (e : Event) (number : ℕ) (one : Member) (unit : Code)
    (has : HasUnit codes one.script.code unit) (known : one.script.code < length codes) where
  abbrev seat : Seat
  seat = seat_of codes false one

  abbrev thing : Told Script
  thing = if nat_eq one.object place then post_to m.rules number e one.script else quiet one.script

  states-are : states_in codes one.script.code ≡ unit.states
  states-are = ap states_of has

  told-own : (own : Bool)
      → ((if own then post_in (states_in codes one.script.code) e number seat (Some (parts_of codes one.script))
      else quiet seat).value.script
      ≡ Some (parts_of codes (if own then post_to m.rules number e one.script else quiet one.script).value))
      × ((if own then post_in (states_in codes one.script.code) e number seat (Some (parts_of codes one.script))
      else quiet seat).entries
      ≡ (if own then post_to m.rules number e one.script else quiet one.script).entries)
  told-own true = (
    ap (λ (states : _). Some (with_posted states e (parts_of codes one.script))) states-are
        ∙ ap (λ (z : ScriptParts). Some z) (posted_is codes one.script unit e number has)
        ∙ ap (λ (t : Told Script). Some (parts_of codes t.value)) (to-same codes m number e one.script known),
    ap (λ (states : _). entries_of_posting number (posted_to states e (parts_of codes one.script))) states-are
        ∙ sym (posted_told codes one.script unit e number has)
        ∙ ap (λ (t : Told Script). t.entries) (to-same codes m number e one.script known),
  )
  told-own false = (refl, refl)

  pub told-in-seat : ((post_in_seat codes place e number seat).value.script ≡ Some (parts_of codes thing.value))
      × ((post_in_seat codes place e number seat).entries ≡ thing.entries)
  told-in-seat = told-own (nat_eq one.object place)

-- what the seats from one on get represents what the world gets
record PostsStand (codes : List Code) (clock : ℕ) (grid : Contents) (told : Told (List Seat)) (w : Told World)
    : Type 0 where
  stands : Stands codes None clock (record grid { seats = told.value }) w.value
  entries : told.entries ≡ w.entries

module _ (codes : List Code) (m : Meant codes) (clock place : ℕ) (e : Event) where
  -- one seat gets the event
  one-told : (grid : Contents) (w : World) (at : ℕ) (seat : Seat) → Stands codes None clock grid w
      → slice_get grid.seats at ≡ Some seat
      → PostsStand codes clock grid (record {
        value = slice_set grid.seats at (post_in_seat codes place e (at + 1) seat).value;
        entries = (post_in_seat codes place e (at + 1) seat).entries;
      }) (post_where m.rules (is_in_object place) e at w)
  one-told grid w at seat st here =
      let told = post_in_seat codes place e (at + 1) seat in
      let new : Contents = record {
        objects = grid.objects;
        seats = slice_set grid.seats at told.value;
        cards = grid.cards;
      } in
      let r : Result (Unit {0}) (Unit {0}) = Ok tt in
      let d = changed codes None clock grid new w at seat told.value.script
      (λ (k : Member). if is_in_object place w k then post_to m.rules (at + 1) e k.script else quiet k.script)
      st refl here refl refl
      (ap (λ (z : Seat). slice_set grid.seats at z) (post-script-alone codes place e (at + 1) seat))
      (λ k l. if-script codes false k.script (is_in_object place w k) _ _
      (post-script codes m.rules (at + 1) e k.script l) (same-script codes false k.script l))
      r [] told.entries
      (λ k there is.
      let known = (st.scripts at k there).known in
      let u = there-is codes k.script.code known in
      let t = told-in-seat codes m place e (at + 1) k u.0 u.1 known in
      let script : told.value.script ≡ (post_in_seat codes place e (at + 1) (seat_of codes false k)).value.script
      = ap (λ (z : Seat). (post_in_seat codes place e (at + 1) z).value.script) is in
      let entries : told.entries ≡ (post_in_seat codes place e (at + 1) (seat_of codes false k)).entries
      = ap (λ (z : Seat). (post_in_seat codes place e (at + 1) z).entries) is in
      (script ∙ t.0, entries ∙ t.1)) in
      record { stands = d.0; entries = d.1 }

  -- all seats from one on get the event
  seats-told : (left at : ℕ) (grid : Contents) (w : World) → Stands codes None clock grid w
      → at + left ≡ length grid.seats
      → PostsStand codes clock grid (posts_from codes place e at grid.seats)
      (each (post_where m.rules (is_in_object place) e) left at w)
  unfolding each
  seats-told zero at grid w st end =
      let is = posts-end codes place e at grid.seats (omega (arith, end)) in
      record {
        stands = subst (λ (t : Told (List Seat)).
            Stands codes None clock (record grid { seats = t.value }) w) (sym is) st;
        entries = ap (λ (t : Told (List Seat)). t.entries) is;
      }
  seats-told (suc left) at grid w st end =
      let seat = there-is grid.seats at (omega (arith, end)) in
      let one = post_in_seat codes place e (at + 1) seat.0 in
      let first = one-told grid w at seat.0 st seat.1 in
      let seats = slice_set grid.seats at one.value in
      let others = seats-told left (at + 1) (record grid { seats = seats })
      (post_where m.rules (is_in_object place) e at w).value first.stands
      (omega (arith, end, length-set grid.seats at one.value)) in
      let is = posts-next codes place e at grid.seats seats seat.0 seat.1 refl in
      let told = each (post_where m.rules (is_in_object place) e) left (at + 1)
      (post_where m.rules (is_in_object place) e at w).value in
      record {
        stands = subst (λ (t : Told (List Seat)).
            Stands codes None clock (record grid { seats = t.value }) told.value) (sym is)
            others.stands;
        entries = ap (λ (t : Told (List Seat)). t.entries) is
            ∙ ap (λ (z : List Entry). z ++ (posts_from codes place e (at + 1) seats).entries) first.entries
            ∙ ap (λ (z : List Entry). (post_where m.rules (is_in_object place) e at w).entries ++ z) others.entries;
      }

-- what arrives unchanged arrives in the world
pub record Arrives (codes : List Code) (clock : ℕ) (told : Told Contents) (w : Told World) : Type 0 where
  pub stands : Stands codes None clock told.value w.value
  pub entries : told.entries ≡ w.entries

pub arrives : (codes : List Code) (m : Meant codes) (clock place : ℕ) (region : List ℕ) (grid : Contents) (w : World)
    → Stands codes None clock grid w
    → Arrives codes clock (arrived codes grid place region (parts_of_object grid place)) (arrive m.rules place region w)
arrives codes m clock place region grid w st =
    let moved : World = with_object w place (record (object_at w place) { region = region }) in
    let there = in_region grid place region in
    let stands : Stands codes None clock there moved = record {
      time = st.time;
      objects = ap (λ (os : List Linkset).
          slice_set os place (record (get_or os place no_object) { region = region })) st.objects;
      cards = st.cards;
      seats = st.seats;
      scripts = st.scripts;
    } in
    let told = seats-told codes m clock place region_changed (length moved.members) 0 there moved stands
    (omega (arith, stands-length codes None clock there moved stands)) in
    subst (λ (t : Told Contents). Arrives codes clock t (arrive m.rules place region w))
    (sym (own-arrived codes place clock grid w region st))
    (record { stands = told.stands; entries = told.entries })
