-- A grid with objects that have the parts of a world's represents that world.
use Rattle.std.proofs.Common.{◌≡◌, ◌∙◌, refl, sym, ap, subst, arith, ℕ, ◌<◌, suc, zero, Bool, true, false, List, [], ◌∷◌, length, get_or}
use Rattle.std.specs.Prelude.{if◌then◌else◌, Option, Some, None, map, slice_get}
use Rattle.std.specs.List.{cons_option, filter_map}
use Rattle.std.specs.Option.{option_map}
use Rattle.std.proofs.lemmas.Bool.{eq-eqb}
use Rattle.std.proofs.lemmas.List.{length-map}
use Rattle.std.proofs.lemmas.List.FromFn.{get_or-map-range_with_len}
use Rattle.std.proofs.lemmas.Option.{slice_get-map, slice_get_within}
use Rattle.lsl_code.specs.declared.woven_units.Woven.{Woven as Code}
use Rattle.lsl_post.specs.declared.parts.ScriptParts.{ScriptParts}
use Rattle.lsl_image.specs.declared.parts.Placed.{Placed}
use Rattle.lsl_script.specs.Parts.{parts_of}
use Rattle.lsl_region.specs.declared.grid.Seat.{Seat}
use Rattle.lsl_region.specs.declared.objects.Linkset.{Linkset}
use Rattle.lsl_region.specs.declared.objects.Primitive.{Primitive}
use Rattle.lsl_region.specs.GridParts.{AreHome, AreScripts, IsHome, fixed_in, fixed_of, lasting, placed_at, placed_in}
use Rattle.lsl_region.specs.Grids.{ArePlaced, Contents, Stands, nameless, seat_of, vacant}
use Rattle.lsl_region.specs.Journeys.{contents_of}
use Rattle.lsl_region.specs.ObjectParts.{name_of, parts_in_seat, with_unit}
use Rattle.lsl_region.specs.Worlds.{Member, World, no_object}
use Rattle.lsl_region.proofs.Outlines.{vacant-read}

-- prims of the same keys and names
same-prims : (ps qs : List Primitive) → map nameless ps ≡ map nameless qs → map name_of ps ≡ map name_of qs → ps ≡ qs
same-prims [] [] keys names = refl
same-prims [] (q ∷ qs) keys names = absurd cc
same-prims (p ∷ ps) [] keys names = absurd cc
same-prims (p ∷ ps) (q ∷ qs) keys names =
    let first : nameless p ≡ nameless q = cc in
    let key : p.key ≡ q.key = ap (λ (z : Primitive). z.key) first in
    let name : p.name ≡ q.name = cc in
    let one : p ≡ q = λ i. record { key = key i; name = name i } in
    let others : map nameless ps ≡ map nameless qs = cc in
    let called : map name_of ps ≡ map name_of qs = cc in
    ap (λ (z : Primitive). z ∷ ps) one ∙ ap (λ (zs : List Primitive). q ∷ zs) (same-prims ps qs others called)

-- two objects have the same parts
record AreLike (x y : Linkset) : Type 0 where
  region : x.region ≡ y.region
  names : map name_of x.prims ≡ map name_of y.prims
  store : x.store ≡ y.store

same-objects : (xs ys : List Linkset) → map lasting xs ≡ map lasting ys
    → ((k : ℕ) → k < length xs → AreLike (get_or xs k no_object) (get_or ys k no_object)) → xs ≡ ys
same-objects [] [] e like = refl
same-objects [] (y ∷ ys) e like = absurd cc
same-objects (x ∷ xs) (y ∷ ys) e like =
    let first : lasting x ≡ lasting y = cc in
    let others : map lasting xs ≡ map lasting ys = cc in
    let one = like 0 (omega arith) in
    let owner : x.owner ≡ y.owner = ap (λ (z : Linkset). z.owner) first in
    let region : x.region ≡ y.region = one.region in
    let store : x.store ≡ y.store = one.store in
    let prims : x.prims ≡ y.prims = same-prims x.prims y.prims (ap (λ (z : Linkset). z.prims) first) one.names in
    let same : x ≡ y = λ i. record { owner = owner i; region = region i; prims = prims i; store = store i } in
    ap (λ (z : Linkset). z ∷ xs) same
    ∙ ap (λ (zs : List Linkset). y ∷ zs) (same-objects xs ys others (λ k lt. like (suc k) (omega (arith, lt))))
same-objects (x ∷ xs) [] e like = absurd cc

cons-same : (o : Option ScriptParts) (xs ys : List ScriptParts) → cons_option o xs ≡ cons_option o ys → xs ≡ ys
cons-same None xs ys e = e
cons-same (Some x) xs ys e = cc

-- the script of a seat, as one of its object
seated-own : (seat : Seat) (place : ℕ) (home : IsHome seat) → seat.object ≡ place → parts_in_seat place seat
    ≡ Some home.0
seated-own seat place home e =
    ap (λ (b : Bool). if b then option_map (with_unit seat.unit) seat.script else None) (eq-eqb seat.object place e)
    ∙ ap (λ (o : Option ScriptParts). option_map (with_unit seat.unit) o) home.1
    ∙ ap (λ (u : ℕ). Some (with_unit u home.0)) (sym home.2)

-- seats of the same scripts
same-seats : (n : ℕ) (xs ys : List Seat) → map vacant xs ≡ map vacant ys
    → ((k : ℕ) → k < n → filter_map (parts_in_seat k) xs ≡ filter_map (parts_in_seat k) ys)
    → AreHome xs → AreHome ys → ((j : ℕ) (s : Seat) → slice_get xs j ≡ Some s → s.object < n) → xs ≡ ys
same-seats n [] [] e like hx hy within = refl
same-seats n [] (y ∷ ys) e like hx hy within = absurd cc
same-seats n (x ∷ xs) [] e like hx hy within = absurd cc
same-seats n (x ∷ xs) (y ∷ ys) e like hx hy within =
    let first : vacant x ≡ vacant y = cc in
    let others : map vacant xs ≡ map vacant ys = cc in
    let p = hx 0 x refl in
    let q = hy 0 y refl in
    let object : x.object ≡ y.object = ap (λ (z : Seat). z.object) first in
    let prim : x.prim ≡ y.prim = ap (λ (z : Seat). z.prim) first in
    let name : x.name ≡ y.name = ap (λ (z : Seat). z.name) first in
    let unit : x.unit ≡ y.unit = ap (λ (z : Seat). z.unit) first in
    let own = like x.object (within 0 x refl) in
    let heads : p.0 ∷ filter_map (parts_in_seat x.object) xs ≡ q.0 ∷ filter_map (parts_in_seat x.object) ys =
    ap (λ (o : Option ScriptParts). cons_option o (filter_map (parts_in_seat x.object) xs))
    (sym (seated-own x x.object p refl))
    ∙ own
    ∙ ap (λ (o : Option ScriptParts). cons_option o (filter_map (parts_in_seat x.object) ys))
    (seated-own y x.object q (sym object)) in
    let parts : p.0 ≡ q.0 = cc (heads) in
    let script : x.script ≡ y.script = p.1 ∙ ap (λ (z : ScriptParts). Some z) parts ∙ sym q.1 in
    let same : x ≡ y = λ i. record {
      object = object i;
      prim = prim i;
      name = name i;
      unit = unit i;
      script = script i;
    } in
    ap (λ (z : Seat). z ∷ xs) same
    ∙ ap (λ (zs : List Seat). y ∷ zs)
    (same-seats n xs ys others
    (λ k lt. cons-same (parts_in_seat k x) (filter_map (parts_in_seat k) xs) (filter_map (parts_in_seat k) ys)
    (like k lt ∙ ap (λ (z : Seat). cons_option (parts_in_seat k z) (filter_map (parts_in_seat k) ys)) (sym same)))
    (λ j s at. hx (suc j) s at) (λ j s at. hy (suc j) s at) (λ j s at. within (suc j) s at))

-- every script is in an object that is there
abbrev pub AreWithin : Contents → Type 0
AreWithin g = (j : ℕ) (s : Seat) → slice_get g.seats j ≡ Some s → s.object < length g.objects

pub placed-within : (g : Contents) → ArePlaced g.objects g.seats → AreWithin g
placed-within g p j s at = let q = p.placed j s at in slice_get_within g.objects s.object q.object q.there

fixed-count : (g h : Contents) → fixed_of g ≡ fixed_of h → length g.objects ≡ length h.objects
fixed-count g h e =
    sym (length-map g.objects lasting) ∙ ap (λ (z : Contents). length z.objects) e ∙ length-map h.objects lasting

pub fixed-within : (g h : Contents) → fixed_of g ≡ fixed_of h → AreWithin h → AreWithin g
fixed-within g h e within j s at =
    let read = vacant-read g.seats h.seats j s (sym (ap (λ (z : Contents). z.seats) e)) at in
    let same : read.0.object ≡ s.object = ap (λ (z : Seat). z.object) read.2 in
    omega (arith, within j read.0 read.1, same, fixed-count g h e)

-- two grids of which the same stays, and with objects of the same parts
module _ (g h : Contents) (fixed : fixed_of g ≡ fixed_of h) (parts : placed_in g ≡ placed_in h) where
  at-place : (k : ℕ) → k < length g.objects → placed_at g k ≡ placed_at h k
  at-place k lt =
      let d = placed_at g k in
      sym (get_or-map-range_with_len (placed_at g) 0 (length g.objects) k k d lt (omega arith))
      ∙ ap (λ (l : List Placed). get_or l k d) parts
      ∙ get_or-map-range_with_len (placed_at h) 0 (length h.objects) k k d (omega (arith, lt, fixed-count g h fixed))
      (omega arith)

  pub same-contents : AreHome g.seats → AreHome h.seats → AreWithin g → g ≡ h
  same-contents hg hh within =
      let objects : g.objects ≡ h.objects =
      same-objects g.objects h.objects (ap (λ (z : Contents). z.objects) fixed) (λ k lt. record {
        region = ap (λ (z : Placed). z.region) (at-place k lt);
        names = ap (λ (z : Placed). z.object.names) (at-place k lt);
        store = ap (λ (z : Placed). z.object.store) (at-place k lt);
      }) in
      let seats : g.seats ≡ h.seats =
      same-seats (length g.objects) g.seats h.seats (ap (λ (z : Contents). z.seats) fixed)
      (λ k lt. ap (λ (z : Placed). z.object.scripts) (at-place k lt)) hg hh within in
      let cards : g.cards ≡ h.cards = ap (λ (z : Contents). z.cards) fixed in
      λ i. record { objects = objects i; seats = seats i; cards = cards i }

-- the scripts of a world are in the seats of the grid that represents it
module _ (codes : List Code) where
  pub members-home : (members : List Member) → AreHome (map (seat_of codes false) members)
  members-home [] n s at = absurd cc
  members-home (m ∷ members) zero s at =
      let is : seat_of codes false m ≡ s = cc in
      subst (λ (z : Seat). IsHome z) is (parts_of codes m.script, refl, refl)
  members-home (m ∷ members) (suc n) s at = members-home members n s at

  members-fixed : (members : List Member)
      → map vacant (map (seat_of codes false) members) ≡ map (seat_of [] true) members
  members-fixed [] = refl
  members-fixed (m ∷ members) = ap (λ (z : List Seat). seat_of [] true m ∷ z) (members-fixed members)

  pub fixed-is : (w : World) → fixed_of (contents_of codes w) ≡ fixed_in w
  fixed-is w =
      ap {A = List Seat} {B = Contents} (λ seats. record {
        objects = map lasting w.objects;
        seats = seats;
        cards = w.cards;
      })
      (members-fixed w.members)

  pub thawed-stands : (grid : Contents) (w : World) → AreScripts codes w → fixed_in w ≡ fixed_of grid
      → placed_in (contents_of codes w) ≡ placed_in grid → AreHome grid.seats → AreWithin grid
      → Stands codes None w.clock grid w
  thawed-stands grid w scripts fixed parts home within =
      let is : grid ≡ contents_of codes w =
      same-contents grid (contents_of codes w) (sym fixed ∙ sym (fixed-is w)) (sym parts) home (members-home w.members)
      within
      in
      record {
        time = refl;
        objects = ap (λ (z : Contents). z.objects) is;
        cards = ap (λ (z : Contents). z.cards) is;
        seats = λ n. ap (λ (z : Contents). slice_get z.seats n) is ∙ slice_get-map (seat_of codes false) w.members n;
        scripts = λ n m at. scripts n m at;
      }
