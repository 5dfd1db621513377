-- The seats of a grid: read, and one of them changed.
use Rattle.std.proofs.Common.{◌≡◌, ◌≢◌, ℕ, ◌<◌, ◌≤◌, ◌⊎◌, inl, inr, true, false, eqb, List, [], ◌∷◌, zero, suc, length, get_or, refl, ap, sym, ◌∙◌, subst, arith}
use Rattle.std.specs.Prelude.{Some, None, slice_get, slice_set, All}
use Rattle.std.proofs.Math.ListN.{length-set}
use Rattle.std.proofs.lemmas.Bool.Decides.{eqb_tells}
use Rattle.std.proofs.lemmas.List.{set-get_or}
use Rattle.std.proofs.lemmas.Option.{get_or_from_slice_get, slice_get_read, slice_get_within}
use Rattle.lsl_value.specs.Key.{is_valid_key}
use Rattle.lsl_code.specs.declared.woven_units.Woven.{Woven as Code}
use Rattle.lsl_image.specs.Valid.{IsStore}
use Rattle.lsl_post.specs.declared.parts.Pair.{Pair}
use Rattle.lsl_post.specs.Listens.{Standing}
use Rattle.lsl_region.specs.declared.notice.Audience.{Audience}
use Rattle.lsl_region.specs.declared.grid.Seat.{Seat}
use Rattle.lsl_region.specs.declared.objects.Linkset.{Linkset}
use Rattle.lsl_region.specs.declared.objects.Primitive.{Primitive}
use Rattle.lsl_region.specs.Grids.{Contents, IsPlaced, ArePlaced, AreSeated, FitsSeat, HasKey, IsFormed, IsSeated, key_in, object_in, renamed_grid, stored_grid}
use Rattle.lsl_region.specs.Answers.{with_name}
use Rattle.lsl_region.specs.Posting.{is_admitted}
use Rattle.lsl_region.specs.Worlds.{no_object, prim_at}
use Rattle.lsl_region.proofs.Placed.{slice_get-set_same, slice_get-set_other}

abbrev pub no_seat : Seat
no_seat = record { object = 0; prim = 0; name = []; unit = 0; script = None }

pub read-at : {X : Type 0} (xs : List X) (n : ℕ) (x : X) → n < length xs → x ≡ get_or xs n x
    → slice_get xs n ≡ Some x
read-at xs n x h e = slice_get_read xs (length xs) n x refl h e

pub set-same : {X : Type 0} (xs : List X) (n : ℕ) (x : X) → slice_get xs n ≡ Some x → slice_set xs n x ≡ xs
set-same xs n x e = subst (λ (y : _). slice_set xs n y ≡ xs) (get_or_from_slice_get xs n x x e) (set-get_or xs n x)

module _ (objects : List Linkset) (seats : List Seat) (n : ℕ) (seat t : Seat)
    (at : slice_get seats n ≡ Some seat) (object : t.object ≡ seat.object) (prim : t.prim ≡ seat.prim) where
  placed-at : ArePlaced objects seats → (k : ℕ) (s : Seat) → ((eqb k n ≡ true) × (k ≡ n))
      ⊎ ((eqb k n ≡ false) × (k ≢ n))
      → slice_get (slice_set seats n t) k ≡ Some s → IsPlaced objects s
  placed-at p k s (inl e) h =
      let here : slice_get (slice_set seats n t) n ≡ Some t
      = slice_get-set_same seats n t (slice_get_within seats n seat at) in
      let same : Some t ≡ Some s = sym here ∙ ap (slice_get (slice_set seats n t)) (sym e.1) ∙ h in
      let is : t ≡ s = cc in
      let q = p.placed n seat at in
      subst (IsPlaced objects) is
      (record {
        object = q.object;
        there = ap (slice_get objects) object ∙ q.there;
        prim = subst (λ (z : ℕ). z < length q.object.prims) (sym prim) q.prim;
      })
  placed-at p k s (inr e) h = p.placed k s (sym (slice_get-set_other seats n k t e.1) ∙ h)

  -- a seat may be another one of the same prim
  pub placed-set : ArePlaced objects seats → ArePlaced objects (slice_set seats n t)
  placed-set p = record {
    few_objects = p.few_objects;
    formed = p.formed;
    few_seats = omega (arith, p.few_seats, length-set seats n t);
    placed = λ k s h. placed-at p k s (eqb_tells k n) h;
  }

module _ (codes : List Code) (seats : List Seat) (n : ℕ) (t : Seat) (fits : IsSeated codes t) where
  seated-at : AreSeated codes seats → n < length seats → (k : ℕ) (s : Seat)
      → ((eqb k n ≡ true) × (k ≡ n)) ⊎ ((eqb k n ≡ false) × (k ≢ n))
      → slice_get (slice_set seats n t) k ≡ Some s → IsSeated codes s
  seated-at p within k s (inl e) h =
      let here : slice_get (slice_set seats n t) n ≡ Some t = slice_get-set_same seats n t within in
      let same : Some t ≡ Some s = sym here ∙ ap (slice_get (slice_set seats n t)) (sym e.1) ∙ h in
      let is : t ≡ s = cc in
      subst (λ (z : Seat). IsSeated codes z) is fits
  seated-at p within k s (inr e) h = p k s (sym (slice_get-set_other seats n k t e.1) ∙ h)

  pub seated-set : AreSeated codes seats → n < length seats → AreSeated codes (slice_set seats n t)
  seated-set p within = λ k s h. seated-at p within k s (eqb_tells k n) h

-- the unit of a seat, as it is read
pub seated-unit : (codes : List Code) (seat : Seat) (unit : Code) → IsSeated codes seat
    → Some unit ≡ slice_get codes seat.unit → FitsSeat unit seat.script
seated-unit codes seat unit k e =
    let same : Some k.unit ≡ Some unit = sym k.has ∙ sym e in
    let is : k.unit ≡ unit = cc in
    subst (λ (u : Code). FitsSeat u seat.script) is k.fits

-- the object of a seat, as it is read
pub object-read : (objects : List Linkset) (seats : List Seat) (n : ℕ) (seat : Seat) (o : Linkset)
    → ArePlaced objects seats → slice_get seats n ≡ Some seat → o ≡ get_or objects seat.object o
    → (slice_get objects seat.object ≡ Some o) × (seat.prim < length o.prims)
object-read objects seats n seat o p at e =
    let q = p.placed n seat at in
    let r : slice_get objects seat.object ≡ Some o
    = read-at objects seat.object o (slice_get_within objects seat.object q.object q.there) e in
    let same : Some q.object ≡ Some o = sym q.there ∙ r in
    let is : q.object ≡ o = cc in
    (r, subst (λ (z : Linkset). seat.prim < length z.prims) is q.prim)

pub admitted : (a : Audience) (listens : Standing) (g h : Contents) (n : ℕ) (x seat : Seat) (o : Linkset)
    (p : Primitive)
    → g ≡ h → slice_get g.seats n ≡ Some x → slice_get g.objects x.object ≡ Some o → p ≡ prim_at o.prims x.prim
    → slice_get h.seats n ≡ Some seat
    → is_admitted a x.object x.prim p.key listens
    ≡ is_admitted a seat.object seat.prim (key_in h.objects seat) listens
admitted a listens g h n x seat o p is at there prim e =
    let same : Some x ≡ Some seat = sym at ∙ ap (λ (z : Contents). slice_get z.seats n) is ∙ e in
    let eq : x ≡ seat = cc in
    let key : p.key ≡ key_in h.objects x =
    ap (λ (z : Primitive). z.key) prim
    ∙ ap (λ (z : Linkset). (prim_at z.prims x.prim).key)
    (sym (get_or_from_slice_get g.objects x.object o no_object there))
    ∙ ap (λ (z : Contents). key_in z.objects x) is in
    ap (λ (k : List ℕ). is_admitted a x.object x.prim k listens) key
    ∙ ap (λ (z : Seat). is_admitted a z.object z.prim (key_in h.objects z) listens) eq

-- the object of a seat
pub object-is : (g h : Contents) (n : ℕ) (x seat : Seat) (o : Linkset) → g ≡ h → slice_get g.seats n ≡ Some x
    → slice_get h.seats n ≡ Some seat → slice_get g.objects x.object ≡ Some o
    → (x ≡ seat) × (o ≡ object_in h.objects seat)
object-is g h n x seat o is at e there =
    let same : Some x ≡ Some seat = sym at ∙ ap (λ (z : Contents). slice_get z.seats n) is ∙ e in
    let eq : x ≡ seat = cc in (
      eq,
      sym (get_or_from_slice_get g.objects x.object o no_object there) ∙ ap (λ (z : Contents). object_in z.objects x) is
          ∙ ap (object_in h.objects) eq,
    )

-- prims keep their keys where one has another name
key-kept : (prims : List Primitive) (place : ℕ) (name : List ℕ) (k : ℕ) (d : Primitive)
    → (get_or (with_name prims place name) k d).key ≡ (get_or prims k d).key
key-kept [] place name k d = refl
key-kept (p ∷ prims) zero name zero d = refl
key-kept (p ∷ prims) zero name (suc k) d = refl
key-kept (p ∷ prims) (suc place) name zero d = refl
key-kept (p ∷ prims) (suc place) name (suc k) d = key-kept prims place name k d

pub formed-named : (o t : Linkset) (place : ℕ) (name : List ℕ) → t.prims ≡ with_name o.prims place name
    → t.store ≡ o.store → IsFormed o → IsFormed t
formed-named o t place name e same f =
    let count : length t.prims ≡ length o.prims
    = ap (λ (ps : List Primitive). length ps) e ∙ length-set o.prims place _ in
    record {
      rooted = omega (arith, f.rooted, count);
      few = omega (arith, f.few, count);
      keyed = subst (λ (ps : List Primitive). All HasKey ps) (sym e) (λ k d within.
          subst (λ (key : List ℕ). is_valid_key key ≡ true) (sym (key-kept o.prims place name k d))
          (f.keyed k d (omega (
            arith,
            within,
            length-set o.prims place
                (record (prim_at o.prims place) { name = name }),
          ))));
      stored = subst IsStore (sym same) f.stored;
    }

pub formed-stored : (o t : Linkset) → t.prims ≡ o.prims → IsStore t.store → IsFormed o → IsFormed t
formed-stored o t same store f = record {
  rooted = subst (λ (ps : List Primitive). 0 < length ps) (sym same) f.rooted;
  few = subst (λ (ps : List Primitive). length ps ≤ 255) (sym same) f.few;
  keyed = subst (λ (ps : List Primitive). All HasKey ps) (sym same) f.keyed;
  stored = store;
}

-- an object may be another one with as many prims
module _ (objects : List Linkset) (seats : List Seat) (n : ℕ) (o t : Linkset) (at : slice_get objects n ≡ Some o)
    (count : length t.prims ≡ length o.prims) (forms : IsFormed o → IsFormed t) (p : ArePlaced objects seats) where
  prims-set : (k : ℕ) (u : Linkset) → ((eqb k n ≡ true) × (k ≡ n)) ⊎ ((eqb k n ≡ false) × (k ≢ n))
      → slice_get (slice_set objects n t) k ≡ Some u → IsFormed u
  prims-set k u (inl e) h =
      let here : slice_get (slice_set objects n t) n ≡ Some t
      = slice_get-set_same objects n t (slice_get_within objects n o at) in
      let same : Some t ≡ Some u = sym here ∙ ap (slice_get (slice_set objects n t)) (sym e.1) ∙ h in
      let is : t ≡ u = cc in
      subst IsFormed is (forms (p.formed n o at))
  prims-set k u (inr e) h = p.formed k u (sym (slice_get-set_other objects n k t e.1) ∙ h)

  placed-of : (s : Seat) → IsPlaced objects s
      → ((eqb s.object n ≡ true) × (s.object ≡ n)) ⊎ ((eqb s.object n ≡ false) × (s.object ≢ n))
      → IsPlaced (slice_set objects n t) s
  placed-of s q (inl e) =
      let same : Some q.object ≡ Some o = sym q.there ∙ ap (slice_get objects) e.1 ∙ at in
      let is : q.object ≡ o = cc in
      record {
        object = t;
        there = ap (slice_get (slice_set objects n t)) e.1
            ∙ slice_get-set_same objects n t (slice_get_within objects n o at);
        prim = subst (λ (z : ℕ). s.prim < z) (ap (λ (z : Linkset). length z.prims) is ∙ sym count) q.prim;
      }
  placed-of s q (inr e) =
      record {
        object = q.object;
        there = slice_get-set_other objects n s.object t e.1 ∙ q.there;
        prim = q.prim;
      }

  pub placed-named : ArePlaced (slice_set objects n t) seats
  placed-named = record {
    few_objects = omega (arith, p.few_objects, length-set objects n t);
    formed = λ k u h. prims-set k u (eqb_tells k n) h;
    few_seats = p.few_seats;
    placed = λ k s h. placed-of s (p.placed k s h) (eqb_tells s.object n);
  }

-- an object with a prim's new name
pub named-is : (g h : Contents) (n : ℕ) (x seat : Seat) (o : Linkset) (prims : List Primitive) (name : List ℕ) → g ≡ h
    → slice_get g.seats n ≡ Some x → slice_get h.seats n ≡ Some seat → slice_get g.objects x.object ≡ Some o
    → prims ≡ with_name o.prims x.prim name
    → record { objects = slice_set g.objects x.object (record o { prims = prims }); seats = g.seats; cards = g.cards }
    ≡ renamed_grid h seat name
named-is g h n x seat o prims name is at e there p =
    let k = object-is g h n x seat o is at e there in
    ap {A = List Primitive} {B = Contents} (λ ps. record {
      objects = slice_set g.objects x.object (record o { prims = ps });
      seats = g.seats;
      cards = g.cards;
    }) p
    ∙ (λ i. record {
      objects = slice_set (is i).objects (k.0 i).object
          (record (k.1 i) { prims = with_name (k.1 i).prims (k.0 i).prim name });
      seats = (is i).seats;
      cards = (is i).cards;
    })

-- an object with another store
pub stored-is : (g h : Contents) (n : ℕ) (x seat : Seat) (o : Linkset) (change : List Pair → List Pair)
    (pairs : List Pair) → g ≡ h → slice_get g.seats n ≡ Some x → slice_get h.seats n ≡ Some seat
    → slice_get g.objects x.object ≡ Some o → pairs ≡ change o.store
    → record { objects = slice_set g.objects x.object (record o { store = pairs }); seats = g.seats; cards = g.cards }
    ≡ stored_grid h seat (change (object_in h.objects seat).store)
stored-is g h n x seat o change pairs is at e there p =
    let k = object-is g h n x seat o is at e there in
    ap {A = List Pair} {B = Contents} (λ ps. record {
      objects = slice_set g.objects x.object (record o { store = ps });
      seats = g.seats;
      cards = g.cards;
    }) p
    ∙ (λ i. record {
      objects = slice_set (is i).objects (k.0 i).object (record (k.1 i) { store = change (k.1 i).store });
      seats = (is i).seats;
      cards = (is i).cards;
    })
