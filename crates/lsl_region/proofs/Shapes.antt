-- What is read of an object's image has the shape that was known before, and an object of a grid can be written.
use Rattle.std.proofs.Common.{◌≡◌, ◌∙◌, refl, sym, ap, arith, ℕ, ◌≤◌, ◌<◌, suc, true, List, [], ◌∷◌, ◌++◌, length, get_or, append-nil, append_assoc}
use Rattle.std.specs.Prelude.{Bool, false, nat_eq, if◌then◌else◌, Option, Some, None, slice_get, map}
use Rattle.std.specs.List.{AllByRecursion, cons_option, filter_map}
use Rattle.std.specs.Option.{option_map}
use Rattle.std.proofs.lemmas.List.{map-append, length-map}
use Rattle.lsl_value.specs.Key.{is_valid_key}
use Rattle.lsl_code.specs.declared.woven_units.Woven.{Woven as Code}
use Rattle.lsl_post.specs.declared.parts.ScriptParts.{ScriptParts}
use Rattle.lsl_image.specs.declared.parts.ObjectParts.{ObjectParts}
use Rattle.lsl_image.specs.declared.parts.Shape.{Shape}
use Rattle.lsl_image.specs.Images.{ObjectImage, covered, digested}
use Rattle.lsl_image.specs.Layout.{TextForm, each_behind, field}
use Rattle.lsl_image.specs.Object.{body, object, script_of}
use Rattle.lsl_image.specs.Rest.{script}
use Rattle.lsl_image.specs.Valid.{HasUnit, IsObject, shape_of, unit_number}
use Rattle.lsl_image.proofs.GivenLemmas.{Given, ended, grown-long, split}
use Rattle.lsl_image.proofs.ValidPartLemmas.{object-valid}
use Rattle.lsl_script.specs.Fitting.{FitsUnit}
use Rattle.lsl_region.specs.declared.grid.Seat.{Seat}
use Rattle.lsl_region.specs.declared.objects.Linkset.{Linkset}
use Rattle.lsl_region.specs.Crossings.{Brings, CanArrive}
use Rattle.lsl_region.specs.Grids.{ArePlaced, AreSeated, Contents, FitsSeat, IsFormed, IsSeated}
use Rattle.lsl_region.specs.ObjectParts.{name_of, object_in_grid, parts_in_seat, parts_of_object, with_unit}
use Rattle.lsl_region.specs.Worlds.{no_object, no_prim, prim_at}
use Rattle.std.proofs.lemmas.Option.{slice_get-get_or}

module _ (bytes : List ℕ) where
  script-unit : (unit : Code) (version number p : ℕ) (s : ScriptParts) (q : ℕ)
      → Given bytes (script version number unit) p s q → s.unit ≡ number
  unfolding script
  script-unit unit version number p s q g =
      let coded = split g in
      let stated = split coded.rest in
      let left = split stated.rest in
      let kept = split left.rest in
      let waiting = split kept.rest in
      let heard = split waiting.rest in
      let ticking = split heard.rest in
      let awake = split ticking.rest in
      let most = split awake.rest in
      let resting = split most.rest in
      ap (λ (x : ScriptParts). x.unit) (ended resting.rest)

  unit-is : (version number : ℕ) (found : Option Code) (p : ℕ) (s : ScriptParts) (q : ℕ)
      → Given bytes (script_of version number found) p s q → s.unit ≡ number
  unit-is version number None p s q g = absurd (split g).rest.gives
  unit-is version number (Some unit) p s q g = script-unit unit version number p s q g

  units-are : (library : List Code) (version : ℕ) (units : List ℕ) (before : List ScriptParts) (p : ℕ)
      (list : List ScriptParts) (q : ℕ)
      → Given bytes (each_behind (λ number. script_of version number (slice_get library number)) units before) p list q
      → map unit_number list ≡ map unit_number before ++ units
  unfolding each_behind
  units-are library version [] before p list q g =
      ap (map unit_number) (ended g) ∙ sym (append-nil (map unit_number before))
  units-are library version (n ∷ units) before p list q g =
      let s = split g in
      units-are library version units (before ++ s.value ∷ []) s.middle list q s.rest
      ∙ ap (λ (z : List ℕ). z ++ units) (map-append unit_number before (s.value ∷ []))
      ∙ append_assoc (map unit_number before) (s.value.unit ∷ []) units
      ∙ ap (λ (k : ℕ). map unit_number before ++ k ∷ units)
      (unit-is version n (slice_get library n) p s.value s.middle s.first)

  pub body-shape : (version : ℕ) (shape : Shape) (library : List Code) (p : ℕ) (o : ObjectParts) (q : ℕ)
      → Given bytes (body version shape library) p o q → shape_of o ≡ shape
  unfolding body
  body-shape version shape library p o q g =
      let keyed = split g in
      let counted = split keyed.rest in
      let named = split counted.rest in
      let numbered = split named.rest in
      let scripted = split numbered.rest in
      let stored = split scripted.rest in
      let made : ObjectParts = record {
        key = shape.key;
        names = named.value;
        scripts = scripted.value;
        store = stored.value;
      } in
      let is : o ≡ made = ended stored.rest in
      let long = grown-long (λ before. field TextForm) shape.prims [] counted.middle named.value named.middle
      named.first in
      let prims : length named.value ≡ shape.prims = omega (arith, long) in
      let units : map unit_number scripted.value ≡ shape.units
      = units-are library version shape.units [] numbered.middle scripted.value scripted.middle scripted.first in
      ap shape_of is
      ∙ ap {A = ℕ} {B = Shape} (λ n. record {
        key = shape.key;
        prims = n;
        units = map unit_number scripted.value;
      }) prims
      ∙ ap {A = List ℕ} {B = Shape} (λ numbers. record { key = shape.key; prims = shape.prims; units = numbers }) units

  object-shape : (region : List ℕ) (shape : Shape) (library : List Code) (end p : ℕ) (o : ObjectParts) (q : ℕ)
      → Given bytes (object region shape library end) p o q → shape_of o ≡ shape
  unfolding object
  object-shape region shape library end p o q g =
      let headed = split g in
      let sent = split headed.rest in
      let read = split sent.rest in
      let last = split read.rest in
      ap shape_of (ended last.rest)
      ∙ body-shape headed.value shape library sent.middle read.value read.middle read.first

-- an image of the object, wherever its sender was, can take its place
pub can-come : (codes : List Code) (grid : Contents) (place : ℕ) (region : List ℕ) (parts : ObjectParts)
    (back : List ℕ) → is_valid_key (parts_of_object grid place).key ≡ true
    → ObjectImage region (shape_of (parts_of_object grid place)) codes parts back → CanArrive codes grid place parts
can-come codes grid place region parts back key image =
    let shape = shape_of (parts_of_object grid place) in
    record {
      valid = object-valid (covered back) region shape codes (digested back) key 0 parts (digested back)
          (record { gives = image.1 });
      shape = object-shape (covered back) region shape codes (digested back) 0 parts (digested back)
          (record { gives = image.1 });
    }

-- what came back can take the place of the object
pub can-arrive : (codes : List Code) (grid : Contents) (place : ℕ) (parts : ObjectParts) (back : List ℕ)
    → is_valid_key (parts_of_object grid place).key ≡ true → Brings codes grid place parts back
    → CanArrive codes grid place parts
can-arrive codes grid place parts back key image =
    can-come codes grid place (object_in_grid grid place).region parts back key image

unit-kept : (codes : List Code) (number : ℕ) (unit : Code) (parts : ScriptParts) → slice_get codes number ≡ Some unit
    → FitsUnit unit parts → HasUnit codes (with_unit number parts)
unit-kept codes number unit parts named fits = record {
  unit = unit;
  named = named;
  script = record {
    states = fits.states;
    globals = fits.globals;
    least = fits.least;
    limit = fits.limit;
    rest = fits.rest;
  };
}

-- the parts of a script in a seat are valid for its unit
valid-seat : (codes : List Code) (place : ℕ) (seat : Seat) (others : List ScriptParts) (own : Bool)
    → IsSeated codes seat → AllByRecursion (HasUnit codes) others
    → AllByRecursion (HasUnit codes)
    (cons_option (if own then option_map (with_unit seat.unit) seat.script else None) others)
valid-seat codes place seat others false s all = all
valid-seat codes place seat others true s all = go seat.script s.fits
  where
    go : (o : Option ScriptParts) → FitsSeat s.unit o
        → AllByRecursion (HasUnit codes) (cons_option (option_map (with_unit seat.unit) o) others)
    go None fits = all
    go (Some parts) fits = (unit-kept codes seat.unit s.unit parts s.has fits, all)

scripts-valid : (codes : List Code) (place : ℕ) (seats : List Seat) → AreSeated codes seats
    → AllByRecursion (HasUnit codes) (filter_map (parts_in_seat place) seats)
scripts-valid codes place [] s = tt
scripts-valid codes place (seat ∷ seats) s =
    valid-seat codes place seat (filter_map (parts_in_seat place) seats) (nat_eq seat.object place) (s 0 seat refl)
    (scripts-valid codes place seats (λ n t h. s (suc n) t h))

cons-long : {X : Type 0} (o : Option X) (xs : List X) (n : ℕ) → length xs ≤ n → length (cons_option o xs) ≤ suc n
cons-long None xs n h = omega arith
cons-long (Some x) xs n h = omega arith

pub scripts-few : (place : ℕ) (seats : List Seat)
    → length (filter_map (parts_in_seat place) seats) ≤ length seats
scripts-few place [] = omega arith
scripts-few place (seat ∷ seats) =
    cons-long (parts_in_seat place seat) (filter_map (parts_in_seat place) seats) (length seats)
    (scripts-few place seats)

-- the object at a place, where there is one
pub formed-at : (objects : List Linkset) (seats : List Seat) (place : ℕ) → ArePlaced objects seats
    → place < length objects → IsFormed (get_or objects place no_object)
formed-at objects seats place p h =
    p.formed place (get_or objects place no_object) (slice_get-get_or objects place no_object h)

pub key-valid : (o : Linkset) → IsFormed o → is_valid_key (prim_at o.prims 0).key ≡ true
key-valid o f = f.keyed 0 no_prim f.rooted

pub object-written : (codes : List Code) (grid : Contents) (place : ℕ) → ArePlaced grid.objects grid.seats
    → place < length grid.objects → AreSeated codes grid.seats → IsObject codes (parts_of_object grid place)
object-written codes grid place p h s =
    let o = get_or grid.objects place no_object in
    let f = formed-at grid.objects grid.seats place p h in
    record {
      key = key-valid o f;
      prims = omega (arith, f.few, length-map o.prims name_of);
      count = omega (arith, scripts-few place grid.seats, p.few_seats);
      scripts = scripts-valid codes place grid.seats s;
      store = f.stored;
    }
