-- What a file says of its objects is what the grid of the file has of them.
use Rattle.std.proofs.Common.{◌≡◌, ◌∙◌, refl, sym, ap, arith, ℕ, ◌+◌, ◌<◌, suc, zero, Bool, true, false, List, [], ◌∷◌, ◌++◌, length, get_or, append-nil}
use Rattle.std.specs.Prelude.{nat_eq, if◌then◌else◌, All, Option, Some, None, map}
use Rattle.std.specs.List.{AllByRecursion, cons_option, filter_map, flat_map, range_with_len}
use Rattle.std.proofs.lemmas.Bool.{eq-eqb}
use Rattle.std.proofs.lemmas.List.{get_or-map, length-map, map-append}
use Rattle.std.proofs.lemmas.List.Elements.{filter_map-append}
use Rattle.std.proofs.lemmas.List.FromFn.{fill_by_all}
use Rattle.lsl_value.specs.Key.{is_valid_key}
use Rattle.lsl_code.specs.declared.woven_units.Woven.{Woven as Code}
use Rattle.lsl_post.specs.declared.parts.ScriptParts.{ScriptParts}
use Rattle.lsl_image.specs.declared.parts.Shape.{Shape}
use Rattle.lsl_image.specs.Valid.{placed_shape, unit_number}
use Rattle.lsl_lines.specs.declared.file.ObjectLine.{ObjectLine}
use Rattle.lsl_lines.specs.declared.file.PrimLine.{PrimLine}
use Rattle.lsl_lines.specs.declared.file.ScriptLine.{ScriptLine}
use Rattle.lsl_lines.specs.declared.file.WorldFile.{WorldFile}
use Rattle.lsl_script.specs.Codes.{rules_of}
use Rattle.lsl_script.specs.Parts.{parts_of}
use Rattle.lsl_script.specs.Scripts.{new_script}
use Rattle.lsl_region.specs.declared.grid.Seat.{Seat}
use Rattle.lsl_region.specs.declared.objects.Linkset.{Linkset}
use Rattle.lsl_region.specs.GridParts.{placed_at, placed_in}
use Rattle.lsl_region.specs.Grids.{Contents}
use Rattle.lsl_region.specs.ObjectParts.{name_of, parts_among, parts_in_seat, with_unit}
use Rattle.lsl_region.specs.Worlds.{no_object, prim_at}
use Rattle.lsl_region.proofs.Shapes.{key-valid}
use Rattle.lsl_world.specs.Frozen.{files_of_prim, shape_of_line, shapes_of_file}
use Rattle.lsl_world.specs.Ranges.{IsObjectOf}
use Rattle.lsl_world.specs.Seats.{seats_of_objects, seats_of_prim, seats_of_prims}
use Rattle.lsl_world.specs.Starts.{object_of_line, prim_of_line}
use Rattle.lsl_world.proofs.Filling.{object-formed, objects-more, prims-more}

abbrev units_at : ℕ → List Seat → List ℕ
units_at k seats = map unit_number (filter_map (parts_in_seat k) seats)

units-append : (k : ℕ) (xs ys : List Seat) → units_at k (xs ++ ys) ≡ units_at k xs ++ units_at k ys
units-append k xs ys =
    ap (map unit_number) (filter_map-append (parts_in_seat k) xs ys)
    ∙ map-append unit_number (filter_map (parts_in_seat k) xs) (filter_map (parts_in_seat k) ys)

-- the script of a line, if it is one of the object
abbrev given : List Code → ScriptLine → Bool → Option ScriptParts
given codes x own = if own then Some (with_unit x.file (parts_of codes (new_script (rules_of codes) x.file))) else None

module _ (codes : List Code) where
  own-prim : (object prim : ℕ) (lines : List ScriptLine)
      → units_at object (seats_of_prim codes object prim lines) ≡ map (λ (s : ScriptLine). s.file) lines
  own-prim object prim [] = refl
  own-prim object prim (x ∷ xs) =
      ap (λ (b : Bool). map unit_number
      (cons_option (given codes x b) (filter_map (parts_in_seat object) (seats_of_prim codes object prim xs))))
      (eq-eqb object object refl)
      ∙ ap (λ (z : List ℕ). x.file ∷ z) (own-prim object prim xs)

  other-prim : (object prim k : ℕ) (lines : List ScriptLine) → nat_eq object k ≡ false
      → units_at k (seats_of_prim codes object prim lines) ≡ []
  other-prim object prim k [] e = refl
  other-prim object prim k (x ∷ xs) e =
      ap (λ (b : Bool). map unit_number
      (cons_option (given codes x b) (filter_map (parts_in_seat k) (seats_of_prim codes object prim xs)))) e
      ∙ other-prim object prim k xs e

  own-prims : (object prim : ℕ) (lines : List PrimLine)
      → units_at object (seats_of_prims codes object prim lines) ≡ flat_map files_of_prim lines
  own-prims object prim [] = refl
  own-prims object prim (x ∷ xs) =
      ap (units_at object) (prims-more codes object prim x xs)
      ∙ units-append object (seats_of_prim codes object prim x.scripts) (seats_of_prims codes object (suc prim) xs)
      ∙ ap (λ (z : List ℕ). z ++ units_at object (seats_of_prims codes object (suc prim) xs))
      (own-prim object prim x.scripts)
      ∙ ap (λ (z : List ℕ). files_of_prim x ++ z) (own-prims object (suc prim) xs)

  other-prims : (object prim k : ℕ) (lines : List PrimLine) → nat_eq object k ≡ false
      → units_at k (seats_of_prims codes object prim lines) ≡ []
  other-prims object prim k [] e = refl
  other-prims object prim k (x ∷ xs) e =
      ap (units_at k) (prims-more codes object prim x xs)
      ∙ units-append k (seats_of_prim codes object prim x.scripts) (seats_of_prims codes object (suc prim) xs)
      ∙ ap (λ (z : List ℕ). z ++ units_at k (seats_of_prims codes object (suc prim) xs))
      (other-prim object prim k x.scripts e)
      ∙ other-prims object (suc prim) k xs e

  differ : (a b : ℕ) → a < b → nat_eq b a ≡ false
  differ a b lt = grind arith

  differ-above : (a b : ℕ) → a < b → nat_eq a b ≡ false
  differ-above a b lt = grind arith

  none-behind : (n k : ℕ) (lines : List ObjectLine) → k < n → units_at k (seats_of_objects codes n lines) ≡ []
  none-behind n k [] lt = refl
  none-behind n k (x ∷ xs) lt =
      ap (units_at k) (objects-more codes n x xs)
      ∙ units-append k (seats_of_prims codes n 0 x.prims) (seats_of_objects codes (suc n) xs)
      ∙ ap (λ (z : List ℕ). z ++ units_at k (seats_of_objects codes (suc n) xs))
      (other-prims n 0 k x.prims (differ k n lt))
      ∙ none-behind (suc n) k xs (omega (arith, lt))

  units-there : (n j k : ℕ) (lines : List ObjectLine) (d : ObjectLine) → j < length lines → k ≡ n + j
      → units_at k (seats_of_objects codes n lines) ≡ flat_map files_of_prim (get_or lines j d).prims
  units-there n j k [] d lt e = absurd (omega (arith, lt))
  units-there n zero k (x ∷ xs) d lt e =
      let same : k ≡ n = omega (arith, e) in
      ap (units_at k) (objects-more codes n x xs)
      ∙ units-append k (seats_of_prims codes n 0 x.prims) (seats_of_objects codes (suc n) xs)
      ∙ ap (λ (z : List ℕ). units_at k (seats_of_prims codes n 0 x.prims) ++ z)
      (none-behind (suc n) k xs (omega (arith, same)))
      ∙ append-nil (units_at k (seats_of_prims codes n 0 x.prims))
      ∙ ap (λ (z : ℕ). units_at z (seats_of_prims codes n 0 x.prims)) same
      ∙ own-prims n 0 x.prims
  units-there n (suc j) k (x ∷ xs) d lt e =
      ap (units_at k) (objects-more codes n x xs)
      ∙ units-append k (seats_of_prims codes n 0 x.prims) (seats_of_objects codes (suc n) xs)
      ∙ ap (λ (z : List ℕ). z ++ units_at k (seats_of_objects codes (suc n) xs))
      (other-prims n 0 k x.prims (differ-above n k (omega (arith, e))))
      ∙ units-there (suc n) j k xs d (omega (arith, lt)) (omega (arith, e))

abbrev no_line : ObjectLine
no_line = record { owner = []; region = []; prims = [] }

map-twice : {X Y Z : Type 0} (g : Y → Z) (f : X → Y) (xs : List X) → map g (map f xs) ≡ map (λ x. g (f x)) xs
map-twice g f [] = refl
map-twice {X} {Y} {Z} g f (x ∷ xs) = ap (λ (zs : List Z). g (f x) ∷ zs) (map-twice g f xs)

module _ (codes : List Code) (file : WorldFile) (grid : Contents)
    (objects : grid.objects ≡ map object_of_line file.objects)
    (seats : grid.seats ≡ seats_of_objects codes 0 file.objects) where
  abbrev seen : ℕ → Shape
  seen k = placed_shape (placed_at grid k)

  shape-there : (k : ℕ) → k < length file.objects → shape_of_line (get_or file.objects k no_line) ≡ seen k
  shape-there k lt =
      let line = get_or file.objects k no_line in
      let o : object_of_line line ≡ get_or grid.objects k no_object =
      sym (get_or-map object_of_line file.objects k no_line no_object lt)
      ∙ ap (λ (os : List Linkset). get_or os k no_object) (sym objects) in
      let prims : length line.prims ≡ length (map name_of (object_of_line line).prims) =
      sym (length-map line.prims prim_of_line) ∙ sym (length-map (map prim_of_line line.prims) name_of) in
      let units : flat_map files_of_prim line.prims ≡ units_at k grid.seats =
      sym (units-there codes 0 k k file.objects no_line lt (omega arith))
      ∙ ap (λ (ss : List Seat). units_at k ss) (sym seats) in
      let made : shape_of_line line ≡ placed_shape (record {
        region = (object_of_line line).region;
        object = parts_among (object_of_line line) grid.seats k;
      }) = λ i. record { key = (prim_at (map prim_of_line line.prims) 0).key; prims = prims i; units = units i } in
      made
      ∙ ap (λ (x : Linkset). placed_shape (record { region = x.region; object = parts_among x grid.seats k })) o

  pub file-shapes : map placed_shape (placed_in grid) ≡ shapes_of_file file
  file-shapes =
      let count : length grid.objects ≡ length file.objects =
      ap (λ (os : List Linkset). length os) objects ∙ length-map file.objects object_of_line in
      map-twice placed_shape (placed_at grid) (range_with_len 0 (length grid.objects))
      ∙ sym (fill_by_all seen (shapes_of_file file) (length grid.objects) (seen 0)
      (length-map file.objects shape_of_line ∙ sym count)
      (λ k lt. get_or-map shape_of_line file.objects k no_line (seen 0) (omega (arith, lt, count))
      ∙ shape-there k (omega (arith, lt, count))))

-- the shapes have keys
pub keys-known : (files : ℕ) (lines : List ObjectLine) → All (IsObjectOf files) lines
    → AllByRecursion (λ (s : Shape). is_valid_key s.key ≡ true) (map shape_of_line lines)
keys-known files [] all = tt
keys-known files (x ∷ xs) all = (
  key-valid (object_of_line x) (object-formed files x (all 0 x (omega arith))),
  keys-known files xs (λ k d lt. all (suc k) d (omega (arith, lt))),
)
