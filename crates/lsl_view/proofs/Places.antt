-- The scripts of a file are in order of their objects, under the names that the file gives them; so do those of a world
-- that agrees with it.
use Rattle.std.proofs.Common.{◌≡◌, ◌∙◌, refl, sym, ap, subst, arith, ℕ, ◌+◌, ◌<◌, ◌≤◌, suc, true, List, [], ◌∷◌, ◌++◌, length}
use Rattle.std.specs.Prelude.{map}
use Rattle.std.specs.List.{flat_map}
use Rattle.std.proofs.lemmas.List.{length-map, map-append}
use Rattle.std.proofs.lemmas.List.Concat.{flat_map-cons}
use Rattle.lsl_lines.specs.declared.file.ObjectLine.{ObjectLine}
use Rattle.lsl_lines.specs.declared.file.PrimLine.{PrimLine}
use Rattle.lsl_lines.specs.declared.file.ScriptLine.{ScriptLine}
use Rattle.lsl_lines.specs.declared.file.WorldFile.{WorldFile}
use Rattle.lsl_notes.specs.declared.cards.Notecard.{Notecard}
use Rattle.lsl_script.specs.Rules.{Rules}
use Rattle.lsl_region.specs.declared.grid.Seat.{Seat}
use Rattle.lsl_region.specs.GridParts.{fixed_in, lasting}
use Rattle.lsl_region.specs.Grids.{Contents, seat_of}
use Rattle.lsl_region.specs.Worlds.{Member, World}
use Rattle.lsl_world.specs.Starts.{members_of_objects, members_of_prim, members_of_prims, object_of_line, start}
use Rattle.lsl_view.specs.Names.{names_in_object, names_in_prim, script_names}
use Rattle.lsl_view.proofs.Order.{Among, object_of}

abbrev pub name_of : Member → List ℕ
name_of m = m.name

abbrev AreAll : ℕ → List ℕ → Type 0
AreAll n [] = Unit {0}
AreAll n (object ∷ objects) = (object ≡ n) × AreAll n objects

all-both : (n : ℕ) (xs ys : List ℕ) → AreAll n xs → AreAll n ys → AreAll n (xs ++ ys)
all-both n [] ys a b = b
all-both n (x ∷ xs) ys a b = (a.0, all-both n xs ys a.1 b)

lower : (low lowest high : ℕ) (xs : List ℕ) → lowest ≤ low → Among low high xs → Among lowest high xs
lower low lowest high [] le among = tt
lower low lowest high (x ∷ xs) le among = (omega (arith, le, among.0), among.1, among.2)

behind : (n high : ℕ) (xs ys : List ℕ) → n < high → AreAll n xs → Among (suc n) high ys → Among n high (xs ++ ys)
behind n high [] ys lt all among = lower (suc n) n high ys (omega arith) among
behind n high (x ∷ xs) ys lt all among = (
  omega (arith, all.0),
  omega (arith, all.0, lt),
  subst (λ (k : ℕ). Among k high (xs ++ ys)) (sym all.0) (behind n high xs ys lt all.1 among),
)

module _ (r : Rules) where
  prim-all : (n prim : ℕ) (lines : List ScriptLine) → AreAll n (map object_of (members_of_prim r n prim lines))
  prim-all n prim [] = tt
  prim-all n prim (x ∷ xs) = (refl, prim-all n prim xs)

  prims-all : (n prim : ℕ) (lines : List PrimLine) → AreAll n (map object_of (members_of_prims r n prim lines))
  prims-all n prim [] = tt
  prims-all n prim (x ∷ xs) =
      subst (AreAll n)
      (sym (map-append object_of (members_of_prim r n prim x.scripts) (members_of_prims r n (suc prim) xs)))
      (all-both n (map object_of (members_of_prim r n prim x.scripts))
      (map object_of (members_of_prims r n (suc prim) xs)) (prim-all n prim x.scripts) (prims-all n (suc prim) xs))

  start-among : (n high : ℕ) (lines : List ObjectLine) → high ≡ n + length lines
      → Among n high (map object_of (members_of_objects r n lines))
  start-among n high [] e = tt
  start-among n high (x ∷ xs) e =
      subst (Among n high)
      (sym (map-append object_of (members_of_prims r n 0 x.prims) (members_of_objects r (suc n) xs)))
      (behind n high (map object_of (members_of_prims r n 0 x.prims))
      (map object_of (members_of_objects r (suc n) xs)) (omega (arith, e)) (prims-all n 0 x.prims)
      (start-among (suc n) high xs (omega (arith, e))))

  prim-names : (n prim : ℕ) (lines : List ScriptLine)
      → map name_of (members_of_prim r n prim lines) ≡ map (λ (s : ScriptLine). s.name) lines
  prim-names n prim [] = refl
  prim-names n prim (x ∷ xs) = ap (λ (ns : List (List ℕ)). x.name ∷ ns) (prim-names n prim xs)

  prims-names : (n prim : ℕ) (lines : List PrimLine)
      → map name_of (members_of_prims r n prim lines) ≡ flat_map names_in_prim lines
  prims-names n prim [] = refl
  prims-names n prim (x ∷ xs) =
      map-append name_of (members_of_prim r n prim x.scripts) (members_of_prims r n (suc prim) xs)
      ∙ ap (λ (ns : List (List ℕ)). ns ++ map name_of (members_of_prims r n (suc prim) xs))
      (prim-names n prim x.scripts)
      ∙ ap (λ (ns : List (List ℕ)). names_in_prim x ++ ns) (prims-names n (suc prim) xs)
      ∙ sym (flat_map-cons names_in_prim x xs)

  start-names : (n : ℕ) (lines : List ObjectLine)
      → map name_of (members_of_objects r n lines) ≡ flat_map names_in_object lines
  start-names n [] = refl
  start-names n (x ∷ xs) =
      map-append name_of (members_of_prims r n 0 x.prims) (members_of_objects r (suc n) xs)
      ∙ ap (λ (ns : List (List ℕ)). ns ++ map name_of (members_of_objects r (suc n) xs)) (prims-names n 0 x.prims)
      ∙ ap (λ (ns : List (List ℕ)). names_in_object x ++ ns) (start-names (suc n) xs)
      ∙ sym (flat_map-cons names_in_object x xs)

-- what seats say of members
objects-told : (ms : List Member) → map (λ (s : Seat). s.object) (map (seat_of [] true) ms) ≡ map object_of ms
objects-told [] = refl
objects-told (m ∷ ms) = ap (λ (ns : List ℕ). m.object ∷ ns) (objects-told ms)

names-told : (ms : List Member) → map (λ (s : Seat). s.name) (map (seat_of [] true) ms) ≡ map name_of ms
names-told [] = refl
names-told (m ∷ ms) = ap (λ (ns : List (List ℕ)). m.name ∷ ns) (names-told ms)

module _ (r : Rules) (file : WorldFile) (cards : List Notecard) (w : World)
    (fixed : fixed_in w ≡ fixed_in (start r file cards)) where
  pub agreeing-among : Among 0 (length w.objects) (map object_of w.members)
  agreeing-among =
      let first = start r file cards in
      let objects : map object_of w.members ≡ map object_of first.members =
      sym (objects-told w.members)
      ∙ ap (λ (g : Contents). map (λ (s : Seat). s.object) g.seats) fixed ∙ objects-told first.members in
      let count : length w.objects ≡ length file.objects =
      sym (length-map w.objects lasting) ∙ ap (λ (g : Contents). length g.objects) fixed
      ∙ length-map first.objects lasting ∙ length-map file.objects object_of_line in
      subst (λ (os : List ℕ). Among 0 (length w.objects) os) (sym objects)
      (start-among r 0 (length w.objects) file.objects (omega (arith, count)))

  pub agreeing-names : script_names file ≡ map name_of w.members
  agreeing-names =
      let first = start r file cards in
      sym (start-names r 0 file.objects) ∙ sym (names-told first.members)
      ∙ ap (λ (g : Contents). map (λ (s : Seat). s.name) g.seats) (sym fixed) ∙ names-told w.members
