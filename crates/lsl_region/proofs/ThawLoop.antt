-- Objects get their parts, the last one first.
use Rattle.std.proofs.Common.{◌≡◌, ◌∙◌, refl, sym, ap, arith, ℕ, ◌+◌, ◌<◌, false, true, List, [], ◌∷◌, ◌++◌, length, get_or, drop, append-nil, append_assoc, length-append}
use Rattle.std.specs.Prelude.{map, slice_set}
use Rattle.std.specs.List.{AllByRecursion}
use Rattle.std.proofs.Math.ListN.{get_or-map}
use Rattle.std.proofs.lemmas.Bool.{false≢true}
use Rattle.std.proofs.lemmas.List.{drop-set, drop_all, length-map}
use Rattle.std.proofs.lemmas.List.FromFn.{get_or-map-range_with_len, length-map-range_with_len}
use Rattle.std.proofs.lemmas.Option.{slice_get-get_or}
use Rattle.lsl_image.specs.declared.parts.Placed.{Placed}
use Rattle.lsl_image.specs.declared.parts.Shape.{Shape}
use Rattle.lsl_image.specs.Valid.{placed_shape, shape_of}
use Rattle.lsl_region.specs.GridParts.{placed_at, placed_in}
use Rattle.lsl_region.specs.Grids.{Contents}
use Rattle.lsl_region.specs.ObjectParts.{parts_of_object}
use Rattle.lsl_region.proofs.Outlines.{map-set_same}

at-end : (xs : List Placed) (x : Placed) (ys : List Placed) (d : Placed) → get_or (xs ++ x ∷ ys) (length xs) d ≡ x
at-end [] x ys d = refl
at-end (z ∷ xs) x ys d = at-end xs x ys d

pub all-last : (P : Placed → Type 0) (xs : List Placed) (x : Placed) → AllByRecursion P (xs ++ x ∷ [])
    → AllByRecursion P xs × P x
all-last P [] x all = (tt, all.0)
all-last P (y ∷ xs) x all = let rest = all-last P xs x all.1 in ((all.0, rest.0), rest.1)

-- how many parts there are
pub placed-count : (grid : Contents) → length (placed_in grid) ≡ length grid.objects
placed-count grid = length-map-range_with_len (placed_at grid) 0 (length grid.objects)

pub shapes-count : (grid : Contents) (all : List Placed) → map placed_shape all ≡ map placed_shape (placed_in grid)
    → length all ≡ length grid.objects
shapes-count grid all e =
    sym (length-map all placed_shape) ∙ ap (λ (z : List Shape). length z) e ∙ length-map (placed_in grid) placed_shape
    ∙ placed-count grid

-- nothing is left to do
pub whole-first : (grid : Contents) (all : List Placed) → map placed_shape all ≡ map placed_shape (placed_in grid)
    → all ++ drop (length all) (placed_in grid) ≡ all
whole-first grid all e =
    ap (λ (z : List Placed). all ++ z)
    (drop_all (length all) (placed_in grid) (omega (arith, shapes-count grid all e, placed-count grid)))
    ∙ append-nil all

module _ (items others all : List Placed) (x : Placed) (grid : Contents) (popped : items ≡ others ++ x ∷ [])
    (whole : items ++ drop (length items) (placed_in grid) ≡ all)
    (shapes : map placed_shape (placed_in grid) ≡ map placed_shape all) where
  abbrev place : ℕ
  place = length others

  abbrev rest : List Placed
  rest = drop (length items) (placed_in grid)

  long : length items ≡ place + 1
  long = ap (λ (z : List Placed). length z) popped ∙ length-append others (x ∷ [])

  parted : all ≡ others ++ x ∷ rest
  parted =
      sym whole ∙ ap (λ (z : List Placed). z ++ rest) popped ∙ append_assoc others (x ∷ []) rest

  pub within : place < length grid.objects
  within =
      let count = shapes-count grid all (sym shapes) in
      omega (arith, count, ap (λ (z : List Placed). length z) parted, length-append others (x ∷ rest))

  in-list : place < length (placed_in grid)
  in-list = omega (arith, within, placed-count grid)

  same-shape : placed_shape x ≡ placed_shape (placed_at grid place)
  same-shape =
      ap placed_shape (sym (ap (λ (z : List Placed). get_or z place x) parted ∙ at-end others x rest x))
      ∙ sym (get_or-map placed_shape all place x)
      ∙ ap (λ (z : List Shape). get_or z place (placed_shape x)) (sym shapes)
      ∙ get_or-map placed_shape (placed_in grid) place x
      ∙ ap placed_shape
      (get_or-map-range_with_len (placed_at grid) 0 (length grid.objects) place place x within (omega arith))

  pub shape-here : shape_of x.object ≡ shape_of (parts_of_object grid place)
  shape-here = same-shape

  pub whole-next : others ++ drop place (slice_set (placed_in grid) place x) ≡ all
  whole-next =
      ap (λ (z : List Placed). others ++ z) (drop-set (placed_in grid) place x in-list)
      ∙ ap (λ (n : ℕ). others ++ x ∷ drop n (placed_in grid)) (sym long)
      ∙ sym parted

  pub shapes-next : map placed_shape (slice_set (placed_in grid) place x) ≡ map placed_shape all
  shapes-next =
      map-set_same placed_shape (placed_in grid) place (get_or (placed_in grid) place x) x
      (slice_get-get_or (placed_in grid) place x in-list)
      (same-shape ∙ ap placed_shape
      (sym (get_or-map-range_with_len (placed_at grid) 0 (length grid.objects) place place x within (omega arith))))
      ∙ shapes

-- no part is left
pub whole-last : (items ys all : List Placed) → (0 < length items → false ≡ true)
    → items ++ drop (length items) ys ≡ all → ys ≡ all
whole-last [] ys all h e = e
whole-last (x ∷ items) ys all h e = absurd (false≢true (h (omega arith)))
