-- What is read of a world's image is valid, and has the shapes that were known before.
use Rattle.std.proofs.Common.{◌≡◌, ◌∙◌, sym, ap, ℕ, true, List, [], ◌∷◌, ◌++◌, append-nil, append_assoc}
use Rattle.std.specs.Prelude.{map}
use Rattle.std.specs.List.{AllByRecursion}
use Rattle.std.proofs.lemmas.List.{map-append}
use Rattle.lsl_value.specs.Key.{is_valid_key}
use Rattle.lsl_code.specs.declared.woven_units.Woven.{Woven as Code}
use Rattle.lsl_image.specs.declared.parts.Placed.{Placed}
use Rattle.lsl_image.specs.declared.parts.Shape.{Shape}
use Rattle.lsl_image.specs.declared.parts.WorldParts.{WorldParts}
use Rattle.lsl_image.specs.Images.{WorldImage, covered, digested}
use Rattle.lsl_image.specs.Layout.{each_behind}
use Rattle.lsl_image.specs.Valid.{IsWorld, placed_shape, shapes_of}
use Rattle.lsl_image.specs.World.{placed, world}
use Rattle.lsl_image.proofs.GivenLemmas.{Given, ended, split}
use Rattle.lsl_image.proofs.ValidPartLemmas.{world-valid}
use Rattle.lsl_region.proofs.Shapes.{body-shape}

module _ (bytes : List ℕ) where
  one-shape : (version : ℕ) (library : List Code) (shape : Shape) (p : ℕ) (o : Placed) (q : ℕ)
      → Given bytes (placed version library shape) p o q → placed_shape o ≡ shape
  unfolding placed
  one-shape version library shape p o q g =
      let named = split g in
      let read = split named.rest in
      ap placed_shape (ended read.rest)
      ∙ body-shape bytes version shape library named.middle read.value read.middle read.first

  each-shape : (version : ℕ) (library : List Code) (shapes : List Shape) (before : List Placed) (p : ℕ)
      (list : List Placed) (q : ℕ)
      → Given bytes (each_behind (placed version library) shapes before) p list q
      → map placed_shape list ≡ map placed_shape before ++ shapes
  unfolding each_behind
  each-shape version library [] before p list q g =
      ap (map placed_shape) (ended g) ∙ sym (append-nil (map placed_shape before))
  each-shape version library (shape ∷ shapes) before p list q g =
      let s = split g in
      each-shape version library shapes (before ++ s.value ∷ []) s.middle list q s.rest
      ∙ ap (λ (z : List Shape). z ++ shapes) (map-append placed_shape before (s.value ∷ []))
      ∙ append_assoc (map placed_shape before) (placed_shape s.value ∷ []) shapes
      ∙ ap (λ (k : Shape). map placed_shape before ++ k ∷ shapes)
      (one-shape version library shape p s.value s.middle s.first)

  world-shape : (shapes : List Shape) (library : List Code) (end p : ℕ) (w : WorldParts) (q : ℕ)
      → Given bytes (world shapes library end) p w q → shapes_of w ≡ shapes
  unfolding world
  world-shape shapes library end p w q g =
      let headed = split g in
      let timed = split headed.rest in
      let counted = split timed.rest in
      let read = split counted.rest in
      let last = split read.rest in
      ap shapes_of (ended last.rest)
      ∙ each-shape headed.value library shapes [] counted.middle read.value read.middle read.first

pub image-shapes : (shapes : List Shape) (codes : List Code) (parts : WorldParts) (bytes : List ℕ)
    → WorldImage shapes codes parts bytes → shapes_of parts ≡ shapes
image-shapes shapes codes parts bytes image =
    world-shape (covered bytes) shapes codes (digested bytes) 0 parts (digested bytes) (record { gives = image.1 })

pub image-valid : (shapes : List Shape) (codes : List Code) (parts : WorldParts) (bytes : List ℕ)
    → AllByRecursion (λ (s : Shape). is_valid_key s.key ≡ true) shapes → WorldImage shapes codes parts bytes
    → IsWorld codes parts
image-valid shapes codes parts bytes keys image =
    world-valid (covered bytes) shapes codes (digested bytes) keys 0 parts (digested bytes)
    (record { gives = image.1 })
