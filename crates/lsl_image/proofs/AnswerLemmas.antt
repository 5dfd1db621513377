-- What a call returns that reads an image whole.
use Rattle.std.proofs.Common.{◌≡◌, ◌∙◌, refl, ap, subst, inl, inr, ◌⊎◌, arith, eqb-true, ℕ, ◌==◌, nat_le, List, length, Result, Err}
use Rattle.std.proofs.lemmas.List.{length-take}
use Rattle.std.proofs.lemmas.Result.{err_from_is_err_and}
use Rattle.std.specs.Prelude.{IfErr, IfOk, codes}
use Rattle.std.specs.Result.{IsErrAnd}
use Rattle.lsl_text.specs.declared.Refusal.{Refusal}
use Rattle.lsl_text.specs.declared.Refusal.TheVariants.{Fault, NoMemory}
use Rattle.lsl_code.specs.declared.woven_units.Woven.{Woven as Code}
use Rattle.lsl_image.specs.declared.faults.ImageFault.{ImageFault}
use Rattle.lsl_image.specs.declared.parts.ObjectParts.{ObjectParts}
use Rattle.lsl_image.specs.declared.parts.Placed.{Placed}
use Rattle.lsl_image.specs.declared.parts.Shape.{Shape}
use Rattle.lsl_image.specs.declared.parts.WorldParts.{WorldParts}
use Rattle.lsl_image.specs.Answers.{GivesThat, RefusesWith}
use Rattle.lsl_image.specs.Images.{IsFirstFault, IsImage, IsIntact, IsOuterFault, covered, digested}
use Rattle.lsl_image.specs.Layout.{Layout, Ends, U8, U64, ◌>>=◌, each, field_that, here}
use Rattle.lsl_image.specs.Object.{body, ends_at, head, object, sender}
use Rattle.lsl_image.specs.Reading.{Gives, IsRefusedBy, Reads}
use Rattle.lsl_image.specs.World.{most_clock, placed, world}
use Rattle.lsl_image.proofs.ImageLemmas.{first-one, image-no_fault}
use Rattle.lsl_image.proofs.KindedLemmas.{tested-gives}
use Rattle.lsl_image.proofs.ReadingLemmas.{gives-split}

-- the fields end at the digest
ends-told : (bytes : List ℕ) (end p v q : ℕ) → Gives bytes (ends_at end) p v q → q ≡ end
unfolding ends_at here ◌>>=◌
ends-told bytes end p v q g =
    let t = tested-gives bytes (p == end) p p v p q g in
    t.place ∙ eqb-true p end t.holds

last-told : {A : Type 0} (bytes : List ℕ) (end : ℕ) (a b : A) (p q : ℕ)
    → Gives bytes (ends_at end >>= λ last. Ends a) p b q → q ≡ end
last-told bytes end a b p q g =
    let s = gives-split bytes (ends_at end) (λ last. Ends a) p b q g in
    s.3.1 ∙ ends-told bytes end p s.0 s.1 s.2

pub object-ends : (bytes region : List ℕ) (shape : Shape) (library : List Code) (end p : ℕ) (a : ObjectParts) (q : ℕ)
    → Gives bytes (object region shape library end) p a q → q ≡ end
unfolding object
object-ends bytes region shape library end p a q g =
    let first = gives-split bytes (head (codes "LSLO")) (λ version. sender version region >>= λ from.
    body version shape library >>= λ parts. ends_at end >>= λ last. Ends parts) p a q g in
    let second = gives-split bytes (sender first.0 region) (λ from.
    body first.0 shape library >>= λ parts. ends_at end >>= λ last. Ends parts) first.1 a q first.3 in
    let third = gives-split bytes (body first.0 shape library)
    (λ parts. ends_at end >>= λ last. Ends parts) second.1 a q
    second.3 in
    last-told bytes end third.0 a third.1 q third.3

made : ℕ → List Placed → WorldParts
made clock objects = record { clock = clock; objects = objects }

pub world-ends : (bytes : List ℕ) (shapes : List Shape) (library : List Code) (end p : ℕ) (a : WorldParts) (q : ℕ)
    → Gives bytes (world shapes library end) p a q → q ≡ end
unfolding world made
world-ends bytes shapes library end p a q g =
    let first = gives-split bytes (head (codes "LSLW")) (λ version. field_that U64 (λ n. nat_le n most_clock)
    >>= λ clock. field_that U8 (λ n. n == length shapes) >>= λ count. each (placed version library) shapes
    >>= λ objects. ends_at end >>= λ last. Ends (made clock objects)) p a q g in
    let second = gives-split bytes (field_that U64 (λ n. nat_le n most_clock)) (λ clock.
    field_that U8 (λ n. n == length shapes) >>= λ count. each (placed first.0 library) shapes
    >>= λ objects. ends_at end >>= λ last. Ends (made clock objects)) first.1 a q first.3 in
    let third = gives-split bytes (field_that U8 (λ n. n == length shapes)) (λ count.
    each (placed first.0 library) shapes >>= λ objects. ends_at end >>= λ last. Ends (made second.0 objects)) second.1 a
    q second.3 in
    let fourth = gives-split bytes (each (placed first.0 library) shapes) (λ objects.
    ends_at end >>= λ last. Ends (made second.0 objects)) third.1 a q third.3 in
    last-told bytes end (made second.0 fourth.0) a fourth.1 q fourth.3

module _ {A : Type 0} (layout : ℕ → Layout A) (bytes : List ℕ) where
  -- the fields that were read, as those of the image
  module _ (fields : List ℕ) (intact : IsIntact bytes) (are : fields ≡ covered bytes) where
    ends-digested : length fields ≡ digested bytes
    ends-digested = ap length are ∙ omega (arith, length-take (digested bytes) bytes)

    pub read-image : (a : A) (q : ℕ) → q ≡ length fields → Gives fields (layout (length fields)) 0 a q
        → IsImage layout bytes a
    read-image a q last g =
        let at : Gives fields (layout (digested bytes)) 0 a (digested bytes) =
        subst (λ (n : ℕ). Gives fields (layout n) 0 a n) ends-digested
        (subst (λ (n : ℕ). Gives fields (layout (length fields)) 0 a n) last g) in
        (intact, subst (λ (fs : List ℕ). Gives fs (layout (digested bytes)) 0 a (digested bytes)) are at)

    pub read-refused : (e : Refusal ImageFault) → Reads fields (layout (length fields)) 0 (Err e)
        → IsRefusedBy (IsFirstFault layout bytes) e
    read-refused (Fault fault) h =
        let at = subst (λ (n : ℕ). Reads fields (layout n) 0 (Err (Fault fault))) ends-digested h in
        inr (intact, subst (λ (fs : List ℕ). Reads fs (layout (digested bytes)) 0 (Err (Fault fault))) are at)
    read-refused NoMemory h = tt

  pub outer-refused : (e : Refusal ImageFault) → IsRefusedBy (IsOuterFault bytes) e
      → IsRefusedBy (IsFirstFault layout bytes) e
  outer-refused (Fault fault) h = inl h
  outer-refused NoMemory h = tt

  every-of : (e : Refusal ImageFault) → IsRefusedBy (IsFirstFault layout bytes) e → (a : A) → IsImage layout bytes a
      → e ≡ NoMemory
  every-of (Fault fault) h a image = absurd (image-no_fault layout bytes a fault image h)
  every-of NoMemory h a image = refl

  only-of : (e : Refusal ImageFault) → IsRefusedBy (IsFirstFault layout bytes) e → (fault : ImageFault)
      → IsFirstFault layout bytes fault → (e ≡ Fault fault) ⊎ (e ≡ NoMemory)
  only-of (Fault found) h fault first = inl (ap Fault (first-one layout bytes found fault h first))
  only-of NoMemory h fault first = inr refl

  module _ (e : Refusal ImageFault) (r : Result A (Refusal ImageFault)) (exit : IsErrAnd r (λ y. y ≡ e)) where
    pub refused-found : IfOk r (IsImage layout bytes)
    refused-found =
        let same = err_from_is_err_and r exit in
        rw same.1 tt

    pub refused-every : IsRefusedBy (IsFirstFault layout bytes) e → (a : A) → IsImage layout bytes a → GivesThat r a
    refused-every h a image =
        let same = err_from_is_err_and r exit in
        rw (same.1, same.2) (every-of e h a image)

    pub refused-first : IsRefusedBy (IsFirstFault layout bytes) e → IfErr r (IsRefusedBy (IsFirstFault layout bytes))
    refused-first h =
        let same = err_from_is_err_and r exit in
        rw (same.1, same.2) h

    pub refused-only : IsRefusedBy (IsFirstFault layout bytes) e → (fault : ImageFault)
        → IsFirstFault layout bytes fault
        → RefusesWith r fault
    refused-only h fault first =
        let same = err_from_is_err_and r exit in
        rw (same.1, same.2) (only-of e h fault first)
