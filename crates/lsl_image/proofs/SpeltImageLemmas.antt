-- Images of objects and worlds, spelled whole.
use Rattle.std.proofs.Common.{◌≡◌, ◌∙◌, refl, sym, ap, subst, arith, eq-eqb, ℕ, ◌+◌, ◌<◌, ◌==◌, ◌^◌, nat_le, List, [], ◌∷◌, ◌++◌, length, map, take, drop, append_assoc, length-append, Result, Ok, Err}
use Rattle.std.proofs.lemmas.Bool.Decides.{nat_tests}
use Rattle.std.proofs.lemmas.List.{append-nil, drop_all, drop_at, take_at}
use Rattle.std.proofs.lemmas.Slice.Eq.{bytes_eq-Decides}
use Rattle.std.specs.List.{flat_map, AllByRecursion}
use Rattle.std.specs.Prelude.{IfOk, codes}
use Rattle.std.specs.Str.{bytes_eq}
use Rattle.sha2.specs.Sha256.{sha256}
use Rattle.sha2.proofs.Facts256.{length-sha256}
use Rattle.lsl_value.specs.Text.{IsText}
use Rattle.lsl_code.specs.declared.woven_units.Woven.{Woven as Code}
use Rattle.lsl_bytes.specs.Fields.{text_bytes, u8_bytes, u16_bytes, u64_bytes}
use Rattle.lsl_bytes.specs.Places.{StandsAt}
use Rattle.lsl_bytes.proofs.NumberLemmas.{length-u16, length-u64}
use Rattle.lsl_image.specs.declared.parts.ObjectParts.{ObjectParts}
use Rattle.lsl_image.specs.declared.parts.Placed.{Placed}
use Rattle.lsl_image.specs.declared.parts.WorldParts.{WorldParts}
use Rattle.lsl_image.specs.Bytes.{body_bytes, head_bytes, image_bytes, objects_bytes, placed_bytes}
use Rattle.lsl_image.specs.Fits.{FitsObject, FitsPlaced, FitsWorld}
use Rattle.lsl_image.specs.Images.{IsImage, IsIntact, covered, digest_in, digested}
use Rattle.lsl_image.specs.Layout.{Layout, Bytes, TextForm, U16, U64, U8}
use Rattle.lsl_image.specs.Object.{ends_at, head, known_version, object, sender}
use Rattle.lsl_image.specs.Reading.{Gives}
use Rattle.lsl_image.specs.Spelling.{Spells}
use Rattle.lsl_image.specs.Valid.{IsObject, IsPlaced, IsWorld, placed_shape, shape_of, shapes_of}
use Rattle.lsl_image.specs.World.{most_clock, placed, world}
use Rattle.lsl_image.proofs.SealedLemmas.{length-head}
use Rattle.lsl_image.proofs.SpellingLemmas.{spelled-gives}
use Rattle.lsl_image.proofs.SpeltPartLemmas.{body-spells}
use Rattle.lsl_image.proofs.SpeltLemmas.{Spelt, spelt-as, spelt-each, spelt-ends, spelt-field, spelt-here, spelt-last, spelt-tested, spelt-that, spelt-then}

version-spells : (p : ℕ) → Spelt known_version p 2 (u16_bytes 2)
unfolding known_version
version-spells p = spelt-last _ (spelt-field U16 2 (omega arith)) (spelt-ends refl)

head-spells : (letters : List ℕ) (size p : ℕ) → length letters ≡ 4 → size < 2 ^ 64
    → Spelt (head letters) p 2 (head_bytes letters 2 size)
unfolding head head_bytes
head-spells letters size p four fits =
    spelt-as (sym (append_assoc letters (u16_bytes 2) (u64_bytes size)))
    (spelt-then _ (spelt-that (Bytes 4) (λ found. bytes_eq found letters) letters four
    ((bytes_eq-Decides letters letters).1 refl))
    (spelt-then _ (version-spells _) (spelt-last _ (spelt-field U64 size fits) (spelt-ends refl))))

end-spells : (end p : ℕ) → p ≡ end → Spelt (ends_at end) p p []
unfolding ends_at
end-spells end p same = spelt-here _ (spelt-tested (p == end) p p (eq-eqb p end same))

sender-spells : (region : List ℕ) (p : ℕ) → IsText region → Spelt (sender 2 region) p region (text_bytes region)
unfolding sender
sender-spells region p text =
    spelt-that TextForm (λ found. bytes_eq found region) region text ((bytes_eq-Decides region region).1 refl)

-- the fields of an object's image of this size
pub object-spells : (region : List ℕ) (library : List Code) (o : ObjectParts) (size : ℕ) → IsObject library o
    → FitsObject library o → IsText region → size < 2 ^ 64
    → (whole : List ℕ)
    → whole ≡ head_bytes (codes "LSLO") 2 size ++ (text_bytes region ++ body_bytes 2 library o)
    → Spells (object region (shape_of o) library (length whole)) 0 o whole
unfolding object
object-spells region library o size is fits text small whole same =
    let front = head_bytes (codes "LSLO") 2 size in
    let part = body_bytes 2 library o in
    let q = 0 + length front in
    let r = q + length (text_bytes region) in
    let ends : r + length part ≡ length whole = omega (
      arith,
      ap length same,
      length-append front (text_bytes region ++ part),
      length-append (text_bytes region) part,
    ) in
    let s : Spelt (object region (shape_of o) library (length whole)) 0 o (front ++ (text_bytes region ++ part)) =
    spelt-then _ (head-spells (codes "LSLO") size 0 refl small)
    (spelt-then _ (sender-spells region q text)
    (spelt-last _ (body-spells library o r is fits)
    (spelt-last _ (end-spells (length whole) (r + length part) ends) (spelt-ends refl)))) in
    (spelt-as (sym same) s).spells

placed-spells : (library : List Code) (o : Placed) (p : ℕ) → IsPlaced library o × FitsPlaced library o
    → Spelt (placed 2 library (placed_shape o)) p o (placed_bytes 2 library o)
unfolding placed placed_bytes
placed-spells library o p good =
    spelt-then _ (spelt-field TextForm o.region good.1.region)
    (spelt-last _ (body-spells library o.object _ good.0 good.1.object) (spelt-ends refl))

both-placed : (library : List Code) (objects : List Placed) → AllByRecursion (IsPlaced library) objects
    → AllByRecursion (FitsPlaced library) objects → AllByRecursion
    (λ o. IsPlaced library o × FitsPlaced library o) objects
both-placed library [] are fits = tt
both-placed library (o ∷ objects) are fits = ((are.0, fits.0), both-placed library objects are.1 fits.1)

length-shapes : (objects : List Placed) → length (map placed_shape objects) ≡ length objects
length-shapes [] = refl
length-shapes (o ∷ objects) = omega (arith, length-shapes objects)

pub world-spells : (library : List Code) (w : WorldParts) (size : ℕ) → IsWorld library w → FitsWorld library w
    → size < 2 ^ 64 → (whole : List ℕ) → whole ≡ head_bytes (codes "LSLW") 2 size ++ objects_bytes 2 library w
    → Spells (world (shapes_of w) library (length whole)) 0 w whole
unfolding world objects_bytes
world-spells library w size is fits small whole same =
    let front = head_bytes (codes "LSLW") 2 size in
    let clock = u64_bytes w.clock in
    let count = u8_bytes (length w.objects) in
    let objects = flat_map (placed_bytes 2 library) w.objects in
    let q = 0 + length front in
    let r = q + length clock in
    let t = r + length count in
    let flat : front ++ (clock ++ (count ++ objects)) ≡ whole =
    ap (λ (x : List ℕ). front ++ x) (sym (append_assoc clock count objects)) ∙ sym same in
    let ends : t + length objects ≡ length whole = omega (
      arith,
      ap length flat,
      length-append front (clock ++ (count ++ objects)),
      length-append clock (count ++ objects),
      length-append count objects,
    ) in
    let s : Spelt (world (shapes_of w) library (length whole)) 0 w (front ++ (clock ++ (count ++ objects))) =
    spelt-then _ (head-spells (codes "LSLW") size 0 refl small)
    (spelt-then _ (spelt-that U64 (λ n. nat_le n most_clock) w.clock fits.clock (grind (arith, nat_tests, is.clock)))
    (spelt-then _ (spelt-that U8 (λ n. n == length (shapes_of w)) (length w.objects) (omega (arith, is.count))
    (eq-eqb (length w.objects) (length (shapes_of w)) (sym (length-shapes w.objects))))
    (spelt-last _ (spelt-each (placed 2 library) placed_shape (placed_bytes 2 library)
    (λ o. IsPlaced library o × FitsPlaced library o) (λ o p good. placed-spells library o p good) w.objects t
    (both-placed library w.objects is.objects fits.objects))
    (spelt-last _ (end-spells (length whole) (t + length objects) ends) (spelt-ends refl))))) in
    (spelt-as flat s).spells

-- the size is where it is looked for
pub size-stands : (letters fields digest bytes : List ℕ) (version size : ℕ) → length letters ≡ 4
    → bytes ≡ (head_bytes letters version size ++ fields) ++ digest → StandsAt bytes 6 (u64_bytes size) 14
unfolding head_bytes
size-stands letters fields digest bytes version size four same =
    let front = letters ++ u16_bytes version in
    let six : length front ≡ 6 = omega (arith, length-append letters (u16_bytes version), length-u16 version, four) in
    let fourteen : length (front ++ u64_bytes size) ≡ 14 =
    omega (arith, length-append front (u64_bytes size), length-u64 size, six) in
    let opened : bytes ≡ front ++ (u64_bytes size ++ (fields ++ digest)) =
    same ∙ regrouped front (u64_bytes size) fields digest in
    let parted : bytes ≡ (front ++ u64_bytes size) ++ (fields ++ digest) =
    same ∙ append_assoc (front ++ u64_bytes size) fields digest in
    record {
      parts = ap (drop 6) opened ∙ drop_at front (u64_bytes size ++ (fields ++ digest)) 6 six
          ∙ ap (λ (t : List ℕ). u64_bytes size ++ t)
          (sym (ap (drop 14) parted ∙ drop_at (front ++ u64_bytes size) (fields ++ digest) 14 fourteen));
      behind = omega (arith, length-u64 size);
      within = omega (arith, ap length parted, length-append (front ++ u64_bytes size) (fields ++ digest), fourteen);
    }
  where
    regrouped : (a b c d : List ℕ) → (a ++ b ++ c) ++ d ≡ a ++ (b ++ (c ++ d))
    regrouped a b c d = simp append_assoc

pub ok-both : {T E : Type 0} (r : Result T E) (P Q R : T → Type 0) → ((x : T) → P x → Q x → R x) → IfOk r P → IfOk r Q
    → IfOk r R
ok-both (Ok x) P Q R both p q = both x p q
ok-both (Err e) P Q R both p q = tt

-- the whole, with its digest, is an image of what its fields spell
pub image-spells : {A : Type 0} (layout : ℕ → Layout A) (letters fields bytes : List ℕ) (a : A)
    → length letters ≡ 4 → bytes ≡ image_bytes letters 2 fields → length bytes < 2 ^ 64
    → ((whole : List ℕ) → 14 + length fields + 32 < 2 ^ 64
    → whole ≡ head_bytes letters 2 (14 + length fields + 32) ++ fields → Spells (layout (length whole)) 0 a whole)
    → IsImage layout bytes a
unfolding image_bytes
image-spells {A} layout letters fields bytes a four same small spells =
    let size = 14 + length fields + 32 in
    let front = head_bytes letters 2 size in
    let whole = front ++ fields in
    let fourteen : length front ≡ 14 = length-head letters 2 size four in
    let long : length whole ≡ 14 + length fields = omega (arith, length-append front fields, fourteen) in
    let all : length bytes ≡ size = omega (
      arith,
      ap length same,
      length-append whole (sha256 whole),
      long,
      length-sha256 whole,
    ) in
    let end : digested bytes ≡ length whole = omega (arith, all, long) in
    let before : covered bytes ≡ whole =
    ap (λ (n : ℕ). take n bytes) end ∙ ap (take (length whole)) same ∙ take_at whole (sha256 whole) (length whole) refl
    in
    let behind : digest_in bytes ≡ sha256 whole =
    ap (λ (n : ℕ). drop n bytes) end ∙ ap (drop (length whole)) same ∙ drop_at whole (sha256 whole) (length whole) refl
    in
    let sized : StandsAt bytes 6 (u64_bytes (length bytes)) 14 =
    subst (λ (n : ℕ). StandsAt bytes 6 (u64_bytes n) 14) (sym all)
    (size-stands letters fields (sha256 whole) bytes 2 size four same) in
    let intact : IsIntact bytes = ((omega (arith, all), (small, sized)), behind ∙ ap sha256 (sym before)) in
    let stands : StandsAt whole 0 whole (length whole) = record {
      parts = sym (ap (λ (t : List ℕ). whole ++ t) (drop_all (length whole) whole (omega arith)) ∙ append-nil whole);
      behind = omega arith;
      within = omega arith;
    } in
    let gives = spelled-gives whole (layout (length whole)) 0 a whole (length whole) stands
    (spells whole (omega (arith, small, all)) refl) in (
      intact,
      subst (λ (t : List ℕ). Gives t (layout (digested bytes)) 0 a (digested bytes)) (sym before)
          (subst (λ (n : ℕ). Gives whole (layout n) 0 a n) (sym end) gives),
    )
