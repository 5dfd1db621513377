-- Images of objects and worlds are spelled by their bytes alone.
use Rattle.std.proofs.Common.{◌≡◌, ◌∙◌, refl, sym, ap, subst, inl, inr, ◌⊎◌, arith, ℕ, zero, suc, ◌+◌, ◌≤◌, ◌==◌, ◌&&◌, nat_le, cond, List, [], ◌++◌, length, drop, append_assoc, length-append, Bool, true, false}
use Rattle.std.proofs.lemmas.Bool.{and_parts}
use Rattle.std.proofs.lemmas.Bool.Decides.{nat_tests}
use Rattle.std.proofs.lemmas.List.{append-nil, drop_all, drop_at, length-take, take-append-drop}
use Rattle.std.proofs.lemmas.Slice.Eq.{bytes_eq-Decides}
use Rattle.std.specs.List.{flat_map}
use Rattle.std.specs.Prelude.{codes}
use Rattle.std.specs.Str.{bytes_eq}
use Rattle.sha2.specs.Sha256.{sha256}
use Rattle.lsl_code.specs.declared.woven_units.Woven.{Woven as Code}
use Rattle.lsl_bytes.specs.Fields.{FitsU16, text_bytes, u8_bytes, u16_bytes, u64_bytes}
use Rattle.lsl_bytes.proofs.NumberLemmas.{length-u64, u16-prefix_free}
use Rattle.lsl_bytes.proofs.PlaceLemmas.{same-fronts}
use Rattle.lsl_image.specs.declared.parts.ObjectParts.{ObjectParts}
use Rattle.lsl_image.specs.declared.parts.Placed.{Placed}
use Rattle.lsl_image.specs.declared.parts.Shape.{Shape}
use Rattle.lsl_image.specs.declared.parts.WorldParts.{WorldParts}
use Rattle.lsl_image.specs.Bytes.{body_bytes, digested_bytes, head_bytes, image_bytes, objects_bytes, placed_bytes, sender_bytes}
use Rattle.lsl_image.specs.Images.{IsImage, covered, digest_in, digested}
use Rattle.lsl_image.specs.Laws.{NamesVersion}
use Rattle.lsl_image.specs.Layout.{Bytes, Layout, Ends, TextForm, U16, U64, U8, field_that}
use Rattle.lsl_image.specs.Object.{ends_at, head, known_version, object, sender}
use Rattle.lsl_image.specs.World.{most_clock, placed, world}
use Rattle.lsl_image.proofs.OneLemmas.{allowed, behind-here, both-parts, each-bytes, ended, field-bytes, last-part, parted, passed, that-bytes}
use Rattle.lsl_image.proofs.OnePartLemmas.{body-only}
use Rattle.lsl_image.proofs.SealedLemmas.{length-head}
use Rattle.lsl_image.proofs.SpellingLemmas.{given-spelled}
use Rattle.lsl_image.proofs.SpeltImageLemmas.{size-stands}
use Rattle.lsl_image.proofs.SpeltLemmas.{Spelt}

-- a known version, and its bytes
record IsKnown (version : ℕ) (part : List ℕ) : Type 0 where
  known : (version ≡ 1) ⊎ (version ≡ 2)
  bytes : part ≡ u16_bytes version

one-or-two : (n : ℕ) → (nat_le 1 n && nat_le n 2) ≡ true → (n ≡ 1) ⊎ (n ≡ 2)
one-or-two n holds =
    let parts = and_parts (nat_le 1 n) (nat_le n 2) holds in
    by n (grind (arith, nat_tests, parts.0)) (grind (arith, nat_tests, parts.1))
  where
    by : (m : ℕ) → 1 ≤ m → m ≤ 2 → (m ≡ 1) ⊎ (m ≡ 2)
    by zero least most = absurd (omega arith)
    by (suc zero) least most = inl refl
    by (suc (suc zero)) least most = inr refl
    by (suc (suc (suc m))) least most = absurd (omega arith)

version-only : (p version : ℕ) (part : List ℕ) → Spelt known_version p version part → IsKnown version part
unfolding known_version
version-only p version part s =
    let t = parted s in
    let good = allowed (nat_le 1 t.value && nat_le t.value 2) _ _ t.others in
    let end = ended good.1 in
    record {
      known = subst (λ (n : ℕ). (n ≡ 1) ⊎ (n ≡ 2)) (sym end.same) (one-or-two t.value good.0);
      bytes = last-part t (field-bytes U16 t.first) end.none ∙ ap u16_bytes (sym end.same);
    }

-- what an image begins with
record IsHead (letters : List ℕ) (version : ℕ) (part : List ℕ) : Type 0 where
  size : ℕ
  known : (version ≡ 1) ⊎ (version ≡ 2)
  bytes : part ≡ head_bytes letters version size

head-only : (letters : List ℕ) (p version : ℕ) (part : List ℕ) → Spelt (head letters) p version part
    → IsHead letters version part
unfolding head head_bytes
head-only letters p version part s =
    let magic = parted s in
    let known = parted magic.others in
    let size = parted known.others in
    let end = ended size.others in
    let v = version-only (p + length magic.front) known.value known.front known.first in
    let t = that-bytes (Bytes 4) (λ found. bytes_eq found letters) magic.first in
    record {
      size = size.value;
      known = subst (λ (n : ℕ). (n ≡ 1) ⊎ (n ≡ 2)) (sym end.same) v.known;
      bytes = both-parts magic (t.bytes ∙ (bytes_eq-Decides magic.value letters).0 t.holds)
          (both-parts known (v.bytes ∙ ap u16_bytes (sym end.same))
          (last-part size (field-bytes U64 size.first) end.none))
          ∙ sym (append_assoc letters (u16_bytes version) (u64_bytes size.value));
    }

end-only : (end p place : ℕ) (part : List ℕ) → Spelt (ends_at end) p place part → part ≡ []
unfolding ends_at
end-only end p place part s = (passed (p == end) p (behind-here _ s)).none

sender-only : (version : ℕ) (region : List ℕ) (p : ℕ) (found part : List ℕ) → Spelt (sender version region) p found part
    → part ≡ sender_bytes version region
unfolding sender
sender-only version region p found part s = by (version == 1) s
  where
    by : (first : Bool) → Spelt (cond first (Ends region) (field_that TextForm (λ t. bytes_eq t region))) p found part
        → part ≡ cond first [] (text_bytes region)
    by true r = (ended r).none
    by false r =
        let t = that-bytes TextForm (λ t. bytes_eq t region) r in
        t.bytes ∙ ap text_bytes ((bytes_eq-Decides found region).0 t.holds)

-- a head of a known version and size, and the fields of that version
record AreFields (letters : List ℕ) (fields : ℕ → List ℕ) (whole : List ℕ) : Type 0 where
  version : ℕ
  size : ℕ
  known : (version ≡ 1) ⊎ (version ≡ 2)
  bytes : whole ≡ head_bytes letters version size ++ fields version

abbrev pub object_fields : List ℕ → List Code → ObjectParts → ℕ → List ℕ
object_fields region library o version = sender_bytes version region ++ body_bytes version library o

object-only : (region : List ℕ) (shape : Shape) (library : List Code) (o : ObjectParts) (end : ℕ) (whole : List ℕ)
    → Spelt (object region shape library end) 0 o whole
    → AreFields (codes "LSLO") (object_fields region library o) whole
unfolding object
object-only region shape library o end whole s =
    let front = parted s in
    let from = parted front.others in
    let parts = parted from.others in
    let last = parted parts.others in
    let done = ended last.others in
    let h = head-only (codes "LSLO") 0 front.value front.front front.first in
    let nothing : parts.rest ≡ [] = last-part last (end-only end _ last.value last.front last.first) done.none in
    record {
      version = front.value;
      size = h.size;
      known = h.known;
      bytes = both-parts front h.bytes
          (both-parts from (sender-only front.value region _ from.value from.front from.first)
          (last-part parts (body-only front.value shape library _ parts.value parts.front parts.first
          ∙ ap (body_bytes front.value library) (sym done.same)) nothing));
    }

placed-only : (version : ℕ) (library : List Code) (shape : Shape) (p : ℕ) (o : Placed) (part : List ℕ)
    → Spelt (placed version library shape) p o part → part ≡ placed_bytes version library o
unfolding placed placed_bytes
placed-only version library shape p o part s =
    let region = parted s in
    let parts = parted region.others in
    let end = ended parts.others in
    both-parts region (field-bytes TextForm region.first)
    (last-part parts (body-only version shape library _ parts.value parts.front parts.first) end.none)
    ∙ sym (ap (λ (x : Placed). text_bytes x.region ++ body_bytes version library x.object) end.same)

abbrev pub world_fields : List Code → WorldParts → ℕ → List ℕ
world_fields library w version = objects_bytes version library w

world-only : (shapes : List Shape) (library : List Code) (w : WorldParts) (end : ℕ) (whole : List ℕ)
    → Spelt (world shapes library end) 0 w whole → AreFields (codes "LSLW") (world_fields library w) whole
unfolding world objects_bytes
world-only shapes library w end whole s =
    let front = parted s in
    let clock = parted front.others in
    let count = parted clock.others in
    let objects = parted count.others in
    let last = parted objects.others in
    let done = ended last.others in
    let version = front.value in
    let h = head-only (codes "LSLW") 0 version front.front front.first in
    let c = that-bytes U8 (λ n. n == length shapes) count.first in
    let all = each-bytes (placed version library) (placed_bytes version library)
    (λ shape q x rest r. placed-only version library shape q x rest r) shapes [] _ objects.value objects.front
    objects.first in
    let many : count.value ≡ length objects.value = grind (arith, nat_tests, c.holds, ap length all.same, all.long) in
    let nothing : objects.rest ≡ [] = last-part last (end-only end _ last.value last.front last.first) done.none in
    record {
      version = version;
      size = h.size;
      known = h.known;
      bytes = both-parts front h.bytes
          (both-parts clock (that-bytes U64 (λ n. nat_le n most_clock) clock.first).bytes
          (both-parts count (c.bytes ∙ ap u8_bytes many)
          (last-part objects (all.bytes ∙ ap (flat_map (placed_bytes version library)) (sym all.same)) nothing))
          ∙ sym (append_assoc (u64_bytes clock.value) (u8_bytes (length objects.value))
          (flat_map (placed_bytes version library) objects.value))
          ∙ sym (ap (λ (x : WorldParts). u64_bytes x.clock ++ u8_bytes (length x.objects)
          ++ flat_map (placed_bytes version library) x.objects) done.same));
    }

-- the bytes of either version
abbrev pub IsEither : List ℕ → (ℕ → List ℕ) → List ℕ → Type 0
IsEither letters fields bytes =
    (bytes ≡ image_bytes letters 1 (fields 1)) ⊎ (bytes ≡ image_bytes letters 2 (fields 2))

either-known : (letters : List ℕ) (fields : ℕ → List ℕ) (bytes : List ℕ) (version : ℕ)
    → (version ≡ 1) ⊎ (version ≡ 2) → bytes ≡ image_bytes letters version (fields version)
    → IsEither letters fields bytes
either-known letters fields bytes version (inl one) same =
    inl (same ∙ ap (λ (v : ℕ). image_bytes letters v (fields v)) one)
either-known letters fields bytes version (inr two) same =
    inr (same ∙ ap (λ (v : ℕ). image_bytes letters v (fields v)) two)

-- an image is a head of its own size, its fields, and their digest
image-only : {A : Type 0} (layout : ℕ → Layout A) (letters : List ℕ) (fields : ℕ → List ℕ) (bytes : List ℕ) (a : A)
    → length letters ≡ 4
    → ((end : ℕ) (whole : List ℕ) → Spelt (layout end) 0 a whole → AreFields letters fields whole)
    → IsImage layout bytes a → IsEither letters fields bytes
unfolding image_bytes head_bytes
image-only layout letters fields bytes a four only image =
    let end = digested bytes in
    let front = covered bytes in
    let digest = digest_in bytes in
    let spelled = given-spelled front (layout end) 0 a end (omega arith) image.1 in
    let f = only end spelled.part (record { spells = spelled.spells }) in
    let own = fields f.version in
    let long_front : length front ≡ end = omega (arith, length-take end bytes) in
    let whole : front ≡ head_bytes letters f.version f.size ++ own =
    spelled.stands.parts
    ∙ ap (λ (t : List ℕ). spelled.part ++ t) (drop_all end front (omega (arith, long_front)))
    ∙ append-nil spelled.part ∙ f.bytes in
    let both : bytes ≡ front ++ digest = sym (take-append-drop end bytes) in
    let opened : bytes ≡ (head_bytes letters f.version f.size ++ own) ++ digest =
    both ∙ ap (λ (t : List ℕ). t ++ digest) whole in
    let named = size-stands letters own digest bytes f.version f.size four opened in
    let size : u64_bytes f.size ≡ u64_bytes (length bytes) =
    (same-fronts 8 (u64_bytes f.size) (u64_bytes (length bytes)) (drop 14 bytes) (drop 14 bytes) (length-u64 f.size)
    (length-u64 (length bytes)) (sym named.parts ∙ image.0.0.1.1.parts)).0 in
    let long : length bytes ≡ 14 + length own + 32 =
    omega (
      arith,
      image.0.0.0,
      long_front,
      ap length whole,
      length-append (head_bytes letters f.version f.size) own,
      length-head letters f.version f.size four,
    ) in
    let sized : front ≡ head_bytes letters f.version (14 + length own + 32) ++ own =
    whole ∙ ap (λ (t : List ℕ). (letters ++ u16_bytes f.version ++ t) ++ own) (size ∙ ap u64_bytes long) in
    either-known letters fields bytes f.version f.known
    (both ∙ ap (λ (t : List ℕ). front ++ t) image.0.1 ∙ ap digested_bytes sized)

pub object-either : (region : List ℕ) (shape : Shape) (library : List Code) (bytes : List ℕ) (o : ObjectParts)
    → IsImage (object region shape library) bytes o → IsEither (codes "LSLO") (object_fields region library o) bytes
object-either region shape library bytes o image =
    image-only (object region shape library) (codes "LSLO") (object_fields region library o) bytes o refl
    (λ end whole s. object-only region shape library o end whole s) image

pub world-either : (shapes : List Shape) (library : List Code) (bytes : List ℕ) (w : WorldParts)
    → IsImage (world shapes library) bytes w → IsEither (codes "LSLW") (world_fields library w) bytes
world-either shapes library bytes w image =
    image-only (world shapes library) (codes "LSLW") (world_fields library w) bytes w refl
    (λ end whole s. world-only shapes library w end whole s) image

-- the version of an image is the one that it names
version-named : (letters fields bytes : List ℕ) (own version : ℕ) → length letters ≡ 4 → FitsU16 own
    → bytes ≡ image_bytes letters own fields → NamesVersion bytes version → version ≡ own
unfolding image_bytes head_bytes
version-named letters fields bytes own version four fits same names =
    let size = u64_bytes (14 + length fields + 32) in
    let digest = sha256 ((letters ++ u16_bytes own ++ size) ++ fields) in
    let opened : bytes ≡ letters ++ (u16_bytes own ++ (size ++ (fields ++ digest))) =
    same ∙ grouped letters (u16_bytes own) size fields digest in
    (u16-prefix_free version own (drop 6 bytes) (size ++ (fields ++ digest)) names.0 fits
    (sym names.1.parts ∙ ap (drop 4) opened
    ∙ drop_at letters (u16_bytes own ++ (size ++ (fields ++ digest))) 4 four)).0
  where
    grouped : (a b c d e : List ℕ) → ((a ++ b ++ c) ++ d) ++ e ≡ a ++ (b ++ (c ++ (d ++ e)))
    grouped a b c d e = simp append_assoc

-- images of one version
pub one-spelling : (letters : List ℕ) (fields : ℕ → List ℕ) (version : ℕ) (x y : List ℕ) → length letters ≡ 4
    → NamesVersion x version → NamesVersion y version → IsEither letters fields x → IsEither letters fields y → x ≡ y
one-spelling letters fields version x y four nx ny (inl ex) (inl ey) = ex ∙ sym ey
one-spelling letters fields version x y four nx ny (inl ex) (inr ey) =
    let one : version ≡ 1 = version-named letters (fields 1) x 1 version four (omega arith) ex nx in
    let two : version ≡ 2 = version-named letters (fields 2) y 2 version four (omega arith) ey ny in
    absurd (omega arith)
one-spelling letters fields version x y four nx ny (inr ex) (inl ey) =
    let one : version ≡ 1 = version-named letters (fields 1) y 1 version four (omega arith) ey ny in
    let two : version ≡ 2 = version-named letters (fields 2) x 2 version four (omega arith) ex nx in
    absurd (omega arith)
one-spelling letters fields version x y four nx ny (inr ex) (inr ey) = ex ∙ sym ey
