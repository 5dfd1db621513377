-- Bytes are an image or have a first fault.
use Rattle.std.proofs.Common.{◌≡◌, ◌∙◌, sym, refl, subst, inl, inr, ◌⊎◌, arith, ℕ, zero, suc, ◌+◌, ◌<◌, ◌≤◌, List, [], ◌∷◌, length, take, drop, get_or, Option, Some, None, Bool, true, false}
use Rattle.std.specs.Int.{w64, from_be_bytes}
use Rattle.std.specs.List.{AllByRecursion}
use Rattle.std.specs.Prelude.{◌==◌}
use Rattle.std.specs.Str.{bytes_eq}
use Rattle.std.proofs.lemmas.Bool.{cases_lt, false≢true}
use Rattle.std.proofs.lemmas.Bool.Decides.{nat_tests}
use Rattle.std.proofs.lemmas.Slice.Eq.{bytes_eq-Decides}
use Rattle.sha2.specs.Sha256.{sha256}
use Rattle.lsl_code.specs.declared.woven_units.Woven.{Woven as Code}
use Rattle.lsl_bytes.specs.Fields.{FitsU8, u64_bytes}
use Rattle.lsl_bytes.specs.Places.{StandsAt, Takes}
use Rattle.lsl_bytes.proofs.NumberLemmas.{u64-of_bytes}
use Rattle.lsl_bytes.proofs.PlaceLemmas.{none-whole, part-fits}
use Rattle.lsl_image.specs.declared.faults.ImageFault.{ImageFault}
use Rattle.lsl_image.specs.declared.faults.ImageFault.TheVariants.{Size, Digest, Body}
use Rattle.lsl_image.specs.declared.parts.ObjectParts.{ObjectParts}
use Rattle.lsl_image.specs.declared.parts.Shape.{Shape}
use Rattle.lsl_image.specs.declared.parts.WorldParts.{WorldParts}
use Rattle.lsl_image.specs.Images.{HasSize, IsFirstFault, IsImage, IsIntact, NamesSize, covered, digest_in, digested}
use Rattle.lsl_image.specs.Layout.{Content, Fits, Form, U8, U16, U32, U64, I32, Bytes, TextForm, ValueForm, Layout, Ends, Refused, Here, Field, ◌>>=◌, bytes_of, here, tested}
use Rattle.lsl_image.specs.Object.{ends_at, object}
use Rattle.lsl_image.specs.Reading.{Faults, Gives, Stands, StandsNone}
use Rattle.lsl_image.specs.World.{world}
use Rattle.lsl_image.proofs.GivenLemmas.{Given, split}
use Rattle.lsl_image.proofs.SealLemmas.{bytes-stand, length-part}
use Rattle.lsl_image.proofs.TakenLemmas.{IsAnswered, array-answered, i32-answered, same-or-not, text-answered, u8-answered, u16-answered, u32-answered, u64-answered, value-answered}

module _ (bytes : List ℕ) (are : (i : ℕ) → get_or bytes i 0 < 256) where
  form-answered : (form : Form) (p : ℕ) → IsAnswered (bytes_of form) (Fits form) bytes p
  form-answered U8 p = u8-answered bytes are p
  form-answered U16 p = u16-answered bytes are p
  form-answered U32 p = u32-answered bytes are p
  form-answered U64 p = u64-answered bytes are p
  form-answered I32 p = i32-answered bytes are p
  form-answered (Bytes n) p = array-answered bytes p n
  form-answered TextForm p = text-answered bytes are p
  form-answered ValueForm p = value-answered bytes are p

  -- a field is there, or none is
  abbrev IsHere : (form : Form) → ℕ → Type 0
  IsHere form p = (content : Content form) × (behind : ℕ) × Stands bytes p form content behind

  field-decided : (form : Form) (p : ℕ) → IsHere form p ⊎ StandsNone bytes p form
  field-decided form p = of (form-answered form p).answer (form-answered form p).takes
    where
      of : (answer : Option (Content form × ℕ)) → Takes (bytes_of form) (Fits form) bytes p answer
          → ((content : Content form) × (behind : ℕ) × Stands bytes p form content behind) ⊎ StandsNone bytes p form
      of None takes = inr (λ content behind stands.
          none-whole (bytes_of form) (Fits form) bytes p takes content behind stands.0 stands.1)
      of (Some (content, behind)) takes = inl (content, behind, takes.found)

  abbrev pub IsGiven : {A : Type 0} → Layout A → ℕ → Type 0
  IsGiven {A} layout p = (a : A) × (q : ℕ) × Gives bytes layout p a q

  abbrev pub IsFaulty : {A : Type 0} → Layout A → ℕ → Type 0
  IsFaulty layout p = (fault : ImageFault) × Faults bytes layout p fault

  pub layout-decided : {A : Type 0} (layout : Layout A) (p : ℕ) → IsGiven layout p ⊎ IsFaulty layout p
  layout-decided (Ends b) p = inl (b, p, (refl, refl))
  layout-decided (Refused wrong) p = inr (wrong, refl)
  layout-decided (Here next) p = layout-decided (next p) p
  layout-decided {A} (Field form next) p =
      of (λ content behind. layout-decided (next content) behind) (field-decided form p)
    where
      on : (content : Content form) (behind : ℕ) → Stands bytes p form content behind
          → IsGiven (next content) behind ⊎ IsFaulty (next content) behind
          → IsGiven (Field form next) p ⊎ IsFaulty (Field form next) p
      on content behind stands (inl given) = inl (given.0, given.1, (content, behind, stands, given.2))
      on content behind stands (inr faulty) = inr (faulty.0, inr (content, behind, stands, faulty.1))

      of : ((content : Content form) (behind : ℕ) → IsGiven (next content) behind ⊎ IsFaulty (next content) behind)
          → IsHere form p ⊎ StandsNone bytes p form → IsGiven (Field form next) p ⊎ IsFaulty (Field form next) p
      of rest (inl h) = on h.0 h.1 h.2 (rest h.0 h.1)
      of rest (inr none) = inr (Body p, inl (none, refl))

-- what ends at a place ends there
tested-ends : {A : Type 0} (bytes : List ℕ) (good : Bool) (place : ℕ) (a : A) (p : ℕ) (v : A) (q : ℕ)
    → Gives bytes (tested good place a) p v q → (good ≡ true) × (q ≡ p)
tested-ends bytes true place a p v q g = (refl, g.1)
tested-ends bytes false place a p v q g = absurd g

ends-there : (bytes : List ℕ) (end p v q : ℕ) → Gives bytes (ends_at end) p v q → q ≡ end
unfolding ends_at here ◌>>=◌
ends-there bytes end p v q g =
    let t = tested-ends bytes (p == end) p p p v q g in
    grind (arith, nat_tests, t.0, t.1)

object-ends : (bytes : List ℕ) (region : List ℕ) (shape : Shape) (library : List Code) (end p : ℕ) (o : ObjectParts)
    (q : ℕ) → Gives bytes (object region shape library end) p o q → q ≡ end
unfolding object
object-ends bytes region shape library end p o q g =
    let whole : Given bytes (object region shape library end) p o q = record { gives = g } in
    let headed = split whole in
    let sent = split headed.rest in
    let read = split sent.rest in
    let last = split read.rest in
    last.rest.gives.1 ∙ ends-there bytes end read.middle last.value last.middle last.first.gives

world-ends : (bytes : List ℕ) (shapes : List Shape) (library : List Code) (end p : ℕ) (w : WorldParts) (q : ℕ)
    → Gives bytes (world shapes library end) p w q → q ≡ end
unfolding world
world-ends bytes shapes library end p w q g =
    let whole : Given bytes (world shapes library end) p w q = record { gives = g } in
    let headed = split whole in
    let timed = split headed.rest in
    let counted = split timed.rest in
    let read = split counted.rest in
    let last = split read.rest in
    last.rest.gives.1 ∙ ends-there bytes end read.middle last.value last.middle last.first.gives

-- the size in its field
named-size : (bytes : List ℕ) → ((i : ℕ) → get_or bytes i 0 < 256) → 46 ≤ length bytes
    → (size : ℕ) × NamesSize bytes size
named-size bytes are enough =
    let part = take 8 (drop 6 bytes) in
    let stands : StandsAt bytes 6 part 14 = bytes-stand bytes 6 8 (omega (arith, enough)) in
    let small = part-fits bytes part 6 14 stands are in
    let long = length-part bytes 6 8 (omega (arith, enough)) in
    let n = from_be_bytes w64 part in
    let is : part ≡ u64_bytes n = u64-of_bytes part n long small refl in (
      n,
      (
        omega (arith, small 0, small 1, small 2, small 3, small 4, small 5, small 6, small 7),
        subst (λ (t : List ℕ). StandsAt bytes 6 t 14) is stands,
      ),
    )

all-below : (bytes : List ℕ) → AllByRecursion FitsU8 bytes → (i : ℕ) → get_or bytes i 0 < 256
all-below [] all i = omega arith
all-below (b ∷ bytes) all zero = all.0
all-below (b ∷ bytes) all (suc i) = all-below bytes all.1 i

covered-below : (bytes : List ℕ) → ((i : ℕ) → get_or bytes i 0 < 256) → (i : ℕ) → get_or (covered bytes) i 0 < 256
covered-below bytes are =
    part-fits bytes (covered bytes) 0 (0 + digested bytes) (bytes-stand bytes 0 (digested bytes) (omega arith)) are

module _ {A : Type 0} (layout : ℕ → Layout A) (bytes : List ℕ) (are : (i : ℕ) → get_or bytes i 0 < 256)
    (ends : (a : A) (q : ℕ) → Gives (covered bytes) (layout (digested bytes)) 0 a q → q ≡ digested bytes) where
  abbrev IsEither : Type 0
  IsEither = ((a : A) × IsImage layout bytes a) ⊎ ((fault : ImageFault) × IsFirstFault layout bytes fault)

  fields-decided : IsIntact bytes → IsEither
  fields-decided intact = of (layout-decided (covered bytes) (covered-below bytes are) (layout (digested bytes)) 0)
    where
      of : IsGiven (covered bytes) (covered-below bytes are) (layout (digested bytes)) 0
          ⊎ IsFaulty (covered bytes) (covered-below bytes are) (layout (digested bytes)) 0 → IsEither
      of (inl g) =
          let all = subst (λ (q : ℕ). Gives (covered bytes) (layout (digested bytes)) 0 g.0 q) (ends g.0 g.1 g.2) g.2 in
          inl (g.0, (intact, all))
      of (inr f) = inr (f.0, inr (intact, f.1))

  sized-decided : HasSize bytes → (t : Bool)
      → ((t ≡ true) → sha256 (covered bytes) ≡ digest_in bytes)
      → (sha256 (covered bytes) ≡ digest_in bytes → t ≡ true) → IsEither
  sized-decided has true then back = fields-decided (has, sym (then refl))
  sized-decided has false then back =
      inr (Digest (sha256 (covered bytes)) (digest_in bytes), inl (has, (refl, refl, λ same. false≢true (back same))))

  image-decided : IsEither
  image-decided = of (cases_lt (length bytes) 46)
    where
      named : (enough : 46 ≤ length bytes) (size : ℕ) → NamesSize bytes size
          → (size ≡ length bytes) ⊎ (size ≡ length bytes → ⊥) → IsEither
      named enough size names (inl same) =
          let both = bytes_eq-Decides (sha256 (covered bytes)) (digest_in bytes) in
          sized-decided (enough, subst (NamesSize bytes) same names)
          (bytes_eq (sha256 (covered bytes)) (digest_in bytes))
          both.0 both.1
      named enough size names (inr differs) =
          inr (Size (length bytes) size, inl (refl, inr (enough, names, differs)))

      of : (length bytes < 46) ⊎ (46 ≤ length bytes) → IsEither
      of (inl few) = inr (Size (length bytes) 46, inl (refl, inl (few, refl)))
      of (inr enough) =
          let names = named-size bytes are enough in
          named enough names.0 names.1 (same-or-not names.0 (length bytes))

pub object-decided : (region : List ℕ) (shape : Shape) (library : List Code) (bytes : List ℕ)
    → AllByRecursion FitsU8 bytes → ((a : ObjectParts) × IsImage (object region shape library) bytes a)
    ⊎ ((fault : ImageFault) × IsFirstFault (object region shape library) bytes fault)
object-decided region shape library bytes are =
    image-decided (object region shape library) bytes (all-below bytes are)
    (λ a q g. object-ends (covered bytes) region shape library (digested bytes) 0 a q g)

pub world-decided : (shapes : List Shape) (library : List Code) (bytes : List ℕ) → AllByRecursion FitsU8 bytes
    → ((a : WorldParts) × IsImage (world shapes library) bytes a)
    ⊎ ((fault : ImageFault) × IsFirstFault (world shapes library) bytes fault)
world-decided shapes library bytes are =
    image-decided (world shapes library) bytes (all-below bytes are)
    (λ a q g. world-ends (covered bytes) shapes library (digested bytes) 0 a q g)
