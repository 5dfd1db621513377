-- Which notes are spelled the same, and how the cancel of an offer is spelled.
use Rattle.std.proofs.Common.{◌≡◌, ◌∙◌, ◌+◌, ◌-◌, ◌<◌, ◌^◌, ◌==◌, refl, ap, sym, subst, arith, ℕ, true, false, List, ◌∷◌, ◌++◌, append-nil, append_assoc, codes, drop, get_or, length, length-append, take}
use Rattle.std.proofs.Math.Seq.{drop-append_seam, take-append_seam}
use Rattle.sha2.specs.Sha256.{sha256}
use Rattle.sha2.proofs.Facts256.{length-sha256}
use Rattle.lsl_bytes.specs.Fields.{u8_bytes, u16_bytes, u32_bytes, u64_bytes}
use Rattle.lsl_bytes.proofs.NumberLemmas.{length-u8, length-u16, length-u32, length-u64}
use Rattle.lsl_handoff.specs.declared.note.Note.{Note}
use Rattle.lsl_handoff.specs.declared.note.NoteKind.{NoteKind}
use Rattle.lsl_handoff.specs.declared.note.NoteKind.TheVariants.{Offer, Taken, Cancel, Refused}
use Rattle.lsl_handoff.specs.Drives.{is_offer}
use Rattle.lsl_handoff.specs.NoteBytes.{fields_bytes, head_bytes, kind_number, note_bytes, parcel_bytes}
use Rattle.lsl_handoff.specs.NoteFaults.{kind_of}
use Rattle.lsl_handoff.specs.Notes.{cancel_of}
use Rattle.lsl_handoff.proofs.NoteLengths.{length-fields}
use Rattle.lsl_handoff.proofs.PartLemmas.{byte-at}
use Rattle.lsl_handoff.proofs.WrittenLemmas.{IsLaid, laid}
use Rattle.lsl_world.specs.Lossy.{cancel_for}

-- ---- the parts of a note's bytes

head-long : (size : ℕ) → length (head_bytes size) ≡ 14
unfolding head_bytes
head-long size =
    omega (
      arith,
      length-append (codes "LSLN" ++ u16_bytes 1) (u64_bytes size),
      length-append (codes "LSLN") (u16_bytes 1),
      length-u16 1,
      length-u64 size,
    )

abbrev head : Note → List ℕ
head note = head_bytes (14 + length (fields_bytes note) + 32)

abbrev front : Note → List ℕ
front note = head note ++ fields_bytes note

bytes-are : (note : Note) → note_bytes note ≡ front note ++ sha256 (front note)
unfolding note_bytes
bytes-are note = refl

front-in : (note : Note) → take (length (note_bytes note) - 32) (note_bytes note) ≡ front note
front-in note =
    let long : length (note_bytes note) - 32 ≡ length (front note) = omega (
      arith,
      ap length (bytes-are note),
      length-append (front note) (sha256 (front note)),
      length-sha256 (front note),
    ) in
    ap (λ (n : ℕ). take n (note_bytes note)) long ∙ ap (λ (z : List ℕ). take (length (front note)) z) (bytes-are note)
    ∙ take-append_seam (front note) (sha256 (front note))

-- the object, the trip and the two regions
abbrev middle : Note → List ℕ
middle note = u32_bytes note.object ++ (u64_bytes note.trip ++ (u32_bytes note.from ++ u32_bytes note.to))

middle-long : (note : Note) → length (middle note) ≡ 20
middle-long note =
    omega (
      arith,
      length-append (u32_bytes note.object) (u64_bytes note.trip ++ (u32_bytes note.from ++ u32_bytes note.to)),
      length-append (u64_bytes note.trip) (u32_bytes note.from ++ u32_bytes note.to),
      length-append (u32_bytes note.from) (u32_bytes note.to),
      length-u32 note.object,
      length-u64 note.trip,
      length-u32 note.from,
      length-u32 note.to,
    )

flat-six : (a b c d e p : List ℕ) → a ++ b ++ c ++ d ++ e ++ p ≡ a ++ ((b ++ (c ++ (d ++ e))) ++ p)
flat-six a b c d e p = simp append_assoc

flat-four : (h u m p s : List ℕ) → (h ++ (u ++ (m ++ p))) ++ s ≡ (h ++ u) ++ (m ++ (p ++ s))
flat-four h u m p s = simp append_assoc

fields-are : (note : Note) → fields_bytes note
    ≡ u8_bytes (kind_number note.kind) ++ (middle note ++ parcel_bytes note.kind note.parcel)
unfolding fields_bytes
fields-are note =
    flat-six (u8_bytes (kind_number note.kind)) (u32_bytes note.object) (u64_bytes note.trip) (u32_bytes note.from)
    (u32_bytes note.to) (parcel_bytes note.kind note.parcel)

-- what follows the head and the kind
module _ (note : Note) where
  abbrev kind : List ℕ
  kind = u8_bytes (kind_number note.kind)

  abbrev tail : List ℕ
  tail = parcel_bytes note.kind note.parcel

  abbrev digest : List ℕ
  digest = sha256 (front note)

  abbrev lead : List ℕ
  lead = head note ++ kind

  whole : note_bytes note ≡ lead ++ (middle note ++ (tail ++ digest))
  whole =
      bytes-are note ∙ ap (λ (z : List ℕ). (head note ++ z) ++ digest) (fields-are note)
      ∙ flat-four (head note) kind (middle note) tail digest

  lead-long : 15 ≡ length lead
  lead-long =
      omega (
        arith,
        length-append (head note) kind,
        head-long (14 + length (fields_bytes note) + 32),
        length-u8 (kind_number note.kind),
      )

  middle-in : take 20 (drop 15 (note_bytes note)) ≡ middle note
  middle-in =
      let rest = tail ++ digest in
      ap (λ (z : List ℕ). take 20 z)
      (ap (λ (z : List ℕ). drop 15 z) whole ∙ ap (λ (n : ℕ). drop n (lead ++ (middle note ++ rest))) lead-long
      ∙ drop-append_seam lead (middle note ++ rest))
      ∙ ap (λ (n : ℕ). take n (middle note ++ rest)) (sym (middle-long note)) ∙ take-append_seam (middle note) rest

  -- the byte that gives the kind
  pub kind-byte : get_or (note_bytes note) 14 0 ≡ kind_number note.kind
  unfolding u8_bytes
  kind-byte =
      let rest = middle note ++ (tail ++ digest) in
      byte-at (note_bytes note) 14 (kind_number note.kind) rest
      (ap (λ (z : List ℕ). drop 14 z) (whole ∙ append_assoc (head note) kind rest)
      ∙ ap (λ (n : ℕ). drop n (head note ++ (kind ++ rest))) (sym (head-long (14 + length (fields_bytes note) + 32)))
      ∙ drop-append_seam (head note) (kind ++ rest))

offer-number : (kind : NoteKind) → is_offer kind ≡ false → (kind_number kind == 1) ≡ false
offer-number Offer e = absurd (cc)
offer-number Taken e = refl
offer-number Cancel e = refl
offer-number Refused e = refl

pub no-offer-byte : (note : Note) → is_offer note.kind ≡ false → (get_or (note_bytes note) 14 0 == 1) ≡ false
no-offer-byte note e = ap (λ (n : ℕ). n == 1) (kind-byte note) ∙ offer-number note.kind e

pub offer-byte : (note : Note) → note.kind ≡ Offer → (get_or (note_bytes note) 14 0 == 1) ≡ true
offer-byte note e = ap (λ (n : ℕ). n == 1) (kind-byte note) ∙ ap (λ (k : NoteKind). kind_number k == 1) e

pub bytes-long : (note : Note) → length (note_bytes note) ≡ 67 + length (parcel_bytes note.kind note.parcel)
bytes-long note =
    omega (
      arith,
      ap length (bytes-are note),
      length-append (front note) (sha256 (front note)),
      length-sha256 (front note),
      length-append (head note) (fields_bytes note),
      head-long (14 + length (fields_bytes note) + 32),
      length-fields note,
    )

-- ---- notes that are spelled the same

-- the numbers of a note can be written
pub record IsFit (note : Note) : Type 0 where
  pub object : note.object < 2 ^ 32
  pub trip : note.trip < 2 ^ 64
  pub from : note.from < 2 ^ 32
  pub to : note.to < 2 ^ 32

laid-front : (note : Note) → IsFit note → IsLaid (front note) note
laid-front note fit =
    laid note (14 + length (fields_bytes note) + 32) (front note) refl fit.object fit.trip fit.from fit.to

kind-again : (kind : NoteKind) → kind_of (kind_number kind) ≡ kind
kind-again Offer = refl
kind-again Taken = refl
kind-again Cancel = refl
kind-again Refused = refl

-- all but their parcels are the same
pub record IsLike (a b : Note) : Type 0 where
  pub kind : a.kind ≡ b.kind
  pub object : a.object ≡ b.object
  pub trip : a.trip ≡ b.trip

pub spelled-like : (a b : Note) → IsFit a → IsFit b → note_bytes a ≡ note_bytes b → IsLike a b
spelled-like a b x y e =
    let fronts : front a ≡ front b =
    sym (front-in a) ∙ ap (λ (z : List ℕ). take (length z - 32) z) e ∙ front-in b in
    let la = laid-front a x in
    let lb = subst (λ (z : List ℕ). IsLaid z b) (sym fronts) (laid-front b y) in
    record {
      kind = sym (kind-again a.kind) ∙ ap kind_of (sym la.kind ∙ lb.kind) ∙ kind-again b.kind;
      object = sym la.object ∙ lb.object;
      trip = sym la.trip ∙ lb.trip;
    }

-- ---- cancels

-- a cancel's parcel isn't written
bare : (object trip from to : ℕ) (parcel : List ℕ)
    → note_bytes (record {
      kind = Cancel;
      object = object;
      trip = trip;
      from = from;
      to = to;
      parcel = parcel;
    }) ≡ note_bytes (cancel_of object trip from to)
unfolding note_bytes fields_bytes
bare object trip from to parcel = refl

pub cancel-spelled : (note : Note) → note.kind ≡ Cancel
    → note_bytes note ≡ note_bytes (cancel_of note.object note.trip note.from note.to)
cancel-spelled note k =
    let is : note ≡ record {
      kind = Cancel;
      object = note.object;
      trip = note.trip;
      from = note.from;
      to = note.to;
      parcel = note.parcel;
    } = λ i. record {
      kind = k i;
      object = note.object;
      trip = note.trip;
      from = note.from;
      to = note.to;
      parcel = note.parcel;
    } in
    ap note_bytes is ∙ bare note.object note.trip note.from note.to note.parcel

module _ (object trip from to : ℕ) where
  abbrev cancel : Note
  cancel = cancel_of object trip from to

  cancel-fields : fields_bytes cancel ≡ 3 ∷ middle cancel
  unfolding u8_bytes
  cancel-fields = fields-are cancel ∙ ap (λ (z : List ℕ). 3 ∷ z) (append-nil (middle cancel))

  cancel-size : 14 + length (fields_bytes cancel) + 32 ≡ 67
  cancel-size = omega (arith, length-fields cancel)

  cancel-front : front cancel ≡ head_bytes 67 ++ 3 ∷ middle cancel
  cancel-front =
      ap (λ (n : ℕ). head_bytes n ++ fields_bytes cancel) cancel-size
      ∙ ap (λ (z : List ℕ). head_bytes 67 ++ z) cancel-fields

  pub cancel-short : length (note_bytes cancel) < 2 ^ 64
  cancel-short = omega (arith, bytes-long cancel)

-- the cancel of an offer
pub cancel-is : (offer : Note)
    → cancel_for (note_bytes offer) ≡ note_bytes (cancel_of offer.object offer.trip offer.from offer.to)
cancel-is offer =
    ap (λ (m : List ℕ). (head_bytes 67 ++ 3 ∷ m) ++ sha256 (head_bytes 67 ++ 3 ∷ m)) (middle-in offer)
    ∙ ap (λ (f : List ℕ). f ++ sha256 f) (sym (cancel-front offer.object offer.trip offer.from offer.to))
    ∙ sym (bytes-are (cancel_of offer.object offer.trip offer.from offer.to))
