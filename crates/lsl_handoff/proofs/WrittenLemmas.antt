-- The bytes of a note have no fault, and the note is what is in them.
use Rattle.std.proofs.Common.{◌≡◌, ◌∙◌, refl, sym, ap, arith, ℕ, ◌+◌, ◌-◌, ◌<◌, ◌≤◌, ◌^◌, ◌==◌, nat_le, Bool, true, false, ◌&&◌, List, ◌++◌, length, take, drop, get_or, append_assoc, Option, None}
use Rattle.std.specs.Int.{w16, w32, w64, from_be_bytes}
use Rattle.std.specs.Prelude.{codes}
use Rattle.std.specs.Str.{bytes_eq}
use Rattle.std.proofs.lemmas.Bool.{eq-eqb, le-leb}
use Rattle.std.proofs.lemmas.List.{drop_at, length-append, take_at}
use Rattle.std.proofs.lemmas.Slice.Eq.{bytes_eq-Decides}
use Rattle.sha2.specs.Sha256.{sha256}
use Rattle.sha2.proofs.Facts256.{length-sha256}
use Rattle.lsl_bytes.specs.Fields.{u8_bytes, u16_bytes, u32_bytes, u64_bytes}
use Rattle.lsl_bytes.proofs.NumberLemmas.{length-u8, length-u16, length-u32, length-u64}
use Rattle.lsl_handoff.specs.declared.faults.NoteFault.{NoteFault}
use Rattle.lsl_handoff.specs.declared.faults.NoteFault.TheVariants.{Size, Digest, Version, Body}
use Rattle.lsl_handoff.specs.declared.note.Note.{Note}
use Rattle.lsl_handoff.specs.declared.note.NoteKind.{NoteKind}
use Rattle.lsl_handoff.specs.declared.note.NoteKind.TheVariants.{Offer, Taken, Cancel, Refused}
use Rattle.lsl_handoff.specs.Fields.{IsOneOf}
use Rattle.lsl_handoff.specs.NoteBytes.{HasItsParcel, IsNoteOf, fields_bytes, head_bytes, kind_number, note_bytes, parcel_bytes}
use Rattle.lsl_handoff.specs.NoteFaults.{covered, digest_in, end_fault, first_fault, head_fault, is_kind, is_one_of, kind_of, outer_fault, part_at, u16_at, u32_at, u64_at, unless}
use Rattle.lsl_handoff.specs.Reading.{head_in, note_in, note_of, parcel_in}
use Rattle.lsl_handoff.proofs.NoteLengths.{length-fields}
use Rattle.lsl_handoff.proofs.PartLemmas.{byte-at, cut, u16-again, u32-again, u64-again}

pub unless-good : (good : Bool) (fault : NoteFault) (next : Option NoteFault) → good ≡ true
    → unless good fault next ≡ next
unless-good true fault next is = refl
unless-good false fault next is = cc

one-of-passes : (most n : ℕ) → IsOneOf most n → is_one_of most n ≡ true
one-of-passes most n is = both (nat_le 1 n) (nat_le n most) (le-leb 1 n is.0) (le-leb n most is.1)
  where
    both : (a b : Bool) → a ≡ true → b ≡ true → (a && b) ≡ true
    both true b p q = q
    both false b p q = p

kind-passes : (kind : NoteKind) → is_kind (kind_number kind) ≡ true
kind-passes Offer = refl
kind-passes Taken = refl
kind-passes Cancel = refl
kind-passes Refused = refl

kind-again : (kind : NoteKind) → kind_of (kind_number kind) ≡ kind
kind-again Offer = refl
kind-again Taken = refl
kind-again Cancel = refl
kind-again Refused = refl

flat-nine : (a b c d e f g h p : List ℕ) → (a ++ b ++ c) ++ (d ++ e ++ f ++ g ++ h ++ p)
    ≡ a ++ (b ++ (c ++ (d ++ (e ++ (f ++ (g ++ (h ++ p)))))))
flat-nine a b c d e f g h p = simp append_assoc

flat-five : (a b c d e : List ℕ) → ((a ++ b ++ c) ++ d) ++ e ≡ a ++ (b ++ (c ++ (d ++ e)))
flat-five a b c d e = simp append_assoc

-- the places of a note's fields
pub record IsLaid (fields : List ℕ) (note : Note) : Type 0 where
  pub letters : part_at fields 0 4 ≡ codes "LSLN"
  pub version : u16_at fields 4 ≡ 1
  pub kind : get_or fields 14 0 ≡ kind_number note.kind
  pub object : u32_at fields 15 ≡ note.object
  pub trip : u64_at fields 19 ≡ note.trip
  pub from : u32_at fields 27 ≡ note.from
  pub to : u32_at fields 31 ≡ note.to
  pub rest : drop 35 fields ≡ parcel_bytes note.kind note.parcel
  pub long : length fields ≡ 35 + length (parcel_bytes note.kind note.parcel)

module _ (note : Note) (size : ℕ) (fields : List ℕ) where
  flat : fields ≡ head_bytes size ++ fields_bytes note
      → fields ≡ codes "LSLN" ++ (u16_bytes 1 ++ (u64_bytes size ++ (u8_bytes (kind_number note.kind)
      ++ (u32_bytes note.object ++ (u64_bytes note.trip ++ (u32_bytes note.from ++ (u32_bytes note.to
      ++ parcel_bytes note.kind note.parcel)))))))
  unfolding head_bytes fields_bytes
  flat is = is ∙ flat-nine (codes "LSLN") (u16_bytes 1) (u64_bytes size) (u8_bytes (kind_number note.kind))
      (u32_bytes note.object) (u64_bytes note.trip) (u32_bytes note.from) (u32_bytes note.to)
      (parcel_bytes note.kind note.parcel)

  pub laid : fields ≡ head_bytes size ++ fields_bytes note → note.object < 2 ^ 32 → note.trip < 2 ^ 64
      → note.from < 2 ^ 32 → note.to < 2 ^ 32 → IsLaid fields note
  unfolding u8_bytes
  laid is object trip from to =
      let p = parcel_bytes note.kind note.parcel in
      let r7 = u32_bytes note.to ++ p in
      let r6 = u32_bytes note.from ++ r7 in
      let r5 = u64_bytes note.trip ++ r6 in
      let r4 = u32_bytes note.object ++ r5 in
      let r3 = u8_bytes (kind_number note.kind) ++ r4 in
      let r2 = u64_bytes size ++ r3 in
      let r1 = u16_bytes 1 ++ r2 in
      let c0 = cut fields (codes "LSLN") r1 0 4 (flat is) refl in
      let c1 = cut fields (u16_bytes 1) r2 4 2 c0.rest_is (length-u16 1) in
      let c2 = cut fields (u64_bytes size) r3 6 8 c1.rest_is (length-u64 size) in
      let c3 = cut fields (u8_bytes (kind_number note.kind)) r4 14 1 c2.rest_is (length-u8 (kind_number note.kind)) in
      let c4 = cut fields (u32_bytes note.object) r5 15 4 c3.rest_is (length-u32 note.object) in
      let c5 = cut fields (u64_bytes note.trip) r6 19 8 c4.rest_is (length-u64 note.trip) in
      let c6 = cut fields (u32_bytes note.from) r7 27 4 c5.rest_is (length-u32 note.from) in
      let c7 = cut fields (u32_bytes note.to) p 31 4 c6.rest_is (length-u32 note.to) in
      record {
        letters = c0.part_is;
        version = ap (from_be_bytes w16) c1.part_is ∙ u16-again 1 (omega arith);
        kind = byte-at fields 14 (kind_number note.kind) r4 c2.rest_is;
        object = ap (from_be_bytes w32) c4.part_is ∙ u32-again note.object object;
        trip = ap (from_be_bytes w64) c5.part_is ∙ u64-again note.trip trip;
        from = ap (from_be_bytes w32) c6.part_is ∙ u32-again note.from from;
        to = ap (from_be_bytes w32) c7.part_is ∙ u32-again note.to to;
        rest = c7.rest_is;
        long = omega (
          arith,
          c0.long,
          c1.long,
          c2.long,
          c3.long,
          c4.long,
          c5.long,
          c6.long,
          c7.long,
          ap length c7.rest_is,
        );
      }

-- the end of the fields of a note
module _ (fields parcel : List ℕ) (few : length fields < 2 ^ 64) where
  end-passes : (kind : NoteKind) → drop 35 fields ≡ parcel_bytes kind parcel
      → length fields ≡ 35 + length (parcel_bytes kind parcel) → end_fault kind fields ≡ None
  end-passes Offer rest long =
      let counted : length fields ≡ 43 + length parcel = omega (
        arith,
        long,
        length-append (u64_bytes (length parcel))
            parcel,
        length-u64 (length parcel),
      ) in
      let c = cut fields (u64_bytes (length parcel)) parcel 35 8 rest (length-u64 (length parcel)) in
      let count : u64_at fields 35 ≡ length parcel =
      ap (from_be_bytes w64) c.part_is ∙ u64-again (length parcel) (omega (arith, few, counted)) in
      unless-good (nat_le 43 (length fields)) (Body 35) (unless (43 + u64_at fields 35 == length fields) (Body 35) None)
      (le-leb 43 (length fields) (omega (arith, counted)))
      ∙ unless-good (43 + u64_at fields 35 == length fields) (Body 35) None
      (eq-eqb (43 + u64_at fields 35) (length fields) (omega (arith, counted, count)))
  end-passes Taken rest long = unless-good (length fields == 35) (Body 35) None (eq-eqb (length fields) 35 long)
  end-passes Cancel rest long = unless-good (length fields == 35) (Body 35) None (eq-eqb (length fields) 35 long)
  end-passes Refused rest long = unless-good (length fields == 35) (Body 35) None (eq-eqb (length fields) 35 long)

  parcel-stands : (kind : NoteKind) → drop 35 fields ≡ parcel_bytes kind parcel → HasItsParcel kind parcel
      → parcel ≡ parcel_in kind fields
  parcel-stands Offer rest has =
      sym (cut fields (u64_bytes (length parcel)) parcel 35 8 rest (length-u64 (length parcel))).rest_is
  parcel-stands Taken rest has = has
  parcel-stands Cancel rest has = has
  parcel-stands Refused rest has = has

-- the bytes of a note pass the outer tests
module _ (bytes : List ℕ) (few : length bytes < 2 ^ 64) (note : Note) (spelled : bytes ≡ note_bytes note) where
  pub front : List ℕ
  front = head_bytes (14 + length (fields_bytes note) + 32) ++ fields_bytes note

  bytes-front : bytes ≡ front ++ sha256 front
  unfolding front note_bytes
  bytes-front = spelled

  front-long : length bytes - 32 ≡ length front
  front-long = omega (arith, ap length bytes-front, length-append front (sha256 front), length-sha256 front)

  pub covered-is : covered bytes ≡ front
  covered-is = ap (λ (n : ℕ). take n bytes) front-long ∙ ap (take (length front)) bytes-front
      ∙ take_at front (sha256 front) (length front) refl

  pub digest-is : digest_in bytes ≡ sha256 front
  digest-is = ap (λ (n : ℕ). drop n bytes) front-long ∙ ap (drop (length front)) bytes-front
      ∙ drop_at front (sha256 front) (length front) refl

  head-long : (n : ℕ) → length (head_bytes n) ≡ 14
  unfolding head_bytes
  head-long n = omega (
    arith,
    length-append (codes "LSLN" ++ u16_bytes 1) (u64_bytes n),
    length-append (codes "LSLN") (u16_bytes 1),
    length-u16 1,
    length-u64 n,
  )

  front-is : length front ≡ 14 + length (fields_bytes note)
  unfolding front
  front-is = length-append (head_bytes (14 + length (fields_bytes note) + 32)) (fields_bytes note)
      ∙ omega (arith, head-long (14 + length (fields_bytes note) + 32))

  whole-long : length bytes ≡ 14 + length (fields_bytes note) + 32
  whole-long = omega (arith, ap length bytes-front, length-append front (sha256 front), length-sha256 front, front-is)

  pub size-part : part_at bytes 6 8 ≡ u64_bytes (length bytes)
  unfolding front head_bytes
  size-part =
      let n = 14 + length (fields_bytes note) + 32 in
      let rest = fields_bytes note ++ sha256 front in
      let flat : bytes ≡ codes "LSLN" ++ (u16_bytes 1 ++ (u64_bytes n ++ rest)) =
      bytes-front ∙ flat-five (codes "LSLN") (u16_bytes 1) (u64_bytes n) (fields_bytes note) (sha256 front) in
      let c0 = cut bytes (codes "LSLN") (u16_bytes 1 ++ (u64_bytes n ++ rest)) 0 4 flat refl in
      let c1 = cut bytes (u16_bytes 1) (u64_bytes n ++ rest) 4 2 c0.rest_is (length-u16 1) in
      let c2 = cut bytes (u64_bytes n) rest 6 8 c1.rest_is (length-u64 n) in
      c2.part_is ∙ ap u64_bytes (sym whole-long)

  size-is : u64_at bytes 6 ≡ length bytes
  size-is = ap (from_be_bytes w64) size-part ∙ u64-again (length bytes) few

  pub long-enough : 67 ≤ length bytes
  long-enough = omega (arith, whole-long, length-fields note)

  pub outer-passes : (next : Option NoteFault) → outer_fault bytes next ≡ next
  outer-passes next =
      let digests = unless (bytes_eq (sha256 (covered bytes)) (digest_in bytes))
      (Digest (sha256 (covered bytes)) (digest_in bytes)) next in
      unless-good (nat_le 67 (length bytes)) (Size (length bytes) 67)
      (unless (u64_at bytes 6 == length bytes) (Size (length bytes) (u64_at bytes 6)) digests)
      (le-leb 67 (length bytes) long-enough)
      ∙ unless-good (u64_at bytes 6 == length bytes) (Size (length bytes) (u64_at bytes 6)) digests
      (eq-eqb (u64_at bytes 6) (length bytes) size-is)
      ∙ unless-good (bytes_eq (sha256 (covered bytes)) (digest_in bytes))
      (Digest (sha256 (covered bytes)) (digest_in bytes)) next
      ((bytes_eq-Decides (sha256 (covered bytes)) (digest_in bytes)).1 (ap sha256 covered-is ∙ sym digest-is))

module _ (objects regions : ℕ) (object_range : objects < 2 ^ 32) (region_range : regions < 2 ^ 32) (bytes : List ℕ)
    (few : length bytes < 2 ^ 64) (note : Note) (it : IsNoteOf objects regions bytes note) where
  abbrev here : List ℕ
  here = front bytes few note it.bytes_are

  lies : IsLaid here note
  unfolding front
  lies = laid note (14 + length (fields_bytes note) + 32)
      (head_bytes (14 + length (fields_bytes note) + 32) ++ fields_bytes note) refl
      (omega (arith, it.is.object.1, object_range)) it.is.trip (omega (arith, it.is.from.1, region_range))
      (omega (arith, it.is.to.1, region_range))

  head-passes : (next : Option NoteFault) → head_fault here objects regions next ≡ next
  head-passes next =
      let f6 = unless (is_one_of regions (u32_at here 31)) (Body 31) next in
      let f5 = unless (is_one_of regions (u32_at here 27)) (Body 27) f6 in
      let f4 = unless (is_one_of objects (u32_at here 15)) (Body 15) f5 in
      let f3 = unless (is_kind (get_or here 14 0)) (Body 14) f4 in
      let f2 = unless (u16_at here 4 == 1) (Version (u16_at here 4)) f3 in
      unless-good (bytes_eq (part_at here 0 4) (codes "LSLN")) (Body 0) f2
      ((bytes_eq-Decides (part_at here 0 4) (codes "LSLN")).1 lies.letters)
      ∙ unless-good (u16_at here 4 == 1) (Version (u16_at here 4)) f3 (eq-eqb (u16_at here 4) 1 lies.version)
      ∙ unless-good (is_kind (get_or here 14 0)) (Body 14) f4 (ap is_kind lies.kind ∙ kind-passes note.kind)
      ∙ unless-good (is_one_of objects (u32_at here 15)) (Body 15) f5
      (ap (is_one_of objects) lies.object ∙ one-of-passes objects note.object it.is.object)
      ∙ unless-good (is_one_of regions (u32_at here 27)) (Body 27) f6
      (ap (is_one_of regions) lies.from ∙ one-of-passes regions note.from it.is.from)
      ∙ unless-good (is_one_of regions (u32_at here 31)) (Body 31) next
      (ap (is_one_of regions) lies.to ∙ one-of-passes regions note.to it.is.to)

  kind-is : kind_of (get_or here 14 0) ≡ note.kind
  kind-is = ap kind_of lies.kind ∙ kind-again note.kind

  front-few : length here < 2 ^ 64
  front-few = omega (
    arith,
    few,
    whole-long bytes few note it.bytes_are,
    front-is bytes few note it.bytes_are,
  )

  front-passes : head_fault here objects regions (end_fault (kind_of (get_or here 14 0)) here) ≡ None
  front-passes = head-passes (end_fault (kind_of (get_or here 14 0)) here)
      ∙ ap (λ (k : NoteKind). end_fault k here) kind-is
      ∙ end-passes here note.parcel front-few note.kind lies.rest lies.long

  pub written-faultless : first_fault bytes objects regions ≡ None
  written-faultless =
      outer-passes bytes few note it.bytes_are (head_fault (covered bytes) objects regions
      (end_fault (kind_of (get_or (covered bytes) 14 0)) (covered bytes)))
      ∙ ap (λ (f : List ℕ). head_fault f objects regions (end_fault (kind_of (get_or f 14 0)) f))
      (covered-is bytes few note it.bytes_are)
      ∙ front-passes

  in-front : note_of (head_in here) (parcel_in (kind_of (get_or here 14 0)) here) ≡ note
  in-front =
      let parcel : parcel_in (kind_of (get_or here 14 0)) here ≡ note.parcel =
      ap (λ (k : NoteKind). parcel_in k here) kind-is
      ∙ sym (parcel-stands here note.parcel front-few note.kind lies.rest it.is.parcel) in
      λ i. record {
        kind = kind-is i;
        object = lies.object i;
        trip = lies.trip i;
        from = lies.from i;
        to = lies.to i;
        parcel = parcel i;
      }

  pub written-is : note_in bytes ≡ note
  written-is = ap (λ (f : List ℕ). note_of (head_in f) (parcel_in (kind_of (get_or f 14 0)) f))
      (covered-is bytes few note it.bytes_are)
      ∙ in-front
