-- Bytes without a fault are those of the note in them.
use Rattle.std.proofs.Common.{◌≡◌, ◌∙◌, refl, sym, ap, arith, ℕ, ◌+◌, ◌-◌, ◌<◌, ◌≤◌, ◌==◌, nat_le, Bool, true, false, ◌&&◌, if◌then◌else◌, List, [], ◌++◌, length, take, drop, get_or, append_assoc, Option, None}
use Rattle.std.specs.Int.{w64, from_be_bytes}
use Rattle.std.specs.Prelude.{codes}
use Rattle.std.specs.Str.{bytes_eq}
use Rattle.std.proofs.lemmas.Bool.{eqb-true, leb-true}
use Rattle.std.proofs.lemmas.Bool.Decides.{nat_tests}
use Rattle.std.proofs.lemmas.List.{drop-append-le, length-drop, length-take, nil_from_length, take-append-drop, take-append-le}
use Rattle.std.proofs.lemmas.Slice.Eq.{bytes_eq-Decides}
use Rattle.sha2.specs.Sha256.{sha256}
use Rattle.lsl_bytes.specs.Fields.{u8_bytes, u16_bytes, u32_bytes, u64_bytes}
use Rattle.lsl_handoff.specs.declared.faults.NoteFault.{NoteFault}
use Rattle.lsl_handoff.specs.declared.faults.NoteFault.TheVariants.{Body}
use Rattle.lsl_handoff.specs.declared.note.NoteKind.{NoteKind}
use Rattle.lsl_handoff.specs.declared.note.NoteKind.TheVariants.{Offer, Taken, Cancel, Refused}
use Rattle.lsl_handoff.specs.Fields.{IsOneOf}
use Rattle.lsl_handoff.specs.NoteBytes.{HasItsParcel, IsNoteOf, digested_bytes, fields_bytes, head_bytes, kind_number, note_bytes, parcel_bytes}
use Rattle.lsl_handoff.specs.NoteFaults.{covered, digest_in, end_fault, first_fault, is_kind, is_one_of, kind_of, part_at, u16_at, u32_at, u64_at, unless}
use Rattle.lsl_handoff.specs.Reading.{head_in, note_in, note_of, parcel_in}
use Rattle.lsl_handoff.proofs.PartLemmas.{byte-part, glue, part-small, u16-part, u32-part, u64-part, u64-small}

-- nothing is wrong: the test passed, and nothing is wrong next
record Passed (good : Bool) (next : Option NoteFault) : Type 0 where
  holds : good ≡ true
  next_none : next ≡ None

passed : (good : Bool) (fault : NoteFault) (next : Option NoteFault) → unless good fault next ≡ None
    → Passed good next
passed true fault next is = record { holds = refl; next_none = is }
passed false fault next is = cc

both-of : (a b : Bool) → (a && b) ≡ true → (a ≡ true) × (b ≡ true)
both-of true b is = (refl, is)
both-of false b is = cc

one-of : (most n : ℕ) → is_one_of most n ≡ true → IsOneOf most n
one-of most n is =
    let b = both-of (nat_le 1 n) (nat_le n most) is in
    (leb-true 1 n b.0, leb-true n most b.1)

-- the number of the kind that a number is
number-of-kind : (n : ℕ) → is_kind n ≡ true → kind_number (kind_of n) ≡ n
number-of-kind n is =
    let b = both-of (nat_le 1 n) (nat_le n 4) is in
    by-tests (n == 1) (n == 2) (n == 3) refl refl refl (leb-true 1 n b.0) (leb-true n 4 b.1)
  where
    by-tests : (one two three : Bool) → (n == 1) ≡ one → (n == 2) ≡ two → (n == 3) ≡ three → 1 ≤ n → n ≤ 4
        → kind_number (if one then Offer else if two then Taken else if three then Cancel else Refused) ≡ n
    by-tests true two three p q r least most = sym (eqb-true n 1 p)
    by-tests false true three p q r least most = sym (eqb-true n 2 q)
    by-tests false false true p q r least most = sym (eqb-true n 3 r)
    by-tests false false false p q r least most = grind (arith, nat_tests)

module _ (fields : List ℕ) (small : (i : ℕ) → get_or fields i 0 < 256) where
  -- what follows the regions
  pub end-is : (kind : NoteKind) → 35 ≤ length fields → end_fault kind fields ≡ None
      → drop 35 fields ≡ parcel_bytes kind (parcel_in kind fields)
  end-is Offer enough none =
      let p = passed (nat_le 43 (length fields)) (Body 35)
      (unless (43 + u64_at fields 35 == length fields) (Body 35) None) none in
      let q = passed (43 + u64_at fields 35 == length fields) (Body 35) None p.next_none in
      let room : 43 ≤ length fields = leb-true 43 (length fields) p.holds in
      let all : 43 + u64_at fields 35 ≡ length fields = eqb-true (43 + u64_at fields 35) (length fields) q.holds in
      let count : u64_at fields 35 ≡ length (drop 43 fields) = omega (arith, all, room, length-drop 43 fields) in
      glue fields (u64_bytes (length (drop 43 fields))) (drop 43 fields) 35 8
      (u64-part fields small 35 room ∙ ap u64_bytes count) refl
  end-is Taken enough none = ends none
    where
      ends : end_fault Taken fields ≡ None → drop 35 fields ≡ []
      ends is = nil_from_length (drop 35 fields) (omega (
        arith,
        length-drop 35 fields,
        eqb-true (length fields) 35 (passed (length fields == 35) (Body 35) None is).holds,
      ))
  end-is Cancel enough none = nil_from_length (drop 35 fields) (omega (
    arith,
    length-drop 35 fields,
    eqb-true (length fields) 35 (passed (length fields == 35) (Body 35) None none).holds,
  ))
  end-is Refused enough none = nil_from_length (drop 35 fields) (omega (
    arith,
    length-drop 35 fields,
    eqb-true (length fields) 35 (passed (length fields == 35) (Body 35) None none).holds,
  ))

  has-its : (kind : NoteKind) → HasItsParcel kind (parcel_in kind fields)
  has-its Offer = tt
  has-its Taken = refl
  has-its Cancel = refl
  has-its Refused = refl

  module _ (enough : 35 ≤ length fields) (good : is_kind (get_or fields 14 0) ≡ true)
      (ends : end_fault (kind_of (get_or fields 14 0)) fields ≡ None) where
    -- the fields from the kind on
    kind-on : drop 14 fields ≡ fields_bytes (note_of (head_in fields)
        (parcel_in (kind_of (get_or fields 14 0)) fields))
    unfolding fields_bytes
    kind-on =
        let kind = kind_of (get_or fields 14 0) in
        let p = parcel_bytes kind (parcel_in kind fields) in
        let r7 = u32_bytes (u32_at fields 31) ++ p in
        let r6 = u32_bytes (u32_at fields 27) ++ r7 in
        let r5 = u64_bytes (u64_at fields 19) ++ r6 in
        let r4 = u32_bytes (u32_at fields 15) ++ r5 in
        let e8 = end-is kind enough ends in
        let e7 = glue fields (u32_bytes (u32_at fields 31)) p 31 4 (u32-part fields small 31 enough) e8 in
        let e6 = glue fields (u32_bytes (u32_at fields 27)) r7 27 4 (u32-part fields small 27 (omega (arith, enough)))
        e7 in
        let e5 = glue fields (u64_bytes (u64_at fields 19)) r6 19 8 (u64-part fields small 19 (omega (arith, enough)))
        e6 in
        let e4 = glue fields (u32_bytes (u32_at fields 15)) r5 15 4 (u32-part fields small 15 (omega (arith, enough)))
        e5 in
        let e3 : drop 14 fields ≡ u8_bytes (kind_number kind) ++ r4 =
        glue fields (u8_bytes (kind_number kind)) r4 14 1 (byte-part fields small 14 (omega (arith, enough))
        ∙ ap u8_bytes (sym (number-of-kind (get_or fields 14 0) good))) e4 in
        e3 ∙ sym (simp append_assoc)

    -- all of them
    all-fields : (size : ℕ) → part_at fields 0 4 ≡ codes "LSLN" → u16_at fields 4 ≡ 1 → u64_at fields 6 ≡ size
        → fields ≡ head_bytes size ++ fields_bytes (note_of (head_in fields)
        (parcel_in (kind_of (get_or fields 14 0)) fields))
    unfolding head_bytes
    all-fields size letters version is =
        let note = note_of (head_in fields) (parcel_in (kind_of (get_or fields 14 0)) fields) in
        let r2 = u64_bytes size ++ fields_bytes note in
        let r1 = u16_bytes 1 ++ r2 in
        let e2 = glue fields (u64_bytes size) (fields_bytes note) 6 8
        (u64-part fields small 6 (omega (arith, enough)) ∙ ap u64_bytes is) kind-on in
        let e1 = glue fields (u16_bytes 1) r2 4 2
        (u16-part fields small 4 (omega (arith, enough)) ∙ ap u16_bytes version) e2 in
        let e0 : fields ≡ codes "LSLN" ++ r1 = glue fields (codes "LSLN") r1 0 4 letters e1 in
        e0 ∙ sym (simp append_assoc)

-- the size comes before the digest
front-part : (bytes fields digest : List ℕ) → bytes ≡ fields ++ digest → 35 ≤ length fields
    → part_at bytes 6 8 ≡ part_at fields 6 8
front-part bytes fields digest is enough =
    let behind : drop 6 bytes ≡ drop 6 fields ++ digest =
    ap (drop 6) is ∙ drop-append-le 6 fields digest (omega (arith, enough)) in
    ap (take 8) behind ∙ take-append-le 8 (drop 6 fields) digest (omega (arith, enough, length-drop 6 fields))

module _ (objects regions : ℕ) (bytes : List ℕ) (small : (i : ℕ) → get_or bytes i 0 < 256)
    (none : first_fault bytes objects regions ≡ None) where
  small-fields : (i : ℕ) → get_or (covered bytes) i 0 < 256
  small-fields i = part-small bytes small 0 (length bytes - 32) i

  pub faultless-is : IsNoteOf objects regions bytes (note_in bytes)
  unfolding note_bytes
  faultless-is =
      let p1 = passed (nat_le 67 (length bytes)) _ _ none in
      let p2 = passed (u64_at bytes 6 == length bytes) _ _ p1.next_none in
      let p3 = passed (bytes_eq (sha256 (covered bytes)) (digest_in bytes)) _ _ p2.next_none in
      let p4 = passed (bytes_eq (part_at (covered bytes) 0 4) (codes "LSLN")) _ _ p3.next_none in
      let p5 = passed (u16_at (covered bytes) 4 == 1) _ _ p4.next_none in
      let p6 = passed (is_kind (get_or (covered bytes) 14 0)) _ _ p5.next_none in
      let p7 = passed (is_one_of objects (u32_at (covered bytes) 15)) _ _ p6.next_none in
      let p8 = passed (is_one_of regions (u32_at (covered bytes) 27)) _ _ p7.next_none in
      let p9 = passed (is_one_of regions (u32_at (covered bytes) 31)) _ _ p8.next_none in
      let enough : 67 ≤ length bytes = leb-true 67 (length bytes) p1.holds in
      let long : length (covered bytes) ≡ length bytes - 32 =
      omega (arith, length-take (length bytes - 32) bytes) in
      let room : 35 ≤ length (covered bytes) = omega (arith, enough, long) in
      let split : bytes ≡ covered bytes ++ digest_in bytes = sym (take-append-drop (length bytes - 32) bytes) in
      let note = note_in bytes in
      let kinds = kind-on (covered bytes) small-fields room p6.holds p9.next_none in
      let sized : length (fields_bytes note) ≡ length bytes - 46 =
      omega (arith, ap length kinds, length-drop 14 (covered bytes), long) in
      let size : u64_at (covered bytes) 6 ≡ 14 + length (fields_bytes note) + 32 =
      sym (ap (from_be_bytes w64) (front-part bytes (covered bytes) (digest_in bytes) split room))
      ∙ eqb-true (u64_at bytes 6) (length bytes) p2.holds ∙ omega (arith, sized, enough) in
      let whole = all-fields (covered bytes) small-fields room p6.holds p9.next_none
      (14 + length (fields_bytes note) + 32)
      ((bytes_eq-Decides (part_at (covered bytes) 0 4) (codes "LSLN")).0 p4.holds)
      (eqb-true (u16_at (covered bytes) 4) 1 p5.holds) size in
      let digest : sha256 (covered bytes) ≡ digest_in bytes =
      (bytes_eq-Decides (sha256 (covered bytes)) (digest_in bytes)).0 p3.holds in
      record {
        is = record {
          object = one-of objects (u32_at (covered bytes) 15) p7.holds;
          trip = u64-small (covered bytes) small-fields 19;
          from = one-of regions (u32_at (covered bytes) 27) p8.holds;
          to = one-of regions (u32_at (covered bytes) 31) p9.holds;
          parcel = has-its (covered bytes) small-fields (kind_of (get_or (covered bytes) 14 0));
        };
        bytes_are = split ∙ ap (λ (t : List ℕ). covered bytes ++ t) (sym digest) ∙ ap digested_bytes whole;
        fits = omega (arith, u64-small bytes small 6, eqb-true (u64_at bytes 6) (length bytes) p2.holds);
      }
