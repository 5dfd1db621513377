-- At each place of bytes a field of a form is there or not: the results of the calls that take it.
use Rattle.std.proofs.Common.{◌≡◌, ◌∙◌, sym, ap, refl, subst, inl, inr, ◌⊎◌, arith, ℕ, ℤ, zero, suc, ◌+◌, ◌<◌, ◌≤◌, List, [], ◌∷◌, ◌++◌, length, take, drop, get_or, Option, Some, None, Bool, true, false, length-append}
use Rattle.std.specs.Int.{w16, w32, w64, from_be_bytes, cast_signed}
use Rattle.std.specs.List.{flat_map}
use Rattle.std.specs.Str.{is_utf8, IsUtf8}
use Rattle.std.proofs.lemmas.Bool.{cases_lt, false≢true}
use Rattle.std.proofs.lemmas.Str.{IsUtf8-from_is_utf8, is_utf8-from_IsUtf8}
use Rattle.lsl_value.specs.Limits.{most_items, most_text_bytes}
use Rattle.lsl_value.specs.Text.{IsText}
use Rattle.lsl_value.specs.declared.list.Atom.{Atom}
use Rattle.lsl_bytes.specs.Fields.{AreAtoms, AreItems, FitsI32, FitsU8, FitsU16, FitsU32, FitsU64, IsAtom, IsCountable, IsValue, atom_bytes, counted_bytes, i32_bytes, list_bytes, text_bytes, u8_bytes, u16_bytes, u32_bytes, u64_bytes, value_bytes}
use Rattle.lsl_bytes.specs.Places.{StandsAt, Takes}
use Rattle.lsl_bytes.proofs.AtomLemmas.{atom-int, atom-key, atom-no_tag, atom-other_tag, atom-spelled, atom-str, int-found, key-found, str-found, tagged-none}
use Rattle.lsl_bytes.proofs.ListLemmas.{IsTaking, list-found, list-no_atoms, list-no_count, list-too_long, taking-all, taking-more, taking-none, taking-stops}
use Rattle.lsl_bytes.proofs.NumberLemmas.{IsArray, array-none, array_bytes, i32-begins, i32-of_u32, i32-prefix_free, length-u8, length-u16, length-u32, length-u64, signed-fits, u8-of_bytes, u8-prefix_free, u16-of_bytes, u16-prefix_free, u32-of_bytes, u32-prefix_free, u64-of_bytes, u64-prefix_free}
use Rattle.lsl_bytes.proofs.PlaceLemmas.{none-whole, part-fits, same-fronts, stands-append, taken-front, takes_as, takes_no, takes_none, takes_some}
use Rattle.lsl_bytes.proofs.TextLemmas.{counted-no_count, counted-prefix_free, text-found, text-no_bytes, text-no_text}
use Rattle.lsl_bytes.proofs.ValueLemmas.{value-atom_found, value-atom_none, value-list_found, value-list_none, value-no_tag}
use Rattle.lsl_image.proofs.SealLemmas.{bytes-stand, length-part}

-- there is an answer: a value and the place after it, or none
pub record IsAnswered {V : Type 0} (form : V → List ℕ) (Fits : V → Type 0) (bytes : List ℕ) (place : ℕ) : Type 0 where
  pub answer : Option (V × ℕ)
  pub takes : Takes form Fits bytes place answer

answered : {V : Type 0} {form : V → List ℕ} {Fits : V → Type 0} {bytes : List ℕ} {place : ℕ} {answer : Option (V × ℕ)}
    → Takes form Fits bytes place answer → IsAnswered form Fits bytes place
answered {answer = answer} takes = record { answer = answer; takes = takes }

pub same-or-not : (a b : ℕ) → (a ≡ b) ⊎ (a ≡ b → ⊥)
same-or-not a b = of (cases_lt a b) (cases_lt b a)
  where
    of : (a < b) ⊎ (b ≤ a) → (b < a) ⊎ (a ≤ b) → (a ≡ b) ⊎ (a ≡ b → ⊥)
    of (inl below) other = inr (λ same. omega (arith, below, same))
    of (inr past) (inl above) = inr (λ same. omega (arith, above, same))
    of (inr past) (inr within) = inl (omega (arith, past, within))

-- n bytes are there where at least n are left
pub array-answered : (bytes : List ℕ) (p n : ℕ) → IsAnswered array_bytes (IsArray n) bytes p
array-answered bytes p n = of (cases_lt (length bytes) (p + n))
  where
    of : (length bytes < p + n) ⊎ (p + n ≤ length bytes) → IsAnswered array_bytes (IsArray n) bytes p
    of (inl few) = answered (takes_none array_bytes (IsArray n) bytes p
        (λ (v : List ℕ) (next : ℕ) long stands. omega (arith, few, long, stands.behind, stands.within)))
    of (inr enough) = answered (takes_some array_bytes (IsArray n) (same-fronts n) bytes p (take n (drop p bytes))
        (p + n)
        (length-part bytes p n enough) (bytes-stand bytes p n enough))

module _ (bytes : List ℕ) (are : (i : ℕ) → get_or bytes i 0 < 256) where
  fits-part : (part : List ℕ) (p n next : ℕ) → Takes array_bytes (IsArray n) bytes p (Some (part, next))
      → (i : ℕ) → get_or part i 0 < 256
  fits-part part p n next takes = part-fits bytes part p next takes.found.1 are

  pub u8-answered : (p : ℕ) → IsAnswered u8_bytes FitsU8 bytes p
  u8-answered p = of (array-answered bytes p 1).answer (array-answered bytes p 1).takes
    where
      of : (answer : Option (List ℕ × ℕ)) → Takes array_bytes (IsArray 1) bytes p answer
          → IsAnswered u8_bytes FitsU8 bytes p
      of None takes = answered (array-none u8_bytes FitsU8 1 length-u8 bytes p takes)
      of (Some (part, next)) takes = answered (takes_as array_bytes
          (IsArray 1) u8_bytes FitsU8 u8-prefix_free bytes p part
          (get_or part 0 0) next (omega (arith, fits-part part p 1 next takes 0))
          (u8-of_bytes part takes.found.0) takes)

  pub u16-answered : (p : ℕ) → IsAnswered u16_bytes FitsU16 bytes p
  u16-answered p = of (array-answered bytes p 2).answer (array-answered bytes p 2).takes
    where
      of : (answer : Option (List ℕ × ℕ)) → Takes array_bytes (IsArray 2) bytes p answer
          → IsAnswered u16_bytes FitsU16 bytes p
      of None takes = answered (array-none u16_bytes FitsU16 2 length-u16 bytes p takes)
      of (Some (part, next)) takes =
          let small = fits-part part p 2 next takes in
          answered (takes_as array_bytes (IsArray 2) u16_bytes FitsU16 u16-prefix_free bytes p part
          (from_be_bytes w16 part) next (omega (arith, small 0, small 1))
          (u16-of_bytes part (from_be_bytes w16 part) takes.found.0 small refl) takes)

  pub u32-answered : (p : ℕ) → IsAnswered u32_bytes FitsU32 bytes p
  u32-answered p = of (array-answered bytes p 4).answer (array-answered bytes p 4).takes
    where
      of : (answer : Option (List ℕ × ℕ)) → Takes array_bytes (IsArray 4) bytes p answer
          → IsAnswered u32_bytes FitsU32 bytes p
      of None takes = answered (array-none u32_bytes FitsU32 4 length-u32 bytes p takes)
      of (Some (part, next)) takes =
          let small = fits-part part p 4 next takes in
          answered (takes_as array_bytes (IsArray 4) u32_bytes FitsU32 u32-prefix_free bytes p part
          (from_be_bytes w32 part) next (omega (arith, small 0, small 1, small 2, small 3))
          (u32-of_bytes part (from_be_bytes w32 part) takes.found.0 small refl) takes)

  pub u64-answered : (p : ℕ) → IsAnswered u64_bytes FitsU64 bytes p
  u64-answered p = of (array-answered bytes p 8).answer (array-answered bytes p 8).takes
    where
      of : (answer : Option (List ℕ × ℕ)) → Takes array_bytes (IsArray 8) bytes p answer
          → IsAnswered u64_bytes FitsU64 bytes p
      of None takes = answered (array-none u64_bytes FitsU64 8 length-u64 bytes p takes)
      of (Some (part, next)) takes =
          let small = fits-part part p 8 next takes in
          answered (takes_as array_bytes (IsArray 8) u64_bytes FitsU64 u64-prefix_free bytes p part
          (from_be_bytes w64 part) next
          (omega (arith, small 0, small 1, small 2, small 3, small 4, small 5, small 6, small 7))
          (u64-of_bytes part (from_be_bytes w64 part) takes.found.0 small refl) takes)

  pub i32-answered : (p : ℕ) → IsAnswered i32_bytes FitsI32 bytes p
  i32-answered p = of (u32-answered p).answer (u32-answered p).takes
    where
      of : (answer : Option (ℕ × ℕ)) → Takes u32_bytes FitsU32 bytes p answer → IsAnswered i32_bytes FitsI32 bytes p
      of None takes = answered (takes_no u32_bytes FitsU32 i32_bytes FitsI32 bytes p i32-begins takes)
      of (Some (n, next)) takes = answered (takes_as u32_bytes FitsU32 i32_bytes FitsI32 i32-prefix_free bytes p n
          (cast_signed w32 n) next (signed-fits n takes.found.0) (i32-of_u32 n takes.found.0) takes)

  -- a count, and that number of bytes
  counted-answered : (p : ℕ) → IsAnswered counted_bytes IsCountable bytes p
  unfolding counted_bytes
  counted-answered p = of (u32-answered p).answer (u32-answered p).takes
    where
      behind : (count start : ℕ) → Takes u32_bytes FitsU32 bytes p (Some (count, start))
          → (answer : Option (List ℕ × ℕ)) → Takes array_bytes (IsArray count) bytes start answer
          → IsAnswered counted_bytes IsCountable bytes p
      behind count start takes None none =
          answered (takes_none counted_bytes IsCountable bytes p (λ (w : List ℕ) (next : ℕ) fits stands.
          let parts = taken-front u32_bytes FitsU32 bytes p count start takes (length w) w next fits stands in
          none-whole array_bytes (IsArray count) bytes start none w next (sym parts.0) parts.1))
      behind count start takes (Some (part, next)) found =
          let counted : StandsAt bytes p (u32_bytes (length part)) start =
          subst (λ (n : ℕ). StandsAt bytes p (u32_bytes n) start) (sym found.found.0) takes.found.1 in
          answered (takes_some counted_bytes IsCountable counted-prefix_free bytes p part next
          (omega (arith, takes.found.0, found.found.0))
          (stands-append bytes (u32_bytes (length part)) part p start next counted found.found.1))

      of : (answer : Option (ℕ × ℕ)) → Takes u32_bytes FitsU32 bytes p answer
          → IsAnswered counted_bytes IsCountable bytes p
      of None takes = answered (counted-no_count bytes p takes)
      of (Some (count, start)) takes =
          behind count start takes (array-answered bytes start count).answer (array-answered bytes start count).takes

  text-of : (p : ℕ) (part : List ℕ) (next : ℕ) → Takes counted_bytes IsCountable bytes p (Some (part, next))
      → (t : Bool) → is_utf8 part ≡ t → IsAnswered text_bytes IsText bytes p
  text-of p part next takes false is = answered (text-no_text bytes part p next takes
      (inl (λ utf8. false≢true (sym is ∙ is_utf8-from_IsUtf8 part utf8))))
  text-of p part next takes true is = of (IsUtf8-from_is_utf8 part is) (cases_lt most_text_bytes (length part))
    where
      of : IsUtf8 part → (most_text_bytes < length part) ⊎ (length part ≤ most_text_bytes)
          → IsAnswered text_bytes IsText bytes p
      of utf8 (inl long) = answered (text-no_text bytes part p next takes (inr long))
      of utf8 (inr short) = answered (text-found bytes part utf8.0 p next takes (record {
        spelled = utf8.1.1;
        text = record { scalars = utf8.1.0; within = omega (arith, short, ap length utf8.1.1) };
      }))

  pub text-answered : (p : ℕ) → IsAnswered text_bytes IsText bytes p
  text-answered p = of (counted-answered p).answer (counted-answered p).takes
    where
      of : (answer : Option (List ℕ × ℕ)) → Takes counted_bytes IsCountable bytes p answer
          → IsAnswered text_bytes IsText bytes p
      of None takes = answered (text-no_bytes bytes p takes)
      of (Some (part, next)) takes = text-of p part next takes (is_utf8 part) refl

  module _ (p q : ℕ) where
    int-answered : Takes u8_bytes FitsU8 bytes p (Some (1, q)) → IsAnswered atom_bytes IsAtom bytes p
    int-answered tagged = of (i32-answered q).answer (i32-answered q).takes
      where
        of : (answer : Option (ℤ × ℕ)) → Takes i32_bytes FitsI32 bytes q answer → IsAnswered atom_bytes IsAtom bytes p
        of None takes = answered (tagged-none i32_bytes FitsI32 atom_bytes IsAtom bytes p 1 q atom-int atom-spelled
            tagged takes)
        of (Some (n, next)) takes = answered (int-found bytes p q n next tagged takes)

    str-answered : Takes u8_bytes FitsU8 bytes p (Some (3, q)) → IsAnswered atom_bytes IsAtom bytes p
    str-answered tagged = of (text-answered q).answer (text-answered q).takes
      where
        of : (answer : Option (List ℕ × ℕ)) → Takes text_bytes IsText bytes q answer
            → IsAnswered atom_bytes IsAtom bytes p
        of None takes = answered (tagged-none text_bytes IsText atom_bytes IsAtom bytes p 3 q atom-str atom-spelled
            tagged takes)
        of (Some (text, next)) takes = answered (str-found bytes p q text next tagged takes)

    key-answered : Takes u8_bytes FitsU8 bytes p (Some (4, q)) → IsAnswered atom_bytes IsAtom bytes p
    key-answered tagged = of (text-answered q).answer (text-answered q).takes
      where
        of : (answer : Option (List ℕ × ℕ)) → Takes text_bytes IsText bytes q answer
            → IsAnswered atom_bytes IsAtom bytes p
        of None takes = answered (tagged-none text_bytes IsText atom_bytes IsAtom bytes p 4 q atom-key atom-spelled
            tagged takes)
        of (Some (text, next)) takes = answered (key-found bytes p q text next tagged takes)

    tag-answered : (tag : ℕ) → Takes u8_bytes FitsU8 bytes p (Some (tag, q)) → IsAnswered atom_bytes IsAtom bytes p
    tag-answered tag tagged = of (same-or-not tag 1) (same-or-not tag 3) (same-or-not tag 4)
      where
        tagged_as : (n : ℕ) → tag ≡ n → Takes u8_bytes FitsU8 bytes p (Some (n, q))
        tagged_as n same = subst (λ (t : ℕ). Takes u8_bytes FitsU8 bytes p (Some (t, q))) same tagged

        of : (tag ≡ 1) ⊎ (tag ≡ 1 → ⊥) → (tag ≡ 3) ⊎ (tag ≡ 3 → ⊥) → (tag ≡ 4) ⊎ (tag ≡ 4 → ⊥)
            → IsAnswered atom_bytes IsAtom bytes p
        of (inl same) str key = int-answered (tagged_as 1 same)
        of (inr no_int) (inl same) key = str-answered (tagged_as 3 same)
        of (inr no_int) (inr no_str) (inl same) = key-answered (tagged_as 4 same)
        of (inr no_int) (inr no_str) (inr no_key) =
            answered (atom-other_tag bytes p tag q tagged no_int no_str no_key)

  pub atom-answered : (p : ℕ) → IsAnswered atom_bytes IsAtom bytes p
  atom-answered p = of (u8-answered p).answer (u8-answered p).takes
    where
      of : (answer : Option (ℕ × ℕ)) → Takes u8_bytes FitsU8 bytes p answer → IsAnswered atom_bytes IsAtom bytes p
      of None takes = answered (atom-no_tag bytes p takes)
      of (Some (tag, q)) takes = tag-answered p q tag takes

  -- n elements more, after those so far
  more-answered : (p count n : ℕ) (atoms : List Atom) (next : ℕ) → length atoms + n ≡ count
      → IsTaking bytes p count atoms next → IsAnswered (flat_map atom_bytes) (AreAtoms count) bytes p
  more-answered p count zero atoms next left taking =
      answered (taking-all bytes p count atoms next (omega (arith, left)) taking)
  more-answered p count (suc n) atoms next left taking =
      of (λ more behind. more-answered p count n more behind) (atom-answered next).answer (atom-answered next).takes
    where
      of : ((more : List Atom) (behind : ℕ) → length more + n ≡ count → IsTaking bytes p count more behind
          → IsAnswered (flat_map atom_bytes) (AreAtoms count) bytes p)
          → (answer : Option (Atom × ℕ)) → Takes atom_bytes IsAtom bytes next answer
          → IsAnswered (flat_map atom_bytes) (AreAtoms count) bytes p
      of rest None takes = answered (taking-stops bytes p count atoms next (omega (arith, left)) taking takes)
      of rest (Some (a, behind)) takes = rest (atoms ++ a ∷ []) behind
          (omega (arith, left, length-append atoms (a ∷ [])))
          (taking-more bytes p count atoms next a behind (omega (arith, left)) taking takes)

  atoms-answered : (p count : ℕ) → p ≤ length bytes → IsAnswered (flat_map atom_bytes) (AreAtoms count) bytes p
  atoms-answered p count inside = more-answered p count count [] p (omega arith) (taking-none bytes p count inside)

  list-of : (p count start : ℕ) → Takes u32_bytes FitsU32 bytes p (Some (count, start))
      → (most_items < count) ⊎ (count ≤ most_items) → IsAnswered list_bytes AreItems bytes p
  list-of p count start takes (inl long) = answered (list-too_long bytes p count start takes long)
  list-of p count start takes (inr short) =
      let atoms = atoms-answered start count takes.found.1.within in of atoms.answer atoms.takes
    where
      of : (answer : Option (List Atom × ℕ)) → Takes (flat_map atom_bytes) (AreAtoms count) bytes start answer
          → IsAnswered list_bytes AreItems bytes p
      of None none = answered (list-no_atoms bytes p count start takes none)
      of (Some (atoms, next)) found = answered (list-found bytes p count start atoms next short takes found)

  list-answered : (p : ℕ) → IsAnswered list_bytes AreItems bytes p
  list-answered p = of (u32-answered p).answer (u32-answered p).takes
    where
      of : (answer : Option (ℕ × ℕ)) → Takes u32_bytes FitsU32 bytes p answer → IsAnswered list_bytes AreItems bytes p
      of None takes = answered (list-no_count bytes p takes)
      of (Some (count, start)) takes = list-of p count start takes (cases_lt most_items count)

  value-of : (p tag q : ℕ) → Takes u8_bytes FitsU8 bytes p (Some (tag, q)) → (tag ≡ 7) ⊎ (tag ≡ 7 → ⊥)
      → IsAnswered value_bytes IsValue bytes p
  value-of p tag q tagged (inl same) = of (list-answered q).answer (list-answered q).takes
    where
      seven : Takes u8_bytes FitsU8 bytes p (Some (7, q))
      seven = subst (λ (t : ℕ). Takes u8_bytes FitsU8 bytes p (Some (t, q))) same tagged

      of : (answer : Option (List Atom × ℕ)) → Takes list_bytes AreItems bytes q answer
          → IsAnswered value_bytes IsValue bytes p
      of None none = answered (value-list_none bytes p q seven none)
      of (Some (atoms, next)) found = answered (value-list_found bytes p q atoms next seven found)
  value-of p tag q tagged (inr other) = of (atom-answered p).answer (atom-answered p).takes
    where
      of : (answer : Option (Atom × ℕ)) → Takes atom_bytes IsAtom bytes p answer
          → IsAnswered value_bytes IsValue bytes p
      of None none = answered (value-atom_none bytes p tag q tagged other none)
      of (Some (a, next)) found = answered (value-atom_found bytes p a next found)

  pub value-answered : (p : ℕ) → IsAnswered value_bytes IsValue bytes p
  value-answered p = of (u8-answered p).answer (u8-answered p).takes
    where
      of : (answer : Option (ℕ × ℕ)) → Takes u8_bytes FitsU8 bytes p answer → IsAnswered value_bytes IsValue bytes p
      of None takes = answered (value-no_tag bytes p takes)
      of (Some (tag, q)) takes = value-of p tag q takes (same-or-not tag 7)
