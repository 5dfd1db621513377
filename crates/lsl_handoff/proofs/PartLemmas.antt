-- Fields of bytes at their places.
use Rattle.std.proofs.Common.{◌≡◌, ◌∙◌, refl, sym, ap, subst, arith, ℕ, ◌+◌, ◌<◌, ◌≤◌, ◌^◌, List, ◌∷◌, ◌++◌, length, take, drop, get_or, inl, inr, ◌⊎◌}
use Rattle.std.specs.Int.{w16, w32, w64, from_be_bytes}
use Rattle.std.proofs.lemmas.Bool.{cases_lt}
use Rattle.std.proofs.lemmas.List.{drop-drop, drop_at, get_or-drop, get_or-take, get_or_past, length-append, length-drop, length-take, take-append-drop, take_at}
use Rattle.std.proofs.lemmas.Nat.{from_be_bytes-to_be_bytes_2, from_be_bytes-to_be_bytes_4, from_be_bytes-to_be_bytes_8}
use Rattle.lsl_bytes.specs.Fields.{u8_bytes, u16_bytes, u32_bytes, u64_bytes}
use Rattle.lsl_bytes.proofs.NumberLemmas.{u8-of_bytes, u16-of_bytes, u32-of_bytes, u64-of_bytes}
use Rattle.lsl_handoff.specs.NoteFaults.{part_at, u16_at, u32_at, u64_at}

pub u16-again : (n : ℕ) → n < 2 ^ 16 → from_be_bytes w16 (u16_bytes n) ≡ n
unfolding u16_bytes
u16-again n small = from_be_bytes-to_be_bytes_2 n small

pub u32-again : (n : ℕ) → n < 2 ^ 32 → from_be_bytes w32 (u32_bytes n) ≡ n
unfolding u32_bytes
u32-again n small = from_be_bytes-to_be_bytes_4 n small

pub u64-again : (n : ℕ) → n < 2 ^ 64 → from_be_bytes w64 (u64_bytes n) ≡ n
unfolding u64_bytes
u64-again n small = from_be_bytes-to_be_bytes_8 n small

-- what is at a place, if the bytes from there on are known
pub record IsCut (bytes : List ℕ) (place n : ℕ) (part rest : List ℕ) : Type 0 where
  pub part_is : part_at bytes place n ≡ part
  pub rest_is : drop (place + n) bytes ≡ rest
  pub long : length (drop place bytes) ≡ n + length (drop (place + n) bytes)

pub cut : (bytes part rest : List ℕ) (place n : ℕ) → drop place bytes ≡ part ++ rest → length part ≡ n
    → IsCut bytes place n part rest
cut bytes part rest place n is long =
    let behind : drop (place + n) bytes ≡ rest =
    sym (drop-drop n place bytes) ∙ ap (drop n) is ∙ drop_at part rest n long in
    record {
      part_is = ap (take n) is ∙ take_at part rest n long;
      rest_is = behind;
      long = ap length is ∙ length-append part rest ∙ omega (arith, long, ap length behind);
    }

-- the bytes from a place on are those of a part and those after it
pub joined : (bytes : List ℕ) (place n : ℕ) → drop place bytes ≡ part_at bytes place n ++ drop (place + n) bytes
joined bytes place n = sym (take-append-drop n (drop place bytes))
    ∙ ap (λ (t : List ℕ). take n (drop place bytes) ++ t) (drop-drop n place bytes)

pub glue : (bytes part rest : List ℕ) (place n : ℕ) → part_at bytes place n ≡ part → drop (place + n) bytes ≡ rest
    → drop place bytes ≡ part ++ rest
glue bytes part rest place n is behind = joined bytes place n
    ∙ ap (λ (t : List ℕ). t ++ drop (place + n) bytes) is ∙ ap (λ (t : List ℕ). part ++ t) behind

pub length-part : (bytes : List ℕ) (place n : ℕ) → place + n ≤ length bytes → length (part_at bytes place n) ≡ n
length-part bytes place n enough = omega (arith, length-take n (drop place bytes), length-drop place bytes)

-- a byte of a byte list is read as one
pub byte-at : (bytes : List ℕ) (place b : ℕ) (rest : List ℕ) → drop place bytes ≡ b ∷ rest → get_or bytes place 0 ≡ b
byte-at bytes place b rest is =
    let e : get_or bytes (place + 0) 0 ≡ b = sym (get_or-drop place bytes 0 0) ∙ ap (λ (t : List ℕ). get_or t 0 0) is in
    let same : place + 0 ≡ place = omega arith in
    subst (λ (n : ℕ). get_or bytes n 0 ≡ b) same e

module _ (bytes : List ℕ) (small : (i : ℕ) → get_or bytes i 0 < 256) where
  pub part-small : (place n i : ℕ) → get_or (part_at bytes place n) i 0 < 256
  part-small place n i = by-place (cases_lt i n)
    where
      by-place : (i < n) ⊎ (n ≤ i) → get_or (take n (drop place bytes)) i 0 < 256
      by-place (inl within) = subst (λ (b : ℕ). b < 256)
          (sym (get_or-take n (drop place bytes) i 0 within ∙ get_or-drop place bytes i 0)) (small (place + i))
      by-place (inr past) = subst (λ (b : ℕ). b < 256)
          (sym (get_or_past (take n (drop place bytes)) i 0 (omega (arith, length-take n (drop place bytes), past))))
          (omega arith)

  module _ (place : ℕ) where
    pub byte-part : place + 1 ≤ length bytes → part_at bytes place 1 ≡ u8_bytes (get_or bytes place 0)
    byte-part enough =
        let e : get_or (part_at bytes place 1) 0 0 ≡ get_or bytes (place + 0) 0 =
        get_or-take 1 (drop place bytes) 0 0 (omega arith) ∙ get_or-drop place bytes 0 0 in
        let same : place + 0 ≡ place = omega arith in
        u8-of_bytes (part_at bytes place 1) (length-part bytes place 1 enough)
        ∙ ap u8_bytes (e ∙ ap (λ (n : ℕ). get_or bytes n 0) same)

    pub u16-part : place + 2 ≤ length bytes → part_at bytes place 2 ≡ u16_bytes (u16_at bytes place)
    u16-part enough = u16-of_bytes (part_at bytes place 2) (u16_at bytes place) (length-part bytes place 2 enough)
        (part-small place 2) refl

    pub u32-part : place + 4 ≤ length bytes → part_at bytes place 4 ≡ u32_bytes (u32_at bytes place)
    u32-part enough = u32-of_bytes (part_at bytes place 4) (u32_at bytes place) (length-part bytes place 4 enough)
        (part-small place 4) refl

    pub u64-part : place + 8 ≤ length bytes → part_at bytes place 8 ≡ u64_bytes (u64_at bytes place)
    u64-part enough = u64-of_bytes (part_at bytes place 8) (u64_at bytes place) (length-part bytes place 8 enough)
        (part-small place 8) refl

    pub u64-small : u64_at bytes place < 2 ^ 64
    u64-small =
        let part = part_at bytes place 8 in
        omega (
          arith,
          part-small place 8 0,
          part-small place 8 1,
          part-small place 8 2,
          part-small place 8 3,
          part-small place 8 4,
          part-small place 8 5,
          part-small place 8 6,
          part-small place 8 7,
        )
