-- Numbers: their bytes are as many as their width says, and are those of one number.
use Rattle.std.proofs.Common.{◌≡◌, ◌∙◌, sym, ap, refl, ℕ, ℤ, ◌<◌, ◌^◌, arith, List, [], ◌∷◌, ◌++◌, length, get_or, None}
use Rattle.std.specs.Int.{w16, w32, w64, from_be_bytes, cast_unsigned, cast_signed}
use Rattle.std.proofs.lemmas.List.{append-nil}
use Rattle.std.proofs.Math.Facts.{sfits_to_z}
use Rattle.std.proofs.lemmas.Int.{ints, to_z-of_z, of_z-to_z}
use Rattle.std.proofs.lemmas.Nat.{be_bytes_2, be_bytes_4, be_bytes_8, from_be_bytes-to_be_bytes_2, from_be_bytes-to_be_bytes_4, from_be_bytes-to_be_bytes_8}
use Rattle.lsl_bytes.specs.Fields.{u8_bytes, u16_bytes, u32_bytes, u64_bytes, i32_bytes, FitsU8, FitsU16, FitsU32, FitsU64, FitsI32}
use Rattle.lsl_bytes.specs.Laws.{IsPrefixFree}
use Rattle.lsl_bytes.specs.Places.{Takes}
use Rattle.lsl_bytes.proofs.PlaceLemmas.{same-fronts, takes_no}

-- forms of one length from which the value is read back
fixed-prefix_free : {V : Type 0} (form : V → List ℕ) (Fits : V → Type 0) (n : ℕ) (back : List ℕ → V)
    → ((v : V) → length (form v) ≡ n) → ((v : V) → Fits v → back (form v) ≡ v) → IsPrefixFree form Fits
fixed-prefix_free {V} form Fits n back long again v w a b fits_v fits_w same =
    let parts = same-fronts n (form v) (form w) a b (long v) (long w) same in
    (sym (again v fits_v) ∙ ap back parts.0 ∙ again w fits_w, parts.1)

pub length-u8 : (n : ℕ) → length (u8_bytes n) ≡ 1
unfolding u8_bytes
length-u8 n = refl

pub length-u16 : (n : ℕ) → length (u16_bytes n) ≡ 2
unfolding u16_bytes
length-u16 n = refl

pub length-u32 : (n : ℕ) → length (u32_bytes n) ≡ 4
unfolding u32_bytes
length-u32 n = refl

pub length-u64 : (n : ℕ) → length (u64_bytes n) ≡ 8
unfolding u64_bytes
length-u64 n = refl

pub length-i32 : (n : ℤ) → length (i32_bytes n) ≡ 4
unfolding i32_bytes
length-i32 n = length-u32 (cast_unsigned w32 n)

-- what is read of bytes has these bytes
pub u8-of_bytes : (bytes : List ℕ) → length bytes ≡ 1 → bytes ≡ u8_bytes (get_or bytes 0 0)
unfolding u8_bytes
u8-of_bytes [] long = absurd (omega arith)
u8-of_bytes (b ∷ []) long = refl
u8-of_bytes (b ∷ c ∷ bytes) long = absurd (omega arith)

pub u16-of_bytes : (bytes : List ℕ) (n : ℕ) → length bytes ≡ 2 → ((i : ℕ) → get_or bytes i 0 < 256)
    → n ≡ from_be_bytes w16 bytes → bytes ≡ u16_bytes n
unfolding u16_bytes
u16-of_bytes bytes n long fits is = sym (be_bytes_2 bytes n long fits is)

pub u32-of_bytes : (bytes : List ℕ) (n : ℕ) → length bytes ≡ 4 → ((i : ℕ) → get_or bytes i 0 < 256)
    → n ≡ from_be_bytes w32 bytes → bytes ≡ u32_bytes n
unfolding u32_bytes
u32-of_bytes bytes n long fits is = sym (be_bytes_4 bytes n long fits is)

pub u64-of_bytes : (bytes : List ℕ) (n : ℕ) → length bytes ≡ 8 → ((i : ℕ) → get_or bytes i 0 < 256)
    → n ≡ from_be_bytes w64 bytes → bytes ≡ u64_bytes n
unfolding u64_bytes
u64-of_bytes bytes n long fits is = sym (be_bytes_8 bytes n long fits is)

pub i32-of_u32 : (n : ℕ) → FitsU32 n → u32_bytes n ≡ i32_bytes (cast_signed w32 n)
unfolding i32_bytes
i32-of_u32 n fits = ap u32_bytes (sym (of_z-to_z w32 n fits))

cast-fits : (n : ℤ) → FitsI32 n → cast_unsigned w32 n < 2 ^ 32
cast-fits n fits = omega (arith, ints)

pub i32-begins : (n : ℤ) → FitsI32 n → (m : ℕ) × FitsU32 m × (rest : List ℕ) × (i32_bytes n ≡ u32_bytes m ++ rest)
unfolding i32_bytes
i32-begins n fits = (cast_unsigned w32 n, cast-fits n fits, [], sym (append-nil (u32_bytes (cast_unsigned w32 n))))

-- no number's bytes begin another's
pub u8-prefix_free : IsPrefixFree u8_bytes FitsU8
unfolding u8_bytes
u8-prefix_free = fixed-prefix_free u8_bytes FitsU8 1 (λ bytes. get_or bytes 0 0) length-u8 (λ n fits. refl)

pub u16-prefix_free : IsPrefixFree u16_bytes FitsU16
unfolding u16_bytes
u16-prefix_free = fixed-prefix_free u16_bytes FitsU16 2 (from_be_bytes w16) length-u16
    (λ n fits. from_be_bytes-to_be_bytes_2 n fits)

pub u32-prefix_free : IsPrefixFree u32_bytes FitsU32
unfolding u32_bytes
u32-prefix_free = fixed-prefix_free u32_bytes FitsU32 4 (from_be_bytes w32) length-u32
    (λ n fits. from_be_bytes-to_be_bytes_4 n fits)

pub u64-prefix_free : IsPrefixFree u64_bytes FitsU64
unfolding u64_bytes
u64-prefix_free = fixed-prefix_free u64_bytes FitsU64 8 (from_be_bytes w64) length-u64
    (λ n fits. from_be_bytes-to_be_bytes_8 n fits)

pub i32-prefix_free : IsPrefixFree i32_bytes FitsI32
unfolding i32_bytes
i32-prefix_free v w a b fits_v fits_w same =
    let parts = u32-prefix_free (cast_unsigned w32 v) (cast_unsigned w32 w) a b (cast-fits v fits_v)
    (cast-fits w fits_w) same in
    (sym (to_z-of_z w32 v fits_v) ∙ ap (cast_signed w32) parts.0 ∙ to_z-of_z w32 w fits_w, parts.1)

-- bytes as they are
abbrev pub array_bytes : List ℕ → List ℕ
array_bytes part = part

abbrev pub IsArray : ℕ → List ℕ → Type 0
IsArray n part = length part ≡ n

-- where fewer bytes are left, no number of that many bytes is there
pub array-none : {V : Type 0} (form : V → List ℕ) (Fits : V → Type 0) (n : ℕ) → ((v : V) → length (form v) ≡ n)
    → (bytes : List ℕ) (p : ℕ)
    → Takes array_bytes (IsArray n) bytes p None → Takes form Fits bytes p None
array-none form Fits n long bytes p takes =
    takes_no array_bytes (IsArray n) form Fits bytes p (λ v fits. (form v, long v, [], sym (append-nil (form v)))) takes

pub signed-fits : (n : ℕ) → FitsU32 n → FitsI32 (cast_signed w32 n)
signed-fits n fits = sfits_to_z (record { fits = fits })
