-- What is at a place of bytes, and the named size.
use Rattle.std.proofs.Common.{◌≡◌, ◌∙◌, sym, ap, subst, inl, inr, arith, ℕ, ◌+◌, ◌<◌, ◌≤◌, ◌^◌, List, [], ◌++◌, length, get_or, take, drop, Result, Err, w64}
use Rattle.std.proofs.lemmas.List.{append-nil, drop_all, length-drop, length-take, take-append-drop, drop-drop}
use Rattle.std.proofs.lemmas.Result.{err_from_is_err_and}
use Rattle.std.specs.Int.{from_be_bytes}
use Rattle.std.specs.Prelude.{MatchResult}
use Rattle.std.specs.Result.{IsErrAnd}
use Rattle.lsl_text.specs.declared.Refusal.{Refusal}
use Rattle.lsl_text.specs.declared.Refusal.TheVariants.{Fault, NoMemory}
use Rattle.lsl_bytes.specs.Fields.{u64_bytes}
use Rattle.lsl_bytes.specs.Places.{StandsAt}
use Rattle.lsl_bytes.proofs.NumberLemmas.{u64-of_bytes}
use Rattle.lsl_bytes.proofs.PlaceLemmas.{part-fits}
use Rattle.lsl_image.specs.declared.faults.ImageFault.{ImageFault}
use Rattle.lsl_image.specs.Images.{NamesSize}
use Rattle.lsl_image.specs.Layout.{Bytes, field}
use Rattle.lsl_image.specs.Reading.{Gives, IsRefusedBy, Reads}
use Rattle.lsl_image.proofs.FieldLemmas.{field-stands}

-- n bytes are there where at least n are left
pub length-part : (bytes : List ℕ) (p n : ℕ) → p + n ≤ length bytes → length (take n (drop p bytes)) ≡ n
length-part bytes p n enough = omega (arith, length-take n (drop p bytes), length-drop p bytes)

pub bytes-stand : (bytes : List ℕ) (p n : ℕ) → p + n ≤ length bytes
    → StandsAt bytes p (take n (drop p bytes)) (p + n)
bytes-stand bytes p n enough = record {
  parts = sym (take-append-drop n (drop p bytes))
      ∙ ap (λ (t : List ℕ). take n (drop p bytes) ++ t) (drop-drop n p bytes);
  behind = omega (arith, length-part bytes p n enough);
  within = omega arith;
}

bytes-refused : (bytes : List ℕ) (p n : ℕ) (First : ImageFault → Type 0) → p + n ≤ length bytes
    → (e : Refusal ImageFault) → Reads bytes (field (Bytes n)) p (Err e) → IsRefusedBy First e
unfolding field
bytes-refused bytes p n First enough (Fault fault) (inl h) =
    absurd (h.0 (take n (drop p bytes)) (p + n) (length-part bytes p n enough, bytes-stand bytes p n enough))
bytes-refused bytes p n First enough (Fault fault) (inr h) = absurd h.3
bytes-refused bytes p n First enough NoMemory h = tt

-- the answer is this refusal
pub refused-so : {A : Type 0} (P : A → Type 0) (Q : Refusal ImageFault → Type 0) (e : Refusal ImageFault)
    (r : Result A (Refusal ImageFault)) → Q e → IsErrAnd r (λ y. y ≡ e) → MatchResult r P Q
refused-so P Q e r h exit =
    let same = err_from_is_err_and r exit in
    rw (same.1, same.2) h

-- n bytes can be read where at least n are left
pub bytes-there : {A : Type 0} (P : A → Type 0) (First : ImageFault → Type 0) (bytes : List ℕ) (p n : ℕ)
    (e : Refusal ImageFault) (r : Result A (Refusal ImageFault)) → p + n ≤ length bytes
    → Reads bytes (field (Bytes n)) p (Err e) → IsErrAnd r (λ y. y ≡ e) → MatchResult r P (IsRefusedBy First)
bytes-there P First bytes p n e r enough h exit =
    refused-so P (IsRefusedBy First) e r (bytes-refused bytes p n First enough e h) exit

-- the size that is read is the one that is named
pub size-named : (bytes size : List ℕ) (n next : ℕ) → ((i : ℕ) → get_or bytes i 0 < 256) → n < 2 ^ 64
    → n ≡ from_be_bytes w64 size → Gives bytes (field (Bytes 8)) 6 size next → NamesSize bytes n
size-named bytes size n next fits small is given =
    let stands = field-stands bytes (Bytes 8) 6 size next given in
    let same : size ≡ u64_bytes n = u64-of_bytes size n stands.0 (part-fits bytes size 6 next stands.1 fits) is in
    let place : next ≡ 14 = omega (arith, stands.1.behind, stands.0) in (
      small,
      subst (λ (q : ℕ). StandsAt bytes 6 (u64_bytes n) q) place
          (subst (λ (part : List ℕ). StandsAt bytes 6 part next) same stands.1),
    )

-- the last bytes
pub last-are : (bytes last : List ℕ) (end n next : ℕ) → end + n ≡ length bytes
    → Gives bytes (field (Bytes n)) end last next → last ≡ drop end bytes
last-are bytes last end n next all given =
    let stands = field-stands bytes (Bytes n) end last next given in
    let nothing : drop next bytes ≡ [] = drop_all next bytes (omega (arith, stands.1.behind, stands.0)) in
    sym (stands.1.parts ∙ ap (λ (t : List ℕ). last ++ t) nothing ∙ append-nil last)
