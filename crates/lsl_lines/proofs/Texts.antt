-- Bytes that are a text, and bytes that aren't.
use Rattle.std.proofs.Common.{◌≡◌, ℕ, ◌<◌, ◌≤◌, Bool, true, false, List, length, Ok, Err, refl, sym, subst, ⊎_elim, ◌&&◌}
use Rattle.std.proofs.lemmas.Bool.{le-leb, lt-leb}
use Rattle.std.proofs.lemmas.Str.{chars_from_encodes, is_utf8-from_IsUtf8, IsUtf8-from_is_utf8}
use Rattle.std.specs.Prelude.{nat_le}
use Rattle.std.specs.Str.{IsUtf8, chars, is_utf8}
use Rattle.lsl_value.specs.Limits.{most_text_bytes}
use Rattle.lsl_value.specs.Text.{IsTextOf, IsNoText}
use Rattle.lsl_lines.specs.Checks.{fault_unless}
use Rattle.lsl_lines.specs.Words.{text_of}
use Rattle.lsl_lines.specs.declared.faults.FileKind.TheVariants.{BadLine}

pub text_of-text : (bytes text : List ℕ) → IsTextOf bytes text → text_of bytes ≡ Ok text
text_of-text bytes text h =
    let u : IsUtf8 bytes = (text, (h.text.scalars, h.spelled)) in
    let within : length bytes ≤ most_text_bytes =
    subst (λ (l : List ℕ). length l ≤ most_text_bytes) h.spelled h.text.within in
    let e : is_utf8 bytes ≡ true = is_utf8-from_IsUtf8 bytes u in
    let f : nat_le (length bytes) most_text_bytes ≡ true = le-leb (length bytes) most_text_bytes within in
    let g : chars bytes ≡ text = sym (chars_from_encodes text bytes u h.spelled) in
    rw (e, f, g) refl

pub not_utf8 : (bytes : List ℕ) → (IsUtf8 bytes → ⊥) → is_utf8 bytes ≡ false
not_utf8 bytes no_text = none (is_utf8 bytes) (λ e. no_text (IsUtf8-from_is_utf8 bytes e))
  where
    none : (b : Bool) → (b ≡ true → ⊥) → b ≡ false
    none true h = absurd (h refl)
    none false h = refl

pub text_of-no_text : (bytes : List ℕ) → IsNoText bytes → text_of bytes ≡ Err BadLine
text_of-no_text bytes h = ⊎_elim invalid long h
  where
    invalid : (IsUtf8 bytes → ⊥) → text_of bytes ≡ Err BadLine
    invalid no_text = rw (not_utf8 bytes no_text) refl

    both : (a b : Bool) → b ≡ false → fault_unless (a && b) BadLine (Ok (chars bytes)) ≡ Err BadLine
    both true false h = refl
    both true true h = absurd (cc)
    both false b h = refl

    long : most_text_bytes < length bytes → text_of bytes ≡ Err BadLine
    long lt = both (is_utf8 bytes) (nat_le (length bytes) most_text_bytes) (lt-leb (length bytes) most_text_bytes lt)
