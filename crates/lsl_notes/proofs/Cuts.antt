-- Texts that are cut.
use Rattle.std.proofs.Common.{◌≡◌, ℕ, ◌+◌, ◌-◌, ◌≤◌, Bool, true, false, List, [], ◌∷◌, length, refl, ap, sym, ◌∙◌, arith, length-append}
use Rattle.std.specs.Prelude.{nat_le, if◌then◌else◌}
use Rattle.std.specs.Char.{encode_utf8}
use Rattle.std.specs.Str.{encode_utf8_all}
use Rattle.std.proofs.lemmas.Bool.{leb-true, le-leb}
use Rattle.std.proofs.lemmas.Bool.{false≢true}
use Rattle.lsl_notes.specs.Cutting.{cut_to}

-- the bytes of a text's first character, and of the others
first_bytes : (c : ℕ) (text : List ℕ)
    → length (encode_utf8_all (c ∷ text)) ≡ length (encode_utf8 c) + length (encode_utf8_all text)
first_bytes c text = length-append (encode_utf8 c) (encode_utf8_all text)

pub cut_short : (room : ℕ) (text : List ℕ) → length (encode_utf8_all (cut_to room text)) ≤ room
unfolding cut_to
cut_short room [] = omega arith
cut_short room (c ∷ text) =
    go (nat_le (length (encode_utf8 c)) room) refl (cut_short (room - length (encode_utf8 c)) text) where
      left : List ℕ
      left = cut_to (room - length (encode_utf8 c)) text

      go : (b : Bool) → nat_le (length (encode_utf8 c)) room ≡ b
          → length (encode_utf8_all left) ≤ room - length (encode_utf8 c)
          → length (encode_utf8_all (if b then c ∷ left else [])) ≤ room
      go true e short = omega (arith, leb-true (length (encode_utf8 c)) room e, short, first_bytes c left)
      go false e short = omega arith

pub cut_whole : (room : ℕ) (text : List ℕ) → length (encode_utf8_all text) ≤ room → cut_to room text ≡ text
unfolding cut_to
cut_whole room [] short = refl
cut_whole room (c ∷ text) short =
    go (nat_le (length (encode_utf8 c)) room) refl
    (cut_whole (room - length (encode_utf8 c)) text (omega (arith, first_bytes c text, short))) where
      fits : length (encode_utf8 c) ≤ room
      fits = omega (arith, first_bytes c text, short)

      go : (b : Bool) → nat_le (length (encode_utf8 c)) room ≡ b
          → cut_to (room - length (encode_utf8 c)) text ≡ text
          → (if b then c ∷ cut_to (room - length (encode_utf8 c)) text else []) ≡ c ∷ text
      go true e same = ap (λ z. c ∷ z) same
      go false e same = absurd (false≢true (sym e ∙ le-leb (length (encode_utf8 c)) room fits))
