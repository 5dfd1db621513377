-- Bytes that spell characters, and parts of characters.
use Rattle.std.proofs.Common.{◌≡◌, ◌∙◌, ℕ, true, List, [], ◌∷◌, ◌++◌, sym, ap, refl}
use Rattle.std.specs.Str.{encode_utf8_all, all_scalars, chars, IsUtf8}
use Rattle.std.proofs.lemmas.Bool.{and_parts, and_from}
use Rattle.std.proofs.lemmas.Str.{chars-encodes}

pub scalars-front : (a b : List ℕ) → all_scalars (a ++ b) ≡ true → all_scalars a ≡ true
scalars-front [] b whole = refl
scalars-front (c ∷ cs) b whole =
    let both = and_parts _ (all_scalars (cs ++ b)) whole in
    and_from _ _ both.0 (scalars-front cs b both.1)

pub IsUtf8-spelled : (bytes cs : List ℕ) → bytes ≡ encode_utf8_all cs → all_scalars cs ≡ true → IsUtf8 bytes
IsUtf8-spelled bytes cs same scalars = (cs, (scalars, sym same))

pub chars-spelled : (bytes cs : List ℕ) → bytes ≡ encode_utf8_all cs → all_scalars cs ≡ true → chars bytes ≡ cs
chars-spelled bytes cs same scalars = ap chars same ∙ chars-encodes cs scalars
