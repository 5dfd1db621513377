-- A text that is cut is the longest prefix that fits.
use Rattle.std.proofs.Common.{◌≡◌, ℕ, ◌-◌, ◌≤◌, Bool, List, [], ◌∷◌, ◌++◌, length, refl, ap, ◌∙◌, arith, length-append}
use Rattle.std.specs.Prelude.{if◌then◌else◌}
use Rattle.std.specs.Char.{encode_utf8}
use Rattle.std.specs.Str.{encode_utf8_all}
use Rattle.std.proofs.lemmas.Bool.{le-leb}
use Rattle.lsl_region.specs.CutLaws.{IsLongest}
use Rattle.lsl_region.specs.Texts.{cut_to}
use Rattle.lsl_region.proofs.CutBytes.{behind_cut}
use Rattle.lsl_region.proofs.Cuts.{cut_short}

-- a prefix that fits is a prefix of what is kept
cut_more : (room : ℕ) (first rest : List ℕ) → length (encode_utf8_all first) ≤ room
    → (more : List ℕ) × (cut_to room (first ++ rest) ≡ first ++ more)
unfolding cut_to
cut_more room [] rest fits = (cut_to room rest, refl)
cut_more room (c ∷ first) rest fits =
    let e = length-append (encode_utf8 c) (encode_utf8_all first) in
    let one : length (encode_utf8 c) ≤ room = omega (arith, e, fits) in
    let k = cut_more (room - length (encode_utf8 c)) first rest (omega (arith, e, fits)) in (
      k.0,
      ap (λ (b : Bool). if b then c ∷ cut_to (room - length (encode_utf8 c)) (first ++ rest) else [])
          (le-leb (length (encode_utf8 c)) room one)
          ∙ ap (λ z. c ∷ z) k.1,
    )

pub cut_longest : (room : ℕ) (text : List ℕ) → IsLongest room text (cut_to room text)
cut_longest room text = record {
  begins = behind_cut room text;
  fits = cut_short room text;
  longest = λ first rest e fits.
      let k = cut_more room first rest fits in
      (k.0, ap (cut_to room) e ∙ k.1);
}
