-- Texts that are cut, and their bytes.
use Rattle.std.proofs.Common.{◌≡◌, ℕ, ◌+◌, ◌-◌, ◌<◌, ◌≤◌, Bool, true, false, List, [], ◌∷◌, ◌++◌, length, take, drop, get_or, refl, sym, ap, ap₂, ◌∙◌, inl, inr, subst, arith, length-append}
use Rattle.std.specs.Prelude.{nat_le, if◌then◌else◌}
use Rattle.std.specs.Char.{len_utf8, encode_utf8}
use Rattle.std.specs.Str.{encode_utf8_all, all_scalars, chars, IsUtf8}
use Rattle.std.proofs.lemmas.Bool.Decides.{nat_tests}
use Rattle.std.proofs.lemmas.List.{drop_all, drop_more}
use Rattle.std.proofs.lemmas.Str.{chars-encodes, encodes-append, encodes-chars, length-encode}
use Rattle.lsl_notes.proofs.Spelled.{scalars-front, IsUtf8-spelled, chars-spelled}
use Rattle.lsl_value.specs.Text.{IsNoText, IsTextOf}
use Rattle.lsl_notes.specs.Cutting.{cut_to}
use Rattle.lsl_notes.proofs.Cuts.{cut_short}

-- what follows what is kept
pub behind_cut : (room : ℕ) (text : List ℕ) → (rest : List ℕ) × (text ≡ cut_to room text ++ rest)
unfolding cut_to
behind_cut room [] = ([], refl)
behind_cut room (c ∷ text) =
    by_room (nat_le (length (encode_utf8 c)) room) (behind_cut (room - length (encode_utf8 c)) text) where
      by_room : (b : Bool) → (rest : List ℕ) × (text ≡ cut_to (room - length (encode_utf8 c)) text ++ rest)
          → (rest : List ℕ)
          × (c ∷ text ≡ (if b then c ∷ cut_to (room - length (encode_utf8 c)) text else []) ++ rest)
      by_room true r = (r.0, ap (λ t. c ∷ t) r.1)
      by_room false r = (c ∷ text, refl)

take-front : (a b : List ℕ) → take (length a) (a ++ b) ≡ a
take-front [] b = refl
take-front (x ∷ a) b = ap (λ t. x ∷ t) (take-front a b)

-- its bytes are the first ones of the text
cut_bytes : (room : ℕ) (text : List ℕ)
    → take (length (encode_utf8_all (cut_to room text))) (encode_utf8_all text)
    ≡ encode_utf8_all (cut_to room text)
cut_bytes room text =
    let r = behind_cut room text in
    ap (λ t. take (length (encode_utf8_all (cut_to room text))) (encode_utf8_all t)) r.1
    ∙ ap (take (length (encode_utf8_all (cut_to room text)))) (encodes-append (cut_to room text) r.0)
    ∙ take-front (encode_utf8_all (cut_to room text)) (encode_utf8_all r.0)

cut_within : (room : ℕ) (text : List ℕ)
    → length (encode_utf8_all (cut_to room text)) ≤ length (encode_utf8_all text)
cut_within room text =
    let r = behind_cut room text in
    let e = ap (λ t. length (encode_utf8_all t)) r.1 ∙ ap length (encodes-append (cut_to room text) r.0) in
    omega (arith, e, length-append (encode_utf8_all (cut_to room text)) (encode_utf8_all r.0))

cut_more : (room c : ℕ) (rest : List ℕ) → length (encode_utf8 c) ≤ room
    → cut_to room (c ∷ rest) ≡ c ∷ cut_to (room - length (encode_utf8 c)) rest
unfolding cut_to
cut_more room c rest le =
    let yes : nat_le (length (encode_utf8 c)) room ≡ true = grind (arith, nat_tests) in
    ap (λ b. if b then c ∷ cut_to (room - length (encode_utf8 c)) rest else []) yes

cut_stop : (room c : ℕ) (rest : List ℕ) → room < length (encode_utf8 c) → cut_to room (c ∷ rest) ≡ []
unfolding cut_to
cut_stop room c rest lt =
    let no : nat_le (length (encode_utf8 c)) room ≡ false = grind (arith, nat_tests) in
    ap (λ b. if b then c ∷ cut_to (room - length (encode_utf8 c)) rest else []) no

cut_none : (room : ℕ) → cut_to room [] ≡ []
unfolding cut_to
cut_none room = refl

at_place : (text : List ℕ) (n c : ℕ) → (n < length text) × (c ≡ get_or text n c)
    → drop n text ≡ c ∷ drop (n + 1) text
at_place text n c h = drop_more text n c h.0 ∙ ap (λ x. x ∷ drop (n + 1) text) (sym h.1)

-- one character more is kept
pub cut_turn : (most : ℕ) (text : List ℕ) (n m c len used total : ℕ)
    → (n < length text) × (c ≡ get_or text n c)
    → m ≡ n + 1 → len ≡ len_utf8 c → used + len ≤ most
    → used + length (encode_utf8_all (cut_to (most - used) (drop n text))) ≡ total
    → used + len + length (encode_utf8_all (cut_to (most - (used + len)) (drop m text))) ≡ total
cut_turn most text n m c len used total h next size fits was =
    let rest = drop (n + 1) text in
    let same : length (encode_utf8 c) ≡ len = length-encode c ∙ sym size in
    let room : most - used - length (encode_utf8 c) ≡ most - (used + len) = omega (arith, same) in
    let kept : cut_to (most - used) (drop n text) ≡ c ∷ cut_to (most - (used + len)) (drop m text) =
    ap (cut_to (most - used)) (at_place text n c h) ∙ cut_more (most - used) c rest (omega (arith, same))
    ∙ ap₂ (λ r k. c ∷ cut_to r (drop k text)) room (sym next) in
    let more = cut_to (most - (used + len)) (drop m text) in
    let both : length (encode_utf8_all (cut_to (most - used) (drop n text)))
    ≡ length (encode_utf8 c) + length (encode_utf8_all more) =
    ap (λ t. length (encode_utf8_all t)) kept ∙ length-append (encode_utf8 c) (encode_utf8_all more) in
    omega (arith, both, same, was)

-- no character more has room
pub cut_end : (most : ℕ) (text : List ℕ) (n c len used total : ℕ)
    → (n < length text) × (c ≡ get_or text n c)
    → len ≡ len_utf8 c → used ≤ most → most < used + len
    → used + length (encode_utf8_all (cut_to (most - used) (drop n text))) ≡ total → used ≡ total
cut_end most text n c len used total h size within over was =
    let same : length (encode_utf8 c) ≡ len = length-encode c ∙ sym size in
    let kept : cut_to (most - used) (drop n text) ≡ [] =
    ap (cut_to (most - used)) (at_place text n c h)
    ∙ cut_stop (most - used) c (drop (n + 1) text) (omega (arith, same)) in
    omega (arith, ap (λ t. length (encode_utf8_all t)) kept, was)

-- every character was kept
pub cut_all : (most : ℕ) (text : List ℕ) (n used total : ℕ) → length text ≤ n
    → used + length (encode_utf8_all (cut_to (most - used) (drop n text))) ≡ total → used ≡ total
cut_all most text n used total all was =
    let none : cut_to (most - used) (drop n text) ≡ []
    = ap (cut_to (most - used)) (drop_all n text all) ∙ cut_none (most - used) in
    omega (arith, ap (λ t. length (encode_utf8_all t)) none, was)

-- as many bytes as are kept are there
pub within_text : (room : ℕ) (text : List ℕ) (n : ℕ) → IsUtf8 text
    → n ≡ length (encode_utf8_all (cut_to room (chars text))) → n ≤ length text
within_text room text n valid e =
    omega (arith, e, cut_within room (chars text), ap length (encodes-chars text valid))

-- the first bytes are those of the text that is cut
pub cut_is : (room : ℕ) (text spelled bytes out : List ℕ) (n : ℕ) → spelled ≡ encode_utf8_all text
    → all_scalars text ≡ true → bytes ≡ encode_utf8_all text
    → n ≡ length (encode_utf8_all (cut_to room (chars spelled))) → out ≡ take n bytes
    → out ≡ encode_utf8_all (cut_to room text)
cut_is room text spelled bytes out n is scalars same long front =
    let characters : chars spelled ≡ text = ap chars is ∙ chars-encodes text scalars in
    front ∙ ap₂ (λ k b. take k b) (long ∙ ap (λ t. length (encode_utf8_all (cut_to room t))) characters) same
    ∙ cut_bytes room text

-- what is kept is text, where the whole is
scalars_cut : (room : ℕ) (text : List ℕ) → all_scalars text ≡ true → all_scalars (cut_to room text) ≡ true
scalars_cut room text h =
    let r = behind_cut room text in
    scalars-front (cut_to room text) r.0 (subst (λ (t : List ℕ). all_scalars t ≡ true) r.1 h)

-- so its bytes are a text's
pub cut_text : (room : ℕ) (text bytes : List ℕ) → room ≤ 1024 → all_scalars text ≡ true
    → bytes ≡ encode_utf8_all (cut_to room text) → IsNoText bytes → ⊥
cut_text room text bytes few h e (inl bad) =
    bad (IsUtf8-spelled bytes (cut_to room text) e (scalars_cut room text h))
cut_text room text bytes few h e (inr long) = omega (arith, long, few, ap length e, cut_short room text)

pub cut_found : (room : ℕ) (text bytes cut : List ℕ) → all_scalars text ≡ true
    → bytes ≡ encode_utf8_all (cut_to room text) → IsTextOf bytes cut → cut ≡ cut_to room text
cut_found room text bytes cut h e of =
    sym (chars-spelled bytes cut (sym of.spelled) of.text.scalars)
    ∙ chars-spelled bytes (cut_to room text) e (scalars_cut room text h)
