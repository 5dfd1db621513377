-- Blanks and spaces at the ends of a text, in its characters and in its bytes.
use Rattle.std.proofs.Common.{◌≡◌, ◌∙◌, ℕ, suc, ◌+◌, ◌-◌, ◌/◌, ◌%◌, ◌<◌, ◌≤◌, Bool, true, false, cond, ◌&&◌, ◌==◌, nat_lt, ℤ, List, [], ◌∷◌, ◌++◌, length, take, drop, get_or, sym, ap, refl, inl, inr, arith, length-append}
use Rattle.std.specs.Char.{encode_utf8}
use Rattle.std.specs.List.{prefix_len}
use Rattle.std.specs.Str.{encode_utf8_all, all_scalars, IsUtf8}
use Rattle.std.proofs.lemmas.Bool.{cases_Bool, cases_lt, cond-true, cond-false, and_parts, and_from}
use Rattle.std.proofs.lemmas.Bool.Decides.{nat_tests}
use Rattle.std.proofs.lemmas.List.{length-drop, take_all, take_more}
use Rattle.std.proofs.lemmas.Str.{encode_ascii}
use Rattle.lsl_text.specs.Number.{is_blank}
use Rattle.lsl_pure.specs.Cuts.{without_head, without_tail, trims_head, trims_tail, trimmed}
use Rattle.lsl_pure.proofs.ByteLemmas.{IsUtf8-spelled, scalars-drop}

-- no byte is ASCII
abbrev pub IsHigh : List ℕ → Type 0
IsHigh [] = Unit {0}
IsHigh (b ∷ bs) = (128 ≤ b) × IsHigh bs

-- the bytes of a character that isn't ASCII
pub record IsLong (bytes : List ℕ) : Type 0 where
  pub head : ℕ
  pub others : List ℕ
  pub are : bytes ≡ head ∷ others
  pub high : IsHigh (head ∷ others)

pub long_character : (c : ℕ) → 128 ≤ c → IsLong (encode_utf8 c)
unfolding encode_utf8
long_character c high =
    let more : nat_lt c 128 ≡ false = grind (arith, nat_tests) in
    elim (cases_Bool (nat_lt c 2048)) [
      | inl two ↦
          record {
            head = 192 + c / 64;
            others = (128 + c % 64) ∷ [];
            are = cond-false _ _ _ more ∙ cond-true _ _ _ two;
            high = (omega arith, (omega arith, tt));
          }
      | inr over ↦ elim (cases_Bool (nat_lt c 65536)) [
        | inl three ↦
            record {
              head = 224 + c / 4096;
              others = (128 + c / 64 % 64) ∷ (128 + c % 64) ∷ [];
              are = cond-false _ _ _ more ∙ cond-false _ _ _ over ∙ cond-true _ _ _ three;
              high = (omega arith, (omega arith, (omega arith, tt)));
            }
        | inr four ↦
            record {
              head = 240 + c / 262144;
              others = (128 + c / 4096 % 64) ∷ (128 + c / 64 % 64) ∷ (128 + c % 64) ∷ [];
              are = cond-false _ _ _ more ∙ cond-false _ _ _ over ∙ cond-false _ _ _ four;
              high = (omega arith, (omega arith, (omega arith, (omega arith, tt))));
            }
      ]
    ]

-- a test that ASCII characters alone pass
abbrev pub IsPlain : (ℕ → Bool) → Type 0
IsPlain p = (c : ℕ) → 128 ≤ c → p c ≡ false

-- what stands behind a front that passes
abbrev pub behind_front : (ℕ → Bool) → List ℕ → List ℕ
behind_front p text = drop (prefix_len p text) text

pub behind_front-yes : (p : ℕ → Bool) (c : ℕ) (cs : List ℕ) → p c ≡ true → behind_front p (c ∷ cs) ≡ behind_front p cs
behind_front-yes p c cs passes =
    let sum : 1 + prefix_len p cs ≡ suc (prefix_len p cs) = omega arith in
    ap (λ b. drop (cond b (1 + prefix_len p cs) 0) (c ∷ cs)) passes ∙ ap (λ n. drop n (c ∷ cs)) sum

pub behind_front-no : (p : ℕ → Bool) (c : ℕ) (cs : List ℕ) → p c ≡ false → behind_front p (c ∷ cs) ≡ c ∷ cs
behind_front-no p c cs fails = ap (λ b. drop (cond b (1 + prefix_len p cs) 0) (c ∷ cs)) fails

pub behind_front-encodes : (p : ℕ → Bool) → IsPlain p → (text : List ℕ)
    → behind_front p (encode_utf8_all text) ≡ encode_utf8_all (behind_front p text)
behind_front-encodes p plain [] = refl
behind_front-encodes p plain (c ∷ cs) = elim (cases_lt c 128) [
  | inl low ↦
      let same = encode_ascii c low in
      ap (λ b. behind_front p (b ++ encode_utf8_all cs)) same ∙ (elim (cases_Bool (p c)) [
        | inl passes ↦ behind_front-yes p c (encode_utf8_all cs) passes ∙ behind_front-encodes p plain cs
            ∙ ap encode_utf8_all (sym (behind_front-yes p c cs passes))
        | inr fails ↦ behind_front-no p c (encode_utf8_all cs) fails
            ∙ ap (λ b. b ++ encode_utf8_all cs) (sym same)
            ∙ ap encode_utf8_all (sym (behind_front-no p c cs fails))
      ])
  | inr high ↦
      let long = long_character c high in
      ap (λ b. behind_front p (b ++ encode_utf8_all cs)) long.are
      ∙ behind_front-no p long.head (long.others ++ encode_utf8_all cs) (plain long.head long.high.0)
      ∙ ap (λ b. b ++ encode_utf8_all cs) (sym long.are)
      ∙ ap encode_utf8_all (sym (behind_front-no p c cs (plain c high)))
]

pub blank-plain : IsPlain is_blank
blank-plain c high = grind (arith, nat_tests)

pub space-plain : IsPlain (λ c. c == 32)
space-plain c high = grind (arith, nat_tests)

-- the tail

without_tail-keeps : (b : ℕ) (rest : List ℕ) → is_blank b ≡ false → without_tail (b ∷ rest) ≡ b ∷ without_tail rest
without_tail-keeps b rest kept = ap (λ t. cond (t && (length (without_tail rest) == 0)) [] (b ∷ without_tail rest)) kept

without_tail-high : (bs rest : List ℕ) → IsHigh bs → without_tail (bs ++ rest) ≡ bs ++ without_tail rest
without_tail-high [] rest high = refl
without_tail-high (b ∷ bs) rest high =
    without_tail-keeps b (bs ++ rest) (blank-plain b high.0) ∙ ap (λ t. b ∷ t) (without_tail-high bs rest high.1)

pub empty-encodes : (text : List ℕ) → (length (encode_utf8_all text) == 0) ≡ (length text == 0)
empty-encodes [] = refl
empty-encodes (c ∷ cs) = elim (cases_lt c 128) [
  | inl low ↦ let same = ap length (encode_ascii c low) in
      nonzero-tests (encode_utf8 c) (encode_utf8_all cs) cs (omega arith)
  | inr high ↦ let same = ap length (long_character c high).are in
      nonzero-tests (encode_utf8 c) (encode_utf8_all cs) cs (omega arith)
]
  where
    nonzero-tests : (bytes rest cs : List ℕ) → 0 < length bytes → (length (bytes ++ rest) == 0) ≡ (suc (length cs) == 0)
    nonzero-tests bytes rest cs some = let sum = length-append bytes rest in grind (arith, nat_tests)

pub without_tail-encodes : (text : List ℕ) → without_tail (encode_utf8_all text) ≡ encode_utf8_all (without_tail text)
without_tail-encodes [] = refl
without_tail-encodes (c ∷ cs) = elim (cases_lt c 128) [
  | inl low ↦
      let same = encode_ascii c low in
      ap (λ b. without_tail (b ++ encode_utf8_all cs)) same
      ∙ ap (λ t. cond (is_blank c && (length t == 0)) [] (c ∷ t)) (without_tail-encodes cs)
      ∙ ap (λ t. cond (is_blank c && t) [] (c ∷ encode_utf8_all (without_tail cs))) (empty-encodes (without_tail cs))
      ∙ tail-cases (is_blank c && (length (without_tail cs) == 0)) c (without_tail cs) same
  | inr high ↦
      let long = long_character c high in
      ap (λ b. without_tail (b ++ encode_utf8_all cs)) long.are
      ∙ without_tail-high (long.head ∷ long.others) (encode_utf8_all cs) long.high
      ∙ ap (λ b. b ++ without_tail (encode_utf8_all cs)) (sym long.are)
      ∙ ap (λ t. encode_utf8 c ++ t) (without_tail-encodes cs)
      ∙ ap encode_utf8_all (sym (without_tail-keeps c cs (blank-plain c high)))
]
  where
    tail-cases : (b : Bool) (c : ℕ) (rest : List ℕ) → encode_utf8 c ≡ c ∷ []
        → cond b [] (c ∷ encode_utf8_all rest) ≡ encode_utf8_all (cond b [] (c ∷ rest))
    tail-cases true c rest same = refl
    tail-cases false c rest same = ap (λ b. b ++ encode_utf8_all rest) (sym same)

-- one more element at the end

pub without_tail-blank : (more : List ℕ) (b : ℕ) → is_blank b ≡ true → without_tail (more ++ b ∷ []) ≡ without_tail more
without_tail-blank [] b blank = ap (λ t. cond (t && true) [] (b ∷ [])) blank
without_tail-blank (c ∷ cs) b blank = ap (λ t. cond (is_blank c && (length t == 0)) [] (c ∷ t))
    (without_tail-blank cs b blank)

pub without_tail-kept : (more : List ℕ) (b : ℕ) → is_blank b ≡ false → without_tail (more ++ b ∷ []) ≡ more ++ b ∷ []
without_tail-kept [] b kept = without_tail-keeps b [] kept
without_tail-kept (c ∷ cs) b kept =
    let there = without_tail-kept cs b kept in
    let some : (length (cs ++ b ∷ []) == 0) ≡ false = let sum = length-append cs (b ∷ []) in grind (arith, nat_tests) in
    ap (λ t. cond (is_blank c && (length t == 0)) [] (c ∷ t)) there
    ∙ ap (λ t. cond (is_blank c && t) [] (c ∷ (cs ++ b ∷ []))) some
    ∙ never (is_blank c) (c ∷ (cs ++ b ∷ []))
  where
    never : (b : Bool) (xs : List ℕ) → cond (b && false) [] xs ≡ xs
    never true xs = refl
    never false xs = refl

-- a trimmed text

cond-encodes : (b : Bool) (x y : List ℕ) → cond b (encode_utf8_all x) (encode_utf8_all y) ≡ encode_utf8_all (cond b x y)
cond-encodes true x y = refl
cond-encodes false x y = refl

pub trimmed-spelled : (text bytes headless rest : List ℕ) (kind : ℤ) → bytes ≡ encode_utf8_all text
    → headless ≡ cond (trims_head kind) (without_head bytes) bytes
    → rest ≡ cond (trims_tail kind) (without_tail headless) headless
    → rest ≡ encode_utf8_all (trimmed text kind)
trimmed-spelled text bytes headless rest kind same first second =
    let inner = cond (trims_head kind) (without_head text) text in
    let head : headless ≡ encode_utf8_all inner =
    first ∙ ap (λ b. cond (trims_head kind) (without_head b) b) same
    ∙ ap (λ t. cond (trims_head kind) t (encode_utf8_all text))
    (behind_front-encodes is_blank blank-plain text)
    ∙ cond-encodes (trims_head kind) (without_head text) text in
    second ∙ ap (λ h. cond (trims_tail kind) (without_tail h) h) head
    ∙ ap (λ t. cond (trims_tail kind) t (encode_utf8_all inner)) (without_tail-encodes inner)
    ∙ cond-encodes (trims_tail kind) (without_tail inner) inner

scalars-tail : (text : List ℕ) → all_scalars text ≡ true → all_scalars (without_tail text) ≡ true
scalars-tail [] whole = refl
scalars-tail (c ∷ cs) whole =
    let both = and_parts _ (all_scalars cs) whole in
    scalars-cond (is_blank c && (length (without_tail cs) == 0)) [] (c ∷ without_tail cs) refl
    (and_from _ _ both.0 (scalars-tail cs both.1))
  where
    scalars-cond : (b : Bool) (x y : List ℕ) → all_scalars x ≡ true → all_scalars y ≡ true
        → all_scalars (cond b x y) ≡ true
    scalars-cond true x y first second = first
    scalars-cond false x y first second = second

scalars-choice : (b : Bool) (x y : List ℕ) → all_scalars x ≡ true → all_scalars y ≡ true
    → all_scalars (cond b x y) ≡ true
scalars-choice true x y first second = first
scalars-choice false x y first second = second

pub scalars-trimmed : (text : List ℕ) (kind : ℤ) → all_scalars text ≡ true → all_scalars (trimmed text kind) ≡ true
scalars-trimmed text kind whole =
    let inner = scalars-choice (trims_head kind) (without_head text) text
    (scalars-drop (prefix_len is_blank text) text whole) whole in
    scalars-choice (trims_tail kind) (without_tail (cond (trims_head kind) (without_head text) text))
    (cond (trims_head kind) (without_head text) text)
    (scalars-tail (cond (trims_head kind) (without_head text) text) inner) inner

length-without_tail : (text : List ℕ) → length (without_tail text) ≤ length text
length-without_tail [] = omega arith
length-without_tail (c ∷ cs) = tail-size (is_blank c && (length (without_tail cs) == 0)) c (without_tail cs)
    (length cs) (length-without_tail cs)
  where
    tail-size : (b : Bool) (c : ℕ) (rest : List ℕ) (n : ℕ) → length rest ≤ n → length (cond b [] (c ∷ rest)) ≤ suc n
    tail-size true c rest n short = omega arith
    tail-size false c rest n short = omega arith

choice-size : (b : Bool) (x y : List ℕ) → length x ≤ length y → length (cond b x y) ≤ length y
choice-size true x y short = short
choice-size false x y short = omega arith

pub trimmed-short : (bytes headless rest : List ℕ) (h t : Bool) → headless ≡ cond h (without_head bytes) bytes
    → rest ≡ cond t (without_tail headless) headless → length rest ≤ length bytes
trimmed-short bytes headless rest h t first second =
    omega (
      arith,
      ap length first,
      ap length second,
      choice-size h (without_head bytes) bytes
          (omega (arith, length-drop (prefix_len is_blank bytes) bytes)),
      choice-size t (without_tail headless)
          headless (length-without_tail headless),
    )

-- the last element of a list
pub last_split : (xs : List ℕ) → 1 ≤ length xs → xs ≡ take (length xs - 1) xs ++ get_or xs (length xs - 1) 0 ∷ []
last_split xs some =
    let next : length xs - 1 + 1 ≡ length xs = omega arith in
    sym (take_all (length xs) xs (omega arith)) ∙ sym (ap (λ n. take n xs) next)
    ∙ take_more xs (length xs - 1) 0 (omega arith)

pub spaces-valid : (piece rest : List ℕ) → IsUtf8 piece → rest ≡ behind_front (λ b. b == 32) piece → IsUtf8 rest
spaces-valid piece rest valid same =
    IsUtf8-spelled rest (behind_front (λ b. b == 32) valid.0)
    (same ∙ sym (ap (behind_front (λ b. b == 32)) valid.1.1) ∙ behind_front-encodes (λ b. b == 32) space-plain valid.0)
    (scalars-drop (prefix_len (λ b. b == 32) valid.0) valid.0 valid.1.0)
