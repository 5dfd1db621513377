-- Characters and bytes: what lists of characters and their UTF-8 have in common.
use Rattle.std.proofs.Common.{◌≡◌, ◌∙◌, ℕ, zero, suc, ◌+◌, ◌/◌, ◌%◌, ◌<◌, ◌≤◌, min, true, false, cond, nat_lt, List, [], ◌∷◌, ◌++◌, length, take, drop, sym, ap, refl, inl, inr, arith, length-append, nat_eq, Decides}
use Rattle.std.specs.Char.{encode_utf8}
use Rattle.std.specs.List.{starts_with, count_by}
use Rattle.std.specs.Str.{encode_utf8_all, IsAscii}
use Rattle.std.proofs.lemmas.Bool.{cases_Bool, cond-true, cond-false, false≢true, lt-ltb}
use Rattle.std.proofs.lemmas.Bool.Decides.{nat_tests, same_from_decides, Decides-like, Decides-eqb}
use Rattle.std.proofs.lemmas.List.{append_assoc, take-append-drop, length-take}
use Rattle.std.proofs.lemmas.List.Sums.{sum_by-append, sum_by-cons}
use Rattle.std.proofs.lemmas.Slice.Eq.{starts_is}
use Rattle.std.proofs.lemmas.Str.{IsAscii-drop, IsAscii-take, cons_from_encodes, encodes-IsAscii, encodes-append}
use Rattle.lsl_pure.specs.Spelling.{is_lead, front_len}

-- no byte begins a character
abbrev pub IsTail : List ℕ → Type 0
IsTail [] = Unit {0}
IsTail (b ∷ bs) = (is_lead b ≡ false) × IsTail bs

-- a character's bytes: one that begins it, and others that begin none
pub record IsOneCharacter (bytes : List ℕ) : Type 0 where
  pub lead : ℕ
  pub tail : List ℕ
  pub spelled : bytes ≡ lead ∷ tail
  pub leads : is_lead lead ≡ true
  pub follows : IsTail tail

low-leads : (c : ℕ) → nat_lt c 128 ≡ true → is_lead c ≡ true
low-leads c small = grind (arith, nat_tests)

high-leads : (c : ℕ) → 192 ≤ c → is_lead c ≡ true
high-leads c high = grind (arith, nat_tests)

next-follows : (x : ℕ) → is_lead (128 + x % 64) ≡ false
next-follows x = let low : 128 + x % 64 < 192 = omega arith in grind (arith, nat_tests)

pub one_character : (c : ℕ) → IsOneCharacter (encode_utf8 c)
unfolding encode_utf8
one_character c = elim (cases_Bool (nat_lt c 128)) [
  | inl small ↦ record { lead = c; tail = []; spelled = cond-true _ _ _ small; leads = low-leads c small; follows = tt }
  | inr more ↦ elim (cases_Bool (nat_lt c 2048)) [
    | inl two ↦
        record {
          lead = 192 + c / 64;
          tail = (128 + c % 64) ∷ [];
          spelled = cond-false _ _ _ more ∙ cond-true _ _ _ two;
          leads = high-leads (192 + c / 64) (omega arith);
          follows = (next-follows c, tt);
        }
    | inr over ↦ elim (cases_Bool (nat_lt c 65536)) [
      | inl three ↦
          record {
            lead = 224 + c / 4096;
            tail = (128 + c / 64 % 64) ∷ (128 + c % 64) ∷ [];
            spelled = cond-false _ _ _ more ∙ cond-false _ _ _ over ∙ cond-true _ _ _ three;
            leads = high-leads (224 + c / 4096) (omega arith);
            follows = (next-follows (c / 64), (next-follows c, tt));
          }
      | inr four ↦
          record {
            lead = 240 + c / 262144;
            tail = (128 + c / 4096 % 64) ∷ (128 + c / 64 % 64) ∷ (128 + c % 64) ∷ [];
            spelled = cond-false _ _ _ more ∙ cond-false _ _ _ over ∙ cond-false _ _ _ four;
            leads = high-leads (240 + c / 262144) (omega arith);
            follows = (next-follows (c / 4096), (next-follows (c / 64), (next-follows c, tt)));
          }
    ]
  ]
]

-- how many characters begin

count_by-tail : (bs : List ℕ) → IsTail bs → count_by is_lead bs ≡ 0
count_by-tail [] follows = refl
count_by-tail (b ∷ bs) follows =
    sum_by-cons (λ x. cond (is_lead x) 1 0) b bs
    ∙ ap (λ n. cond (is_lead b) 1 0 + n) (count_by-tail bs follows.1) ∙ ap (λ t. cond t 1 0 + 0) follows.0

count_by-character : (bytes : List ℕ) → IsOneCharacter bytes → count_by is_lead bytes ≡ 1
count_by-character bytes c =
    ap (count_by is_lead) c.spelled ∙ sum_by-cons (λ x. cond (is_lead x) 1 0) c.lead c.tail
    ∙ ap (λ n. cond (is_lead c.lead) 1 0 + n) (count_by-tail c.tail c.follows) ∙ ap (λ t. cond t 1 0 + 0) c.leads

pub count_by-encodes : (cs : List ℕ) → count_by is_lead (encode_utf8_all cs) ≡ length cs
count_by-encodes [] = refl
count_by-encodes (c ∷ cs) =
    let here = count_by-character (encode_utf8 c) (one_character c) in
    let both = sum_by-append (λ x. cond (is_lead x) 1 0) (encode_utf8 c) (encode_utf8_all cs) in
    let there = count_by-encodes cs in
    omega (arith, here, both, there)

-- where a character begins

front_len-tail : (n : ℕ) (bs rest : List ℕ) → IsTail bs → front_len n (bs ++ rest) ≡ length bs + front_len n rest
front_len-tail n [] rest follows = omega arith
front_len-tail zero (b ∷ bs) rest follows =
    cond-false _ _ _ follows.0 ∙ ap suc (front_len-tail zero bs rest follows.1) ∙ omega arith
front_len-tail (suc n) (b ∷ bs) rest follows =
    cond-false _ _ _ follows.0 ∙ ap suc (front_len-tail (suc n) bs rest follows.1) ∙ omega arith

front_len-zero : (bytes rest : List ℕ) → IsOneCharacter bytes → front_len zero (bytes ++ rest) ≡ 0
front_len-zero bytes rest c = ap (λ b. front_len zero (b ++ rest)) c.spelled ∙ cond-true _ _ _ c.leads

front_len-one : (n : ℕ) (bytes rest : List ℕ) → IsOneCharacter bytes
    → front_len (suc n) (bytes ++ rest) ≡ length bytes + front_len n rest
front_len-one n bytes rest c =
    ap (λ b. front_len (suc n) (b ++ rest)) c.spelled ∙ cond-true _ _ _ c.leads
    ∙ ap suc (front_len-tail n c.tail rest c.follows)
    ∙ let size : length bytes ≡ suc (length c.tail) = ap length c.spelled in omega arith

pub front_len-encodes : (n : ℕ) (cs : List ℕ) → front_len n (encode_utf8_all cs) ≡ length (encode_utf8_all (take n cs))
front_len-encodes zero [] = refl
front_len-encodes (suc n) [] = refl
front_len-encodes zero (c ∷ cs) = front_len-zero (encode_utf8 c) (encode_utf8_all cs) (one_character c)
front_len-encodes (suc n) (c ∷ cs) =
    front_len-one n (encode_utf8 c) (encode_utf8_all cs) (one_character c)
    ∙ ap (λ k. length (encode_utf8 c) + k) (front_len-encodes n cs)
    ∙ sym (length-append (encode_utf8 c) (encode_utf8_all (take n cs)))

pub length-encodes-take : (n : ℕ) (cs : List ℕ) → length (encode_utf8_all (take n cs)) ≤ length (encode_utf8_all cs)
length-encodes-take n cs =
    let parts = sym (encodes-append (take n cs) (drop n cs)) ∙ ap encode_utf8_all (take-append-drop n cs) in
    omega (arith, ap length parts, length-append (encode_utf8_all (take n cs)) (encode_utf8_all (drop n cs)))

-- in ASCII each character is a byte
pub ascii_offset : (n : ℕ) (text bytes : List ℕ) → bytes ≡ encode_utf8_all text → IsAscii text
    → min n (length bytes) ≡ length (encode_utf8_all (take n text))
ascii_offset n text bytes same ascii =
    ap (λ b. min n (length b)) (same ∙ encodes-IsAscii text ascii) ∙ sym (length-take n text)
    ∙ sym (ap length (encodes-IsAscii (take n text) (IsAscii-take text n ascii)))

-- and each byte begins a character
count_by-ascii : (bs : List ℕ) → IsAscii bs → count_by is_lead bs ≡ length bs
count_by-ascii [] ascii = refl
count_by-ascii (b ∷ bs) ascii =
    let low : b < 128 = ascii 0 in
    let one : ℕ = 1 in
    let here : cond (is_lead b) one 0 ≡ one = ap (λ t. cond t one 0) (low-leads b (lt-ltb b 128 low)) in
    let both = sum_by-cons (λ x. cond (is_lead x) 1 0) b bs in
    let there = count_by-ascii bs (IsAscii-drop (b ∷ bs) 1 ascii) in
    omega (arith, here, both, there)

pub ascii_before : (at : ℕ) (text : List ℕ) → IsAscii text → at ≤ length (encode_utf8_all text)
    → at ≡ count_by is_lead (take at (encode_utf8_all text))
ascii_before at text ascii within =
    let plain = encodes-IsAscii text ascii in
    let count = count_by-ascii (take at text) (IsAscii-take text at ascii) in
    let size : length (take at text) ≡ at = omega (arith, within, length-take at text, ap length plain) in
    sym (ap (λ b. count_by is_lead (take at b)) plain ∙ count ∙ size)

-- a text begins with another one where its bytes do

pub front-encodes : (ys xs rest : List ℕ) → encode_utf8_all xs ≡ encode_utf8_all ys ++ rest → (more : List ℕ)
    × (xs ≡ ys ++ more) × (encode_utf8_all more ≡ rest)
front-encodes [] xs rest same = (xs, refl, same)
front-encodes (y ∷ ys) xs rest same =
    let first = cons_from_encodes xs (encode_utf8_all ys ++ rest) y
    (same ∙ append_assoc (encode_utf8 y) (encode_utf8_all ys) rest) in
    let others = front-encodes ys first.0 rest first.2 in
    (others.0, first.1 ∙ ap (λ t. y ∷ t) others.1, others.2)

-- one list begins with the other
abbrev pub Begins : List ℕ → List ℕ → Type 0
Begins xs ys = (more : List ℕ) × (xs ≡ ys ++ more)

pub starts_with-Decides : (xs ys : List ℕ) → Decides (starts_with nat_eq xs ys) (Begins xs ys)
starts_with-Decides xs ys =
    let is = starts_is Decides-eqb xs ys (starts_with nat_eq xs ys) refl in
    (λ yes. (drop (length ys) xs, is.0 yes), λ begins. is.1 begins.0 begins.1)

Begins-encodes : (xs ys : List ℕ) → Begins xs ys → Begins (encode_utf8_all xs) (encode_utf8_all ys)
Begins-encodes xs ys begins =
    (encode_utf8_all begins.0, ap encode_utf8_all begins.1 ∙ encodes-append ys begins.0)

encodes-Begins : (xs ys : List ℕ) → Begins (encode_utf8_all xs) (encode_utf8_all ys) → Begins xs ys
encodes-Begins xs ys begins = let front = front-encodes ys xs begins.0 begins.1 in (front.0, front.1)

pub starts_with-encodes : (xs ys : List ℕ)
    → starts_with nat_eq (encode_utf8_all xs) (encode_utf8_all ys) ≡ starts_with nat_eq xs ys
starts_with-encodes xs ys =
    same_from_decides _ _
    (Decides-like _ (encodes-Begins xs ys) (Begins-encodes xs ys)
    (starts_with-Decides (encode_utf8_all xs) (encode_utf8_all ys)))
    (starts_with-Decides xs ys)

-- no text that has a character stands where none begins
pub starts_with-inside : (b : ℕ) (bs m : List ℕ) (d : ℕ) → is_lead b ≡ false
    → starts_with nat_eq (b ∷ bs) (encode_utf8_all (d ∷ m)) ≡ false
starts_with-inside b bs m d inside = elim (cases_Bool (starts_with nat_eq (b ∷ bs) (encode_utf8_all (d ∷ m)))) [
  | inr fails ↦ fails
  | inl stands ↦
      let found = (starts_with-Decides (b ∷ bs) (encode_utf8_all (d ∷ m))).0 stands in
      let c = one_character d in
      let same : b ∷ bs ≡ c.lead ∷ ((c.tail ++ encode_utf8_all m) ++ found.0) =
      found.1 ∙ ap (λ e. (e ++ encode_utf8_all m) ++ found.0) c.spelled in
      let head : b ≡ c.lead = cc in
      absurd (false≢true (sym inside ∙ ap is_lead head ∙ c.leads))
]
