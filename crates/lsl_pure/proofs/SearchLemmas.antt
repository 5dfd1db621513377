-- The first place of one list in another, and that of one text in another by their bytes.
use Rattle.std.proofs.Common.{◌≡◌, ◌∙◌, ℕ, zero, suc, ◌+◌, ◌^◌, ◌<◌, ◌≤◌, pos, negsuc, to_z, w32, Bool, true, false, cond, List, [], ◌∷◌, ◌++◌, length, take, drop, Option, Some, None, sym, ap, refl, inl, inr, arith, length-append, nat_eq}
use Rattle.std.specs.Char.{encode_utf8}
use Rattle.std.specs.List.{starts_with, count_by}
use Rattle.std.specs.Option.{option_map}
use Rattle.std.specs.Str.{encode_utf8_all}
use Rattle.std.proofs.lemmas.Bool.{cases_Bool, cond-true, cond-false, false≢true}
use Rattle.std.proofs.lemmas.Int.{to_z_pos}
use Rattle.std.proofs.lemmas.List.{take_at, take-append-drop, length-take-le}
use Rattle.std.proofs.lemmas.Str.{encodes-append}
use Rattle.lsl_pure.specs.Searches.{first_place, place_or_none}
use Rattle.lsl_pure.specs.Spelling.{is_lead}
use Rattle.lsl_pure.proofs.SpellingLemmas.{IsTail, IsOneCharacter, one_character, starts_with-encodes, starts_with-inside, count_by-encodes}

pub first_place-here : {X : Type 0} (E : X → X → Bool) (xs sought : List X) → starts_with E xs sought ≡ true
    → first_place E xs sought ≡ Some 0
first_place-here E [] sought stands = cond-true _ _ _ stands
first_place-here E (x ∷ xs) sought stands = cond-true _ _ _ stands

-- found at a place of the rest
pub first_place-at : {X : Type 0} (E : X → X → Bool) (xs rest sought : List X) (at : ℕ)
    → starts_with E rest sought ≡ true
    → option_map (λ k. at + k) (first_place E rest sought) ≡ first_place E xs sought → Some at ≡ first_place E xs sought
first_place-at E xs rest sought at stands same =
    let here : at ≡ at + 0 = omega arith in
    ap Some here ∙ sym (ap (option_map (λ k. at + k)) (first_place-here E rest sought stands)) ∙ same

option_map-add : (n : ℕ) (o : Option ℕ) → option_map suc (option_map (λ k. n + k) o) ≡ option_map (λ k. suc n + k) o
option_map-add n None = refl
option_map-add n (Some k) = let sum : suc (n + k) ≡ suc n + k = omega arith in ap Some sum

option_map-none : (o : Option ℕ) → o ≡ option_map (λ k. 0 + k) o
option_map-none None = refl
option_map-none (Some k) = let sum : k ≡ 0 + k = omega arith in ap Some sum

first_place-tail : (tail rest m : List ℕ) (d : ℕ) → IsTail tail
    → first_place nat_eq (tail ++ rest) (encode_utf8_all (d ∷ m))
    ≡ option_map (λ k. length tail + k) (first_place nat_eq rest (encode_utf8_all (d ∷ m)))
first_place-tail [] rest m d follows = option_map-none _
first_place-tail (b ∷ bs) rest m d follows =
    cond-false _ _ _ (starts_with-inside b (bs ++ rest) m d follows.0)
    ∙ ap (option_map suc) (first_place-tail bs rest m d follows.1)
    ∙ option_map-add (length bs) (first_place nat_eq rest (encode_utf8_all (d ∷ m)))

-- how many bytes stand before a place
abbrev pub byte_place : List ℕ → Option ℕ → Option ℕ
byte_place text found = option_map (λ k. length (encode_utf8_all (take k text))) found

first_place-zero : (b : Bool) (other : Option ℕ) (more : Option ℕ) (text : List ℕ) → b ≡ true
    → cond b (Some 0) more ≡ byte_place text (cond b (Some zero) other)
first_place-zero true other more text here = refl
first_place-zero false other more text here = absurd (false≢true here)

byte_place-next : (c : ℕ) (cs bytes : List ℕ) (one : IsOneCharacter bytes) → encode_utf8 c ≡ bytes → (found : Option ℕ)
    → option_map suc (option_map (λ k. length one.tail + k) (byte_place cs found))
    ≡ byte_place (c ∷ cs) (option_map suc found)
byte_place-next c cs bytes one same None = refl
byte_place-next c cs bytes one same (Some k) =
    let size : length bytes ≡ suc (length one.tail) = ap length one.spelled in
    let sum : suc (length one.tail + length (encode_utf8_all (take k cs)))
    ≡ length (encode_utf8 c ++ encode_utf8_all (take k cs)) =
    omega (arith, ap length same, length-append (encode_utf8 c) (encode_utf8_all (take k cs))) in
    ap Some sum

pub first_place-encodes : (text sought : List ℕ)
    → first_place nat_eq (encode_utf8_all text) (encode_utf8_all sought)
    ≡ byte_place text (first_place nat_eq text sought)
first_place-encodes text [] = first_place-here nat_eq (encode_utf8_all text) []
    (starts-nothing (encode_utf8_all text))
    ∙ sym (ap (byte_place text) (first_place-here nat_eq text [] (starts-nothing text)))
  where
    starts-nothing : (xs : List ℕ) → starts_with nat_eq xs [] ≡ true
    starts-nothing xs = refl
first_place-encodes [] (d ∷ m) =
    cond-false _ _ _ (starts_with-encodes [] (d ∷ m))
first_place-encodes (c ∷ cs) (d ∷ m) =
    let one = one_character c in
    let spelled : encode_utf8 c ++ encode_utf8_all cs ≡ one.lead ∷ (one.tail ++ encode_utf8_all cs) =
    ap (λ b. b ++ encode_utf8_all cs) one.spelled in
    let tests : starts_with nat_eq (one.lead ∷ (one.tail ++ encode_utf8_all cs)) (encode_utf8_all (d ∷ m))
    ≡ starts_with nat_eq (c ∷ cs) (d ∷ m) =
    ap (λ t. starts_with nat_eq t (encode_utf8_all (d ∷ m))) (sym spelled) ∙ starts_with-encodes (c ∷ cs) (d ∷ m) in
    ap (λ t. first_place nat_eq t (encode_utf8_all (d ∷ m))) spelled
    ∙ (elim (cases_Bool (starts_with nat_eq (c ∷ cs) (d ∷ m))) [
      | inl here ↦ cond-true _ _ _ (tests ∙ here) ∙ sym (ap (byte_place (c ∷ cs)) (cond-true _ _ _ here))
      | inr there ↦
          cond-false _ _ _ (tests ∙ there)
          ∙ ap (option_map suc) (first_place-tail one.tail (encode_utf8_all cs) m d one.follows
          ∙ ap (option_map (λ k. length one.tail + k)) (first_place-encodes cs (d ∷ m)))
          ∙ byte_place-next c cs (encode_utf8 c) one refl (first_place nat_eq cs (d ∷ m))
          ∙ sym (ap (byte_place (c ∷ cs)) (cond-false _ _ _ there))
    ])

within-next : (o : Option ℕ) (n k : ℕ) → ((j : ℕ) → o ≡ Some j → j ≤ n) → option_map suc o ≡ Some k → k ≤ suc n
within-next None n k low never = cc
within-next (Some j) n k low same = let at : suc j ≡ k = cc in let short = low j refl in omega arith

-- a place is within the list
pub first_place-within : {X : Type 0} (E : X → X → Bool) (xs sought : List X) (k : ℕ)
    → first_place E xs sought ≡ Some k → k ≤ length xs
first_place-within E [] sought k found = elim (cases_Bool (starts_with E [] sought)) [
  | inl here ↦ let zero' : Some 0 ≡ Some k = sym (cond-true _ _ _ here) ∙ found in let at : 0 ≡ k = cc in omega arith
  | inr there ↦ let never : None ≡ Some k = sym (cond-false _ _ _ there) ∙ found in cc
]
first_place-within E (x ∷ xs) sought k found = elim (cases_Bool (starts_with E (x ∷ xs) sought)) [
  | inl here ↦ let zero' : Some 0 ≡ Some k = sym (cond-true _ _ _ here) ∙ found in let at : 0 ≡ k = cc in omega arith
  | inr there ↦ within-next (first_place E xs sought) (length xs) k
      (λ j some. first_place-within E xs sought j some) (sym (cond-false _ _ _ there) ∙ found)
]

-- the characters before the byte at which a text was found
pub count_by-place : (text : List ℕ) (k : ℕ) → k ≤ length text
    → count_by is_lead (take (length (encode_utf8_all (take k text))) (encode_utf8_all text)) ≡ k
count_by-place text k short =
    let parts : encode_utf8_all text ≡ encode_utf8_all (take k text) ++ encode_utf8_all (drop k text) =
    sym (ap encode_utf8_all (take-append-drop k text)) ∙ encodes-append (take k text) (drop k text) in
    ap (λ t. count_by is_lead (take (length (encode_utf8_all (take k text))) t)) parts
    ∙ ap (count_by is_lead) (take_at (encode_utf8_all (take k text)) (encode_utf8_all (drop k text)) _ refl)
    ∙ count_by-encodes (take k text) ∙ length-take-le k text short

index_from : (text : List ℕ) (found : Option ℕ) (at n : ℕ) → Some at ≡ byte_place text found
    → ((k : ℕ) → found ≡ Some k → k ≤ length text)
    → n ≡ count_by is_lead (take at (encode_utf8_all text)) → n < 2 ^ 31 → to_z w32 n ≡ place_or_none found
index_from text None at n never low count small = cc
index_from text (Some k) at n same low count small =
    let here : at ≡ length (encode_utf8_all (take k text)) = cc in
    let is : n ≡ k = count ∙ ap (λ a. count_by is_lead (take a (encode_utf8_all text))) here
    ∙ count_by-place text k (low k refl) in
    to_z_pos w32 n small ∙ ap pos is

-- the place in characters of a text that was found at a byte
pub index_some : (text sought bytes needle : List ℕ) (at n : ℕ) → bytes ≡ encode_utf8_all text
    → needle ≡ encode_utf8_all sought
    → Some at ≡ first_place nat_eq bytes needle → n ≡ count_by is_lead (take at bytes) → n < 2 ^ 31
    → to_z w32 n ≡ place_or_none (first_place nat_eq text sought)
index_some text sought bytes needle at n same needle-is found count small =
    index_from text (first_place nat_eq text sought) at n
    (found ∙ ap (λ b. first_place nat_eq b needle) same
    ∙ ap (first_place nat_eq (encode_utf8_all text)) needle-is ∙ first_place-encodes text sought)
    (λ k some. first_place-within nat_eq text sought k some) (count ∙ ap (λ b. count_by is_lead (take at b)) same) small

none_from : (text : List ℕ) (found : Option ℕ) → None ≡ byte_place text found → negsuc 0 ≡ place_or_none found
none_from text None same = refl
none_from text (Some k) never = cc

pub index_none : (text sought bytes needle : List ℕ) → bytes ≡ encode_utf8_all text → needle ≡ encode_utf8_all sought
    → None ≡ first_place nat_eq bytes needle → negsuc 0 ≡ place_or_none (first_place nat_eq text sought)
index_none text sought bytes needle same needle-is found =
    none_from text (first_place nat_eq text sought)
    (found ∙ ap (λ b. first_place nat_eq b needle) same
    ∙ ap (first_place nat_eq (encode_utf8_all text)) needle-is ∙ first_place-encodes text sought)
