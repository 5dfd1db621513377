-- The number of a word is the one that is read of it, if that is in range and the word its digits.
use Rattle.std.proofs.Common.{◌≡◌, ℕ, ◌≤◌, Bool, true, false, List, Some, None, Result, Ok, Err, refl, sym, ap, ◌∙◌, arith}
use Rattle.std.specs.Prelude.{decimal, nat_le, nat_lt, ◌&&◌, if◌then◌else◌}
use Rattle.std.specs.Str.{bytes_eq}
use Rattle.std.specs.Str.Parse.{ParsesUnsigned, digits_value}
use Rattle.std.proofs.lemmas.Bool.{and_parts, leb-true}
use Rattle.std.proofs.lemmas.Fmt.{decimal_is_IsNumeral, parse-decimal}
use Rattle.std.proofs.lemmas.Slice.Eq.{bytes_eq-Decides}
use Rattle.lsl_top.specs.Words.{is_number_of, number_in}

few-of : (word : List ℕ) (n : ℕ) → is_number_of word n ≡ true → n ≤ 1000000
few-of word n e =
    let (range, same) = and_parts (nat_lt 0 n && nat_le n 1000000) (bytes_eq word (decimal n)) e in
    leb-true n 1000000 (and_parts (nat_lt 0 n) (nat_le n 1000000) range).1

digits-of : (word : List ℕ) (n : ℕ) → is_number_of word n ≡ true → word ≡ decimal n
digits-of word n e =
    (bytes_eq-Decides word (decimal n)).0 (and_parts (nat_lt 0 n && nat_le n 1000000) (bytes_eq word (decimal n)) e).1

value-of : (word : List ℕ) (n : ℕ) → is_number_of word n ≡ true → digits_value 10 word ≡ n
value-of word n e =
    let few = few-of word n e in
    ap (λ (z : List ℕ). digits_value 10 z) (digits-of word n e) ∙ (decimal_is_IsNumeral n (omega arith)).1

-- what is read of a word is its number
pub number-some : (word : List ℕ) (n : ℕ) → is_number_of word n ≡ true → number_in word ≡ Some n
number-some word n e =
    ap (λ (z : ℕ). if is_number_of word z then Some z else None) (value-of word n e)
    ∙ ap (λ (b : Bool). if b then Some n else None) e

-- a word without a number
number-none : (word : List ℕ) → ((n : ℕ) → is_number_of word n ≡ true → ⊥) → number_in word ≡ None
number-none word never = go (is_number_of word (digits_value 10 word)) refl
  where
    go : (b : Bool) → is_number_of word (digits_value 10 word) ≡ b
        → (if b then Some (digits_value 10 word) else None) ≡ None
    go false e = refl
    go true e = absurd (never (digits_value 10 word) e)

read : {E : Type 0} (word : List ℕ) (r : Result ℕ E) (n : ℕ) → ParsesUnsigned 32 10 word r
    → is_number_of word n ≡ true → r ≡ Ok n
read word r n parses e =
    let few = few-of word n e in parse-decimal 32 n word r (omega arith) (omega arith) (digits-of word n e) parses

-- what is read isn't its number, or nothing is read
pub number-other : {E : Type 0} (word : List ℕ) (r : Result ℕ E) (m : ℕ) → ParsesUnsigned 32 10 word r → r ≡ Ok m
    → is_number_of word m ≡ false → number_in word ≡ None
number-other word r m parses is not = number-none word (λ n e.
    let same : Ok m ≡ Ok n = sym is ∙ read word r n parses e in
    let both : true ≡ false = sym e ∙ ap (λ (z : ℕ). is_number_of word z) (sym (ap (value n) same)) ∙ not in
    cc)
  where
    value : {E : Type 0} → ℕ → Result ℕ E → ℕ
    value n (Ok x) = x
    value n (Err x) = n

pub number-unread : {E : Type 0} (word : List ℕ) (r : Result ℕ E) (fault : E) → ParsesUnsigned 32 10 word r
    → r ≡ Err fault → number_in word ≡ None
number-unread word r fault parses is = number-none word (λ n e.
    let both : Err fault ≡ Ok n = sym is ∙ read word r n parses e in
    cc)
