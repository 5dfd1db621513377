-- A number read digit by digit.
use Rattle.std.proofs.Common.{◌≡◌, ℕ, ◌+◌, ◌-◌, ◌*◌, ◌<◌, ◌≤◌, ◌⊎◌, Bool, true, false, List, [], ◌∷◌, length, drop, get_or, Option, Some, None, cond, refl, ⊎_elim, sym, ap, ◌∙◌, arith, ◌&&◌}
use Rattle.std.proofs.lemmas.Bool.{cases_lt, lt-ltb, le-ltb}
use Rattle.std.proofs.lemmas.Str.{digit_value_digit}
use Rattle.std.proofs.lemmas.Str.Parse.{digit_from_value}
use Rattle.std.specs.Prelude.{nat_lt}
use Rattle.std.specs.Char.{digit_value}
use Rattle.std.specs.List.{list_all}
use Rattle.std.specs.Str.Parse.{digits_value, digits_value_after}
use Rattle.lsl_seek.specs.Bytes.{is_digit, number_of}

-- what the digits after those of n write together with them
abbrev pub number_after : ℕ → List ℕ → Option ℕ
number_after n digits = cond (list_all is_digit digits && nat_lt (digits_value_after 10 n digits) 4294967296)
    (Some (digits_value_after 10 n digits)) None

digits_value_after-ge : (n : ℕ) (ds : List ℕ) → n ≤ digits_value_after 10 n ds
digits_value_after-ge n [] = omega arith
digits_value_after-ge n (d ∷ ds) = let more = digits_value_after-ge (n * 10 + digit_value d) ds in omega arith

-- a number that is too large stays so
pub too_large : (n : ℕ) (ds : List ℕ) → 4294967296 ≤ n → number_after n ds ≡ None
too_large n ds h = go (list_all is_digit ds) (nat_lt (digits_value_after 10 n ds) 4294967296)
    (let more = digits_value_after-ge n ds in le-ltb (digits_value_after 10 n ds) 4294967296 (omega arith))
  where
    go : (a b : Bool) → b ≡ false → cond (a && b) (Some (digits_value_after 10 n ds)) None ≡ None
    go true true e = absurd (cc)
    go true false e = refl
    go false b e = refl

-- one digit more
pub one_more_digit : (n m : ℕ) (rest more : List ℕ) → 1 ≤ length rest → more ≡ drop 1 rest
    → digit_value (get_or rest 0 0) < 10 → n * 10 + digit_value (get_or rest 0 0) ≡ m → number_after n rest ≡ number_after m more
one_more_digit n m [] more some e small is = absurd (omega arith)
one_more_digit n m (d ∷ rest) more some e small is =
    let test : is_digit d ≡ true = lt-ltb (digit_value d) 10 small in
    let this : number_after n (d ∷ rest) ≡ number_after (n * 10 + digit_value d) rest =
    ap (λ b. cond ((b && list_all is_digit rest) && nat_lt (digits_value_after 10 (n * 10 + digit_value d) rest) 4294967296) (Some (digits_value_after 10 (n * 10 + digit_value d) rest)) None) test in
    this ∙ (ap (λ k. number_after k rest) is ∙ ap (number_after m) (sym e))

-- the bytes of digits
pub not_a_digit : (b : ℕ) → (b < 48) ⊎ (57 < b) → digit_value b < 10 → ⊥
not_a_digit b outside small =
    let range = digit_from_value b small in
    ⊎_elim (λ below. omega (arith, range.0)) (λ above. omega (arith, range.1)) outside

pub digit_is : (b : ℕ) → 48 ≤ b → b ≤ 57 → digit_value b ≡ b - 48
digit_is b low high = omega (arith, digit_value_digit b (low, high))

-- what is no digit
pub no_digit : (n : ℕ) (rest : List ℕ) → 1 ≤ length rest → (digit_value (get_or rest 0 0) < 10 → ⊥) → number_after n rest ≡ None
no_digit n [] some h = absurd (omega arith)
no_digit n (d ∷ rest) some h =
    ap (λ b. cond ((b && list_all is_digit rest) && nat_lt (digits_value_after 10 (n * 10 + digit_value d) rest) 4294967296) (Some (digits_value_after 10 (n * 10 + digit_value d) rest)) None) (le-ltb (digit_value d) 10 (⊎_elim (λ lt. absurd (h lt)) (λ le. le) (cases_lt (digit_value d) 10)))

pub digits_read : (digits : List ℕ) → 1 ≤ length digits → number_of digits ≡ number_after 0 digits
unfolding number_of
digits_read digits some = ap (λ b. cond (b && (list_all is_digit digits && nat_lt (digits_value 10 digits) 4294967296)) (Some (digits_value 10 digits)) None) (lt-ltb 0 (length digits) some)

pub no_digits : (digits : List ℕ) → length digits ≡ 0 → number_of digits ≡ None
unfolding number_of
no_digits [] h = refl
no_digits (d ∷ ds) h = absurd (omega arith)

pub digit_too_many : (n d : ℕ) (rest : List ℕ) → 1 ≤ length rest → digit_value (get_or rest 0 0) ≡ d
    → (n * 10 + d < 4294967296 → ⊥) → digit_value (get_or rest 0 0) < 10 → number_after n rest ≡ None
digit_too_many n d rest some is large small =
    one_more_digit n (n * 10 + d) rest (drop 1 rest) some refl small (ap (λ k. n * 10 + k) is)
    ∙ too_large (n * 10 + d) (drop 1 rest) (⊎_elim (λ lt. absurd (large lt)) (λ le. le) (cases_lt (n * 10 + d) 4294967296))

pub all_read : (n : ℕ) (rest : List ℕ) → length rest < 1 → n < 4294967296 → number_after n rest ≡ Some n
all_read n [] none small = ap (λ b. cond b (Some n) None) (lt-ltb n 4294967296 small)
all_read n (d ∷ rest) none small = absurd (omega arith)
