-- A word of decimal digits alone is read as its number.
use Rattle.std.proofs.Common.{◌≡◌, ℕ, Bool, true, false, List, [], ◌∷◌, Some, None, Result, Ok, Err, length, refl, sym, ap, ◌∙◌}
use Rattle.std.specs.Prelude.{nat_lt, ◌&&◌, if◌then◌else◌}
use Rattle.std.specs.Char.{is_ascii_digit}
use Rattle.std.specs.List.{list_all}
use Rattle.std.specs.Str.{all_ascii_digits}
use Rattle.std.specs.Str.Parse.{ParsesUnsigned, digits_value}
use Rattle.std.proofs.lemmas.Bool.{and_parts, ltb-true}
use Rattle.std.proofs.lemmas.Str.Parse.{IsNumeralModel, numerals_by_value, parse_gives, tells_all_ascii_digits}
use Rattle.lsl_debug.specs.Words.{is_number, number_in}

digits-all : (ds : List ℕ) → list_all is_ascii_digit ds ≡ all_ascii_digits ds
digits-all [] = refl
digits-all (c ∷ cs) = ap (λ (b : Bool). is_ascii_digit c && b) (digits-all cs)

own : IsNumeralModel (λ (ds : List ℕ). all_ascii_digits ds ≡ true) (digits_value 10)
own = numerals_by_value (λ (ds : List ℕ). all_ascii_digits ds ≡ true) tells_all_ascii_digits

-- a number is read
read : {E : Type 0} (word : List ℕ) (r : Result ℕ E) → ParsesUnsigned 32 10 word r → is_number word ≡ true
    → r ≡ Ok (digits_value 10 word)
read word r parses e =
    let below = nat_lt (digits_value 10 word) 4294967296 in
    let (long, rest) = and_parts (nat_lt 0 (length word)) (list_all is_ascii_digit word && below) e in
    let (digits, small) = and_parts (list_all is_ascii_digit word) below rest in
    parse_gives own 32 word r parses (sym (digits-all word) ∙ digits) (ltb-true 0 (length word) long)
    (ltb-true (digits_value 10 word) 4294967296 small)

-- what isn't read is no number
pub number-unread : {E : Type 0} (word : List ℕ) (r : Result ℕ E) (fault : E) → ParsesUnsigned 32 10 word r
    → r ≡ Err fault → number_in word ≡ None
number-unread word r fault parses is = go (is_number word) refl
  where
    go : (b : Bool) → is_number word ≡ b → (if b then Some (digits_value 10 word) else None) ≡ None
    go false e = refl
    go true e =
        let both : Err fault ≡ Ok (digits_value 10 word) = sym is ∙ read word r parses e in
        cc
