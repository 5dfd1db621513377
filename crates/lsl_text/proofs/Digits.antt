-- A number read digit by digit, capped on the way.
use Rattle.std.proofs.Common.{◌≡◌, ℕ, ◌+◌, ◌*◌, ◌<◌, ◌≤◌, min, true, cond, List, [], ◌∷◌, length, get_or, drop, ⊎_elim, sym, ap, ◌∙◌, arith}
use Rattle.std.proofs.lemmas.Bool.{cases_lt, lt-ltb}
use Rattle.std.proofs.lemmas.List.Sums.{take_while-cons}
use Rattle.std.specs.Char.{is_digit, digit_value}
use Rattle.std.specs.List.{take_while}
use Rattle.std.specs.Str.Parse.{digits_value_after}

abbrev cap : ℕ
cap = 4294967296

digits_value_after-ge : (base n : ℕ) (ds : List ℕ) → 1 ≤ base → n ≤ digits_value_after base n ds
digits_value_after-ge base n [] low = omega arith
digits_value_after-ge base n (d ∷ ds) low =
    let more = digits_value_after-ge base (n * base + digit_value d) ds low in
    let grows : n ≤ n * base = grown n base low in
    omega arith
  where
    grown : (n base : ℕ) → 1 ≤ base → n ≤ n * base
    grown n base low = grind arith

-- capping the number so far changes nothing of the capped number
digits_value_after-min : (base n : ℕ) (ds : List ℕ) → 1 ≤ base
    → min (digits_value_after base (min n cap) ds) cap ≡ min (digits_value_after base n ds) cap
digits_value_after-min base n ds low = ⊎_elim below above (cases_lt n cap)
  where
    below : n < cap → min (digits_value_after base (min n cap) ds) cap ≡ min (digits_value_after base n ds) cap
    below le = let same : min n cap ≡ n = omega arith in ap (λ m. min (digits_value_after base m ds) cap) same

    above : cap ≤ n → min (digits_value_after base (min n cap) ds) cap ≡ min (digits_value_after base n ds) cap
    above le =
        let same : min n cap ≡ cap = omega arith in
        let left = digits_value_after-ge base cap ds low in
        let right = digits_value_after-ge base n ds low in
        ap (λ m. min (digits_value_after base m ds) cap) same ∙ omega arith

-- one turn of the loop: a digit is read, and the number is capped
pub one_more_digit : (base n d r whole : ℕ) (rest more : List ℕ) → 1 ≤ base → 1 ≤ length rest
    → more ≡ drop 1 rest → digit_value (get_or rest 0 0) < base → digit_value (get_or rest 0 0) ≡ d
    → r ≡ min (n * base + d) cap → min (digits_value_after base n (take_while (λ c. is_digit c base) rest)) cap
    ≡ whole → (r ≤ cap) × (min (digits_value_after base r (take_while (λ c. is_digit c base) more)) cap ≡ whole)
one_more_digit base n d r whole [] more low some e small is s h = absurd (omega arith)
one_more_digit base n d r whole (c ∷ rest) more low some e small is s h =
    let test : is_digit c base ≡ true = lt-ltb (digit_value c) base small in
    let left = take_while (λ c. is_digit c base) rest in
    let first : take_while (λ c. is_digit c base) (c ∷ rest) ≡ c ∷ left =
    take_while-cons (λ c. is_digit c base) c rest ∙ ap (λ t. cond t (c ∷ left) []) test in (
      omega arith,
      ap (λ l. min (digits_value_after base r (take_while (λ c. is_digit c base) l)) cap) e
          ∙ ap (λ m. min (digits_value_after base m left) cap) s
          ∙ digits_value_after-min base (n * base + d) left low
          ∙ ap (λ m. min (digits_value_after base (n * base + m) left) cap) (sym is)
          ∙ ap (λ l. min (digits_value_after base n l) cap) (sym first)
          ∙ h,
    )
