-- The front of a list that was added to, and small numbers digit by digit.
use Rattle.std.proofs.Common.{◌≡◌, ℕ, ◌+◌, ◌/◌, ◌%◌, ◌≤◌, ◌<◌, List, [], ◌∷◌, ◌++◌, length, take, take-take, take_all, ap, ◌∙◌, sym, arith, append_assoc, length-append}
use Rattle.std.proofs.lemmas.Fmt.{decimal_digit, decimal_step}
use Rattle.std.proofs.lemmas.List.{take-append-le}
use Rattle.std.specs.Prelude.{decimal}
use Rattle.lsl_lines.specs.Journal.{spaced}

-- what keeps a longer front keeps a shorter one
pub front_of_front : (n m : ℕ) (new old mid more : List ℕ) → n ≡ length old → m ≡ length mid → mid ≡ old ++ more
    → take m new ≡ mid → take n new ≡ old
front_of_front n m new old mid more short long e f =
    let within : n ≤ length old = omega (arith, short) in
    let below : n ≤ m = omega (arith, short, long, ap length e, length-append old more) in
    sym (take-take n m new below) ∙ ap (take n) (f ∙ e) ∙ take-append-le n old more within
    ∙ take_all n old (omega (arith, short))

-- a number of one digit after a space
pub one_digit : (n : ℕ) (old reserved blank out new : List ℕ) → n < 10 → reserved ≡ old → blank ≡ reserved ++ 32 ∷ []
    → out ≡ blank → new ≡ out ++ (48 + n % 10) ∷ [] → new ≡ old ++ spaced (decimal n)
one_digit n old reserved blank out new small kept gap same last =
    let itself : n % 10 ≡ n = omega arith in
    let head : out ≡ old ++ 32 ∷ [] = same ∙ gap ∙ ap (λ (l : List ℕ). l ++ 32 ∷ []) kept in
    last
    ∙ ap (λ (l : List ℕ). l ++ (48 + n % 10) ∷ []) head
    ∙ append_assoc old (32 ∷ []) ((48 + n % 10) ∷ [])
    ∙ ap (λ (d : List ℕ). old ++ 32 ∷ d) (ap (λ (k : ℕ). (48 + k) ∷ []) itself ∙ sym (decimal_digit n small))

-- and one of two digits
pub two_digits : (n : ℕ) (old reserved blank ten out new : List ℕ) → 10 ≤ n → n < 100 → reserved ≡ old
    → blank ≡ reserved ++ 32 ∷ [] → ten ≡ blank ++ (48 + n / 10) ∷ [] → out ≡ ten
    → new ≡ out ++ (48 + n % 10) ∷ [] → new ≡ old ++ spaced (decimal n)
two_digits n old reserved blank ten out new low high kept gap tens same last =
    let unit : List ℕ = (48 + n % 10) ∷ [] in
    let first : List ℕ = (48 + n / 10) ∷ [] in
    let head : blank ≡ old ++ 32 ∷ [] = gap ∙ ap (λ (l : List ℕ). l ++ 32 ∷ []) kept in
    let front : out ≡ old ++ 32 ∷ first =
    same ∙ tens ∙ ap (λ (l : List ℕ). l ++ first) head ∙ append_assoc old (32 ∷ []) first in
    let digits : decimal n ≡ first ++ unit =
    decimal_step n low (omega arith) ∙ ap (λ (l : List ℕ). l ++ unit) (decimal_digit (n / 10) (omega arith)) in
    last
    ∙ ap (λ (l : List ℕ). l ++ unit) front
    ∙ append_assoc old (32 ∷ first) unit
    ∙ ap (λ (d : List ℕ). old ++ 32 ∷ d) (sym digits)
