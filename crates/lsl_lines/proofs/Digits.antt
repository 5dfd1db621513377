-- A number read digit by digit, capped on the way.
use Rattle.std.proofs.Common.{◌≡◌, ℕ, ◌+◌, ◌*◌, ◌<◌, ◌≤◌, min, Bool, true, false, List, [], ◌∷◌, length, drop, get_or, Result, Ok, Err, refl, ⊎_elim, sym, ap, ◌∙◌, arith, ◌&&◌}
use Rattle.std.proofs.lemmas.Bool.{cases_lt, lt-ltb, lt-leb}
use Rattle.std.specs.Prelude.{nat_le, nat_lt}
use Rattle.std.specs.Char.{digit_value}
use Rattle.std.specs.List.{list_all}
use Rattle.std.specs.Str.Parse.{digits_value, digits_value_after}
use Rattle.lsl_lines.specs.Checks.{◌>>=◌, fault_unless}
use Rattle.lsl_lines.specs.Fields.{is_decimal, digits_of}
use Rattle.lsl_lines.specs.Reads.{capped}
use Rattle.lsl_lines.specs.declared.faults.FileKind.{FileKind}
use Rattle.lsl_lines.specs.declared.faults.FileKind.TheVariants.{BadLine}

abbrev pub cap : ℕ
cap = 4294967296000

-- the capped number of the digits after those of n
abbrev pub digits_behind : ℕ → List ℕ → Result ℕ FileKind
digits_behind n digits = fault_unless (list_all is_decimal digits) BadLine
    (Ok (min (digits_value_after 10 n digits) cap))

digits_value_after-ge : (n : ℕ) (ds : List ℕ) → n ≤ digits_value_after 10 n ds
digits_value_after-ge n [] = omega arith
digits_value_after-ge n (d ∷ ds) = let more = digits_value_after-ge (n * 10 + digit_value d) ds in omega arith

-- capping the number so far changes nothing of the capped number
digits_value_after-min : (n : ℕ) (ds : List ℕ)
    → min (digits_value_after 10 (min n cap) ds) cap ≡ min (digits_value_after 10 n ds) cap
digits_value_after-min n ds = ⊎_elim below above (cases_lt n cap)
  where
    below : n < cap → min (digits_value_after 10 (min n cap) ds) cap ≡ min (digits_value_after 10 n ds) cap
    below le = let same : min n cap ≡ n = omega arith in ap (λ m. min (digits_value_after 10 m ds) cap) same

    above : cap ≤ n → min (digits_value_after 10 (min n cap) ds) cap ≡ min (digits_value_after 10 n ds) cap
    above le =
        let same : min n cap ≡ cap = omega arith in
        let left = digits_value_after-ge cap ds in
        let right = digits_value_after-ge n ds in
        ap (λ m. min (digits_value_after 10 m ds) cap) same ∙ omega arith

-- one turn of the loop: a digit is read, and the number is capped
pub one_more_digit : (n d r : ℕ) (whole : Result ℕ FileKind) (rest more : List ℕ) → 1 ≤ length rest
    → more ≡ drop 1 rest → digit_value (get_or rest 0 0) < 10 → digit_value (get_or rest 0 0) ≡ d
    → r ≡ min (n * 10 + d) cap → digits_behind n rest ≡ whole → (r ≤ cap) × (digits_behind r more ≡ whole)
one_more_digit n d r whole [] more some e small is s h = absurd (omega arith)
one_more_digit n d r whole (c ∷ rest) more some e small is s h =
    let test : is_decimal c ≡ true = lt-ltb (digit_value c) 10 small in
    let value : min (digits_value_after 10 r rest) cap ≡ min (digits_value_after 10 (n * 10 + digit_value c) rest) cap =
    ap (λ m. min (digits_value_after 10 m rest) cap) s ∙ digits_value_after-min (n * 10 + d) rest
    ∙ ap (λ m. min (digits_value_after 10 (n * 10 + m) rest) cap) (sym is) in
    let this : digits_behind n (c ∷ rest) ≡ digits_behind (n * 10 + digit_value c) rest =
    ap (λ b. fault_unless (b && list_all is_decimal rest) BadLine
    (Ok (min (digits_value_after 10 (n * 10 + digit_value c) rest) cap))) test in (
      omega arith,
      ap (digits_behind r) e ∙ ap (λ v. fault_unless (list_all is_decimal rest) BadLine (Ok v)) value ∙ sym this ∙ h,
    )

-- no digit
pub no_digit : (n : ℕ) (rest : List ℕ) → 1 ≤ length rest → is_decimal (get_or rest 0 0) ≡ false
    → digits_behind n rest ≡ Err BadLine
no_digit n [] some h = absurd (omega arith)
no_digit n (c ∷ rest) some h = ap (λ b. fault_unless (b && list_all is_decimal rest) BadLine
    (Ok (min (digits_value_after 10 n (c ∷ rest)) cap))) h

pub digits_read : (digits : List ℕ) → 1 ≤ length digits → capped (digits_of digits) ≡ digits_behind 0 digits
digits_read digits some = go (nat_lt 0 (length digits)) (list_all is_decimal digits) (lt-ltb 0 (length digits) some)
  where
    go : (a b : Bool) → a ≡ true → capped (fault_unless (a && b) BadLine (Ok (digits_value 10 digits)))
        ≡ fault_unless b BadLine (Ok (min (digits_value_after 10 0 digits) cap))
    go true true h = refl
    go true false h = refl
    go false b h = absurd (cc)

-- a limit below the cap is tested on the capped number
pub capped_within : {A : Type 0} (x : Result ℕ FileKind) (n limit : ℕ) (f : ℕ → A) → capped x ≡ Ok n
    → limit < cap → (x >>= λ m. fault_unless (nat_le m limit) BadLine (Ok (f m)))
    ≡ fault_unless (nat_le n limit) BadLine (Ok (f n))
capped_within {A} (Err kind) n limit f h lt = absurd (cc)
capped_within {A} (Ok m) n limit f h lt = ⊎_elim small big (cases_lt m cap)
  where
    number : Result ℕ FileKind → ℕ
    number (Ok v) = v
    number (Err kind) = 0

    is : min m cap ≡ n
    is = ap number h

    small : m < cap → fault_unless (nat_le m limit) BadLine (Ok (f m))
        ≡ fault_unless (nat_le n limit) BadLine (Ok (f n))
    small lt = let same : m ≡ n = omega (arith, is) in ap (λ v. fault_unless (nat_le v limit) BadLine (Ok (f v))) same

    big : cap ≤ m → fault_unless (nat_le m limit) BadLine (Ok (f m)) ≡ fault_unless (nat_le n limit) BadLine (Ok (f n))
    big le =
        let a : nat_le m limit ≡ false = lt-leb m limit (omega arith) in
        let b : nat_le n limit ≡ false = lt-leb n limit (omega (arith, is)) in
        ap (λ t. fault_unless t BadLine (Ok (f m))) a ∙ sym (ap (λ t. fault_unless t BadLine (Ok (f n))) b)

pub capped_fault : (x : Result ℕ FileKind) (kind : FileKind) → capped x ≡ Err kind → x ≡ Err kind
capped_fault (Ok m) kind h = absurd (cc)
capped_fault (Err k) kind h = h
