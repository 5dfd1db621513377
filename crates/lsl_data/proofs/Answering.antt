-- What is answered, by its case.
use Rattle.std.proofs.Common.{◌≡◌, ◌∙◌, refl, sym, ap, subst, ℕ, ◌+◌, ◌-◌, ◌≤◌, ◌<◌, Bool, true, false, eqb, List, [], ◌∷◌, length, Option, Some, None, unwrap_or, arith}
use Rattle.std.specs.Prelude.{if◌then◌else◌, nat_lt, is_some}
use Rattle.std.specs.Option.{option_map}
use Rattle.std.specs.Str.{bytes_eq, encode_utf8_all}
use Rattle.std.proofs.lemmas.Bool.Decides.{nat_tests}
use Rattle.std.proofs.lemmas.Str.{length-le-encodes}
use Rattle.lsl_post.specs.declared.parts.Pair.{Pair}
use Rattle.lsl_image.specs.Object.{pair, pair_bytes}
use Rattle.lsl_image.specs.Valid.{Ascend}
use Rattle.lsl_data.specs.declared.answers.Wrote.{Wrote}
use Rattle.lsl_data.specs.declared.answers.Wrote.TheVariants.{Stored, Deleted, NoKey, NotFound, Same, Full}
use Rattle.lsl_data.specs.Answers.{delete_answer, deleted, holds, pairs_after, write_answer, written}
use Rattle.lsl_data.specs.Pairs.{bytes_of, pair_at, value_at, with_pair}
use Rattle.lsl_data.proofs.PairLemmas.{bytes_at, bytes-with_pair, bytes-without}

pub empty-name : (name : List ℕ) → length (encode_utf8_all name) ≡ 0 → length name ≡ 0
empty-name name e = omega (arith, length-le-encodes name)

pub some-name : (name : List ℕ) → 0 < length (encode_utf8_all name) → 0 < length name
some-name [] h = h
some-name (c ∷ name) h = omega arith

no-length : (list : List ℕ) → 0 < length list → eqb (length list) 0 ≡ false
no-length list h = grind (arith, nat_tests)

is-length : (list : List ℕ) → length list ≡ 0 → eqb (length list) 0 ≡ true
is-length list h = grind (arith, nat_tests)

pick : Bool → Bool → Bool → Bool → Wrote → Wrote
pick a b c d gone = if a then NoKey else if b then gone else if c then Same else if d then Full else Stored

pick-write : (pairs : List Pair) (n v : List ℕ) → write_answer pairs n v
    ≡ pick (eqb (length n) 0) (eqb (length v) 0) (holds (value_at pairs n) v)
    (nat_lt 65536 (bytes_of (with_pair pairs (pair n v)))) (delete_answer pairs n)
unfolding write_answer pick
pick-write pairs n v = refl

module _ (pairs : List Pair) (n v : List ℕ) where
  pub write-no-key : length n ≡ 0 → NoKey ≡ write_answer pairs n v
  unfolding pick
  write-no-key a =
      sym (pick-write pairs n v
      ∙ ap (λ t. pick t (eqb (length v) 0) (holds (value_at pairs n) v)
      (nat_lt 65536 (bytes_of (with_pair pairs (pair n v)))) (delete_answer pairs n)) (is-length n a))

  pub write-delete : 0 < length n → length v ≡ 0 → delete_answer pairs n ≡ write_answer pairs n v
  unfolding pick
  write-delete a b =
      sym (pick-write pairs n v
      ∙ ap (λ t. pick t (eqb (length v) 0) (holds (value_at pairs n) v)
      (nat_lt 65536 (bytes_of (with_pair pairs (pair n v)))) (delete_answer pairs n)) (no-length n a)
      ∙ ap (λ t. pick false t (holds (value_at pairs n) v)
      (nat_lt 65536 (bytes_of (with_pair pairs (pair n v)))) (delete_answer pairs n)) (is-length v b))

  tested : 0 < length n → 0 < length v → (c d : Bool) → holds (value_at pairs n) v ≡ c
      → nat_lt 65536 (bytes_of (with_pair pairs (pair n v))) ≡ d
      → write_answer pairs n v ≡ pick false false c d (delete_answer pairs n)
  tested a b c d e f =
      pick-write pairs n v
      ∙ ap (λ t. pick t (eqb (length v) 0) (holds (value_at pairs n) v)
      (nat_lt 65536 (bytes_of (with_pair pairs (pair n v)))) (delete_answer pairs n)) (no-length n a)
      ∙ ap (λ t. pick false t (holds (value_at pairs n) v)
      (nat_lt 65536 (bytes_of (with_pair pairs (pair n v)))) (delete_answer pairs n)) (no-length v b)
      ∙ ap (λ t. pick false false t (nat_lt 65536 (bytes_of (with_pair pairs (pair n v))))
      (delete_answer pairs n)) e
      ∙ ap (λ t. pick false false c t (delete_answer pairs n)) f

  pub write-same : 0 < length n → 0 < length v → holds (value_at pairs n) v ≡ true → Same ≡ write_answer pairs n v
  unfolding pick
  write-same a b e = sym (tested a b true _ e refl)

  over : (k : ℕ) → 65536 < k → nat_lt 65536 k ≡ true
  over k h = grind (arith, nat_tests)

  under : (k : ℕ) → k ≤ 65536 → nat_lt 65536 k ≡ false
  under k h = grind (arith, nat_tests)

  pub write-full : 0 < length n → 0 < length v → holds (value_at pairs n) v ≡ false
      → 65536 < bytes_of (with_pair pairs (pair n v)) → Full ≡ write_answer pairs n v
  unfolding pick
  write-full a b e f = sym (tested a b false true e (over (bytes_of (with_pair pairs (pair n v))) f))

  pub write-stored : 0 < length n → 0 < length v → holds (value_at pairs n) v ≡ false
      → bytes_of (with_pair pairs (pair n v)) ≤ 65536 → Stored ≡ write_answer pairs n v
  unfolding pick
  write-stored a b e f = sym (tested a b false false e (under (bytes_of (with_pair pairs (pair n v))) f))

module _ (pairs : List Pair) (n : List ℕ) where
  pub delete-no-key : length n ≡ 0 → NoKey ≡ delete_answer pairs n
  unfolding delete_answer
  delete-no-key a =
      sym (ap (λ (t : Bool). if t then NoKey else (if is_some (pair_at pairs n) then Deleted else NotFound))
      (is-length n a))

  found : 0 < length n → (o : Option Pair) → pair_at pairs n ≡ o
      → delete_answer pairs n ≡ (if is_some o then Deleted else NotFound)
  unfolding delete_answer
  found a o e =
      ap (λ (t : Bool). if t then NoKey else (if is_some (pair_at pairs n) then Deleted else NotFound))
      (no-length n a)
      ∙ ap (λ (p : Option Pair). if is_some p then Deleted else NotFound) e

  pub delete-deleted : 0 < length n → (p : Pair) → pair_at pairs n ≡ Some p → Deleted ≡ delete_answer pairs n
  delete-deleted a p e = sym (found a (Some p) e)

  pub delete-not-found : 0 < length n → pair_at pairs n ≡ None → NotFound ≡ delete_answer pairs n
  delete-not-found a e = sym (found a None e)

-- the pair that is there holds the value if its own is that
pub holds-found : (pairs : List Pair) (n v : List ℕ) (old : Pair) → pair_at pairs n ≡ Some old
    → holds (value_at pairs n) v ≡ bytes_eq old.value v
holds-found pairs n v old e = ap (λ (o : Option Pair). holds (option_map (λ (q : Pair). q.value) o) v) e

pub holds-none : (pairs : List Pair) (n v : List ℕ) → pair_at pairs n ≡ None → holds (value_at pairs n) v ≡ false
holds-none pairs n v e = ap (λ (o : Option Pair). holds (option_map (λ (q : Pair). q.value) o) v) e

pub worth-found : (pairs : List Pair) (n : List ℕ) (old : Pair) → pair_at pairs n ≡ Some old
    → bytes_at pairs n ≡ pair_bytes old
worth-found pairs n old e = ap (λ (o : Option Pair). unwrap_or (option_map pair_bytes o) 0) e

pub worth-none : (pairs : List Pair) (n : List ℕ) → pair_at pairs n ≡ None → bytes_at pairs n ≡ 0
worth-none pairs n e = ap (λ (o : Option Pair). unwrap_or (option_map pair_bytes o) 0) e

-- the bytes with a pair in its place, where `old` go
pub used-with : (pairs : List Pair) (p : Pair) (used old : ℕ) → Ascend pairs → used ≡ bytes_of pairs
    → bytes_at pairs p.name ≡ old → used - old + pair_bytes p ≡ bytes_of (with_pair pairs p)
used-with pairs p used old a is gone =
    omega (arith, bytes-with_pair pairs p a, bytes-without pairs p.name a, is, gone)

pub old-within : (pairs : List Pair) (n : List ℕ) (used old : ℕ) → Ascend pairs → used ≡ bytes_of pairs
    → bytes_at pairs n ≡ old → old ≤ used
old-within pairs n used old a is gone = omega (arith, bytes-without pairs n a, is, gone)

pub never-stored : (pairs : List Pair) (name : List ℕ) → delete_answer pairs name ≡ Stored → ⊥
unfolding delete_answer
never-stored pairs name = by (eqb (length name) 0) (is_some (pair_at pairs name))
  where
    by : (a b : Bool) → (if a then NoKey else (if b then Deleted else NotFound)) ≡ Stored → ⊥
    by true b e = cc
    by false true e = cc
    by false false e = cc

unstored : (w : Wrote) (pairs : List Pair) (n v : List ℕ) → (w ≡ Stored → ⊥)
    → pairs_after w pairs n [] ≡ pairs_after w pairs n v
unstored Stored pairs n v never = absurd (never refl)
unstored Deleted pairs n v never = refl
unstored NoKey pairs n v never = refl
unstored NotFound pairs n v never = refl
unstored Same pairs n v never = refl
unstored Full pairs n v never = refl

-- a write of nothing leaves what a delete does
pub deleted-written : (pairs : List Pair) (n v : List ℕ) → delete_answer pairs n ≡ write_answer pairs n v
    → deleted pairs n ≡ written pairs n v
deleted-written pairs n v e =
    unstored (delete_answer pairs n) pairs n v (never-stored pairs n) ∙ ap (λ w. pairs_after w pairs n v) e

-- what a test of a text's bytes says of its characters
pub emptied : (text bytes : List ℕ) (r : Bool) → bytes ≡ encode_utf8_all text → r ≡ eqb (length bytes) 0
    → r ≡ true
    → length text ≡ 0
emptied text bytes r same is none =
    empty-name text (ap length (sym same) ∙ zero-is (length bytes) (sym is ∙ none))
  where
    zero-is : (k : ℕ) → eqb k 0 ≡ true → k ≡ 0
    zero-is k e = grind (arith, nat_tests)

pub filled : (text bytes : List ℕ) (r : Bool) → bytes ≡ encode_utf8_all text → r ≡ eqb (length bytes) 0
    → r ≡ false
    → 0 < length text
filled text bytes r same is differs =
    some-name text (subst (λ (b : List ℕ). 0 < length b) same (above (length bytes) (sym is ∙ differs)))
  where
    above : (k : ℕ) → eqb k 0 ≡ false → 0 < k
    above k e = grind (arith, nat_tests)
