-- The files of scripts, and the keys of prims, as they are listed one after another.
use Rattle.std.proofs.Common.{◌≡◌, ℕ, ◌+◌, ◌<◌, ◌≤◌, max, nat_lt, Bool, true, false, cond, ◌||◌, List, [], ◌∷◌, ◌++◌, length, get_or, take, map, refl, sym, ap, ◌∙◌, ⊎_elim, arith, true≢false, encode_utf8_all}
use Rattle.std.proofs.lemmas.Bool.{cases_lt, cond-false, cond-true, le-ltb, lt-ltb}
use Rattle.std.proofs.lemmas.List.{get_or-take, length-take-le, take_more}
use Rattle.std.proofs.lemmas.List.Sums.{position_or_len_is}
use Rattle.std.proofs.lemmas.Map.Keys.{IsDistinct-head, IsDistinct-tail, apart_from_distinct}
use Rattle.std.proofs.lemmas.Slice.Eq.{bytes_eq-Decides}
use Rattle.std.proofs.lemmas.Str.{encodes_same}
use Rattle.std.specs.List.{AllByRecursion, IsDistinct}
use Rattle.std.specs.Str.{bytes_eq}
use Rattle.lsl_lines.specs.Keys.{has_key}
use Rattle.lsl_lines.specs.Reading.{file_added, place_of}
use Rattle.lsl_lines.specs.Writable.{NameInTurn, named_behind}
use Rattle.lsl_lines.specs.declared.file.ScriptLine.{ScriptLine}

-- ---- texts that differ

same_text : (a : List ℕ) → bytes_eq a a ≡ true
same_text a = (bytes_eq-Decides a a).1 refl

none_true : (b : Bool) → (b ≡ true → ⊥) → b ≡ false
none_true true h = absurd (h refl)
none_true false h = refl

other_way : (a b : List ℕ) → bytes_eq a b ≡ false → bytes_eq b a ≡ false
other_way a b e = none_true (bytes_eq b a) (λ f.
    let same : a ≡ b = sym ((bytes_eq-Decides b a).0 f) in
    true≢false (sym ((bytes_eq-Decides a b).1 same) ∙ e))

-- ---- the place of a file

pub place_told : (files : List (List ℕ)) (n i : ℕ) → IsDistinct bytes_eq files → i ≤ n → max n (i + 1) ≤ length files
    → place_of (take n files) (get_or files i []) ≡ i
place_told files n i distinct le within =
    let file = get_or files i [] in
    let long : length (take n files) ≡ n = length-take-le n files (omega (arith, within)) in
    position_or_len_is (bytes_eq file) (take n files) i [] (omega (arith, long, le))
    (λ k lt. ap (bytes_eq file) (get_or-take n files k [] (omega (arith, lt, le)))
    ∙ other_way (get_or files k []) file
    (apart_from_distinct bytes_eq files k i [] distinct lt (omega (arith, within))))
    (λ lt. ap (bytes_eq file) (get_or-take n files i [] (omega (arith, lt, long))) ∙ same_text file)

pub file_told : (files : List (List ℕ)) (n i : ℕ) → IsDistinct bytes_eq files → i ≤ n → max n (i + 1) ≤ length files
    → file_added (take n files) (get_or files i []) ≡ take (max n (i + 1)) files
file_told files n i distinct le within =
    let file = get_or files i [] in
    let known = take n files in
    let long : length known ≡ n = length-take-le n files (omega (arith, within)) in
    let place = place_told files n i distinct le within in
    ap (λ p. cond (nat_lt p (length known)) known (known ++ file ∷ [])) place
    ∙ ⊎_elim (old long) (new long) (cases_lt i n)
  where
    old : length (take n files) ≡ n → i < n
        → cond (nat_lt i (length (take n files))) (take n files) (take n files ++ get_or files i [] ∷ [])
        ≡ take (max n (i + 1)) files
    old long lt =
        let most : n ≡ max n (i + 1) = omega (arith, lt) in
        cond-true (nat_lt i (length (take n files))) _ _ (lt-ltb i (length (take n files)) (omega (arith, lt, long)))
        ∙ ap (λ m. take m files) most

    new : length (take n files) ≡ n → n ≤ i
        → cond (nat_lt i (length (take n files))) (take n files) (take n files ++ get_or files i [] ∷ [])
        ≡ take (max n (i + 1)) files
    new long ge =
        let is : i ≡ n = omega (arith, ge, le) in
        let most : n + 1 ≡ max n (i + 1) = omega (arith, is) in
        cond-false (nat_lt i (length (take n files))) _ _ (le-ltb i (length (take n files)) (omega (arith, ge, long)))
        ∙ ap (λ k. take n files ++ get_or files k [] ∷ []) is
        ∙ sym (take_more files n [] (omega (arith, within, is)))
        ∙ ap (λ m. take m files) most

pub named-append : (c : ℕ) (a b : List ScriptLine) → named_behind c (a ++ b) ≡ named_behind (named_behind c a) b
named-append c [] b = refl
named-append c (s ∷ a) b = named-append (max c (s.file + 1)) a b

named-grows : (c : ℕ) (a : List ScriptLine) → c ≤ named_behind c a
named-grows c [] = omega arith
named-grows c (s ∷ a) = omega (arith, named-grows (max c (s.file + 1)) a)

-- the next script names a known file or the next one, and there is that one
pub next_in_turn : (c : ℕ) (a : List ScriptLine) (s : ScriptLine) (b : List ScriptLine) → NameInTurn c (a ++ s ∷ b)
    → s.file ≤ named_behind c a
next_in_turn c [] s b h = h.0
next_in_turn c (t ∷ a) s b h = next_in_turn (max c (t.file + 1)) a s b h.1

pub next_within : (c : ℕ) (a : List ScriptLine) (s : ScriptLine) (b : List ScriptLine)
    → max (named_behind c a) (s.file + 1) ≤ named_behind c (a ++ s ∷ b)
next_within c [] s b = named-grows (max c (s.file + 1)) b
next_within c (t ∷ a) s b = next_within (max c (t.file + 1)) a s b

-- ---- keys

middle : {A : Type 0} (P : A → Type 0) (front : List A) (x : A) (rest : List A)
    → AllByRecursion P (front ++ x ∷ rest) → P x
middle P [] x rest h = h.0
middle P (y ∷ front) x rest h = middle P front x rest h.1

key_apart : (a b : List ℕ) → bytes_eq a b ≡ false → bytes_eq (encode_utf8_all b) (encode_utf8_all a) ≡ false
key_apart a b e = none_true (bytes_eq (encode_utf8_all b) (encode_utf8_all a)) (λ f.
    let same : a ≡ b = sym (encodes_same b a ((bytes_eq-Decides (encode_utf8_all b) (encode_utf8_all a)).0 f)) in
    true≢false (sym ((bytes_eq-Decides a b).1 same) ∙ e))

-- a key that differs from those before it isn't in the table yet
pub key_told : (keys : List (List ℕ)) (key : List ℕ) (rest : List (List ℕ)) → IsDistinct bytes_eq (keys ++ key ∷ rest)
    → has_key (map encode_utf8_all keys) key ≡ false
key_told [] key rest h = refl
key_told (k ∷ keys) key rest h =
    let first = middle (λ y. bytes_eq k y ≡ false) keys key rest
    (IsDistinct-head bytes_eq k (keys ++ key ∷ rest) h) in
    ap (λ b. b || has_key (map encode_utf8_all keys) key) (key_apart k key first)
    ∙ key_told keys key rest (IsDistinct-tail bytes_eq k (keys ++ key ∷ rest) h)
