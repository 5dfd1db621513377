-- Reading escapes byte by byte is reading them character by character.
use Rattle.std.proofs.Common.{◌≡◌, ℕ, suc, ◌+◌, ◌-◌, ◌*◌, ◌/◌, ◌%◌, ◌<◌, ◌≤◌, ◌==◌, Bool, true, false, cond, ◌&&◌, ◌⊎◌, inl, inr, List, [], ◌∷◌, ◌++◌, length, take, drop, get_or, Some, refl, sym, ap, ◌∙◌, subst, arith, append_assoc, append-nil, length-append, ◌||◌}
use Rattle.std.proofs.lemmas.Bool.{cases_lt, ltb-true}
use Rattle.std.proofs.lemmas.Str.{encode_ascii, encodes-append, chars-encodes, IsUtf8-between, IsCharBoundary-after_ascii, IsCharBoundary-before_ascii}
use Rattle.std.proofs.Math.Utf8.{encode, scalar}
use Rattle.std.specs.Prelude.{slice_index, nat_lt}
use Rattle.std.specs.List.{list_any}
use Rattle.std.specs.Str.{IsUtf8, chars, encode_utf8_all, all_scalars}
use Rattle.lsl_lex.specs.Lexed.{EndsText}
use Rattle.lsl_lex.specs.Reading.{quote_of}
use Rattle.lsl_lex.specs.Strings.{escape_of, escapes_read}
use Rattle.lsl_lex.proofs.ByteKinds.{not_eq, eq_true, eq_false}
use Rattle.lsl_lex.proofs.Runs.{and_both, quote_some}

-- ---- bytes above 127

abbrev AllHigh : List ℕ → Type 0
AllHigh [] = Unit {0}
AllHigh (b ∷ bytes) = (128 ≤ b) × AllHigh bytes

plain : (b : ℕ) (bytes : List ℕ) → (b ≡ 92 → ⊥) → escapes_read (b ∷ bytes) ≡ b ∷ escapes_read bytes
plain b [] h = refl
plain b (c ∷ bytes) h = ap (λ t. cond t (escape_of c ++ escapes_read bytes) (b ∷ escapes_read (c ∷ bytes)))
    (eq_false b 92 h)

high : (u rest : List ℕ) → AllHigh u → escapes_read (u ++ rest) ≡ u ++ escapes_read rest
high [] rest h = refl
high (b ∷ u) rest h = plain b (u ++ rest) (λ e. omega (arith, h.0, e)) ∙ ap (λ l. b ∷ l) (high u rest h.1)

escaped : (c : ℕ) (rest : List ℕ) → escapes_read (92 ∷ c ∷ rest) ≡ escape_of c ++ escapes_read rest
escaped c rest = refl

-- the bytes of a character above 127 are all above 127, and there is one
encode_high : (c : ℕ) → 128 ≤ c → (b : ℕ) × (u : List ℕ) × (encode c ≡ b ∷ u) × AllHigh (b ∷ u)
unfolding encode
encode_high c h = first (nat_lt c 128) refl
  where
    third : (t : Bool) → (b : ℕ) × (u : List ℕ)
        × (cond t ((224 + c / 4096) ∷ (128 + c / 64 % 64) ∷ (128 + c % 64) ∷ [])
        ((240 + c / 262144) ∷ (128 + c / 4096 % 64) ∷ (128 + c / 64 % 64) ∷ (128 + c % 64) ∷ []) ≡ b ∷ u)
        × AllHigh (b ∷ u)
    third true = (
      224 + c / 4096,
      (128 + c / 64 % 64) ∷ (128 + c % 64) ∷ [],
      refl,
      (
        omega
            arith,
        (omega arith, (omega arith, tt)),
      ),
    )
    third false = (
      240 + c / 262144,
      (128 + c / 4096 % 64) ∷ (128 + c / 64 % 64) ∷ (128 + c %
          64) ∷ [],
      refl,
      (omega arith, (omega arith, (omega arith, (omega arith, tt)))),
    )

    second : (t : Bool) → (b : ℕ) × (u : List ℕ)
        × (cond t ((192 + c / 64) ∷ (128 + c % 64) ∷ [])
        (cond (nat_lt c 65536) ((224 + c / 4096) ∷ (128 + c / 64 % 64) ∷ (128 + c % 64) ∷ [])
        ((240 + c / 262144) ∷ (128 + c / 4096 % 64) ∷ (128 + c / 64 % 64) ∷ (128 + c % 64) ∷ [])) ≡ b ∷ u)
        × AllHigh (b ∷ u)
    second true = (192 + c / 64, (128 + c % 64) ∷ [], refl, (omega arith, (omega arith, tt)))
    second false = third (nat_lt c 65536)

    first : (t : Bool) → nat_lt c 128 ≡ t → (b : ℕ) × (u : List ℕ)
        × (cond t (c ∷ []) (cond (nat_lt c 2048) ((192 + c / 64) ∷ (128 + c % 64) ∷ [])
        (cond (nat_lt c 65536) ((224 + c / 4096) ∷ (128 + c / 64 % 64) ∷ (128 + c % 64) ∷ [])
        ((240 + c / 262144) ∷ (128 + c / 4096 % 64) ∷ (128 + c / 64 % 64) ∷ (128 + c % 64) ∷ []))) ≡ b ∷ u)
        × AllHigh (b ∷ u)
    first true e = absurd (let below = ltb-true c 128 e in omega (arith, below, h))
    first false e = second (nat_lt c 2048)

-- ---- characters

other_escape : (b : ℕ) → 128 ≤ b → escape_of b ≡ b ∷ []
other_escape b h =
    ap (λ t. cond t (10 ∷ []) (cond (b == 116) (32 ∷ 32 ∷ 32 ∷ 32 ∷ []) (b ∷ [])))
    (eq_false b 110 (λ e. omega (arith, h, e)))
    ∙ ap (λ t. cond t (32 ∷ 32 ∷ 32 ∷ 32 ∷ []) (b ∷ [])) (eq_false b 116 (λ e. omega (arith, h, e)))

spaces : encode_utf8_all (32 ∷ 32 ∷ 32 ∷ 32 ∷ []) ≡ 32 ∷ 32 ∷ 32 ∷ 32 ∷ []
unfolding encode
spaces = refl

backslash : escapes_read (encode 92 ++ []) ≡ encode 92 ++ []
unfolding encode
backslash = refl

encodes_escape_low : (d : ℕ) → d < 128 → encode_utf8_all (escape_of d) ≡ escape_of d
encodes_escape_low d h = first (d == 110) refl
  where
    second : (t : Bool) → encode_utf8_all (cond t (32 ∷ 32 ∷ 32 ∷ 32 ∷ []) (d ∷ []))
        ≡ cond t (32 ∷ 32 ∷ 32 ∷ 32 ∷ []) (d ∷ [])
    second true = spaces
    second false = ap (λ l. l ++ []) (encode_ascii d h)

    first : (t : Bool) → (d == 110) ≡ t → encode_utf8_all
        (cond t (10 ∷ []) (cond (d == 116) (32 ∷ 32 ∷ 32 ∷ 32 ∷ []) (d ∷ [])))
        ≡ cond t (10 ∷ []) (cond (d == 116) (32 ∷ 32 ∷ 32 ∷ 32 ∷ []) (d ∷ []))
    first true e = ap (λ l. l ++ []) (encode_ascii 10 (omega arith))
    first false e = second (d == 116)

-- what a backslash before a character means
escape_bytes : (d : ℕ) (rest : List ℕ) → escapes_read (92 ∷ (encode d ++ rest))
    ≡ encode_utf8_all (escape_of d) ++ escapes_read rest
escape_bytes d rest = go (cases_lt d 128)
  where
    go : (d < 128) ⊎ (128 ≤ d) → escapes_read (92 ∷ (encode d ++ rest))
        ≡ encode_utf8_all (escape_of d) ++ escapes_read rest
    go (inl h) = ap (λ l. escapes_read (92 ∷ (l ++ rest))) (encode_ascii d h)
        ∙ ap (λ l. l ++ escapes_read rest) (sym (encodes_escape_low d h))
    go (inr h) =
        let (b, u, e, all) = encode_high d h in
        ap (λ l. escapes_read (92 ∷ (l ++ rest))) e
        ∙ ap (λ l. l ++ escapes_read (u ++ rest)) (other_escape b all.0)
        ∙ ap (λ l. b ∷ l) (high u rest all.1)
        ∙ ap (λ l. l ++ escapes_read rest)
        (sym e ∙ sym (append-nil (encode d)) ∙ ap encode_utf8_all (sym (other_escape d h)))

low_character : (c : ℕ) (rest : List ℕ) → c < 128 → (c ≡ 92 → ⊥)
    → escapes_read (encode c ++ rest) ≡ encode c ++ escapes_read rest
low_character c rest h n =
    ap (λ l. escapes_read (l ++ rest)) (encode_ascii c h) ∙ plain c rest n
    ∙ ap (λ l. l ++ escapes_read rest) (sym (encode_ascii c h))

high_character : (c : ℕ) (rest : List ℕ) → 128 ≤ c → escapes_read (encode c ++ rest) ≡ encode c ++ escapes_read rest
high_character c rest h =
    let (b, u, e, all) = encode_high c h in
    ap (λ l. escapes_read (l ++ rest)) e ∙ high (b ∷ u) rest all ∙ ap (λ l. l ++ escapes_read rest) (sym e)

character : (c : ℕ) (rest : List ℕ) → (c ≡ 92 → ⊥) → escapes_read (encode c ++ rest) ≡ encode c ++ escapes_read rest
character c rest n = go (cases_lt c 128)
  where
    go : (c < 128) ⊎ (128 ≤ c) → escapes_read (encode c ++ rest) ≡ encode c ++ escapes_read rest
    go (inl h) = low_character c rest h n
    go (inr h) = high_character c rest h

pub escapes_read-encodes : (cs : List ℕ) → escapes_read (encode_utf8_all cs) ≡ encode_utf8_all (escapes_read cs)
escapes_read-encodes [] = refl
escapes_read-encodes (c ∷ []) = go (c == 92) refl
  where
    go : (t : Bool) → (c == 92) ≡ t → escapes_read (encode c ++ []) ≡ encode c ++ []
    go true e =
        let P : ℕ → Type 0 = λ c. escapes_read (encode c ++ []) ≡ encode c ++ [] in
        subst P (sym (eq_true c 92 e)) backslash
    go false e = character c [] (not_eq c 92 e)
escapes_read-encodes (c ∷ d ∷ cs) = go (c == 92) refl (escapes_read-encodes cs) (escapes_read-encodes (d ∷ cs))
  where
    slash : c ≡ 92 → escapes_read (encode_utf8_all cs) ≡ encode_utf8_all (escapes_read cs)
        → escapes_read (encode c ++ (encode d ++ encode_utf8_all cs))
        ≡ encode_utf8_all (escape_of d ++ escapes_read cs)
    slash e ih =
        ap (λ z. escapes_read (encode z ++ (encode d ++ encode_utf8_all cs))) e
        ∙ ap (λ l. escapes_read (l ++ (encode d ++ encode_utf8_all cs))) (encode_ascii 92 (omega arith))
        ∙ escape_bytes d (encode_utf8_all cs)
        ∙ ap (λ l. encode_utf8_all (escape_of d) ++ l) ih
        ∙ sym (encodes-append (escape_of d) (escapes_read cs))

    go : (t : Bool) → (c == 92) ≡ t → escapes_read (encode_utf8_all cs) ≡ encode_utf8_all (escapes_read cs)
        → escapes_read (encode_utf8_all (d ∷ cs)) ≡ encode_utf8_all (escapes_read (d ∷ cs))
        → escapes_read (encode c ++ (encode d ++ encode_utf8_all cs))
        ≡ encode_utf8_all (cond t (escape_of d ++ escapes_read cs) (c ∷ escapes_read (d ∷ cs)))
    go true e ih two = slash (eq_true c 92 e) ih
    go false e ih two = character c (encode d ++ encode_utf8_all cs) (not_eq c 92 e) ∙ ap (λ l. encode c ++ l) two

scalars-append : (xs ys : List ℕ) → all_scalars xs ≡ true → all_scalars ys ≡ true → all_scalars (xs ++ ys) ≡ true
scalars-append [] ys h k = k
scalars-append (x ∷ xs) ys h k = let both = and_both (scalar x) (all_scalars xs) h in
    ap (λ t. t && all_scalars (xs ++ ys)) both.0 ∙ scalars-append xs ys both.1 k

scalars_escape : (d : ℕ) → scalar d ≡ true → all_scalars (escape_of d) ≡ true
scalars_escape d h = first (d == 110)
  where
    second : (t : Bool) → all_scalars (cond t (32 ∷ 32 ∷ 32 ∷ 32 ∷ []) (d ∷ [])) ≡ true
    second true = refl
    second false = ap (λ t. t && true) h

    first : (t : Bool) → all_scalars (cond t (10 ∷ []) (cond (d == 116) (32 ∷ 32 ∷ 32 ∷ 32 ∷ []) (d ∷ []))) ≡ true
    first true = refl
    first false = second (d == 116)

scalars-escapes_read : (cs : List ℕ) → all_scalars cs ≡ true → all_scalars (escapes_read cs) ≡ true
scalars-escapes_read [] h = refl
scalars-escapes_read (c ∷ []) h = h
scalars-escapes_read (c ∷ d ∷ cs) h = go (c == 92) (scalars-escapes_read cs rest.1)
    (scalars-escapes_read (d ∷ cs) both.1)
  where
    both : (scalar c ≡ true) × (all_scalars (d ∷ cs) ≡ true)
    both = and_both (scalar c) (all_scalars (d ∷ cs)) h

    rest : (scalar d ≡ true) × (all_scalars cs ≡ true)
    rest = and_both (scalar d) (all_scalars cs) both.1

    go : (t : Bool) → all_scalars (escapes_read cs) ≡ true → all_scalars (escapes_read (d ∷ cs)) ≡ true
        → all_scalars (cond t (escape_of d ++ escapes_read cs) (c ∷ escapes_read (d ∷ cs))) ≡ true
    go true ih two = scalars-append (escape_of d) (escapes_read cs) (scalars_escape d rest.0) ih
    go false ih two = ap (λ t. t && all_scalars (escapes_read (d ∷ cs))) both.0 ∙ two

-- a body of UTF-8 means UTF-8
pub IsUtf8-escapes_read : (body : List ℕ) → IsUtf8 body → IsUtf8 (escapes_read body)
IsUtf8-escapes_read body (cs, (valid, e)) =
    (escapes_read cs, (scalars-escapes_read cs valid, sym (escapes_read-encodes cs) ∙ ap escapes_read e))

-- and its characters are the body's, with the escapes read
pub chars-escapes_read : (body : List ℕ) → IsUtf8 body → chars (escapes_read body) ≡ escapes_read (chars body)
chars-escapes_read body (cs, (valid, e)) =
    ap (λ l. chars (escapes_read l)) (sym e)
    ∙ ap chars (escapes_read-encodes cs)
    ∙ chars-encodes (escapes_read cs) (scalars-escapes_read cs valid)
    ∙ ap escapes_read (sym (chars-encodes cs valid) ∙ ap chars e)

no_escape : (bytes : List ℕ) → list_any (λ b. b == 92) bytes ≡ false → escapes_read bytes ≡ bytes
no_escape [] h = refl
no_escape (b ∷ bytes) h =
    let both = neither (b == 92) (list_any (λ b. b == 92) bytes) h in
    plain b bytes (not_eq b 92 both.0) ∙ ap (λ l. b ∷ l) (no_escape bytes both.1)
  where
    neither : (s t : Bool) → (s || t) ≡ false → (s ≡ false) × (t ≡ false)
    neither true t e = absurd (cc)
    neither false t e = (refl, e)

-- a body without a backslash means itself
pub plain_body : (body : List ℕ) → IsUtf8 body → list_any (λ b. b == 92) body ≡ false
    → chars body ≡ escapes_read (chars body)
plain_body body valid h = ap chars (sym (no_escape body h)) ∙ chars-escapes_read body valid

escape_short : (d : ℕ) → length (escape_of d) ≤ 4
escape_short d = first (d == 110)
  where
    second : (t : Bool) → length (cond t (32 ∷ 32 ∷ 32 ∷ 32 ∷ []) (d ∷ [])) ≤ 4
    second true = omega arith
    second false = omega arith

    first : (t : Bool) → length (cond t (10 ∷ []) (cond (d == 116) (32 ∷ 32 ∷ 32 ∷ 32 ∷ []) (d ∷ []))) ≤ 4
    first true = omega arith
    first false = second (d == 116)

pub length-escapes_read : (bytes : List ℕ) → length (escapes_read bytes) ≤ 2 * length bytes
length-escapes_read [] = omega arith
length-escapes_read (b ∷ []) = omega arith
length-escapes_read (b ∷ c ∷ bytes) = go (b == 92) (length-escapes_read bytes) (length-escapes_read (c ∷ bytes))
  where
    go : (t : Bool) → length (escapes_read bytes) ≤ 2 * length bytes
        → length (escapes_read (c ∷ bytes)) ≤ 2 * length (c ∷ bytes)
        → length (cond t (escape_of c ++ escapes_read bytes) (b ∷ escapes_read (c ∷ bytes)))
        ≤ 2 * length (b ∷ c ∷ bytes)
    go true ih two = omega (arith, ih, escape_short c, length-append (escape_of c) (escapes_read bytes))
    go false ih two = omega (arith, two)

-- ---- the body of a string in a text of UTF-8

at_seam : (u : List ℕ) (b : ℕ) (rest : List ℕ) → get_or (u ++ b ∷ rest) (length u) 0 ≡ b
at_seam [] b rest = refl
at_seam (a ∷ u) b rest = at_seam u b rest

drop_past : (u : List ℕ) (b : ℕ) (rest : List ℕ) → drop (length u + 1) (u ++ b ∷ rest) ≡ rest
drop_past [] b rest = refl
drop_past (a ∷ u) b rest = let one : length (a ∷ u) + 1 ≡ suc (length u + 1) = omega arith in
    ap (λ n. drop n (a ∷ (u ++ b ∷ rest))) one ∙ drop_past u b rest

body_whole : (text more : List ℕ) (n : ℕ) → EndsText text → text ≡ 34 ∷ more → quote_of more ≡ Some n
    → IsUtf8 (take n more)
body_whole text more n (front, valid) e f =
    let (body, rest, e1, e2, h) = quote_some more n f in
    let whole = front ++ 34 ∷ (body ++ 34 ∷ rest) in
    let same : front ++ text ≡ whole = ap (λ l. front ++ l) (e ∙ ap (λ l. 34 ∷ l) e1) in
    let good : IsUtf8 whole = subst IsUtf8 same valid in
    let i = length front + 1 in
    let j = i + length body in
    let split : whole ≡ (front ++ 34 ∷ body) ++ 34 ∷ rest = sym (append_assoc front (34 ∷ body) (34 ∷ rest)) in
    let place : length (front ++ 34 ∷ body) ≡ j = omega (arith, length-append front (34 ∷ body)) in
    let size : length whole ≡ length front + (1 + (length body + (1 + length rest))) =
    omega (arith, length-append front (34 ∷ (body ++ 34 ∷ rest)), length-append body (34 ∷ rest)) in
    let opening : get_or whole (length front) 0 ≡ 34 = at_seam front 34 (body ++ 34 ∷ rest) in
    let closing : get_or whole j 0 ≡ 34 =
    ap (λ l. get_or l j 0) split ∙ ap (λ k. get_or ((front ++ 34 ∷ body) ++ 34 ∷ rest) k 0) (sym place)
    ∙ at_seam (front ++ 34 ∷ body) 34 rest in
    let cut : IsUtf8 (take (j - i) (drop i whole)) = IsUtf8-between whole i j good (omega arith)
    (IsCharBoundary-after_ascii whole (length front) good (omega (arith, size)) (omega (arith, opening)))
    (IsCharBoundary-before_ascii whole j (omega (arith, size)) (omega (arith, closing))) in
    let inner : take (j - i) (drop i whole) ≡ take n more =
    ap (λ k. take k (drop i whole)) (omega (arith, e2))
    ∙ ap (take n) (drop_past front 34 (body ++ 34 ∷ rest) ∙ sym e1) in
    subst IsUtf8 inner cut

opening_quote : (text : List ℕ) → slice_index text 0 ≡ 34 → text ≡ 34 ∷ drop 1 text
opening_quote [] e = absurd (omega (arith, e))
opening_quote (b ∷ text) e = ap (λ z. z ∷ text) e

pub body_valid : (text more : List ℕ) (n : ℕ) → EndsText text → slice_index text 0 ≡ 34 → more ≡ drop 1 text
    → Some n ≡ quote_of more → IsUtf8 (take n more)
body_valid text more n valid quote e f = body_whole text more n valid
    (opening_quote text quote ∙ ap (λ l. 34 ∷ l) (sym e)) (sym f)
