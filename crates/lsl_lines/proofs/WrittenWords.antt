-- Words that were written with one space between them are read back, and are a line of UTF-8.
use Rattle.std.proofs.Common.{◌≡◌, ℕ, suc, ◌<◌, ◌≤◌, ◌==◌, nat_lt, Bool, true, false, not, cond, ◌&&◌, ◌||◌, List, [], ◌∷◌, ◌++◌, length, get_or, map, flat_map, Result, Ok, refl, sym, ap, ◌∙◌, subst, arith, append_assoc, append-nil, IsUtf8, IsAscii, lit<, true≢false, encode_utf8, encode_utf8_all}
use Rattle.std.proofs.lemmas.Bool.{and_parts, and_from, cond-false, eq-eqb, eqb-true, ltb-true, ne_eqb}
use Rattle.std.proofs.lemmas.Grind.{flat_map-append}
use Rattle.std.proofs.lemmas.List.Folds.{list_all-append}
use Rattle.std.proofs.lemmas.List.Sums.{AllPass-from_list_all}
use Rattle.std.proofs.lemmas.Str.{IsUtf8-append, IsUtf8-from_ascii, IsUtf8-encode, IsUtf8-nil, encode_ascii, inside_one}
use Rattle.std.proofs.lemmas.Str.Ascii.{IsAscii-from_all}
use Rattle.std.specs.Char.{IsScalar}
use Rattle.std.specs.List.{AllByRecursion, list_all}
use Rattle.std.specs.Str.{all_scalars}
use Rattle.lsl_text.specs.Quoted.{escaped}
use Rattle.lsl_value.specs.Text.{IsText}
use Rattle.lsl_lines.specs.Checks.{◌>>=◌}
use Rattle.lsl_lines.specs.Journal.{joined, spaced, text_word}
use Rattle.lsl_lines.specs.Lines.{lines_of}
use Rattle.lsl_lines.specs.Reads.{is_in_line, without_return}
use Rattle.lsl_lines.specs.Words.{Plain, Quoted, Word, behind_quote, is_blank, is_skipped, plain_words, quoted_words, words_of}
use Rattle.lsl_lines.specs.Written.{written}
use Rattle.lsl_lines.specs.declared.faults.FileKind.{FileKind}
use Rattle.lsl_lines.proofs.LineLemmas.{line_cut}
use Rattle.lsl_lines.proofs.ReadBack.{all_back}
use Rattle.lsl_lines.proofs.Texts.{text_of-text}

-- what is in plain words: letters, digits and the minus sign among others, but no blank, quote or `#`
abbrev pub is_word_byte : ℕ → Bool
is_word_byte b = nat_lt 35 b && nat_lt b 127

abbrev pub IsPlain : List ℕ → Type 0
IsPlain bytes = (0 < length bytes) × (list_all is_word_byte bytes ≡ true)

abbrev pub IsWritten : Word → Type 0
IsWritten (Plain bytes) = IsPlain bytes
IsWritten (Quoted text) = IsText text

bounds : (b : ℕ) → is_word_byte b ≡ true → (35 < b) × (b < 127)
bounds b h = let (l, r) = and_parts (nat_lt 35 b) (nat_lt b 127) h in (ltb-true 35 b l, ltb-true b 127 r)

differs : (b c : ℕ) → is_word_byte b ≡ true → c ≤ 35 → (b == c) ≡ false
differs b c h le = let (l, r) = bounds b h in ne_eqb b c (λ e. omega (arith, e, l, le))

not_blank : (b : ℕ) → is_word_byte b ≡ true → is_blank b ≡ false
not_blank b h =
    ap (λ t. t || (b == 32)) (differs b 9 h (omega arith)) ∙ differs b 32 h (omega arith)

-- ---- reading

plain_back : (bytes front rest : List ℕ) → list_all is_word_byte bytes ≡ true
    → plain_words front (bytes ++ rest) ≡ plain_words (front ++ bytes) rest
plain_back [] front rest h = ap (λ l. plain_words l rest) (sym (append-nil front))
plain_back (b ∷ bytes) front rest h =
    let (one, more) = and_parts (is_word_byte b) (list_all is_word_byte bytes) h in
    cond-false (is_blank b) _ (plain_words (front ++ b ∷ []) (bytes ++ rest)) (not_blank b one)
    ∙ plain_back bytes (front ++ b ∷ []) rest more
    ∙ ap (λ l. plain_words l rest) (append_assoc front (b ∷ []) bytes)

plain_begun : (bytes rest : List ℕ) → IsPlain bytes → words_of (bytes ++ rest) ≡ plain_words bytes rest
plain_begun [] rest (some, h) = absurd (omega arith)
plain_begun (b ∷ bytes) rest (some, h) =
    let (one, more) = and_parts (is_word_byte b) (list_all is_word_byte bytes) h in
    cond-false (is_blank b) _ _ (not_blank b one)
    ∙ cond-false (b == 34) _ _ (differs b 34 one (omega arith))
    ∙ plain_back bytes (b ∷ []) rest more

quoted_begun : (text rest : List ℕ) → IsText text → words_of (text_word text ++ rest) ≡ behind_quote text rest
quoted_begun text rest h =
    ap (quoted_words []) (append_assoc (flat_map escaped (encode_utf8_all text)) (34 ∷ []) rest)
    ∙ all_back (encode_utf8_all text) [] (34 ∷ rest)
    ∙ ap (λ (r : Result (List ℕ) FileKind). r >>= λ t. behind_quote t rest)
    (text_of-text (encode_utf8_all text) text (record { spelled = refl; text = h }))

-- what the rest of a line after a word gives
abbrev behind : Word → List ℕ → Result (List Word) FileKind
behind (Plain bytes) rest = plain_words bytes rest
behind (Quoted text) rest = behind_quote text rest

word_begun : (w : Word) (rest : List ℕ) → IsWritten w → words_of (written w ++ rest) ≡ behind w rest
word_begun (Plain bytes) rest h = plain_begun bytes rest h
word_begun (Quoted text) rest h = quoted_begun text rest h

ends : (w : Word) → behind w [] ≡ Ok (w ∷ [])
ends (Plain bytes) = refl
ends (Quoted text) = refl

goes_on : (w : Word) (rest : List ℕ) → behind w (32 ∷ rest) ≡ (words_of rest >>= λ words. Ok (w ∷ words))
goes_on (Plain bytes) rest = refl
goes_on (Quoted text) rest = refl

pub words_back : (w : Word) (ws : List Word) → AllByRecursion IsWritten (w ∷ ws)
    → words_of (joined (map written (w ∷ ws))) ≡ Ok (w ∷ ws)
words_back w [] h = word_begun w [] h.0 ∙ ends w
words_back w (v ∷ ws) h =
    word_begun w (32 ∷ joined (map written (v ∷ ws))) h.0
    ∙ goes_on w (joined (map written (v ∷ ws)))
    ∙ ap (λ (r : Result (List Word) FileKind). r >>= λ words. Ok (w ∷ words)) (words_back v ws h.1)

pub not_skipped : (bytes rest : List ℕ) → IsPlain bytes → is_skipped (bytes ++ rest) ≡ false
not_skipped [] rest (some, h) = absurd (omega arith)
not_skipped (b ∷ bytes) rest (some, h) =
    let (one, more) = and_parts (is_word_byte b) (list_all is_word_byte bytes) h in
    cond-false (is_blank b) _ _ (not_blank b one) ∙ differs b 35 one (omega arith)

-- ---- UTF-8

abbrev is_small : ℕ → Bool
is_small b = nat_lt b 128

small_utf8 : (bytes : List ℕ) → list_all is_small bytes ≡ true → IsUtf8 bytes
small_utf8 bytes h =
    IsUtf8-from_ascii bytes (IsAscii-from_all bytes (λ k d lt.
    ltb-true _ 128 (AllPass-from_list_all is_small bytes h k d lt)))

pub plain_ascii : (bytes : List ℕ) → list_all is_word_byte bytes ≡ true → IsAscii bytes
plain_ascii bytes h =
    IsAscii-from_all bytes (λ k d lt. small (get_or bytes k d) (AllPass-from_list_all is_word_byte bytes h k d lt))
  where
    small : (b : ℕ) → is_word_byte b ≡ true → b < 128
    small b h = let (l, r) = bounds b h in omega (arith, r)

pub plain_utf8 : (bytes : List ℕ) → list_all is_word_byte bytes ≡ true → IsUtf8 bytes
plain_utf8 bytes h = IsUtf8-from_ascii bytes (plain_ascii bytes h)

-- bytes without a quote, a backslash and a line feed are written as they are
kept : (bytes : List ℕ) → ((k : ℕ) → k < length bytes
    → ((get_or bytes k 0 == 34) ≡ false) × ((get_or bytes k 0 == 92) ≡ false) × ((get_or bytes k 0 == 10) ≡ false))
    → flat_map escaped bytes ≡ bytes
kept [] h = refl
kept (b ∷ bytes) h = go (b == 34) (b == 92) (b == 10) (h 0 (omega arith))
    (kept bytes (λ k lt. h (suc k) (omega arith)))
  where
    go : (quote slash feed : Bool) → (quote ≡ false) × (slash ≡ false) × (feed ≡ false) → flat_map escaped bytes ≡ bytes
        → ((cond (quote || slash) (92 ∷ b ∷ []) (cond feed (92 ∷ 110 ∷ []) (b ∷ []))) ++ flat_map escaped bytes)
        ≡ b ∷ bytes
    go true slash feed e ih = absurd (true≢false e.0)
    go false true feed e ih = absurd (true≢false e.1)
    go false false true e ih = absurd (true≢false e.2)
    go false false false e ih = ap (λ l. b ∷ l) ih

closed : (c : ℕ) (bytes : List ℕ) → c < 128 → escaped c ≡ bytes → list_all is_small bytes ≡ true
    → IsUtf8 (flat_map escaped (encode_utf8 c))
closed c bytes small e h =
    subst IsUtf8 (sym (ap (flat_map escaped) (encode_ascii c small) ∙ append-nil (escaped c) ∙ e)) (small_utf8 bytes h)

-- a character is written in UTF-8
one_escaped : (c : ℕ) → IsScalar c → IsUtf8 (flat_map escaped (encode_utf8 c))
one_escaped c scalar = go (c == 34) (c == 92) (c == 10) refl refl refl
  where
    other : (b : ℕ) → b < 128 → (c == b) ≡ false → (k : ℕ) → k < length (encode_utf8 c)
        → (get_or (encode_utf8 c) k 0 == b) ≡ false
    other b small e k lt = ne_eqb (get_or (encode_utf8 c) k 0) b (λ f.
        let same : c ≡ get_or (encode_utf8 c) k 0 =
        inside_one c [] (encode_utf8 c) k (sym (append-nil (encode_utf8 c))) lt (omega (arith, f, small)) in
        true≢false (sym (eq-eqb c b (same ∙ f)) ∙ e))

    go : (quote slash feed : Bool) → (c == 34) ≡ quote → (c == 92) ≡ slash → (c == 10) ≡ feed
        → IsUtf8 (flat_map escaped (encode_utf8 c))
    go true slash feed q s f =
        let is : c ≡ 34 = eqb-true c 34 q in
        closed c (92 ∷ 34 ∷ []) (omega (arith, is)) (ap escaped is) refl
    go false true feed q s f =
        let is : c ≡ 92 = eqb-true c 92 s in
        closed c (92 ∷ 92 ∷ []) (omega (arith, is)) (ap escaped is) refl
    go false false true q s f =
        let is : c ≡ 10 = eqb-true c 10 f in
        closed c (92 ∷ 110 ∷ []) (omega (arith, is)) (ap escaped is) refl
    go false false false q s f =
        subst IsUtf8 (sym (kept (encode_utf8 c) (λ k lt. (
          other 34 (lit< tt) q k lt,
          other 92 (lit< tt) s k lt,
          other 10 (lit< tt) f k lt,
        )))) (IsUtf8-encode c scalar)

escaped_utf8 : (text : List ℕ) → all_scalars text ≡ true → IsUtf8 (flat_map escaped (encode_utf8_all text))
escaped_utf8 [] h = IsUtf8-nil
escaped_utf8 (c ∷ text) h =
    let (one, more) = and_parts _ (all_scalars text) h in
    subst IsUtf8 (sym (flat_map-append escaped (encode_utf8 c) (encode_utf8_all text)))
    (IsUtf8-append (flat_map escaped (encode_utf8 c)) (flat_map escaped (encode_utf8_all text)) (one_escaped c one)
    (escaped_utf8 text more))

word_utf8 : (w : Word) → IsWritten w → IsUtf8 (written w)
word_utf8 (Plain bytes) h = plain_utf8 bytes h.1
word_utf8 (Quoted text) h =
    IsUtf8-append (34 ∷ []) (flat_map escaped (encode_utf8_all text) ++ 34 ∷ []) (small_utf8 (34 ∷ []) refl)
    (IsUtf8-append (flat_map escaped (encode_utf8_all text)) (34 ∷ []) (escaped_utf8 text h.scalars)
    (small_utf8 (34 ∷ []) refl))

pub words_utf8 : (w : Word) (ws : List Word) → AllByRecursion IsWritten (w ∷ ws)
    → IsUtf8 (joined (map written (w ∷ ws)))
words_utf8 w [] h = subst IsUtf8 (sym (append-nil (written w))) (word_utf8 w h.0)
words_utf8 w (v ∷ ws) h =
    IsUtf8-append (written w) (32 ∷ joined (map written (v ∷ ws))) (word_utf8 w h.0)
    (IsUtf8-append (32 ∷ []) (joined (map written (v ∷ ws))) (small_utf8 (32 ∷ []) refl) (words_utf8 v ws h.1))

-- ---- no line feed

in_line-append : (xs ys : List ℕ) → list_all is_in_line xs ≡ true → list_all is_in_line ys ≡ true
    → list_all is_in_line (xs ++ ys) ≡ true
in_line-append xs ys f g = list_all-append is_in_line xs ys ∙ and_from _ _ f g

plain_in_line : (bytes : List ℕ) → list_all is_word_byte bytes ≡ true → list_all is_in_line bytes ≡ true
plain_in_line [] h = refl
plain_in_line (b ∷ bytes) h =
    let (one, more) = and_parts (is_word_byte b) (list_all is_word_byte bytes) h in
    and_from (not (b == 10)) (list_all is_in_line bytes) (ap not (differs b 10 one (omega arith)))
    (plain_in_line bytes more)

escaped_in_line : (bytes : List ℕ) → list_all is_in_line (flat_map escaped bytes) ≡ true
escaped_in_line [] = refl
escaped_in_line (b ∷ bytes) =
    in_line-append (escaped b) (flat_map escaped bytes) (go (b == 34) (b == 92) (b == 10) refl refl refl)
    (escaped_in_line bytes)
  where
    go : (quote slash feed : Bool) → (b == 34) ≡ quote → (b == 92) ≡ slash → (b == 10) ≡ feed
        → list_all is_in_line (cond (quote || slash) (92 ∷ b ∷ []) (cond feed (92 ∷ 110 ∷ []) (b ∷ []))) ≡ true
    go true slash feed q s f = ap (λ (c : ℕ). not (c == 10) && true) (eqb-true b 34 q)
    go false true feed q s f = ap (λ (c : ℕ). not (c == 10) && true) (eqb-true b 92 s)
    go false false true q s f = refl
    go false false false q s f = ap (λ (t : Bool). not t && true) f

word_in_line : (w : Word) → IsWritten w → list_all is_in_line (written w) ≡ true
word_in_line (Plain bytes) h = plain_in_line bytes h.1
word_in_line (Quoted text) h =
    in_line-append (flat_map escaped (encode_utf8_all text)) (34 ∷ []) (escaped_in_line (encode_utf8_all text)) refl

words_in_line : (w : Word) (ws : List Word) → AllByRecursion IsWritten (w ∷ ws)
    → list_all is_in_line (joined (map written (w ∷ ws))) ≡ true
words_in_line w [] h = in_line-append (written w) [] (word_in_line w h.0) refl
words_in_line w (v ∷ ws) h =
    in_line-append (written w) (32 ∷ joined (map written (v ∷ ws))) (word_in_line w h.0) (words_in_line v ws h.1)

-- ---- no carriage return at the end

record Ends (line : List ℕ) : Type 0 where
  front : List ℕ
  last : ℕ
  is : line ≡ front ++ last ∷ []
  other : (last == 13) ≡ false

ends-behind : (xs ys : List ℕ) → Ends ys → Ends (xs ++ ys)
ends-behind xs ys e = record {
  front = xs ++ e.front;
  last = e.last;
  is = ap (λ l. xs ++ l) e.is ∙ sym (append_assoc xs e.front (e.last ∷ []));
  other = e.other;
}

plain_ends : (bytes : List ℕ) → 0 < length bytes → list_all is_word_byte bytes ≡ true → Ends bytes
plain_ends [] some h = absurd (omega arith)
plain_ends (b ∷ []) some h =
    let (one, more) = and_parts (is_word_byte b) true h in
    record { front = []; last = b; is = refl; other = differs b 13 one (omega arith) }
plain_ends (b ∷ c ∷ bytes) some h =
    let (one, more) = and_parts (is_word_byte b) (list_all is_word_byte (c ∷ bytes)) h in
    ends-behind (b ∷ []) (c ∷ bytes) (plain_ends (c ∷ bytes) (omega arith) more)

word_ends : (w : Word) → IsWritten w → Ends (written w)
word_ends (Plain bytes) h = plain_ends bytes h.0 h.1
word_ends (Quoted text) h = record {
  front = 34 ∷ flat_map escaped (encode_utf8_all text);
  last = 34;
  is = refl;
  other = refl;
}

words_end : (w : Word) (ws : List Word) → AllByRecursion IsWritten (w ∷ ws) → Ends (joined (map written (w ∷ ws)))
words_end w [] h = subst Ends (sym (append-nil (written w))) (word_ends w h.0)
words_end w (v ∷ ws) h =
    let rest = joined (map written (v ∷ ws)) in
    ends-behind (written w) (32 ∷ rest) (ends-behind (32 ∷ []) rest (words_end v ws h.1))

keeps_end : (front : List ℕ) (b : ℕ) → (b == 13) ≡ false → without_return (front ++ b ∷ []) ≡ front ++ b ∷ []
keeps_end [] b e = cond-false (b == 13) [] (b ∷ []) e
keeps_end (c ∷ []) b e = ap (λ l. c ∷ l) (keeps_end [] b e)
keeps_end (c ∷ d ∷ front) b e = ap (λ l. c ∷ l) (keeps_end (d ∷ front) b e)

keeps_line : (line : List ℕ) → Ends line → without_return line ≡ line
keeps_line line e = ap without_return e.is ∙ keeps_end e.front e.last e.other ∙ sym e.is

-- ---- a line

-- the first word is a plain one
abbrev pub BeginsPlain : List Word → Type 0
BeginsPlain [] = ⊥
BeginsPlain (Plain bytes ∷ ws) = Unit {0}
BeginsPlain (Quoted text ∷ ws) = ⊥

pub record IsLineOf (ws : List Word) (line : List ℕ) : Type 0 where
  pub words : words_of line ≡ Ok ws
  pub utf8 : IsUtf8 line
  pub told : is_skipped line ≡ false
  pub cut : (rest : List ℕ) → lines_of (line ++ 10 ∷ rest) ≡ line ∷ lines_of rest

pub line_of-words : (ws : List Word) → BeginsPlain ws → AllByRecursion IsWritten ws
    → IsLineOf ws (joined (map written ws))
line_of-words [] s h = absurd s
line_of-words (Quoted text ∷ ws) s h = absurd s
line_of-words (Plain bytes ∷ ws) s h =
    let line = joined (map written (Plain bytes ∷ ws)) in
    record {
      words = words_back (Plain bytes) ws h;
      utf8 = words_utf8 (Plain bytes) ws h;
      told = not_skipped bytes (flat_map spaced (map written ws)) h.0;
      cut = λ rest. line_cut line rest (words_in_line (Plain bytes) ws h)
          ∙ ap (λ l. l ∷ lines_of rest) (keeps_line line (words_end (Plain bytes) ws h));
    }
