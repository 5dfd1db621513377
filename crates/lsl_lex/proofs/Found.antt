-- What the reading of one piece finds is a piece of the text, or the fault that is there.
use Rattle.std.proofs.Common.{◌≡◌, ℕ, ◌+◌, ◌<◌, ◌≤◌, ◌==◌, Bool, true, false, cond, not, ◌||◌, ◌⊎◌, inl, inr, ⊎_elim, List, [], ◌∷◌, ◌++◌, length, take, drop, Option, Some, None, unwrap_or, Ok, Err, refl, sym, ap, ◌∙◌, subst, arith, append_assoc, length-append}
use Rattle.std.proofs.lemmas.List.{take-append-drop, drop_more, get_or_past}
use Rattle.std.proofs.lemmas.List.Sums.{AllPass-from_list_all, list_all-from_AllPass}
use Rattle.std.proofs.lemmas.Bool.{cases_lt}
use Rattle.std.proofs.lemmas.List.Folds.{length-prefix_len}
use Rattle.std.proofs.Math.Seq.{take-append_seam}
use Rattle.std.specs.Prelude.{slice_index}
use Rattle.std.specs.List.{prefix_len}
use Rattle.std.specs.Int.{w32, int_wrapping_neg}
use Rattle.std.specs.Str.{chars}
use Rattle.std.specs.Str.Parse.{digits_value}
use Rattle.lsl_text.specs.Number.{is_blank, wrapped, begins_hexadecimal, leading_integer_of, unsigned_integer, signed_integer, digits_integer}
use Rattle.lsl_lex.specs.Bytes.{is_letter, is_decimal, is_hexadecimal, is_name_byte, is_in_line}
use Rattle.lsl_lex.specs.Fault.{OpensComment, IsOpenString, IsFloat, Case}
use Rattle.lsl_lex.specs.Pieces.{IsPiece}
use Rattle.lsl_lex.specs.Strings.{IsStringBody, escapes_read}
use Rattle.lsl_lex.specs.Tokens.{words, IsIdentifier, Spells, a_name, a_word, decimal, hexadecimal, a_string}
use Rattle.lsl_lex.specs.Reading.{Found, row_of, close_of, quote_of, name, number, string, block_comment, line_comment}
use Rattle.lsl_lex.specs.declared.faults.LexKind.{LexKind}
use Rattle.lsl_lex.specs.declared.faults.LexKind.TheVariants.{NotText, StringEnd, CommentEnd, FloatLiteral, StrayCharacter, TextTooLong}
use Rattle.lsl_lex.specs.declared.token_types.Sort.{Sort}
use Rattle.lsl_lex.specs.declared.token_types.Sort.TheVariants.{Name, Int, Str}
use Rattle.lsl_lex.proofs.ByteKinds.{false_by, letter_range, blank_range, decimal_range, eq_true, eq_false, not_eq}
use Rattle.lsl_lex.proofs.Rows.{row_from_row_of, contains_from_row}
use Rattle.lsl_lex.proofs.Runs.{list_all-prefix, prefix_len-stops, prefix_len-exact, Stops, head, close_some, close_none, quote_some, quote_only}
use Rattle.lsl_lex.proofs.Spelled.{lead, lead-append, word_found, not_empty, choose_letter, choose_digit, choose_quote, hexadecimal_parts, word_sort, number_reach, string_reach, sign_reach, reach, within_reach}
use Rattle.lsl_lex.proofs.Unique.{string_lead, comment_lead, comment_opens, opens_lead, float_lead}

-- ---- choices

pub by_cond : {A : Type 0} (P : A → Type 0) (t : Bool) (x y : A) → (t ≡ true → P x) → (t ≡ false → P y) → P (cond t x y)
by_cond P true x y f g = f refl
by_cond P false x y f g = g refl

-- no fault is at the front
abbrev pub Clear : List ℕ → Type 0
Clear text = (kind : LexKind) → Case text kind → ⊥

abbrev pub Right : List ℕ → Found → Type 0
Right text (Ok x) = (0 < x.1) × (x.1 ≤ length text) × IsPiece text x.0 (take x.1 text) (drop x.1 text) × Clear text
Right text (Err kind) = Case text kind

drop_seam : (u v : List ℕ) → drop (length u) (u ++ v) ≡ v
drop_seam [] v = refl
drop_seam (x ∷ u) v = drop_seam u v

-- a piece at the front, by its length
piece_at : (text : List ℕ) (g : Option Sort) (u rest : List ℕ) (k : ℕ) → k ≡ length u → 0 < length u
    → IsPiece text g u rest → Clear text → Right text (Ok (g, k))
piece_at text g u rest k n some h clear =
    let t : take k text ≡ u = ap (λ m. take m text) n ∙ ap (take (length u)) h.split ∙ take-append_seam u rest in
    let d : drop k text ≡ rest = ap (λ m. drop m text) n ∙ ap (drop (length u)) h.split ∙ drop_seam u rest in
    let P : List ℕ → Type 0 = λ l. IsPiece text g l (drop k text) in
    let Q : List ℕ → Type 0 = λ l. IsPiece text g u l in (
      omega (arith, n, some),
      omega (arith, n, ap length h.split, length-append u rest),
      subst P (sym t)
          (subst Q (sym d) h),
      clear,
    )

-- ---- where there is no fault

token_no_case : (text u rest : List ℕ) (s : Sort) → text ≡ u ++ rest → Spells u s → (OpensComment text → ⊥)
    → (IsOpenString text → ⊥) → (IsFloat text → ⊥) → (kind : LexKind) → Case text kind → ⊥
token_no_case text u rest s e h comment open_string float NotText f = f
token_no_case text u rest s e h comment open_string float TextTooLong f = f
token_no_case text u rest s e h comment open_string float StringEnd f = open_string f
token_no_case text u rest s e h comment open_string float CommentEnd f = comment (comment_opens text f)
token_no_case text u rest s e h comment open_string float FloatLiteral f = float f
token_no_case text u rest s e h comment open_string float StrayCharacter f = f.no_token u rest s e h

-- a token that goes as far as a token can, where no comment begins and there is no fault
pub token_right : (text u rest : List ℕ) (s : Sort) (k : ℕ) → text ≡ u ++ rest → k ≡ length u
    → reach text ≡ length u → Spells u s → (OpensComment text → ⊥) → (IsOpenString text → ⊥)
    → (IsFloat text → ⊥) → Right text (Ok (Some s, k))
token_right text u rest s k e n far h comment open_string float =
    piece_at text (Some s) u rest k n (not_empty u s h) (record {
      split = e;
      kind = record {
        spells = h;
        longest = λ v w t f g. omega (arith, within_reach v w t g, ap reach (sym f), far);
        no_comment = comment;
      };
    }) (token_no_case text u rest s e h comment open_string float)

no_comment_by : (text : List ℕ) → (lead text ≡ 47 → ⊥) → OpensComment text → ⊥
no_comment_by text h o = h (opens_lead text o)

pub no_string_by : (text : List ℕ) → (lead text ≡ 34 → ⊥) → IsOpenString text → ⊥
no_string_by text h o = h (string_lead text o)

-- ---- blanks

pub blank_right : (text : List ℕ) → 0 < length text → is_blank (lead text) ≡ true → Right text (Ok (None, 1))
blank_right [] some e = absurd (omega arith)
blank_right (b ∷ text) some e =
    piece_at (b ∷ text) None (b ∷ []) text 1 refl (omega arith) (record { split = refl; kind = inl (b, refl, e) }) none
  where
    float : (is_decimal b ≡ true) ⊎ (b ≡ 46) → ⊥
    float (inl f) = let r = decimal_range b f in let q = blank_range b e in omega (arith, r.0, q.1)
    float (inr f) = let q = blank_range b e in omega (arith, f, q.1)

    none : (kind : LexKind) → Case (b ∷ text) kind → ⊥
    none NotText f = f
    none TextTooLong f = f
    none StringEnd f = let q = blank_range b e in omega (arith, string_lead (b ∷ text) f, q.1)
    none CommentEnd f = let q = blank_range b e in omega (arith, comment_lead (b ∷ text) f, q.1)
    none FloatLiteral f = float (float_lead (b ∷ text) f)
    none StrayCharacter f = let (c, rest, g, h) = f.some in let same : is_blank b ≡ false =
        ap (λ l. is_blank (lead l)) g ∙ h in let both = sym e ∙ same in cc

-- ---- comments

comment_no_case : (text : List ℕ) → OpensComment text → (Case text CommentEnd → ⊥) → (kind : LexKind)
    → Case text kind → ⊥
comment_no_case text o none NotText f = f
comment_no_case text o none TextTooLong f = f
comment_no_case text o none StringEnd f = omega (arith, string_lead text f, opens_lead text o)
comment_no_case text o none CommentEnd f = none f
comment_no_case text o none FloatLiteral f = float (float_lead text f)
  where
    float : (is_decimal (lead text) ≡ true) ⊎ (lead text ≡ 46) → ⊥
    float (inl g) = let r = decimal_range (lead text) g in omega (arith, r.0, opens_lead text o)
    float (inr g) = omega (arith, g, opens_lead text o)
comment_no_case text o none StrayCharacter f = f.no_comment o

pub block_right : (text more : List ℕ) → text ≡ 47 ∷ 42 ∷ more → Right text (block_comment text)
unfolding block_comment
block_right text more e = go (close_of (drop 2 text)) refl
  where
    rest_is : drop 2 text ≡ more
    rest_is = ap (drop 2) e

    found : (n : ℕ) → close_of (drop 2 text) ≡ Some n → Right text (Ok (None, n + 2))
    found n f =
        let (body, rest, e1, e2, none) = close_some more n (ap close_of (sym rest_is) ∙ f) in
        let u = 47 ∷ 42 ∷ (body ++ 42 ∷ 47 ∷ []) in
        let all : text ≡ u ++ rest = e ∙ ap (λ l. 47 ∷ 42 ∷ l) (e1 ∙ sym (append_assoc body (42 ∷ 47 ∷ []) rest)) in
        piece_at text None u rest (n + 2) (omega (arith, e2, length-append body (42 ∷ 47 ∷ []))) (omega arith) (record {
          split = all;
          kind = inr (inl (body, refl, none));
        }) (comment_no_case text (42, more, e, inl refl)
        (λ (more', e', closed). closed body rest (ap (drop 2) (sym e' ∙ e) ∙ e1)))

    go : (o : Option ℕ) → close_of (drop 2 text) ≡ o
        → Right text (elim o as (λ _. Found) [ None ↦ Err CommentEnd | Some n ↦ Ok (None, n + 2) ])
    go None f = (more, e, close_none more (ap close_of (sym rest_is) ∙ f))
    go (Some n) f = found n f

pub line_right : (text more : List ℕ) → text ≡ 47 ∷ 47 ∷ more → Right text (line_comment text)
unfolding line_comment
line_right text more e =
    let rest_is : drop 2 text ≡ more = ap (drop 2) e in
    let n = prefix_len is_in_line more in
    let u = 47 ∷ 47 ∷ take n more in
    let all : text ≡ u ++ drop n more = e ∙ ap (λ l. 47 ∷ 47 ∷ l) (sym (take-append-drop n more)) in
    let long : prefix_len is_in_line (drop 2 text) + 2 ≡ length u =
    omega (arith, ap (prefix_len is_in_line) rest_is, length-prefix_len is_in_line more) in
    piece_at text None u (drop n more) (prefix_len is_in_line (drop 2 text) + 2) long (omega arith) (record {
      split = all;
      kind = inr (inr (
        take n more,
        refl,
        AllPass-from_list_all is_in_line (take n more)
            (list_all-prefix is_in_line more),
        stops (prefix_len-stops is_in_line more),
      ));
    }) (comment_no_case text (47, more, e, inr refl) (λ (more', e', closed). let same : 47 ≡ 42 =
    ap (λ l. head (drop 1 l)) (sym e ∙ e') in omega (arith, same)))
  where
    is_feed : (b : ℕ) → is_in_line b ≡ false → b ≡ 10
    is_feed b g = go (b == 10) refl g
      where
        go : (t : Bool) → (b == 10) ≡ t → not t ≡ false → b ≡ 10
        go true e g = eq_true b 10 e
        go false e g = absurd (cc)

    stops : Stops is_in_line (drop (prefix_len is_in_line more) more)
        → (drop (prefix_len is_in_line more) more ≡ [])
        ⊎ ((rest : List ℕ) × (drop (prefix_len is_in_line more) more ≡ 10 ∷ rest))
    stops (inl f) = inl f
    stops (inr (b, rest, f, g)) = inr (rest, f ∙ ap (λ z. z ∷ rest) (is_feed b g))

-- ---- names and words

letter_no_float : (text : List ℕ) → is_letter (lead text) ≡ true → IsFloat text → ⊥
letter_no_float text l f = go (float_lead text f)
  where
    go : (is_decimal (lead text) ≡ true) ⊎ (lead text ≡ 46) → ⊥
    go (inl g) = let r = decimal_range (lead text) g in let q = letter_range (lead text) l in omega (arith, r.1, q.0)
    go (inr g) = let q = letter_range (lead text) l in omega (arith, g, q.0)

word_or_name : (u : List ℕ) → IsIdentifier u → Spells u (word_sort u)
word_or_name u id = go (row_of words u) refl
  where
    go : (o : Option Sort) → row_of words u ≡ o → Spells u (unwrap_or o (Name u))
    go None e = a_name id (λ t h. let found = word_found u t h in let both = sym e ∙ found in cc) refl
    go (Some s) e = a_word (contains_from_row words u s (row_from_row_of words u s e))

name_some : (text : List ℕ) → is_letter (lead text) ≡ true → 0 < prefix_len is_name_byte text
name_some [] l = absurd (cc)
name_some (b ∷ text) l = go (is_letter b) l
  where
    go : (t : Bool) → t ≡ true → 0 < cond (t || is_decimal b) (1 + prefix_len is_name_byte text) 0
    go true e = omega arith
    go false e = absurd (cc)

pub name_right : (text : List ℕ) → is_letter (lead text) ≡ true → Right text (name text)
unfolding name
name_right text l =
    let n = prefix_len is_name_byte text in
    let u = take n text in
    let split : text ≡ u ++ drop n text = sym (take-append-drop n text) in
    let long : length u ≡ n = length-prefix_len is_name_byte text in
    let some : 0 < length u = omega (arith, name_some text l, long) in
    let first : lead u ≡ lead text = sym (ap lead split ∙ lead-append u (drop n text) some) in
    let id : IsIdentifier u = record {
      first = ap is_letter first ∙ l;
      each =
          AllPass-from_list_all is_name_byte u (list_all-prefix is_name_byte text);
    } in
    let far : reach text ≡ length u = choose_letter (lead text) n (number_reach text) (string_reach text)
    (sign_reach text) l ∙ sym long in
    let q = letter_range (lead text) l in
    token_right text u (drop n text) (word_sort u) n split (sym long) far (word_or_name u id)
    (no_comment_by text (λ e. omega (arith, e, q.0))) (no_string_by text (λ e. omega (arith, e, q.0)))
    (letter_no_float text l)

-- ---- integers

no_blanks : (b : ℕ) (text : List ℕ) → is_blank b ≡ false → drop (prefix_len is_blank (b ∷ text)) (b ∷ text) ≡ b ∷ text
no_blanks b text e = ap (λ t. drop (cond t (1 + prefix_len is_blank text) 0) (b ∷ text)) e

unsigned_leads : (text : List ℕ) → 0 < length text → is_decimal (lead text) ≡ true
    → leading_integer_of text ≡ unsigned_integer text
unsigned_leads [] some d = absurd (omega arith)
unsigned_leads (b ∷ text) some d =
    let r = decimal_range b d in
    ap signed_integer (no_blanks b text (false_by (is_blank b) (λ e. let q = blank_range b e in
    omega (arith, r.0, q.1))))
    ∙ ap (λ t. cond t (int_wrapping_neg w32 (unsigned_integer text))
    (cond (b == 43) (unsigned_integer text) (unsigned_integer (b ∷ text))))
    (eq_false b 45 (λ e. omega (arith, r.0, e)))
    ∙ ap (λ t. cond t (unsigned_integer text) (unsigned_integer (b ∷ text)))
    (eq_false b 43 (λ e. omega (arith, r.0, e)))

hexadecimal_leads : (text : List ℕ) → begins_hexadecimal text ≡ true
    → unsigned_integer text ≡ wrapped (digits_value 16
    (take (prefix_len is_hexadecimal (drop 2 text)) (drop 2 text)))
unfolding unsigned_integer
hexadecimal_leads text e = ap (λ t. cond t (digits_integer 16 (drop 2 text)) (digits_integer 10 text)) e

decimal_leads : (text : List ℕ) → begins_hexadecimal text ≡ false
    → unsigned_integer text ≡ wrapped (digits_value 10 (take (prefix_len is_decimal text) text))
unfolding unsigned_integer
decimal_leads text e = ap (λ t. cond t (digits_integer 16 (drop 2 text)) (digits_integer 10 text)) e

pub some_lead : (text : List ℕ) → is_decimal (lead text) ≡ true → 0 < length text
some_lead [] d = absurd (cc)
some_lead (b ∷ text) d = omega arith

digits_some : (text : List ℕ) → is_decimal (lead text) ≡ true → 0 < prefix_len is_decimal text
digits_some [] d = absurd (cc)
digits_some (b ∷ text) d = go (is_decimal b) d
  where
    go : (t : Bool) → t ≡ true → 0 < cond t (1 + prefix_len is_decimal text) 0
    go true e = omega arith
    go false e = absurd (cc)

hexadecimal_no_float : (x d : ℕ) (more text : List ℕ) → text ≡ 48 ∷ x ∷ d ∷ more → (x ≡ 120) ⊎ (x ≡ 88)
    → IsFloat text → ⊥
hexadecimal_no_float x d more text e o (inr (digit, rest, f, g)) = let same : 48 ≡ 46 = ap head (sym e ∙ f) in
    omega (arith, same)
hexadecimal_no_float x d more text e o (inl ([], rest, f, g)) = let same : 48 ≡ 46 = ap head (sym e ∙ f) in
    omega (arith, same)
hexadecimal_no_float x d more text e (inl o) (inl (a ∷ [], rest, f, g)) = let same : x ≡ 46 =
    ap (λ l. head (drop 1 l)) (sym e ∙ f) in omega (arith, same, o)
hexadecimal_no_float x d more text e (inr o) (inl (a ∷ [], rest, f, g)) = let same : x ≡ 46 =
    ap (λ l. head (drop 1 l)) (sym e ∙ f) in omega (arith, same, o)
hexadecimal_no_float x d more text e o (inl (a ∷ b ∷ digits, rest, f, g)) =
    let same : x ≡ b = ap (λ l. head (drop 1 l)) (sym e ∙ f) in
    let digit : is_decimal b ≡ true = g.each 1 0 (omega arith) in
    let r = decimal_range b digit in
    ⊎_elim (λ h. omega (arith, same, h, r.1)) (λ h. omega (arith, same, h, r.1)) o

hexadecimal_right : (text : List ℕ) → is_decimal (lead text) ≡ true → begins_hexadecimal text ≡ true
    → Right text (Ok (Some (Int (leading_integer_of text)), prefix_len is_hexadecimal (drop 2 text) + 2))
hexadecimal_right text l hex =
    let (x, d, more, e, o, h) = hexadecimal_parts text hex in
    let r = d ∷ more in
    let m = prefix_len is_hexadecimal r in
    let digits = take m r in
    let u = 48 ∷ x ∷ digits in
    let rest_is : drop 2 text ≡ r = ap (drop 2) e in
    let split : text ≡ u ++ drop m r = e ∙ ap (λ l. 48 ∷ x ∷ l) (sym (take-append-drop m r)) in
    let long : length digits ≡ m = length-prefix_len is_hexadecimal r in
    let some : 0 < m = hexadecimal_some d more h in
    let value : Int (leading_integer_of text) ≡ Int (wrapped (digits_value 16 digits)) =
    ap (λ z. Int z) (unsigned_leads text (some_lead text l) l ∙ hexadecimal_leads text hex
    ∙ ap (λ l. wrapped (digits_value 16 (take (prefix_len is_hexadecimal l) l))) rest_is) in
    let spelled : Spells u (Int (leading_integer_of text)) =
    hexadecimal x digits refl o (record {
      some = omega (arith, long, some);
      each =
          AllPass-from_list_all is_hexadecimal digits (list_all-prefix is_hexadecimal r);
    }) value in
    let size : prefix_len is_hexadecimal (drop 2 text) + 2 ≡ length u =
    omega (arith, ap (prefix_len is_hexadecimal) rest_is, long) in
    let reached : reach text ≡ number_reach text =
    choose_digit (lead text) (prefix_len is_name_byte text) (number_reach text) (string_reach text)
    (sign_reach text) l in
    let far : reach text ≡ length u = reached
    ∙ ap (λ t. cond t (prefix_len is_hexadecimal (drop 2 text) + 2) (prefix_len is_decimal text)) hex
    ∙ size in
    let q = decimal_range (lead text) l in
    token_right text u (drop m r) (Int (leading_integer_of text)) (prefix_len is_hexadecimal (drop 2 text) + 2)
    split size far spelled
    (no_comment_by text (λ e. omega (arith, e, q.0))) (no_string_by text (λ e. omega (arith, e, q.0)))
    (hexadecimal_no_float x d more text e o)
  where
    hexadecimal_some : (d : ℕ) (more : List ℕ) → is_hexadecimal d ≡ true → 0 < prefix_len is_hexadecimal (d ∷ more)
    hexadecimal_some d more h = go (is_hexadecimal d) h
      where
        go : (t : Bool) → t ≡ true → 0 < cond t (1 + prefix_len is_hexadecimal more) 0
        go true e = omega arith
        go false e = absurd (cc)

point_stops : (rest : List ℕ) → Stops is_decimal (46 ∷ rest)
point_stops rest = inr (46, rest, refl, refl)

at_seam : (u : List ℕ) (b : ℕ) (rest : List ℕ) → slice_index (u ++ b ∷ rest) (length u) ≡ b
at_seam [] b rest = refl
at_seam (a ∷ u) b rest = at_seam u b rest

decimal_no_float : (text : List ℕ) → is_decimal (lead text) ≡ true
    → (slice_index text (prefix_len is_decimal text) ≡ 46 → ⊥) → IsFloat text → ⊥
decimal_no_float text l h (inr (digit, rest, e, f)) = let r = decimal_range (lead text) l in
    let same : lead text ≡ 46 = ap lead e in omega (arith, r.0, same)
decimal_no_float text l h (inl (digits, rest, e, f)) =
    let n : prefix_len is_decimal text ≡ length digits =
    ap (prefix_len is_decimal) e ∙ prefix_len-exact is_decimal digits (46 ∷ rest)
    (list_all-from_AllPass is_decimal digits f.each) (point_stops rest) in
    h (ap (slice_index text) n ∙ ap (λ l. slice_index l (length digits)) e ∙ at_seam digits 46 rest)

decimal_right : (text : List ℕ) → is_decimal (lead text) ≡ true → begins_hexadecimal text ≡ false
    → (slice_index text (prefix_len is_decimal text) ≡ 46 → ⊥)
    → Right text (Ok (Some (Int (leading_integer_of text)), prefix_len is_decimal text))
decimal_right text l dec point =
    let n = prefix_len is_decimal text in
    let u = take n text in
    let split : text ≡ u ++ drop n text = sym (take-append-drop n text) in
    let long : length u ≡ n = length-prefix_len is_decimal text in
    let value : Int (leading_integer_of text) ≡ Int (wrapped (digits_value 10 u)) =
    ap (λ z. Int z) (unsigned_leads text (some_lead text l) l ∙ decimal_leads text dec) in
    let spelled : Spells u (Int (leading_integer_of text)) =
    decimal (record {
      some = omega (arith, long, digits_some text l);
      each =
          AllPass-from_list_all is_decimal u (list_all-prefix is_decimal text);
    }) value in
    let reached : reach text ≡ number_reach text =
    choose_digit (lead text) (prefix_len is_name_byte text) (number_reach text) (string_reach text)
    (sign_reach text) l in
    let far : reach text ≡ length u = reached
    ∙ ap (λ t. cond t (prefix_len is_hexadecimal (drop 2 text) + 2) n) dec ∙ sym long in
    let q = decimal_range (lead text) l in
    token_right text u (drop n text) (Int (leading_integer_of text)) n split (sym long) far spelled
    (no_comment_by text (λ e. omega (arith, e, q.0))) (no_string_by text (λ e. omega (arith, e, q.0)))
    (decimal_no_float text l point)

float_right : (text : List ℕ) → is_decimal (lead text) ≡ true
    → slice_index text (prefix_len is_decimal text) ≡ 46 → IsFloat text
float_right text l point =
    let n = prefix_len is_decimal text in
    let u = take n text in
    let long : length u ≡ n = length-prefix_len is_decimal text in
    let here : n < length text = inside (cases_lt n (length text)) in
    let split : text ≡ u ++ 46 ∷ drop (n + 1) text =
    sym (take-append-drop n text) ∙ ap (λ l. u ++ l)
    (drop_more text n 0 here ∙ ap (λ z. z ∷ drop (n + 1) text) point) in
    inl (
      u,
      drop (n + 1) text,
      split,
      record {
        some = omega (arith, long, digits_some text l);
        each =
            AllPass-from_list_all is_decimal u (list_all-prefix is_decimal text);
      },
    )
  where
    inside : (prefix_len is_decimal text < length text) ⊎ (length text ≤ prefix_len is_decimal text)
        → prefix_len is_decimal text < length text
    inside (inl h) = h
    inside (inr h) = let past : slice_index text (prefix_len is_decimal text) ≡ 0 =
        get_or_past text (prefix_len is_decimal text) 0 h in absurd (omega (arith, past, point))

pub number_right : (text : List ℕ) → is_decimal (lead text) ≡ true → Right text (number text)
unfolding number
number_right text l =
    by_cond (Right text) (begins_hexadecimal text) _ _ (λ hex. hexadecimal_right text l hex)
    (λ dec. by_cond (Right text) (slice_index text (prefix_len is_decimal text) == 46) _ _
    (λ e. float_right text l (eq_true (slice_index text (prefix_len is_decimal text)) 46 e))
    (λ e. decimal_right text l dec (not_eq (slice_index text (prefix_len is_decimal text)) 46 e)))

-- ---- strings

pub string_right : (text more : List ℕ) → text ≡ 34 ∷ more → Right text (string text)
unfolding string
string_right text more e = go (quote_of (drop 1 text)) refl
  where
    rest_is : drop 1 text ≡ more
    rest_is = ap (drop 1) e

    open_string : quote_of more ≡ None → (body rest : List ℕ) → more ≡ body ++ 34 ∷ rest → IsStringBody body → ⊥
    open_string f body rest g h =
        let found : quote_of more ≡ Some (length body) = ap quote_of g ∙ quote_only body rest h in
        let both : ◌≡◌ {A = Option ℕ} None (Some (length body)) = sym f ∙ found in
        cc

    float : IsFloat text → ⊥
    float f = two (float_lead text f)
      where
        quote : lead text ≡ 34
        quote = ap lead e

        two : (is_decimal (lead text) ≡ true) ⊎ (lead text ≡ 46) → ⊥
        two (inl g) = let r = decimal_range (lead text) g in omega (arith, r.0, quote)
        two (inr g) = omega (arith, g, quote)

    found : (n : ℕ) → quote_of (drop 1 text) ≡ Some n
        → Right text (Ok (Some (Str (escapes_read (chars (take n (drop 1 text))))), n + 2))
    found n f =
        let (body, rest, e1, e2, h) = quote_some more n (ap quote_of (sym rest_is) ∙ f) in
        let u = 34 ∷ (body ++ 34 ∷ []) in
        let split : text ≡ u ++ rest = e ∙ ap (λ l. 34 ∷ l) (e1 ∙ sym (append_assoc body (34 ∷ []) rest)) in
        let inner : take n (drop 1 text) ≡ body =
        ap (take n) (rest_is ∙ e1) ∙ ap (λ k. take k (body ++ 34 ∷ rest)) e2
        ∙ take-append_seam body (34 ∷ rest) in
        let size : n + 2 ≡ length u = omega (arith, e2, length-append body (34 ∷ [])) in
        let reached : reach text ≡ string_reach text =
        choose_quote (lead text) (prefix_len is_name_byte text) (number_reach text) (string_reach text)
        (sign_reach text) (ap lead e) in
        let far : reach text ≡ length u =
        reached ∙ ap (λ (o : Option ℕ). elim o as (λ _. ℕ) [ None ↦ 0 | Some n ↦ n + 2 ]) f ∙ size in
        token_right text u rest (Str (escapes_read (chars (take n (drop 1 text))))) (n + 2) split size far
        (a_string body refl h (ap (λ l. Str (escapes_read (chars l))) inner))
        (no_comment_by text (λ g. let q : lead text ≡ 34 = ap lead e in omega (arith, g, q)))
        (λ (more', e', none). none body rest (ap (drop 1) (sym e' ∙ e) ∙ e1) h)
        float

    go : (o : Option ℕ) → quote_of (drop 1 text) ≡ o
        → Right text (elim o as (λ _. Found) [
          | None ↦ Err StringEnd
          | Some n ↦ Ok
              (Some (Str (escapes_read (chars (take n (drop 1 text))))), n + 2)
        ])
    go None f = (more, e, open_string (ap quote_of (sym rest_is) ∙ f))
    go (Some n) f = found n f
