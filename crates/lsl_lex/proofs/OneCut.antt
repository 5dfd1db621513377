-- A text has one cut.
use Rattle.std.proofs.Common.{◌≡◌, ℕ, zero, suc, ◌+◌, ◌<◌, true, false, cond, inl, inr, List, [], ◌∷◌, ◌++◌, length, drop, Option, Some, None, refl, sym, ap, ◌∙◌, subst, arith, append_assoc}
use Rattle.std.proofs.lemmas.List.Sums.{list_all-from_AllPass}
use Rattle.std.specs.List.{prefix_len, list_all}
use Rattle.std.specs.Str.Parse.{digits_value}
use Rattle.lsl_text.specs.Number.{is_blank, wrapped, begins_hexadecimal}
use Rattle.lsl_text.specs.Place.{span_of}
use Rattle.lsl_lex.specs.Bytes.{is_decimal, is_hexadecimal, is_name_byte}
use Rattle.lsl_lex.specs.Fault.{OpensComment, IsOpenString, IsOpenComment, IsFloat, IsStray, Case}
use Rattle.lsl_lex.specs.Pieces.{IsBlank, Gives, IsPiece, token_of, Cuts}
use Rattle.lsl_lex.specs.Strings.{IsStringBody}
use Rattle.lsl_lex.specs.Tokens.{IsDigits, Spells, a_name, a_word, decimal, hexadecimal, a_string, a_pair_sign, a_single_sign}
use Rattle.lsl_lex.specs.declared.faults.LexKind.{LexKind}
use Rattle.lsl_lex.specs.declared.faults.LexKind.TheVariants.{NotText, StringEnd, CommentEnd, FloatLiteral, StrayCharacter, TextTooLong}
use Rattle.lsl_lex.specs.declared.token_types.Sort.{Sort}
use Rattle.lsl_lex.specs.declared.token_types.Sort.TheVariants.{Int}
use Rattle.lsl_lex.specs.declared.token_types.Token.{Token}
use Rattle.lsl_lex.proofs.ByteKinds.{false_by, letter_range, blank_range, decimal_range}
use Rattle.lsl_lex.proofs.Runs.{and_both, Stops, prefix_len-exact, head}
use Rattle.lsl_lex.proofs.Spelled.{lead, lead-append, is_sign_byte, Begins, with_letter, with_digit, with_quote, with_sign, begins, not_empty, word_passes, pair_passes, single_passes, digits_lead, Hexadecimal, hexadecimal_parts, second_digit, choose_digit, number_reach, string_reach, sign_reach, reach, within_reach}
use Rattle.lsl_lex.proofs.Unique.{same_front, same_rest, string_lead, comment_opens, opens_lead, case_some, no_string_comment, block_opens, line_opens, blank_lead, no_blank_comment, second_same, block_text, line_text, same_piece, piece_some}

-- ---- a number with a point

no_hexadecimal : (digits rest : List ℕ) → IsDigits is_decimal digits → begins_hexadecimal (digits ++ 46 ∷ rest) ≡ false
no_hexadecimal [] rest d = absurd (let some = d.some in omega arith)
no_hexadecimal (a ∷ []) rest d = false_by (begins_hexadecimal (a ∷ 46 ∷ rest))
    (λ e. go (hexadecimal_parts (a ∷ 46 ∷ rest) e))
  where
    go : Hexadecimal (a ∷ 46 ∷ rest) → ⊥
    go (x, c, more, e, inl f, h) = let s : 46 ≡ x = ap (λ l. head (drop 1 l)) e in omega (arith, s, f)
    go (x, c, more, e, inr f, h) = let s : 46 ≡ x = ap (λ l. head (drop 1 l)) e in omega (arith, s, f)
no_hexadecimal (a ∷ b ∷ digits) rest d =
    let all = and_both (is_decimal a) (list_all is_decimal (b ∷ digits))
    (list_all-from_AllPass is_decimal (a ∷ b ∷ digits) d.each) in
    second_digit a b (digits ++ 46 ∷ rest) (and_both (is_decimal b) (list_all is_decimal digits) all.1).0

decimal_reached : (digits rest : List ℕ) → IsDigits is_decimal digits → reach (digits ++ 46 ∷ rest) ≡ length digits
decimal_reached digits rest d =
    let text = digits ++ 46 ∷ rest in
    let first : is_decimal (lead text) ≡ true =
    ap is_decimal (lead-append digits (46 ∷ rest) d.some) ∙ digits_lead digits d in
    let stops : Stops is_decimal (46 ∷ rest) = inr (46, rest, refl, refl) in
    choose_digit (lead text) (prefix_len is_name_byte text) (number_reach text) (string_reach text)
    (sign_reach text) first
    ∙ ap (λ t. cond t (prefix_len is_hexadecimal (drop 2 text) + 2) (prefix_len is_decimal text))
    (no_hexadecimal digits rest d)
    ∙ prefix_len-exact is_decimal digits (46 ∷ rest) (list_all-from_AllPass is_decimal digits d.each) stops

-- ---- where there is a piece

-- no piece begins with a point
no_point : (text p a : List ℕ) (g : Option Sort) → IsPiece text g p a → lead text ≡ 46 → ⊥
no_point text p a g h e = go g h.kind
  where
    first : 0 < length p → lead p ≡ 46
    first some = sym (lead-append p a some) ∙ sym (ap lead h.split) ∙ e

    begun : Begins (lead p) → lead p ≡ 46 → ⊥
    begun (with_letter l) f = let r = letter_range (lead p) l in omega (arith, r.0, f)
    begun (with_digit d) f = let r = decimal_range (lead p) d in omega (arith, r.0, f)
    begun (with_quote q) f = omega (arith, q, f)
    begun (with_sign s) f = let no : is_sign_byte (lead p) ≡ false = ap is_sign_byte f in let both = sym s ∙ no in cc

    go : (g : Option Sort) → Gives text g p a → ⊥
    go None (inl (b, f, blank)) = let r = blank_range b blank in let q : b ≡ 46 =
        ap lead (sym f) ∙ first (omega (arith, ap length f)) in omega (arith, r.1, q)
    go None (inr (inl c)) = omega (arith, e, opens_lead text (block_opens text p a h.split c))
    go None (inr (inr c)) = omega (arith, e, opens_lead text (line_opens text p a h.split c))
    go (Some s) t = begun (begins p s t.spells) (first (not_empty p s t.spells))

-- where a piece and a fault are at one place, the fault is a number with a point, and the piece its digits
no_open_string : (text p a : List ℕ) (g : Option Sort) → IsPiece text g p a → IsOpenString text → ⊥
no_open_string text p a None h f = nothing h.kind
  where
    nothing : Gives text None p a → ⊥
    nothing (inl b) = let r = blank_range (lead text) (blank_lead text p a h.split b) in
        omega (arith, r.1, string_lead text f)
    nothing (inr (inl c)) = no_string_comment text f (block_opens text p a h.split c)
    nothing (inr (inr c)) = no_string_comment text f (line_opens text p a h.split c)
no_open_string text p a (Some s) h (more, e, none) = go (begins p s h.kind.spells) h.kind.spells
  where
    first : lead p ≡ 34
    first = sym (lead-append p a (not_empty p s h.kind.spells)) ∙ sym (ap lead h.split) ∙ ap lead e

    closed : (body : List ℕ) → p ≡ 34 ∷ (body ++ 34 ∷ []) → IsStringBody body → ⊥
    closed body f i = none body a (ap (drop 1) (sym e ∙ h.split ∙ ap (λ l. l ++ a) f) ∙ append_assoc body (34 ∷ []) a) i

    quote_sign : is_sign_byte (lead p) ≡ true → ⊥
    quote_sign s = let no : is_sign_byte (lead p) ≡ false = ap is_sign_byte first in let both = sym s ∙ no in cc

    go : Begins (lead p) → Spells p s → ⊥
    go (with_letter l) t = let r = letter_range (lead p) l in omega (arith, r.0, first)
    go (with_digit d) t = let r = decimal_range (lead p) d in omega (arith, r.0, first)
    go (with_sign s) t = quote_sign s
    go (with_quote q) (a_string body f i j) = closed body f i
    go (with_quote q) (a_name id none f) = let r = letter_range (lead p) id.first in omega (arith, r.0, first)
    go (with_quote q) (a_word row) = let r = letter_range (lead p) (word_passes p s row).0 in omega (arith, r.0, first)
    go (with_quote q) (decimal d f) = let r = decimal_range (lead p) (digits_lead p d) in omega (arith, r.0, first)
    go (with_quote q) (hexadecimal x digits f o d i) = omega (arith, first, ap lead f)
    go (with_quote q) (a_pair_sign row) = quote_sign (pair_passes p s row).1
    go (with_quote q) (a_single_sign row) = quote_sign (single_passes p s row).1

no_open_comment : (text p a : List ℕ) (g : Option Sort) → IsPiece text g p a → IsOpenComment text → ⊥
no_open_comment text p a (Some s) h f = h.kind.no_comment (comment_opens text f)
no_open_comment text p a None h (more, e, none) = nothing h.kind
  where
    nothing : Gives text None p a → ⊥
    nothing (inl b) = no_blank_comment text (blank_lead text p a h.split b) (42, more, e, inl refl)
    nothing (inr (inl (body, f, i))) = none body a (ap (drop 2) (sym e ∙ block_text text p a body h.split f))
    nothing (inr (inr (body, f, i, s))) = let same =
        second_same text more (body ++ a) 42 47 e (line_text text p a body h.split f) in omega (arith, same)

no_stray : (text p a : List ℕ) (g : Option Sort) → IsPiece text g p a → IsStray text → ⊥
no_stray text p a (Some s) h f = f.no_token p a s h.split h.kind.spells
no_stray text p a None h f = nothing h.kind
  where
    nothing : Gives text None p a → ⊥
    nothing (inl b) =
        let (c, rest, e, not_blank) = f.some in
        let yes : is_blank c ≡ true = sym (ap (λ l. is_blank (lead l)) e) ∙ blank_lead text p a h.split b in
        let both = sym yes ∙ not_blank in
        cc
    nothing (inr (inl c)) = f.no_comment (block_opens text p a h.split c)
    nothing (inr (inr c)) = f.no_comment (line_opens text p a h.split c)

-- the digits of a number with a point are the longest token there
float_piece : (text p a digits rest : List ℕ) (g : Option Sort) → IsPiece text g p a
    → text ≡ digits ++ 46 ∷ rest → IsDigits is_decimal digits → a ≡ 46 ∷ rest
float_piece text p a digits rest g h e d = go g h.kind
  where
    digit : is_decimal (lead text) ≡ true
    digit = ap (λ l. is_decimal (lead l)) e ∙ ap is_decimal (lead-append digits (46 ∷ rest) d.some)
        ∙ digits_lead digits d

    blank : IsBlank p → ⊥
    blank b = let r = decimal_range (lead text) digit in let q =
        blank_range (lead text) (blank_lead text p a h.split b) in omega (arith, r.0, q.1)

    comment : OpensComment text → ⊥
    comment o = let r = decimal_range (lead text) digit in omega (arith, r.0, opens_lead text o)

    token : (s : Sort) → Gives text (Some s) p a → a ≡ 46 ∷ rest
    token s t =
        let long = t.longest digits (46 ∷ rest) (Int (wrapped (digits_value 10 digits))) e (decimal d refl) in
        let short = within_reach p a s t.spells in
        let reached : reach (p ++ a) ≡ length digits = ap reach (sym h.split ∙ e) ∙ decimal_reached digits rest d in
        let same : p ≡ digits = same_front text p a digits (46 ∷ rest) h.split e
        (omega (arith, long, short, reached)) in
        same_rest text digits a (46 ∷ rest) (h.split ∙ ap (λ l. l ++ a) same) e

    go : (g : Option Sort) → Gives text g p a → a ≡ 46 ∷ rest
    go None (inl b) = absurd (blank b)
    go None (inr (inl c)) = absurd (comment (block_opens text p a h.split c))
    go None (inr (inr c)) = absurd (comment (line_opens text p a h.split c))
    go (Some s) t = token s t

-- ---- the one cut

pub same_cut : (n : ℕ) (front text : List ℕ) (ts us : List Token) (d x r s : List ℕ) → Cuts n front text ts d r
    → Cuts n front text us x s → (ts ≡ us) × (d ≡ x) × (r ≡ s)
same_cut zero front text ts us d x r s (e1, e2, e3) (f1, f2, f3) = (e1 ∙ sym f1, e2 ∙ sym f2, e3 ∙ sym f3)
same_cut (suc n) front text ts us d x r s (g, p, a, more, h, f, c) (g', p', a', more', h', f', c') =
    let (same_g, same_p, same_a) = same_piece text p a p' a' g g' h h' in
    let P : List ℕ → Type 0 = λ l. Cuts n (front ++ l) a' more' x s in
    let Q : List ℕ → Type 0 = λ l. Cuts n (front ++ p) l more' x s in
    let moved = subst Q (sym same_a) (subst P (sym same_p) c') in
    let (same_ts, same_d, same_r) = same_cut n (front ++ p) a more more' d x r s c moved in
    let tokens : token_of g (span_of front p) ++ more ≡ token_of g' (span_of front p') ++ more' =
    ap (λ z. token_of z (span_of front p) ++ more) same_g
    ∙ ap (λ z. token_of g' (span_of front z) ++ more) same_p
    ∙ ap (λ z. token_of g' (span_of front p') ++ z) same_ts in
    (f ∙ tokens ∙ sym f', same_d, same_r)

nothing_left : (text p a : List ℕ) (g : Option Sort) → IsPiece text g p a → text ≡ [] → ⊥
nothing_left text p a g h e = let some = piece_some text p a g h in omega (arith, some, ap length e)

-- two cuts to the end have the same pieces
pub same_count : (n m : ℕ) (front text : List ℕ) (ts us : List Token) (d x : List ℕ) → Cuts n front text ts d []
    → Cuts m front text us x [] → n ≡ m
same_count zero zero front text ts us d x c e = refl
same_count zero (suc m) front text ts us d x (e1, e2, e3) (g, p, a, more, h, f, c) =
    absurd (nothing_left text p a g h (sym e3))
same_count (suc n) zero front text ts us d x (g, p, a, more, h, f, c) (e1, e2, e3) =
    absurd (nothing_left text p a g h (sym e3))
same_count (suc n) (suc m) front text ts us d x (g, p, a, more, h, f, c) (g', p', a', more', h', f', c') =
    let (same_g, same_p, same_a) = same_piece text p a p' a' g g' h h' in
    let P : List ℕ → Type 0 = λ l. Cuts m (front ++ l) a' more' x [] in
    let Q : List ℕ → Type 0 = λ l. Cuts m (front ++ p) l more' x [] in
    ap suc (same_count n m (front ++ p) a more more' d x c (subst Q (sym same_a) (subst P (sym same_p) c')))

-- a text that is cut to its end has no fault at its front
no_front_case : (n : ℕ) (front text : List ℕ) (ts : List Token) (d : List ℕ) (k : LexKind)
    → Cuts n front text ts d [] → Case text k → ⊥
no_front_case zero front text ts d k (e1, e2, e3) h = let some = case_some text k h in omega (arith, some, ap length e3)
no_front_case (suc n) front text ts d k (g, p, a, more, h, f, c) case = go k case
  where
    behind : (n : ℕ) (rest : List ℕ) → a ≡ 46 ∷ rest → Cuts n (front ++ p) a more d [] → ⊥
    behind zero rest e (e1, e2, e3) = omega (arith, ap length e, ap length e3)
    behind (suc n) rest e (g', p', a', more', h', f', c') = no_point a p' a' g' h' (ap lead e)

    float : IsFloat text → ⊥
    float (inl (digits, rest, e, d)) = behind n rest (float_piece text p a digits rest g h e d) c
    float (inr (digit, rest, e, d)) = no_point text p a g h (ap lead e)

    go : (k : LexKind) → Case text k → ⊥
    go NotText x = x
    go TextTooLong x = x
    go StringEnd x = no_open_string text p a g h x
    go CommentEnd x = no_open_comment text p a g h x
    go FloatLiteral x = float x
    go StrayCharacter x = no_stray text p a g h x

-- nor anywhere else
pub no_case_inside : (n m : ℕ) (front text : List ℕ) (ts us : List Token) (d x r : List ℕ) (k : LexKind)
    → Cuts n front text ts d [] → Cuts m front text us x r → Case r k → ⊥
no_case_inside n zero front text ts us d x r k c (e1, e2, e3) h =
    let P : List ℕ → Type 0 = λ l. Case l k in
    no_front_case n front text ts d k c (subst P e3 h)
no_case_inside zero (suc m) front text ts us d x r k (e1, e2, e3) (g, p, a, more, h, f, c) case =
    nothing_left text p a g h (sym e3)
no_case_inside (suc n) (suc m) front text ts us d x r k (g, p, a, more, h, f, c) (g', p', a', more', h', f', c') case =
    let (same_g, same_p, same_a) = same_piece text p a p' a' g g' h h' in
    let P : List ℕ → Type 0 = λ l. Cuts m (front ++ l) a' more' x r in
    let Q : List ℕ → Type 0 = λ l. Cuts m (front ++ p) l more' x r in
    no_case_inside n m (front ++ p) a more more' d x r k c (subst Q (sym same_a) (subst P (sym same_p) c')) case
