-- What the reading of a sign finds, and of any piece.
use Rattle.std.proofs.Common.{◌≡◌, ℕ, ◌<◌, ◌==◌, Bool, true, false, cond, ◌&&◌, ◌⊎◌, inl, inr, List, [], ◌∷◌, ◌++◌, length, take, drop, Option, Some, None, Ok, Err, refl, sym, ap, ◌∙◌, arith}
use Rattle.std.proofs.lemmas.Bool.Decides.{nat_tests}
use Rattle.std.proofs.lemmas.List.{take-append-drop}
use Rattle.std.proofs.Math.Seq.{take-append_seam}
use Rattle.std.specs.Prelude.{slice_index, Contains}
use Rattle.std.specs.List.{prefix_len}
use Rattle.lsl_text.specs.Number.{is_blank}
use Rattle.lsl_lex.specs.Bytes.{is_letter, is_decimal, is_name_byte}
use Rattle.lsl_lex.specs.Fault.{OpensComment, IsOpenString, IsFloat}
use Rattle.lsl_lex.specs.Tokens.{pair_signs, single_signs, Spells, a_name, a_word, decimal, hexadecimal, a_string, a_pair_sign, a_single_sign}
use Rattle.lsl_lex.specs.Reading.{Found, row_of, string, block_comment, line_comment, stray, sign, piece}
use Rattle.lsl_lex.specs.declared.faults.LexKind.TheVariants.{FloatLiteral, StrayCharacter}
use Rattle.lsl_lex.specs.declared.token_types.Sort.{Sort}
use Rattle.lsl_lex.proofs.ByteKinds.{eq_true, not_eq}
use Rattle.lsl_lex.proofs.Rows.{row_from_row_of, contains_from_row}
use Rattle.lsl_lex.proofs.Runs.{and_both}
use Rattle.lsl_lex.proofs.Spelled.{lead, lead-append, word_passes, pair_passes, pair_found, single_passes, single_found, sign_parts, digits_lead, not_empty, number_reach, string_reach, sign_reach, reach}
use Rattle.lsl_lex.proofs.Unique.{string_lead, float_lead}
use Rattle.lsl_lex.proofs.Found.{by_cond, Right, token_right, blank_right, block_right, line_right, name_right, number_right, string_right}

abbrev second : List ℕ → ℕ
second text = slice_index text 1

-- what no piece but a sign begins with
record Rest (text : List ℕ) : Type 0 where
  some : 0 < length text
  blank : is_blank (lead text) ≡ false
  block : (lead text == 47 && second text == 42) ≡ false
  line : (lead text == 47 && second text == 47) ≡ false
  letter : is_letter (lead text) ≡ false
  digit : is_decimal (lead text) ≡ false
  quote : (lead text == 34) ≡ false

both_true : (a b c d : ℕ) → a ≡ b → c ≡ d → (a == b && c == d) ≡ true
both_true a b c d e f = ap (λ z. z == b && c == d) e ∙ ap (λ z. b == b && z == d) f ∙ same b d
  where
    equal : (n : ℕ) → (n == n) ≡ true
    equal n = grind (arith, nat_tests)

    same : (n m : ℕ) → (n == n && m == m) ≡ true
    same n m = ap (λ t. t && m == m) (equal n) ∙ equal m

no_comment : (text : List ℕ) → Rest text → OpensComment text → ⊥
no_comment text h (b, rest, e, inl f) =
    let yes = both_true (lead text) 47 (second text) 42 (ap lead e) (ap second e ∙ f) in
    let no = h.block in
    let both = sym yes ∙ no in
    cc
no_comment text h (b, rest, e, inr f) =
    let yes = both_true (lead text) 47 (second text) 47 (ap lead e) (ap second e ∙ f) in
    let no = h.line in
    let both = sym yes ∙ no in
    cc

sign_reached : (text : List ℕ) → Rest text → reach text ≡ sign_reach text
sign_reached text h =
    let b = lead text in
    let w = prefix_len is_name_byte text in
    let x = number_reach text in
    let y = string_reach text in
    let z = sign_reach text in
    ap (λ t. cond t w (cond (is_decimal b) x (cond (b == 34) y z))) h.letter
    ∙ ap (λ t. cond t x (cond (b == 34) y z)) h.digit
    ∙ ap (λ t. cond t y z) h.quote

no_float_by : (text : List ℕ) → Rest text → (lead text ≡ 46 → ⊥) → IsFloat text → ⊥
no_float_by text h point f = go (float_lead text f)
  where
    go : (is_decimal (lead text) ≡ true) ⊎ (lead text ≡ 46) → ⊥
    go (inl g) = let no = h.digit in let both = sym g ∙ no in cc
    go (inr g) = point g

no_string : (text : List ℕ) → Rest text → IsOpenString text → ⊥
no_string text h o = not_eq (lead text) 34 h.quote (string_lead text o)

sign_at : (text : List ℕ) (n : ℕ) (s : Sort) → Rest text → Spells (take n text) s → n ≡ length (take n text)
    → reach text ≡ n → ((lead (take n text) == 46) ≡ false) → Right text (Ok (Some s, n))
sign_at text n s h spelled size far point =
    let u = take n text in
    let split : text ≡ u ++ drop n text = sym (take-append-drop n text) in
    let first : lead text ≡ lead u = ap lead split ∙ lead-append u (drop n text) (not_empty u s spelled) in
    token_right text u (drop n text) s n split size (far ∙ size) spelled (no_comment text h) (no_string text h)
    (no_float_by text h (λ e. not_eq (lead u) 46 point (sym first ∙ e)))

pair_right : (text : List ℕ) (s : Sort) → Rest text → row_of pair_signs (take 2 text) ≡ Some s
    → Right text (Ok (Some s, 2))
pair_right text s h e =
    let row : Contains pair_signs (take 2 text, s) =
    contains_from_row pair_signs (take 2 text) s (row_from_row_of pair_signs (take 2 text) s e) in
    let passes = pair_passes (take 2 text) s row in
    sign_at text 2 s h (a_pair_sign row) (sym passes.0)
    (sign_reached text h ∙ ap (λ (o : Option Sort). elim o as (λ _. ℕ) [ None ↦ 1 | Some pair ↦ 2 ]) e)
    (sign_parts (lead (take 2 text)) passes.1).point

single_right : (text : List ℕ) (s : Sort) → Rest text → row_of pair_signs (take 2 text) ≡ None
    → row_of single_signs (take 1 text) ≡ Some s → Right text (Ok (Some s, 1))
single_right text s h none e =
    let row : Contains single_signs (take 1 text, s) =
    contains_from_row single_signs (take 1 text) s (row_from_row_of single_signs (take 1 text) s e) in
    let passes = single_passes (take 1 text) s row in
    sign_at text 1 s h (a_single_sign row) (sym passes.0)
    (sign_reached text h ∙ ap (λ (o : Option Sort). elim o as (λ _. ℕ) [ None ↦ 1 | Some pair ↦ 2 ]) none)
    (sign_parts (lead (take 1 text)) passes.1).point

-- ---- where no sign begins

take_part : (text u rest : List ℕ) (n : ℕ) → text ≡ u ++ rest → length u ≡ n → take n text ≡ u
take_part text u rest n e f = ap (λ k. take k text) (sym f) ∙ ap (take (length u)) e ∙ take-append_seam u rest

clash : (t : Bool) → t ≡ true → t ≡ false → ⊥
clash t e f = let both = sym e ∙ f in cc

no_token : (text : List ℕ) → Rest text → row_of pair_signs (take 2 text) ≡ None
    → row_of single_signs (take 1 text) ≡ None → (u rest : List ℕ) (s : Sort) → text ≡ u ++ rest → Spells u s
    → ⊥
no_token text h pairs singles u rest s e spelled = go spelled
  where
    first : lead u ≡ lead text
    first = sym (ap lead e ∙ lead-append u rest (not_empty u s spelled))

    go : Spells u s → ⊥
    go (a_name id none f) = clash (is_letter (lead text)) (ap is_letter (sym first) ∙ id.first) h.letter
    go (a_word row) = clash (is_letter (lead text)) (ap is_letter (sym first) ∙ (word_passes u s row).0) h.letter
    go (decimal d f) = clash (is_decimal (lead text)) (ap is_decimal (sym first) ∙ digits_lead u d) h.digit
    go (hexadecimal x digits f o d g) = clash (is_decimal (lead text))
        (ap is_decimal (sym first) ∙ ap (λ l. is_decimal (lead l)) f) h.digit
    go (a_string body f g i) = not_eq (lead text) 34 h.quote (sym first ∙ ap lead f)
    go (a_pair_sign row) =
        let found : row_of pair_signs (take 2 text) ≡ Some s =
        ap (row_of pair_signs) (take_part text u rest 2 e (pair_passes u s row).0) ∙ pair_found u s row in
        let both = sym pairs ∙ found in
        cc
    go (a_single_sign row) =
        let found : row_of single_signs (take 1 text) ≡ Some s =
        ap (row_of single_signs) (take_part text u rest 1 e (single_passes u s row).0)
        ∙ single_found u s row in
        let both = sym singles ∙ found in
        cc

point_float : (text : List ℕ) → (lead text == 46 && is_decimal (second text)) ≡ true → IsFloat text
point_float [] e = absurd (cc)
point_float (a ∷ []) e = absurd (let no = (and_both (a == 46) (is_decimal 0) e).1 in cc)
point_float (a ∷ b ∷ text) e =
    let both = and_both (a == 46) (is_decimal b) e in
    inr (b, text, ap (λ z. z ∷ b ∷ text) (eq_true a 46 both.0), both.1)

point_true : (a : ℕ) (t : Bool) → a ≡ 46 → t ≡ true → (a == 46 && t) ≡ true
point_true a t e f = ap (λ z. z == 46 && t) e ∙ f

no_point : (text : List ℕ) → Rest text → (lead text == 46 && is_decimal (second text)) ≡ false → IsFloat text → ⊥
no_point text h none (inl f) = go (float_lead text (inl f))
  where
    digits_no_point : (lead text ≡ 46) → ⊥
    digits_no_point g =
        let (digits, rest, e, d) = f in
        let first : is_decimal (lead text) ≡ true =
        ap (λ l. is_decimal (lead l)) e ∙ ap is_decimal (lead-append digits (46 ∷ rest) d.some)
        ∙ digits_lead digits d in
        clash (is_decimal (lead text)) first h.digit

    go : (is_decimal (lead text) ≡ true) ⊎ (lead text ≡ 46) → ⊥
    go (inl g) = clash (is_decimal (lead text)) g h.digit
    go (inr g) = digits_no_point g
no_point text h none (inr (digit, rest, e, f)) =
    clash (lead text == 46 && is_decimal (second text))
    (point_true (lead text) (is_decimal (second text)) (ap lead e) (ap (λ l. is_decimal (second l)) e ∙ f))
    none

first_byte : (text : List ℕ) → Rest text → (b : ℕ) × (rest : List ℕ) × (text ≡ b ∷ rest) × (is_blank b ≡ false)
first_byte [] h = absurd (let some = h.some in omega arith)
first_byte (b ∷ rest) h = (b, rest, refl, h.blank)

stray_right : (text : List ℕ) → Rest text → row_of pair_signs (take 2 text) ≡ None
    → row_of single_signs (take 1 text) ≡ None → Right text (stray text)
stray_right text h pairs singles =
    by_cond (Right text) (lead text == 46 && is_decimal (second text)) (Err FloatLiteral) (Err StrayCharacter)
    (point_float text)
    (λ e. record {
      some = first_byte text h;
      no_comment = no_comment text h;
      no_token = no_token text h pairs singles;
      no_string = no_string text h;
      no_float = no_point text h e;
    })

sign_right : (text : List ℕ) → Rest text → Right text (sign text)
unfolding sign
sign_right text h = pairs (row_of pair_signs (take 2 text)) refl
  where
    singles : row_of pair_signs (take 2 text) ≡ None → (o : Option Sort) → row_of single_signs (take 1 text) ≡ o
        → Right text (elim o as (λ _. Found) [ Some single ↦ Ok (Some single, 1) | None ↦ stray text ])
    singles none (Some s) e = single_right text s h none e
    singles none None e = stray_right text h none e

    pairs : (o : Option Sort) → row_of pair_signs (take 2 text) ≡ o
        → Right text (elim o as (λ _. Found) [
          | Some pair ↦ Ok (Some pair, 2)
          | None ↦ elim (row_of single_signs (take 1 text))
              [ Some single ↦ Ok (Some single, 1) | None ↦ stray text ]
        ])
    pairs (Some s) e = pair_right text s h e
    pairs None e = singles e (row_of single_signs (take 1 text)) refl

-- ---- any piece

opened : (text : List ℕ) (c : ℕ) → 0 < c → (lead text == 47 && second text == c) ≡ true → (more : List ℕ)
    × (text ≡ 47 ∷ c ∷ more)
opened [] c some e = absurd (cc)
opened (a ∷ []) c some e = absurd (let zero = eq_true 0 c (and_both (a == 47) (0 == c) e).1 in omega (arith, zero))
opened (a ∷ b ∷ more) c some e =
    let both = and_both (a == 47) (b == c) e in
    (more, ap (λ z. z ∷ b ∷ more) (eq_true a 47 both.0) ∙ ap (λ z. 47 ∷ z ∷ more) (eq_true b c both.1))

quoted : (text : List ℕ) → 0 < length text → lead text ≡ 34 → (more : List ℕ) × (text ≡ 34 ∷ more)
quoted [] some e = absurd (omega arith)
quoted (b ∷ more) some e = (more, ap (λ z. z ∷ more) e)

block_at : (text : List ℕ) → (lead text == 47 && second text == 42) ≡ true → Right text (block_comment text)
block_at text e = let (more, f) = opened text 42 (omega arith) e in block_right text more f

line_at : (text : List ℕ) → (lead text == 47 && second text == 47) ≡ true → Right text (line_comment text)
line_at text e = let (more, f) = opened text 47 (omega arith) e in line_right text more f

string_at : (text : List ℕ) → 0 < length text → (lead text == 34) ≡ true → Right text (string text)
string_at text some e = let (more, f) = quoted text some (eq_true (lead text) 34 e) in string_right text more f

pub piece_right : (text : List ℕ) → 0 < length text → Right text (piece text)
unfolding piece
piece_right text some =
    by_cond (Right text) (is_blank (lead text)) _ _ (blank_right text some)
    (λ blank. by_cond (Right text) (lead text == 47 && second text == 42) _ _ (block_at text)
    (λ block. by_cond (Right text) (lead text == 47 && second text == 47) _ _ (line_at text)
    (λ line. by_cond (Right text) (is_letter (lead text)) _ _ (name_right text)
    (λ letter. by_cond (Right text) (is_decimal (lead text)) _ _ (number_right text)
    (λ digit. by_cond (Right text) (lead text == 34) _ _ (string_at text some)
    (λ quote. sign_right text (record {
      some = some;
      blank = blank;
      block = block;
      line = line;
      letter =
          letter;
      digit = digit;
      quote = quote;
    })))))))
