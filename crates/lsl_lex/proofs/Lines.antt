-- A token other than a string is on one line, and the cursor passes it at once.
use Rattle.std.proofs.Common.{◌≡◌, ℕ, zero, suc, ◌+◌, ◌-◌, ◌<◌, ◌≤◌, ◌==◌, Bool, true, false, not, ◌⊎◌, inl, inr, List, ◌∷◌, Contains, Ok, length, take, drop, get_or, Option, Some, None, refl, sym, ap, ◌∙◌, subst, arith, length-drop}
use Rattle.std.proofs.lemmas.List.{get_or-drop, get_or-take, length-take-le}
use Rattle.std.proofs.lemmas.List.Elements.{All-weaker}
use Rattle.std.proofs.lemmas.List.Sums.{AllPass-from_list_all, list_all-from_AllPass, count_by_more_no, suffix_len-take_yes}
use Rattle.std.specs.List.{AllPass, list_all}
use Rattle.lsl_text.specs.Place.{IsAt, is_line_feed, line_behind, column_behind}
use Rattle.lsl_text.specs.declared.cursor.Cursor.{Cursor}
use Rattle.lsl_lex.specs.Bytes.{is_decimal, is_hexadecimal, is_name_byte, is_in_line}
use Rattle.lsl_lex.specs.Pieces.{IsPiece}
use Rattle.lsl_lex.specs.Reading.{keeps_line}
use Rattle.lsl_lex.specs.Tokens.{words, pair_signs, single_signs, Spells, a_name, a_word, decimal, hexadecimal, a_string, a_pair_sign, a_single_sign}
use Rattle.lsl_lex.specs.declared.token_types.Sort.{Sort}
use Rattle.lsl_lex.proofs.ByteKinds.{false_by, eq_true}
use Rattle.lsl_lex.proofs.Rows.{Row, row_from_contains, all_keys, key_passes}
use Rattle.lsl_lex.proofs.Found.{Right}

-- ---- which pieces keep the line

line_by : (p : ℕ → Bool) → p 10 ≡ false → (b : ℕ) → p b ≡ true → is_in_line b ≡ true
line_by p e b h = ap not (false_by (b == 10) (λ t. absurd (let here : p b ≡ false = ap p (eq_true b 10 t) ∙ e in cc)))

each_in_line : (p : ℕ → Bool) → p 10 ≡ false → (bytes : List ℕ) → AllPass p bytes → AllPass is_in_line bytes
each_in_line p e bytes h = All-weaker (λ b. p b ≡ true) (λ b. is_in_line b ≡ true) (line_by p e) bytes h

key_in_line : (rows : List Row) (bytes : List ℕ) (sort : Sort) → all_keys (list_all is_in_line) rows ≡ true
    → Contains rows (bytes, sort) → AllPass is_in_line bytes
key_in_line rows bytes sort all h = AllPass-from_list_all is_in_line bytes
    (key_passes (list_all is_in_line) rows bytes sort all (row_from_contains rows bytes sort h))

hexadecimal_in_line : (x : ℕ) (digits : List ℕ) → (x ≡ 120) ⊎ (x ≡ 88) → AllPass is_hexadecimal digits
    → list_all is_in_line (48 ∷ x ∷ digits) ≡ true
hexadecimal_in_line x digits (inl e) h = rw e
    (list_all-from_AllPass is_in_line digits (each_in_line is_hexadecimal refl digits h))
hexadecimal_in_line x digits (inr e) h = rw e
    (list_all-from_AllPass is_in_line digits (each_in_line is_hexadecimal refl digits h))

spelled_in_line : (bytes : List ℕ) (sort : Sort) → Spells bytes sort → keeps_line (Some sort) ≡ true
    → AllPass is_in_line bytes
spelled_in_line bytes sort (a_name h none e) k = each_in_line is_name_byte refl bytes h.each
spelled_in_line bytes sort (a_word h) k = key_in_line words bytes sort refl h
spelled_in_line bytes sort (decimal h e) k = each_in_line is_decimal refl bytes h.each
spelled_in_line bytes sort (hexadecimal x digits e one h s) k = AllPass-from_list_all is_in_line bytes
    (ap (list_all is_in_line) e ∙ hexadecimal_in_line x digits one h.each)
spelled_in_line bytes sort (a_string body e h s) k =
    absurd (let none : keeps_line (Some sort) ≡ false = ap (λ t. keeps_line (Some t)) s in cc)
spelled_in_line bytes sort (a_pair_sign h) k = key_in_line pair_signs bytes sort refl h
spelled_in_line bytes sort (a_single_sign h) k = key_in_line single_signs bytes sort refl h

-- a piece that keeps the line has no line feed
pub piece_in_line : (text part rest : List ℕ) (gives : Option Sort) → IsPiece text gives part rest
    → keeps_line gives ≡ true → AllPass is_in_line part
piece_in_line text part rest None h k = absurd (cc)
piece_in_line text part rest (Some sort) h k = spelled_in_line part sort h.kind.spells k

-- ---- the cursor after bytes of one line

no_feed : (b : ℕ) → is_in_line b ≡ true → is_line_feed b ≡ false
no_feed b h = go (is_line_feed b) refl h
  where
    go : (t : Bool) → is_line_feed b ≡ t → not t ≡ true → t ≡ false
    go true e f = absurd (cc)
    go false e f = refl

-- the byte at this distance from the place is none
abbrev InLine : List ℕ → ℕ → ℕ → Type 0
InLine text place count = (i : ℕ) → i < count → is_in_line (get_or text (place + i) 0) ≡ true

in_line_at : (text : List ℕ) (place count : ℕ) → place + count ≤ length text
    → AllPass is_in_line (take count (drop place text)) → InLine text place count
in_line_at text place count within h i lt =
    let size : length (take count (drop place text)) ≡ count =
    length-take-le count (drop place text) (omega (arith, length-drop place text)) in
    ap is_in_line (sym (get_or-take count (drop place text) i 0 lt ∙ get_or-drop place text i 0))
    ∙ h i 0 (omega (arith, size))

line_along : (text : List ℕ) (place count : ℕ) → place + count ≤ length text → InLine text place count
    → line_behind (take (place + count) text) ≡ line_behind (take place text)
line_along text place zero within h = let same : place + 0 ≡ place = omega arith in
    ap (λ n. line_behind (take n text)) same
line_along text place (suc count) within h =
    let next : place + suc count ≡ place + count + 1 = omega arith in
    ap (λ n. line_behind (take n text)) next
    ∙ ap (λ n. n + 1) (count_by_more_no is_line_feed text (place + count) 0 (omega arith)
    (no_feed (get_or text (place + count) 0) (h count (omega arith))))
    ∙ line_along text place count (omega arith) (λ i lt. h i (omega arith))

column_along : (text : List ℕ) (place count : ℕ) → place + count ≤ length text → InLine text place count
    → column_behind (take (place + count) text) ≡ column_behind (take place text) + count
column_along text place zero within h = let same : place + 0 ≡ place = omega arith in
    ap (λ n. column_behind (take n text)) same ∙ omega arith
column_along text place (suc count) within h =
    let next : place + suc count ≡ place + count + 1 = omega arith in
    let before : place + count + 1 - 1 ≡ place + count = omega arith in
    let byte : is_in_line (get_or text (place + count + 1 - 1) 0) ≡ true =
    ap (λ n. is_in_line (get_or text n 0)) before ∙ h count (omega arith) in
    let more = suffix_len-take_yes (λ b. not (is_line_feed b)) text (place + count + 1) 0 (omega arith)
    (omega arith) byte in
    let rest = column_along text place count (omega arith) (λ i lt. h i (omega arith)) in
    ap (λ n. column_behind (take n text)) next
    ∙ omega (arith, more, ap (λ n. column_behind (take n text)) before, rest)

pub place_along : (text : List ℕ) (from to : Cursor) (count : ℕ) → IsAt text from
    → from.offset + count ≤ length text → AllPass is_in_line (take count (drop from.offset text))
    → to.offset ≡ from.offset + count → to.line ≡ from.line → to.col ≡ from.col + count → IsAt text to
place_along text from to count at within h offset line col =
    let each = in_line_at text from.offset count within h in
    record {
      within = omega arith;
      behind =
          record {
            offset = sym (length-take-le to.offset text (omega arith));
            line = line ∙ at.behind.line ∙ sym (line_along text from.offset count within each)
                ∙ ap (λ n. line_behind (take n text)) (sym offset);
            col = col ∙ ap (λ n. n + count) at.behind.col ∙ sym (column_along text from.offset count within each)
                ∙ ap (λ n. column_behind (take n text)) (sym offset);
          };
    }

-- what the next piece says of its bytes
pub found_in_line : (text rest : List ℕ) (gives : Option Sort) (count place : ℕ) → Right rest (Ok (gives, count))
    → rest ≡ drop place text → keeps_line gives ≡ true → AllPass is_in_line (take count (drop place text))
found_in_line text rest gives count place right e k =
    let P : List ℕ → Type 0 = λ l. AllPass is_in_line (take count l) in
    subst P e (piece_in_line rest (take count rest) (drop count rest) gives right.2 k)
