-- A list's elements and its text: what is joined is found again.
use Rattle.std.proofs.Common.{◌≡◌, ◌≢◌, ◌∙◌, ℕ, ◌<◌, true, false, ◌&&◌, ◌==◌, nat_eq, List, [], ◌∷◌, ◌++◌, length, map, Some, None, sym, ap, refl, arith, length-append}
use Rattle.std.specs.Prelude.{slice_index, codes}
use Rattle.std.specs.List.{All}
use Rattle.std.proofs.lemmas.Bool.{cond-true, cond-false, ne_eqb, eq-eqb}
use Rattle.std.proofs.lemmas.Bool.Decides.{nat_tests}
use Rattle.std.proofs.lemmas.List.{append-nil}
use Rattle.std.proofs.lemmas.List.Elements.{All-head, All-tail}
use Rattle.lsl_value.specs.declared.list.Atom.{Atom}
use Rattle.lsl_value.specs.declared.list.Atom.TheVariants.{Str}
use Rattle.lsl_pure.specs.Csv.{csv_elements, csv_pieces, into_first, without_leading_spaces}
use Rattle.lsl_pure.specs.CsvSteps.{depth_behind, is_outer_comma, pieces_from}
use Rattle.lsl_value.specs.Atoms.{text_of_atom}
use Rattle.lsl_pure.specs.Joins.{csv_text, dumped, each_behind}
use Rattle.lsl_pure.specs.Parsing.{Cut, behind_character, behind_mark, cut_behind, cut_elements, first_mark, parsed}
use Rattle.lsl_pure.specs.Laws.{IsPlainCharacter, IsPlainText, IsPlainList, string_element}
use Rattle.lsl_pure.proofs.BracketLemmas.{csv_pieces-from}
use Rattle.lsl_pure.proofs.CsvLemmas.{pieces_from-first, csv_strings, into_first-front, into_front, into_front-nil}
use Rattle.lsl_pure.specs.declared.marks.Mark.{Mark}
use Rattle.lsl_pure.proofs.CutLemmas.{before_cut, cut_behind-none, cut_behind-some, rest_elements}
use Rattle.lsl_pure.proofs.TrimLemmas.{behind_front-no, behind_front-yes}

plain-inside : (depth c : ℕ) → IsPlainCharacter c → is_outer_comma depth c ≡ false
plain-inside depth c plain = ap (λ b. b && (depth == 0)) (ne_eqb c 44 plain.comma)

plain-depth : (depth c : ℕ) → IsPlainCharacter c → depth_behind depth c ≡ depth
plain-depth depth c plain = cond-false _ _ _ (ne_eqb c 60 plain.open_bracket)
    ∙ cond-false _ _ _ (ne_eqb c 62 plain.close_bracket)

pieces_from-plain : (text rest : List ℕ) → All IsPlainCharacter text
    → pieces_from 0 (text ++ rest) ≡ into_front text (pieces_from 0 rest)
pieces_from-plain [] rest plain = sym (into_front-nil (pieces_from 0 rest) (pieces_from-first 0 rest))
pieces_from-plain (c ∷ cs) rest plain =
    let here = All-head IsPlainCharacter c cs plain in
    cond-false _ _ _ (plain-inside 0 c here)
    ∙ ap (λ d. into_first c (pieces_from d (cs ++ rest))) (plain-depth 0 c here)
    ∙ ap (into_first c) (pieces_from-plain cs rest (All-tail IsPlainCharacter c cs plain))
    ∙ into_first-front c cs (pieces_from 0 rest)

stripped : (text : List ℕ) → slice_index text 0 ≢ 32 → without_leading_spaces text ≡ text
stripped [] start = refl
stripped (c ∷ cs) start = behind_front-no (λ b. b == 32) c cs (ne_eqb c 32 start)

stripped-space : (text : List ℕ) → slice_index text 0 ≢ 32 → without_leading_spaces (32 ∷ text) ≡ text
stripped-space text start = behind_front-yes (λ b. b == 32) 32 text refl ∙ stripped text start

-- the texts behind the first one's end
pieces_from-behind : (atoms : List Atom) → All (λ a. IsPlainText (text_of_atom a)) atoms
    → pieces_from 0 (each_behind (codes ", ") (map text_of_atom atoms))
    ≡ [] ∷ map (λ a. 32 ∷ text_of_atom a) atoms
pieces_from-behind [] plain = refl
pieces_from-behind (a ∷ atoms) plain =
    let here = All-head (λ a. IsPlainText (text_of_atom a)) a atoms plain in
    let rest = each_behind (codes ", ") (map text_of_atom atoms) in
    ap (λ ps. [] ∷ into_first 32 ps) (pieces_from-plain (text_of_atom a) rest here.characters)
    ∙ ap (λ ps. [] ∷ ps) (into_first-front 32 (text_of_atom a) (pieces_from 0 rest))
    ∙ ap (λ ps. [] ∷ into_front (32 ∷ text_of_atom a) ps)
    (pieces_from-behind atoms (All-tail (λ a. IsPlainText (text_of_atom a)) a atoms plain))
    ∙ ap (λ t. [] ∷ (t ∷ map (λ a. 32 ∷ text_of_atom a) atoms)) (append-nil (32 ∷ text_of_atom a))

strings-behind : (atoms : List Atom) → All (λ a. IsPlainText (text_of_atom a)) atoms
    → csv_strings (map (λ a. 32 ∷ text_of_atom a) atoms) ≡ map string_element atoms
strings-behind [] plain = refl
strings-behind (a ∷ atoms) plain =
    let here = All-head (λ a. IsPlainText (text_of_atom a)) a atoms plain in
    ap (λ t. Str t ∷ csv_strings (map (λ a. 32 ∷ text_of_atom a) atoms)) (stripped-space (text_of_atom a) here.start)
    ∙ ap (λ xs. string_element a ∷ xs) (strings-behind atoms
    (All-tail (λ a. IsPlainText (text_of_atom a)) a atoms plain))

length-csv : (a : Atom) (atoms : List Atom) → ((b : Atom) → a ∷ atoms ≡ b ∷ [] → text_of_atom b ≢ [])
    → 0 < length (text_of_atom a ++ each_behind (codes ", ") (map text_of_atom atoms))
length-csv a [] several = omega (arith, length-append (text_of_atom a) [], not-empty (text_of_atom a) (several a refl))
  where
    not-empty : (text : List ℕ) → text ≢ [] → 0 < length text
    not-empty [] some = absurd (some refl)
    not-empty (c ∷ cs) some = omega arith
length-csv a (b ∷ atoms) several = omega (
  arith,
  length-append (text_of_atom a)
      (44 ∷ 32 ∷ (text_of_atom b ++ each_behind (codes ", ") (map text_of_atom atoms))),
)

nonzero : (n : ℕ) → 0 < n → (n == 0) ≡ false
nonzero n some = grind (arith, nat_tests)

pub csv_elements-csv_text : (atoms : List Atom) → IsPlainList atoms
    → csv_elements (csv_text atoms) ≡ map string_element atoms
csv_elements-csv_text [] plain = refl
csv_elements-csv_text (a ∷ atoms) plain =
    let here = All-head (λ a. IsPlainText (text_of_atom a)) a atoms plain.texts in
    let others = All-tail (λ a. IsPlainText (text_of_atom a)) a atoms plain.texts in
    let rest = each_behind (codes ", ") (map text_of_atom atoms) in
    cond-false (length (text_of_atom a ++ rest) == 0) [] (csv_strings (csv_pieces (text_of_atom a ++ rest)))
    (nonzero (length (text_of_atom a ++ rest)) (length-csv a atoms plain.several))
    ∙ ap csv_strings (csv_pieces-from (text_of_atom a ++ rest)
    ∙ pieces_from-plain (text_of_atom a) rest here.characters
    ∙ ap (into_front (text_of_atom a)) (pieces_from-behind atoms others))
    ∙ ap (λ t. Str (without_leading_spaces t) ∷ csv_strings (map (λ a. 32 ∷ text_of_atom a) atoms))
    (append-nil (text_of_atom a))
    ∙ ap (λ t. Str t ∷ csv_strings (map (λ a. 32 ∷ text_of_atom a) atoms)) (stripped (text_of_atom a) here.start)
    ∙ ap (λ xs. string_element a ∷ xs) (strings-behind atoms others)

-- one separator of one character

-- the separator's mark
abbrev only_mark : ℕ → Mark
only_mark c = record { text = c ∷ []; spacer = false }

other-stands : (c x : ℕ) (xs : List ℕ) → x ≢ c → first_mark (only_mark c ∷ []) (x ∷ xs) ≡ None
other-stands c x xs other = let no' : nat_eq c x ≡ false = ne_eqb c x (λ same. other (sym same)) in
    cond-false _ _ _ (ap (λ b. b && true) no')

same-stands : (c : ℕ) (xs : List ℕ) → first_mark (only_mark c ∷ []) (c ∷ xs) ≡ Some (only_mark c)
same-stands c xs = let here : nat_eq c c ≡ true = eq-eqb c c refl in cond-true _ _ _ (ap (λ b. b && true) here)

cut_behind-apart : (c : ℕ) (text rest : List ℕ) → All (λ x. x ≢ c) text
    → cut_behind (only_mark c ∷ []) 0 (text ++ rest) ≡ before_cut text (cut_behind (only_mark c ∷ []) 0 rest)
cut_behind-apart c [] rest apart = refl
cut_behind-apart c (x ∷ xs) rest apart =
    cut_behind-none (only_mark c ∷ []) x (xs ++ rest) (other-stands c x (xs ++ rest) (All-head (λ x. x ≢ c) x xs apart))
    ∙ ap (behind_character x) (cut_behind-apart c xs rest (All-tail (λ x. x ≢ c) x xs apart))

cut_behind-behind : (c : ℕ) (atoms : List Atom) → All (λ a. All (λ x. x ≢ c) (text_of_atom a)) atoms
    → cut_behind (only_mark c ∷ []) 0 (each_behind (c ∷ []) (map text_of_atom atoms))
    ≡ record { first = []; rest = map (λ a. (only_mark c, text_of_atom a)) atoms }
cut_behind-behind c [] apart = refl
cut_behind-behind c (a ∷ atoms) apart =
    let rest = each_behind (c ∷ []) (map text_of_atom atoms) in
    cut_behind-some (only_mark c ∷ []) c (text_of_atom a ++ rest) (only_mark c) (same-stands c (text_of_atom a ++ rest))
    ∙ ap (behind_mark (only_mark c)) (cut_behind-apart c (text_of_atom a) rest
    (All-head (λ a. All (λ x. x ≢ c) (text_of_atom a)) a atoms apart)
    ∙ ap (before_cut (text_of_atom a))
    (cut_behind-behind c atoms (All-tail (λ a. All (λ x. x ≢ c) (text_of_atom a)) a atoms apart)))
    ∙ ap (λ (t : List ℕ). let cut : Cut =
    record { first = []; rest = (only_mark c, t) ∷ map (λ a. (only_mark c, text_of_atom a)) atoms } in cut)
    (append-nil (text_of_atom a))

rest_elements-strings : (c : ℕ) (atoms : List Atom)
    → rest_elements true (map (λ a. (only_mark c, text_of_atom a)) atoms) ≡ map string_element atoms
rest_elements-strings c [] = refl
rest_elements-strings c (a ∷ atoms) = ap (λ xs. string_element a ∷ xs) (rest_elements-strings c atoms)

pub parsed-dumped : (atoms : List Atom) (c : ℕ) → 0 < length atoms → All (λ a. All (λ x. x ≢ c) (text_of_atom a)) atoms
    → parsed true (dumped atoms (c ∷ [])) (Str (c ∷ []) ∷ []) [] ≡ map string_element atoms
parsed-dumped [] c some apart = absurd (omega arith)
parsed-dumped (a ∷ atoms) c some apart =
    let rest = each_behind (c ∷ []) (map text_of_atom atoms) in
    ap (cut_elements true) (cut_behind-apart c (text_of_atom a) rest
    (All-head (λ a. All (λ x. x ≢ c) (text_of_atom a)) a atoms apart)
    ∙ ap (before_cut (text_of_atom a))
    (cut_behind-behind c atoms (All-tail (λ a. All (λ x. x ≢ c) (text_of_atom a)) a atoms apart)))
    ∙ ap (λ t. Str t ∷ rest_elements true (map (λ a. (only_mark c, text_of_atom a)) atoms))
    (append-nil (text_of_atom a))
    ∙ ap (λ xs. string_element a ∷ xs) (rest_elements-strings c atoms)
