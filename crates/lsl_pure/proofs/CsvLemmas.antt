-- A text split at its outer commas.
use Rattle.std.proofs.Common.{◌≡◌, ◌∙◌, ℕ, ◌+◌, ◌-◌, ◌<◌, ◌≤◌, Bool, true, false, cond, ◌&&◌, ◌==◌, List, [], ◌∷◌, ◌++◌, length, map, drop, get_or, sym, ap, refl, subst, inl, inr, arith}
use Rattle.std.specs.Char.{encode_utf8}
use Rattle.std.specs.List.{slice_range}
use Rattle.std.specs.Str.{encode_utf8_all, IsUtf8}
use Rattle.std.proofs.lemmas.Bool.{and_parts, cases_lt, cond-true, cond-false, eqb-true}
use Rattle.std.proofs.lemmas.Bool.Decides.{nat_tests}
use Rattle.std.proofs.lemmas.List.{append-nil, append_assoc, drop_all, drop-drop, drop_more, get_or-drop, length-drop, take_all}
use Rattle.std.proofs.lemmas.Str.{encode_ascii, IsCharBoundary-after_ascii, IsCharBoundary-before_ascii, IsUtf8-drop, IsUtf8-take}
use Rattle.lsl_value.specs.Atoms.{list_charge_of}
use Rattle.lsl_value.specs.declared.list.Atom.{Atom}
use Rattle.lsl_value.specs.declared.list.Atom.TheVariants.{Str}
use Rattle.lsl_pure.specs.Csv.{csv_elements, csv_pieces, into_first, without_leading_spaces}
use Rattle.lsl_pure.specs.CsvSteps.{depth_behind, is_outer_comma, pieces_from}
use Rattle.lsl_pure.specs.Spelling.{IsOverfull, spelled_string}
use Rattle.lsl_pure.proofs.BracketLemmas.{csv_pieces-from}
use Rattle.lsl_pure.proofs.ChargeLemmas.{overfull_more}
use Rattle.lsl_pure.proofs.ParsingLemmas.{slice-empty, slice_range-more}
use Rattle.lsl_pure.proofs.TrimLemmas.{IsHigh, empty-encodes, behind_front-encodes, long_character, space-plain}

-- characters before the first piece's
abbrev pub into_front : List ℕ → List (List ℕ) → List (List ℕ)
into_front p [] = p ∷ []
into_front p (q ∷ qs) = (p ++ q) ∷ qs

-- pieces as string elements
abbrev pub csv_strings : List (List ℕ) → List Atom
csv_strings pieces = map (λ piece. Str (without_leading_spaces piece)) pieces

-- there is a first piece
pub record HasFirst (pieces : List (List ℕ)) : Type 0 where
  pub first : List ℕ
  pub others : List (List ℕ)
  pub are : pieces ≡ first ∷ others

first-into : (c : ℕ) (pieces : List (List ℕ)) → HasFirst (into_first c pieces)
first-into c [] = record { first = c ∷ []; others = []; are = refl }
first-into c (p ∷ ps) = record { first = c ∷ p; others = ps; are = refl }

first-choice : (b : Bool) (x y : List (List ℕ)) → HasFirst x → HasFirst y → HasFirst (cond b x y)
first-choice true x y one two = one
first-choice false x y one two = two

pub pieces_from-first : (depth : ℕ) (text : List ℕ) → HasFirst (pieces_from depth text)
pieces_from-first depth [] = record { first = []; others = []; are = refl }
pieces_from-first depth (c ∷ cs) =
    first-choice (is_outer_comma depth c) ([] ∷ pieces_from depth cs)
    (into_first c (pieces_from (depth_behind depth c) cs))
    (record { first = []; others = pieces_from depth cs; are = refl })
    (first-into c (pieces_from (depth_behind depth c) cs))

pub into_front-nil : (pieces : List (List ℕ)) → HasFirst pieces → into_front [] pieces ≡ pieces
into_front-nil pieces has = ap (into_front []) has.are ∙ sym has.are

into_front-first : (p : List ℕ) (c : ℕ) (pieces : List (List ℕ))
    → into_front p (into_first c pieces) ≡ into_front (p ++ c ∷ []) pieces
into_front-first p c [] = refl
into_front-first p c (q ∷ qs) = ap (λ t. t ∷ qs) (sym (append_assoc p (c ∷ []) q))

pub into_first-front : (c : ℕ) (cs : List ℕ) (pieces : List (List ℕ))
    → into_first c (into_front cs pieces) ≡ into_front (c ∷ cs) pieces
into_first-front c cs [] = refl
into_first-front c cs (q ∷ qs) = refl

-- the elements so far, with those of the piece that stands open and of what follows it, are those of the whole
pub record IsSplitting (text : List ℕ) (items : List Atom) (start at depth : ℕ) : Type 0 where
  pub ordered : start ≤ at
  pub within : at ≤ length text
  pub shallow : depth ≤ at
  pub valid : IsUtf8 (drop start text)
  pub room : list_charge_of items ≤ 65536
  pub same : map spelled_string items ++ csv_strings
      (into_front (slice_range text start at) (pieces_from depth (drop at text)))
      ≡ csv_strings (pieces_from 0 text)

pub splitting-start : (text : List ℕ) (items : List Atom) → items ≡ [] → IsUtf8 text → IsSplitting text items 0 0 0
splitting-start text items none valid = record {
  ordered = omega arith;
  within = omega arith;
  shallow = omega arith;
  valid = valid;
  room = (let P : List Atom → Type 0 = λ xs. list_charge_of xs ≤ 65536 in subst P (sym none) (omega arith));
  same = ap (λ xs. map spelled_string xs ++ csv_strings (into_front [] (pieces_from 0 text))) none
      ∙ ap csv_strings (into_front-nil (pieces_from 0 text) (pieces_from-first 0 text));
}

deeper : (depth b : ℕ) → depth_behind depth b ≤ depth + 1
deeper depth b = grind (arith, nat_tests)

pub splitting-inside : (text : List ℕ) (items : List Atom) (start at depth b next : ℕ)
    → IsSplitting text items start at depth → at < length text → b ≡ get_or text at 0
    → is_outer_comma depth b ≡ false → next ≡ depth_behind depth b → IsSplitting text items start (at + 1) next
splitting-inside text items start at depth b next splitting low here inside deep =
    let rest = drop (at + 1) text in
    let head : drop at text ≡ b ∷ rest = drop_more text at 0 low ∙ ap (λ c. c ∷ rest) (sym here) in
    let step : pieces_from depth (drop at text) ≡ into_first b (pieces_from next rest) =
    ap (pieces_from depth) head ∙ cond-false _ _ _ inside ∙ ap (λ d. into_first b (pieces_from d rest)) (sym deep) in
    let piece : slice_range text start (at + 1) ≡ slice_range text start at ++ b ∷ [] =
    slice_range-more text start at splitting.ordered low
    ∙ ap (λ c. slice_range text start at ++ c ∷ []) (sym here) in
    record {
      ordered = omega (arith, splitting.ordered);
      within = omega arith;
      shallow = omega (arith, splitting.shallow, deeper depth b);
      valid = splitting.valid;
      room = splitting.room;
      same =
          ap (λ t. map spelled_string items ++ csv_strings t)
          (ap (λ p. into_front p (pieces_from next rest)) piece
          ∙ sym (into_front-first (slice_range text start at) b (pieces_from next rest))
          ∙ sym (ap (into_front (slice_range text start at)) step))
          ∙ splitting.same;
    }

-- a comma at a place
pub record IsComma (text : List ℕ) (at depth b : ℕ) : Type 0 where
  pub low : at < length text
  pub here : b ≡ get_or text at 0
  pub outer : is_outer_comma depth b ≡ true

comma-byte : (text : List ℕ) (at depth b : ℕ) → IsComma text at depth b → get_or text at 0 ≡ 44
comma-byte text at depth b comma = sym comma.here ∙ eqb-true b 44 (and_parts (b == 44) (depth == 0) comma.outer).0

comma-depth : (text : List ℕ) (at depth b : ℕ) → IsComma text at depth b → depth ≡ 0
comma-depth text at depth b comma = eqb-true depth 0 (and_parts (b == 44) (depth == 0) comma.outer).1

-- a comma's place in what follows the start
comma-place : (text : List ℕ) (start at depth b : ℕ) → start ≤ at → IsComma text at depth b
    → get_or (drop start text) (at - start) 0 ≡ 44
comma-place text start at depth b ordered comma =
    let place : start + (at - start) ≡ at = omega arith in
    get_or-drop start text (at - start) 0 ∙ ap (λ k. get_or text k 0) place ∙ comma-byte text at depth b comma

pub csv_piece-valid : (text : List ℕ) (start at depth b : ℕ) → start ≤ at → IsUtf8 (drop start text)
    → IsComma text at depth b → IsUtf8 (slice_range text start at)
csv_piece-valid text start at depth b ordered valid comma =
    let byte = comma-place text start at depth b ordered comma in
    IsUtf8-take (drop start text) (at - start) valid
    (IsCharBoundary-before_ascii (drop start text) (at - start)
    (omega (arith, length-drop start text, comma.low)) (omega arith))

csv_rest-valid : (text : List ℕ) (start at depth b : ℕ) → start ≤ at → IsUtf8 (drop start text)
    → IsComma text at depth b → IsUtf8 (drop (at + 1) text)
csv_rest-valid text start at depth b ordered valid comma =
    let byte = comma-place text start at depth b ordered comma in
    let P : List ℕ → Type 0 = λ bs. IsUtf8 bs in
    let place : start + (at - start + 1) ≡ at + 1 = omega arith in
    subst P (drop-drop (at - start + 1) start text ∙ ap (λ n. drop n text) place)
    (IsUtf8-drop (drop start text) (at - start + 1) valid
    (IsCharBoundary-after_ascii (drop start text) (at - start) valid
    (omega (arith, length-drop start text, comma.low)) (omega arith)))

pub splitting-parts : (text : List ℕ) (items : List Atom) (start at depth b : ℕ)
    → IsSplitting text items start at depth → IsComma text at depth b
    → (map spelled_string items ++ Str (without_leading_spaces (slice_range text start at)) ∷ []) ++ csv_strings
    (pieces_from depth (drop (at + 1) text)) ≡ csv_strings (pieces_from 0 text)
splitting-parts text items start at depth b splitting comma =
    let rest = drop (at + 1) text in
    let head : drop at text ≡ b ∷ rest = drop_more text at 0 comma.low ∙ ap (λ c. c ∷ rest) (sym comma.here) in
    let step : pieces_from depth (drop at text) ≡ [] ∷ pieces_from depth rest =
    ap (pieces_from depth) head ∙ cond-true _ _ _ comma.outer in
    append_assoc (map spelled_string items) (Str (without_leading_spaces (slice_range text start at)) ∷ [])
    (csv_strings (pieces_from depth rest))
    ∙ ap (λ p. map spelled_string items ++ csv_strings (p ∷ pieces_from depth rest))
    (sym (append-nil (slice_range text start at)))
    ∙ sym (ap (λ t. map spelled_string items ++ csv_strings (into_front (slice_range text start at) t)) step)
    ∙ splitting.same

pub splitting-comma : (text : List ℕ) (items new : List Atom) (start at depth b : ℕ)
    → IsSplitting text items start at depth → IsComma text at depth b
    → map spelled_string new ≡ map spelled_string items ++ Str
    (without_leading_spaces (slice_range text start at)) ∷ [] → list_charge_of new ≤ 65536
    → IsSplitting text new (at + 1) (at + 1) depth
splitting-comma text items new start at depth b splitting comma pushed room =
    let rest = drop (at + 1) text in
    record {
      ordered = omega arith;
      within = omega (arith, comma.low);
      shallow = omega (arith, splitting.shallow);
      valid = csv_rest-valid text start at depth b splitting.ordered splitting.valid comma;
      room = room;
      same =
          ap (λ p. map spelled_string new ++ csv_strings (into_front p (pieces_from depth rest)))
          (slice-empty text (at + 1))
          ∙ ap (λ t. map spelled_string new ++ csv_strings t)
          (into_front-nil (pieces_from depth rest) (pieces_from-first depth rest))
          ∙ ap (λ t. t ++ csv_strings (pieces_from depth rest)) pushed
          ∙ splitting-parts text items start at depth b splitting comma;
    }

pub overfull-csv : (text : List ℕ) (items : List Atom) (start at depth b : ℕ)
    → IsSplitting text items start at depth → IsComma text at depth b
    → IsOverfull (map spelled_string items ++ Str (without_leading_spaces (slice_range text start at)) ∷ [])
    → IsOverfull (csv_strings (pieces_from 0 text))
overfull-csv text items start at depth b splitting comma big =
    let P : List Atom → Type 0 = λ xs. IsOverfull xs in
    subst P (splitting-parts text items start at depth b splitting comma)
    (overfull_more (map spelled_string items ++ Str
    (without_leading_spaces (slice_range text start at)) ∷ [])
    (csv_strings (pieces_from depth (drop (at + 1) text))) big)

pub splitting-end : (text : List ℕ) (items : List Atom) (start at depth : ℕ)
    → IsSplitting text items start at depth → length text ≤ at
    → map spelled_string items ++ Str (without_leading_spaces (drop start text)) ∷ [] ≡ csv_strings (pieces_from 0 text)
splitting-end text items start at depth splitting high =
    let whole : slice_range text start at ≡ drop start text =
    take_all (at - start) (drop start text) (omega (arith, length-drop start text)) in
    let nothing : drop at text ≡ [] = drop_all at text high in
    ap (λ p. map spelled_string items ++ Str (without_leading_spaces p) ∷ [])
    (sym whole ∙ sym (append-nil (slice_range text start at)))
    ∙ sym (ap (λ t. map spelled_string items ++ csv_strings
    (into_front (slice_range text start at) (pieces_from depth t))) nothing)
    ∙ splitting.same

-- and its characters are split where its bytes are

spelled-first : (c : ℕ) (pieces : List (List ℕ)) → encode_utf8 c ≡ c ∷ []
    → into_first c (map encode_utf8_all pieces) ≡ map encode_utf8_all (into_first c pieces)
spelled-first c [] plain = ap (λ b. (b ++ []) ∷ []) (sym plain)
spelled-first c (p ∷ ps) plain = ap (λ b. (b ++ encode_utf8_all p) ∷ map encode_utf8_all ps) (sym plain)

spelled-front : (c : ℕ) (pieces : List (List ℕ))
    → into_front (encode_utf8 c) (map encode_utf8_all pieces) ≡ map encode_utf8_all (into_first c pieces)
spelled-front c [] = ap (λ b. b ∷ []) (sym (append-nil (encode_utf8 c)))
spelled-front c (p ∷ ps) = refl

cond-map : (b : Bool) (x y : List (List ℕ))
    → cond b (map encode_utf8_all x) (map encode_utf8_all y) ≡ map encode_utf8_all (cond b x y)
cond-map true x y = refl
cond-map false x y = refl

high-inside : (depth c : ℕ) → 128 ≤ c → is_outer_comma depth c ≡ false
high-inside depth c high = let other : (c == 44) ≡ false = grind (arith, nat_tests) in ap (λ b. b && (depth == 0)) other

high-depth : (depth c : ℕ) → 128 ≤ c → depth_behind depth c ≡ depth
high-depth depth c high = grind (arith, nat_tests)

pieces_from-high : (depth : ℕ) (bs rest : List ℕ) → IsHigh bs
    → pieces_from depth (bs ++ rest) ≡ into_front bs (pieces_from depth rest)
pieces_from-high depth [] rest high = sym (into_front-nil (pieces_from depth rest) (pieces_from-first depth rest))
pieces_from-high depth (b ∷ bs) rest high =
    cond-false _ _ _ (high-inside depth b high.0)
    ∙ ap (λ d. into_first b (pieces_from d (bs ++ rest))) (high-depth depth b high.0)
    ∙ ap (into_first b) (pieces_from-high depth bs rest high.1)
    ∙ into_first-front b bs (pieces_from depth rest)

pub pieces_from-encodes : (text : List ℕ) (depth : ℕ)
    → pieces_from depth (encode_utf8_all text) ≡ map encode_utf8_all (pieces_from depth text)
pieces_from-encodes [] depth = refl
pieces_from-encodes (c ∷ cs) depth = elim (cases_lt c 128) [
  | inl low ↦
      let plain = encode_ascii c low in
      ap (λ b. pieces_from depth (b ++ encode_utf8_all cs)) plain
      ∙ ap (λ t. cond (is_outer_comma depth c) ([] ∷ t)
      (into_first c (pieces_from (depth_behind depth c) (encode_utf8_all cs))))
      (pieces_from-encodes cs depth)
      ∙ ap (λ t. cond (is_outer_comma depth c) ([] ∷ map encode_utf8_all (pieces_from depth cs)) t)
      (ap (into_first c) (pieces_from-encodes cs (depth_behind depth c))
      ∙ spelled-first c (pieces_from (depth_behind depth c) cs) plain)
      ∙ cond-map (is_outer_comma depth c) ([] ∷ pieces_from depth cs)
      (into_first c (pieces_from (depth_behind depth c) cs))
  | inr high ↦
      let long = long_character c high in
      ap (λ b. pieces_from depth (b ++ encode_utf8_all cs)) long.are
      ∙ pieces_from-high depth (long.head ∷ long.others) (encode_utf8_all cs) long.high
      ∙ ap (λ b. into_front b (pieces_from depth (encode_utf8_all cs))) (sym long.are)
      ∙ ap (into_front (encode_utf8 c)) (pieces_from-encodes cs depth)
      ∙ spelled-front c (pieces_from depth cs)
      ∙ ap (map encode_utf8_all) (ap (λ d. into_first c (pieces_from d cs)) (sym (high-depth depth c high))
      ∙ sym (cond-false _ _ _ (high-inside depth c high)))
]

-- and its elements are the same, spelled out
pub csv_strings-encodes : (pieces : List (List ℕ))
    → csv_strings (map encode_utf8_all pieces) ≡ map spelled_string (csv_strings pieces)
csv_strings-encodes [] = refl
csv_strings-encodes (p ∷ ps) =
    ap (λ t. Str t ∷ csv_strings (map encode_utf8_all ps)) (behind_front-encodes (λ c. c == 32) space-plain p)
    ∙ ap (λ t. Str (encode_utf8_all (without_leading_spaces p)) ∷ t) (csv_strings-encodes ps)

-- the empty text has no element
pub csv-empty : (text bytes : List ℕ) → bytes ≡ encode_utf8_all text → (length bytes == 0) ≡ true
    → [] ≡ csv_elements text
csv-empty text bytes same empty =
    sym (cond-true (length text == 0) [] (csv_strings (csv_pieces text))
    (sym (empty-encodes text) ∙ ap (λ b. length b == 0) (sym same) ∙ empty))

-- any other text has those of its pieces
pub csv-spelled : (text bytes : List ℕ) → bytes ≡ encode_utf8_all text → (length bytes == 0) ≡ false
    → csv_strings (pieces_from 0 bytes) ≡ map spelled_string (csv_elements text)
csv-spelled text bytes same some =
    ap (λ b. csv_strings (pieces_from 0 b)) same ∙ ap csv_strings (pieces_from-encodes text 0)
    ∙ csv_strings-encodes (pieces_from 0 text)
    ∙ ap (map spelled_string) (ap csv_strings (sym (csv_pieces-from text))
    ∙ sym (cond-false (length text == 0) [] (csv_strings (csv_pieces text))
    (sym (empty-encodes text) ∙ ap (λ b. length b == 0) (sym same) ∙ some)))
