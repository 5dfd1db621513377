-- A text that is cut from its first byte to its last.
use Rattle.std.proofs.Common.{◌≡◌, ◌∙◌, ℕ, zero, suc, ◌+◌, ◌-◌, ◌<◌, ◌≤◌, Bool, true, List, [], ◌∷◌, ◌++◌, length, map, take, drop, get_or, Some, None, sym, ap, refl, subst, arith, length-append}
use Rattle.std.specs.List.{All, slice_range}
use Rattle.std.specs.Char.{encode_utf8}
use Rattle.std.specs.Str.{encode_utf8_all, IsUtf8, IsCharBoundary}
use Rattle.std.proofs.lemmas.Bool.Decides.{nat_tests}
use Rattle.std.proofs.lemmas.List.{append-nil, append_assoc, drop_all, drop-drop, drop_more, get_or-drop, length-drop, take_all, take_more}
use Rattle.std.proofs.lemmas.List.Elements.{All-map, All-weaker}
use Rattle.std.proofs.lemmas.List.Prefix.{front_rest}
use Rattle.std.proofs.lemmas.Str.{IsUtf8-drop, IsUtf8-take, IsUtf8-past_char, length-le-encodes}
use Rattle.lsl_value.specs.Atoms.{list_charge_of}
use Rattle.lsl_value.specs.declared.list.Atom.{Atom}
use Rattle.lsl_pure.specs.Parsing.{Cut, first_mark, behind_character, behind_mark, cut_behind, cut_of, piece_elements, mark_elements, cut_elements}
use Rattle.lsl_pure.specs.Spelling.{is_lead, spelled_mark, spelled_string, IsOverfull}
use Rattle.lsl_pure.specs.declared.marks.Mark.{Mark}
use Rattle.lsl_pure.proofs.ChargeLemmas.{overfull_more}
use Rattle.lsl_pure.proofs.CutLemmas.{HasCharacter, before_cut, cut_behind-none, cut_behind-some, found_is, rest_elements}
use Rattle.lsl_pure.proofs.SpellingLemmas.{one_character, starts_with-Decides}

-- the elements so far, with those of the piece that stands open and of what follows it, are those of the whole
pub record IsCutting (keep : Bool) (marks : List Mark) (text : List ℕ) (items : List Atom) (start at : ℕ) : Type 0 where
  pub ordered : start ≤ at
  pub within : at ≤ length text
  pub valid : IsUtf8 (drop start text)
  pub room : list_charge_of items ≤ 65536
  pub same : map spelled_string items ++ cut_elements keep
      (before_cut (slice_range text start at) (cut_behind marks 0 (drop at text)))
      ≡ cut_elements keep (cut_of marks text)

pub cutting-start : (keep : Bool) (marks : List Mark) (text : List ℕ) (items : List Atom) → items ≡ []
    → IsUtf8 text → IsCutting keep marks text items 0 0
cutting-start keep marks text items none valid = record {
  ordered = omega arith;
  within = omega arith;
  valid = valid;
  room = (let P : List Atom → Type 0 = λ xs. list_charge_of xs ≤ 65536 in subst P (sym none) (omega arith));
  same = ap (λ xs. map spelled_string xs ++ cut_elements keep
      (before_cut (slice_range text 0 0) (cut_of marks text))) none;
}

pub slice_range-more : (text : List ℕ) (start at : ℕ) → start ≤ at → at < length text
    → slice_range text start (at + 1) ≡ slice_range text start at ++ get_or text at 0 ∷ []
slice_range-more text start at ordered low =
    let next : at + 1 - start ≡ at - start + 1 = omega arith in
    let place : start + (at - start) ≡ at = omega arith in
    ap (λ n. take n (drop start text)) next
    ∙ take_more (drop start text) (at - start) 0 (omega (arith, length-drop start text))
    ∙ ap (λ b. slice_range text start at ++ b ∷ [])
    (get_or-drop start text (at - start) 0 ∙ ap (λ k. get_or text k 0) place)

before_cut-character : (p : List ℕ) (b : ℕ) (cut : Cut)
    → before_cut p (behind_character b cut) ≡ before_cut (p ++ b ∷ []) cut
before_cut-character p b cut = let same : p ++ b ∷ cut.first ≡ (p ++ b ∷ []) ++ cut.first =
    sym (append_assoc p (b ∷ []) cut.first) in
    ap (λ (f : List ℕ). let c : Cut = record { first = f; rest = cut.rest } in c) same

pub cutting-none : (keep : Bool) (marks : List Mark) (text : List ℕ) (items : List Atom) (start at : ℕ)
    → IsCutting keep marks text items start at → at < length text
    → first_mark marks (drop at text) ≡ None → IsCutting keep marks text items start (at + 1)
cutting-none keep marks text items start at cutting low none =
    let next = drop_more text at 0 low in
    let rest = drop (at + 1) text in
    let step : cut_behind marks 0 (drop at text) ≡ behind_character (get_or text at 0) (cut_behind marks 0 rest) =
    ap (cut_behind marks 0) next ∙ cut_behind-none marks (get_or text at 0) rest
    (ap (first_mark marks) (sym next) ∙ none) in
    let same : before_cut (slice_range text start (at + 1)) (cut_behind marks 0 rest)
    ≡ before_cut (slice_range text start at) (cut_behind marks 0 (drop at text)) =
    ap (λ p. before_cut p (cut_behind marks 0 rest)) (slice_range-more text start at cutting.ordered low)
    ∙ sym (before_cut-character (slice_range text start at) (get_or text at 0) (cut_behind marks 0 rest))
    ∙ sym (ap (before_cut (slice_range text start at)) step) in
    record {
      ordered = omega (arith, cutting.ordered);
      within = omega arith;
      valid = cutting.valid;
      room = cutting.room;
      same = ap (λ c. map spelled_string items ++ cut_elements keep c) same ∙ cutting.same;
    }

-- passing over characters
pub cut_behind-drop : (marks : List Mark) (n : ℕ) (xs : List ℕ) → cut_behind marks n xs ≡ cut_behind marks 0 (drop n xs)
cut_behind-drop marks zero [] = refl
cut_behind-drop marks (suc n) [] = refl
cut_behind-drop marks zero (x ∷ xs) = refl
cut_behind-drop marks (suc n) (x ∷ xs) = cut_behind-drop marks n xs

-- behind characters that were spelled out a character begins
utf8-past : (cs rest bytes : List ℕ) → IsUtf8 bytes → bytes ≡ encode_utf8_all cs ++ rest → IsUtf8 rest
utf8-past [] rest bytes valid same = let P : List ℕ → Type 0 = λ bs. IsUtf8 bs in subst P same valid
utf8-past (c ∷ cs) rest bytes valid same =
    let front = same ∙ append_assoc (encode_utf8 c) (encode_utf8_all cs) rest in
    utf8-past cs rest (encode_utf8_all cs ++ rest)
    (IsUtf8-past_char bytes (encode_utf8_all cs ++ rest) c valid front) refl

-- a mark that stands at a place, spelled out
pub record Stands (text : List ℕ) (at : ℕ) (m : Mark) : Type 0 where
  pub low : at < length text
  pub size : 0 < length (encode_utf8_all m.text)
  pub whole : drop at text ≡ encode_utf8_all m.text ++ drop (length (encode_utf8_all m.text)) (drop at text)
  pub leads : is_lead (get_or text at 0) ≡ true

lead-spelled : (cs rest : List ℕ) → 0 < length (encode_utf8_all cs)
    → is_lead (get_or (encode_utf8_all cs ++ rest) 0 0) ≡ true
lead-spelled [] rest some = absurd (omega arith)
lead-spelled (c ∷ cs) rest some =
    let one = one_character c in
    ap (λ b. is_lead (get_or ((b ++ encode_utf8_all cs) ++ rest) 0 0)) one.spelled ∙ one.leads

spelled-have : (marks : List Mark) → All HasCharacter marks → All HasCharacter (map spelled_mark marks)
spelled-have marks has =
    All-map HasCharacter spelled_mark marks
    (All-weaker HasCharacter (λ (m : Mark). HasCharacter (spelled_mark m))
    (λ m some. omega (arith, length-le-encodes m.text)) marks has)

pub stands_from : (marks : List Mark) (text : List ℕ) (at : ℕ) (m : Mark) → All HasCharacter marks → at < length text
    → first_mark (map spelled_mark marks) (drop at text) ≡ Some (spelled_mark m) → Stands text at m
stands_from marks text at m has low found =
    let is = found_is (map spelled_mark marks) (drop at text) (spelled_mark m) (spelled-have marks has) found in
    let begins = (starts_with-Decides (drop at text) (encode_utf8_all m.text)).0 is.stands in
    let behind : begins.0 ≡ drop (length (encode_utf8_all m.text)) (drop at text) =
    sym (front_rest (drop at text) (encode_utf8_all m.text) begins.0 begins.1) in
    let place : get_or text at 0 ≡ get_or (encode_utf8_all m.text ++ begins.0) 0 0 =
    sym (get_or-drop at text 0 0 ∙ (let here : at + 0 ≡ at = omega arith in ap (λ k. get_or text k 0) here))
    ∙ ap (λ t. get_or t 0 0) begins.1 in
    record {
      low = low;
      size = is.has;
      whole = begins.1 ∙ ap (λ t. encode_utf8_all m.text ++ t) behind;
      leads = ap is_lead place ∙ lead-spelled m.text begins.0 is.has;
    }

lead-boundary : (b : ℕ) → is_lead b ≡ true → 128 ≤ b → 192 ≤ b
lead-boundary b leads high = grind (arith, nat_tests)

boundary-here : (text : List ℕ) (start at : ℕ) → start ≤ at → at ≤ length text
    → is_lead (get_or text at 0) ≡ true → IsCharBoundary (drop start text) (at - start)
boundary-here text start at ordered within leads =
    let place : start + (at - start) ≡ at = omega arith in
    let byte : get_or (drop start text) (at - start) 0 ≡ get_or text at 0 =
    get_or-drop start text (at - start) 0 ∙ ap (λ k. get_or text k 0) place in
    (omega (arith, length-drop start text), λ _ high. lead-boundary _ (ap is_lead byte ∙ leads) high)

-- the piece before a mark is a text
pub piece-valid : (text : List ℕ) (start at : ℕ) → start ≤ at → at ≤ length text → IsUtf8 (drop start text)
    → is_lead (get_or text at 0) ≡ true → IsUtf8 (slice_range text start at)
piece-valid text start at ordered within valid leads =
    IsUtf8-take (drop start text) (at - start) valid (boundary-here text start at ordered within leads)

-- and so is what stands behind the mark
rest-valid : (text : List ℕ) (start at : ℕ) (m : Mark) → start ≤ at → IsUtf8 (drop start text)
    → Stands text at m → IsUtf8 (drop (at + length (encode_utf8_all m.text)) text)
rest-valid text start at m ordered valid stands =
    let P : List ℕ → Type 0 = λ bs. IsUtf8 bs in
    let place : start + (at - start) ≡ at = omega arith in
    let here : IsUtf8 (drop at text) =
    subst P (drop-drop (at - start) start text ∙ ap (λ n. drop n text) place)
    (IsUtf8-drop (drop start text) (at - start) valid
    (boundary-here text start at ordered (omega (arith, stands.low)) stands.leads)) in
    subst P (drop-drop (length (encode_utf8_all m.text)) at text)
    (utf8-past m.text (drop (length (encode_utf8_all m.text)) (drop at text)) (drop at text) here
    stands.whole)

-- the elements of a piece, of the mark behind it and of what follows
cut_elements-mark : (keep : Bool) (p : List ℕ) (m : Mark) (cut : Cut)
    → cut_elements keep (before_cut p (behind_mark m cut))
    ≡ (piece_elements keep p ++ mark_elements m) ++ cut_elements keep cut
cut_elements-mark keep p m cut =
    ap (λ q. piece_elements keep q ++ ((mark_elements m ++ piece_elements keep cut.first) ++ rest_elements keep
    cut.rest)) (append-nil p)
    ∙ ap (λ t. piece_elements keep p ++ t)
    (append_assoc (mark_elements m) (piece_elements keep cut.first) (rest_elements keep cut.rest))
    ∙ sym (append_assoc (piece_elements keep p) (mark_elements m) (cut_elements keep cut))

pub cutting-parts : (keep : Bool) (marks : List Mark) (text : List ℕ) (items : List Atom) (start at : ℕ)
    (m : Mark) → IsCutting keep marks text items start at → Stands text at m
    → first_mark marks (drop at text) ≡ Some (spelled_mark m)
    → ((map spelled_string items ++ piece_elements keep (slice_range text start at)) ++ mark_elements
    (spelled_mark m)) ++ cut_elements keep
    (cut_behind marks 0 (drop (at + length (encode_utf8_all m.text)) text))
    ≡ cut_elements keep (cut_of marks text)
cutting-parts keep marks text items start at m cutting stands found =
    let next = drop_more text at 0 stands.low in
    let rest = drop (at + 1) text in
    let len = length (encode_utf8_all m.text) in
    let behind : drop (len - 1) rest ≡ drop (at + len) text =
    drop-drop (len - 1) (at + 1) text
    ∙ (let sum : at + 1 + (len - 1) ≡ at + len = omega (arith, stands.size) in ap (λ n. drop n text) sum) in
    let cut = cut_behind marks 0 (drop (at + len) text) in
    let step : cut_behind marks 0 (drop at text) ≡ behind_mark (spelled_mark m) cut =
    ap (cut_behind marks 0) next ∙ cut_behind-some marks (get_or text at 0) rest (spelled_mark m)
    (ap (first_mark marks) (sym next) ∙ found)
    ∙ ap (behind_mark (spelled_mark m)) (cut_behind-drop marks (len - 1) rest ∙ ap (cut_behind marks 0) behind) in
    let piece = piece_elements keep (slice_range text start at) in
    ap (λ t. t ++ cut_elements keep cut) (append_assoc (map spelled_string items) piece
    (mark_elements (spelled_mark m)))
    ∙ append_assoc (map spelled_string items) (piece ++ mark_elements (spelled_mark m)) (cut_elements keep cut)
    ∙ ap (λ t. map spelled_string items ++ t)
    (sym (cut_elements-mark keep (slice_range text start at) (spelled_mark m) cut)
    ∙ sym (ap (λ c. cut_elements keep (before_cut (slice_range text start at) c)) step))
    ∙ cutting.same

pub slice-empty : (text : List ℕ) (k : ℕ) → slice_range text k k ≡ []
slice-empty text k = let none : k - k ≡ 0 = omega arith in ap (λ n. take n (drop k text)) none

pub cutting-some : (keep : Bool) (marks : List Mark) (text : List ℕ) (items middle new : List Atom)
    (start at next : ℕ) (m : Mark) → IsCutting keep marks text items start at → Stands text at m
    → first_mark marks (drop at text) ≡ Some (spelled_mark m)
    → map spelled_string middle ≡ map spelled_string items ++ piece_elements keep (slice_range text start at)
    → map spelled_string new ≡ map spelled_string middle ++ mark_elements (spelled_mark m)
    → list_charge_of new ≤ 65536 → next ≡ at + length (encode_utf8_all m.text)
    → IsCutting keep marks text new next next
cutting-some keep marks text items middle new start at next m cutting stands found first second room place =
    let len = length (encode_utf8_all m.text) in
    let P : ℕ → Type 0 = λ n. IsCutting keep marks text new n n in
    subst P (sym place) (record {
      ordered = omega arith;
      within = omega (
        arith,
        ap length stands.whole,
        length-append (encode_utf8_all m.text)
            (drop len (drop at text)),
        length-drop at text,
        length-drop len (drop at text),
        stands.low,
      );
      valid = rest-valid text start at m cutting.ordered cutting.valid stands;
      room = room;
      same =
          ap (λ t. t ++ cut_elements keep
          (before_cut (slice_range text (at + len) (at + len)) (cut_behind marks 0 (drop (at + len) text))))
          (second ∙ ap (λ t. t ++ mark_elements (spelled_mark m)) first)
          ∙ ap (λ p. ((map spelled_string items ++ piece_elements keep
          (slice_range text start at)) ++ mark_elements (spelled_mark m)) ++ cut_elements keep
          (before_cut p (cut_behind marks 0 (drop (at + len) text)))) (slice-empty text (at + len))
          ∙ cutting-parts keep marks text items start at m cutting stands found;
    })

-- at the end of the text
pub cutting-end : (keep : Bool) (marks : List Mark) (text : List ℕ) (items : List Atom) (start at : ℕ)
    → IsCutting keep marks text items start at → length text ≤ at
    → map spelled_string items ++ piece_elements keep (drop start text) ≡ cut_elements keep (cut_of marks text)
cutting-end keep marks text items start at cutting high =
    let whole : slice_range text start at ≡ drop start text =
    take_all (at - start) (drop start text) (omega (arith, length-drop start text)) in
    let nothing : drop at text ≡ [] = drop_all at text high in
    ap (λ t. map spelled_string items ++ t)
    (sym (append-nil (piece_elements keep (drop start text)))
    ∙ ap (λ p. piece_elements keep p ++ []) (sym whole ∙ sym (append-nil (slice_range text start at)))
    ∙ sym (ap (λ t. cut_elements keep (before_cut (slice_range text start at) (cut_behind marks 0 t)))
    nothing))
    ∙ cutting.same

-- too much before the end is too much

pub overfull-piece : (keep : Bool) (marks : List Mark) (text : List ℕ) (items : List Atom) (start at : ℕ)
    (m : Mark) → IsCutting keep marks text items start at → Stands text at m
    → first_mark marks (drop at text) ≡ Some (spelled_mark m)
    → IsOverfull (map spelled_string items ++ piece_elements keep (slice_range text start at))
    → IsOverfull (cut_elements keep (cut_of marks text))
overfull-piece keep marks text items start at m cutting stands found big =
    let parts = cutting-parts keep marks text items start at m cutting stands found in
    let P : List Atom → Type 0 = λ xs. IsOverfull xs in
    subst P parts (overfull_more ((map spelled_string items ++ piece_elements keep
    (slice_range text start at)) ++ mark_elements (spelled_mark m))
    (cut_elements keep (cut_behind marks 0 (drop (at + length (encode_utf8_all m.text)) text)))
    (overfull_more (map spelled_string items ++ piece_elements keep (slice_range text start at))
    (mark_elements (spelled_mark m)) big))

pub overfull-mark : (keep : Bool) (marks : List Mark) (text : List ℕ) (items middle : List Atom) (start at : ℕ)
    (m : Mark) → IsCutting keep marks text items start at → Stands text at m
    → first_mark marks (drop at text) ≡ Some (spelled_mark m)
    → map spelled_string middle ≡ map spelled_string items ++ piece_elements keep
    (slice_range text start at)
    → IsOverfull (map spelled_string middle ++ mark_elements (spelled_mark m))
    → IsOverfull (cut_elements keep (cut_of marks text))
overfull-mark keep marks text items middle start at m cutting stands found first big =
    let parts = cutting-parts keep marks text items start at m cutting stands found in
    let P : List Atom → Type 0 = λ xs. IsOverfull xs in
    let Q : List Atom → Type 0 = λ xs. IsOverfull (xs ++ mark_elements (spelled_mark m)) in
    subst P parts (overfull_more ((map spelled_string items ++ piece_elements keep
    (slice_range text start at)) ++ mark_elements (spelled_mark m))
    (cut_elements keep (cut_behind marks 0 (drop (at + length (encode_utf8_all m.text)) text)))
    (subst Q first big))
