-- A text has one cut into pieces between its parting commas.
use Rattle.std.proofs.Common.{◌≡◌, ◌∙◌, ℕ, suc, zero, Bool, true, false, not, ◌||◌, ◌==◌, List, [], ◌∷◌, ◌++◌, take, sym, ap, refl, subst, inl, inr, arith}
use Rattle.std.proofs.lemmas.Bool.{and_from, and_parts, cases_Bool, cond-true, cond-false, eqb-true, eq-eqb, false≢true, ltb-true, lt-ltb, not-true, or_cases}
use Rattle.std.proofs.lemmas.List.{append-nil, append_assoc}
use Rattle.lsl_pure.specs.Csv.{csv_pieces, into_first, is_open_behind, opens_more}
use Rattle.lsl_pure.specs.CsvLaws.{IsCsvCut, IsOpenBehind, IsPartedBehind, IsWhole}
use Rattle.lsl_pure.specs.CsvSteps.{depth_behind, is_outer_comma, pieces_from}
use Rattle.lsl_pure.proofs.BracketLemmas.{comma-keeps, csv_pieces-from, depth_from, depth_from-last, opens_more-open, outer-parts}
use Rattle.lsl_pure.proofs.CsvLemmas.{into_first-front, into_front, into_front-nil, pieces_from-first}

-- the test for an open bracket decides it

open-is : (front : List ℕ) → is_open_behind front ≡ true → IsOpenBehind front
open-is [] test = absurd (false≢true test)
open-is (c ∷ cs) test = elim (or_cases _ _ test) [
  | inl more ↦ record { before = []; part = c ∷ cs; is = refl; more = ltb-true _ _ more }
  | inr later ↦ let rest = open-is cs later in
      record { before = c ∷ rest.before; part = rest.part; is = ap (λ t. c ∷ t) rest.is; more = rest.more }
]

or-true : (b : Bool) → (b || true) ≡ true
or-true true = refl
or-true false = refl

open-later : (before part : List ℕ) → is_open_behind part ≡ true → is_open_behind (before ++ part) ≡ true
open-later [] part test = test
open-later (c ∷ cs) part test = ap (λ b. opens_more ((c ∷ cs) ++ part) || b) (open-later cs part test)
    ∙ or-true (opens_more ((c ∷ cs) ++ part))

open-from : (front : List ℕ) → IsOpenBehind front → is_open_behind front ≡ true
open-from front is =
    ap is_open_behind is.is ∙ open-later is.before is.part (opens_more-open is.part (lt-ltb _ _ is.more))

-- a comma parts the text exactly where no bracket is open

outer-is : (front : List ℕ) (c : ℕ) → is_outer_comma (depth_from 0 front) c ≡ true → (c ≡ 44) × (IsOpenBehind front → ⊥)
outer-is front c outer =
    let parts = and_parts (c == 44) (not (is_open_behind front)) (sym (outer-parts front c) ∙ outer) in
    (eqb-true c 44 parts.0, λ is. false≢true (sym (not-true _ parts.1) ∙ open-from front is))

inside-is : (front : List ℕ) (c : ℕ) → is_outer_comma (depth_from 0 front) c ≡ false → c ≡ 44 → IsOpenBehind front
inside-is front c inside comma = open-is front (elim (cases_Bool (is_open_behind front)) [
  | inl test ↦ test
  | inr closed ↦ absurd (false≢true (sym inside ∙ outer-parts front c
      ∙ and_from _ _ (eq-eqb c 44 comma) (ap not closed)))
])

closed-outer : (front : List ℕ) → (IsOpenBehind front → ⊥) → is_outer_comma (depth_from 0 front) 44 ≡ true
closed-outer front never = elim (cases_Bool (is_outer_comma (depth_from 0 front) 44)) [
  | inl outer ↦ outer
  | inr inside ↦ absurd (never (inside-is front 44 inside refl))
]

-- the pieces that are found are a cut

whole-more : (front : List ℕ) (c : ℕ) (piece : List ℕ) → is_outer_comma (depth_from 0 front) c ≡ false
    → IsWhole (front ++ c ∷ []) piece → IsWhole front (c ∷ piece)
whole-more front c piece inside whole zero low comma =
    subst IsOpenBehind (sym (append-nil front)) (inside-is front c inside comma)
whole-more front c piece inside whole (suc k) low comma =
    subst IsOpenBehind (append_assoc front (c ∷ []) (take k piece)) (whole k (omega arith) comma)

parted-more : (front : List ℕ) (c : ℕ) (text piece : List ℕ) (others : List (List ℕ))
    → is_outer_comma (depth_from 0 front) c ≡ false → IsPartedBehind (front ++ c ∷ []) text piece others
    → IsPartedBehind front (c ∷ text) (c ∷ piece) others
parted-more front c text piece [] inside parted = (ap (λ t. c ∷ t) parted.0, whole-more front c piece inside parted.1)
parted-more front c text piece (next ∷ more) inside (rest, is, whole, closed, behind) =
    let same : (front ++ c ∷ []) ++ piece ≡ front ++ c ∷ piece = append_assoc front (c ∷ []) piece in
    let P : List ℕ → Type 0 = λ f. IsPartedBehind (f ++ 44 ∷ []) rest next more in (
      rest,
      ap (λ t. c ∷ t) is,
      whole-more front c piece inside
          whole,
      (λ opened. closed (subst IsOpenBehind (sym same) opened)),
      subst P same behind,
    )

renamed : (front text p first : List ℕ) (ps others : List (List ℕ)) → p ∷ ps ≡ first ∷ others
    → IsPartedBehind front text p ps → IsPartedBehind front text first others
renamed front text p first ps others same parted =
    let head : p ≡ first = cc in
    let tail : ps ≡ others = cc in
    let P : List ℕ → Type 0 = λ q. IsPartedBehind front text q ps in
    let Q : List (List ℕ) → Type 0 = λ qs. IsPartedBehind front text first qs in
    subst Q tail (subst P head parted)

parted-found : (front text first : List ℕ) (others : List (List ℕ))
    → pieces_from (depth_from 0 front) text ≡ first ∷ others → IsPartedBehind front text first others
parted-found front [] first others are = renamed front [] [] first [] others are
    (refl, λ k low comma. absurd (omega arith))
parted-found front (c ∷ cs) first others are =
    let d = depth_from 0 front in
    elim (cases_Bool (is_outer_comma d c)) [
      | inl outer ↦
          let has = pieces_from-first d cs in
          let comma = outer-is front c outer in
          let deep : depth_from 0 (front ++ c ∷ []) ≡ d = depth_from-last 0 front c ∙ comma-keeps d c outer in
          let behind = parted-found (front ++ c ∷ []) cs has.first has.others
          (ap (λ n. pieces_from n cs) deep ∙ has.are) in
          let same : front ++ c ∷ [] ≡ (front ++ []) ++ 44 ∷ [] =
          ap (λ f. f ++ c ∷ []) (sym (append-nil front)) ∙ ap (λ b. (front ++ []) ++ b ∷ []) comma.0 in
          let P : List ℕ → Type 0 = λ f. IsPartedBehind f cs has.first has.others in
          renamed front (c ∷ cs) [] first (has.first ∷ has.others) others
          (ap (λ ps. [] ∷ ps) (sym has.are) ∙ sym (cond-true _ _ _ outer) ∙ are) (
            cs,
            ap (λ b. b ∷ cs) comma.0,
            (λ k low here. absurd (omega arith)),
            (λ opened.
                comma.1 (subst IsOpenBehind (append-nil front) opened)),
            subst P same behind,
          )
      | inr inside ↦
          let has = pieces_from-first (depth_behind d c) cs in
          let behind = parted-found (front ++ c ∷ []) cs has.first has.others
          (ap (λ n. pieces_from n cs) (depth_from-last 0 front c) ∙ has.are) in
          renamed front (c ∷ cs) (c ∷ has.first) first has.others others
          (ap (into_first c) (sym has.are) ∙ sym (cond-false _ _ _ inside) ∙ are)
          (parted-more front c cs has.first has.others inside behind)
    ]

pub csv_pieces-stand : (text : List ℕ) → IsCsvCut text (csv_pieces text)
csv_pieces-stand text =
    let has = pieces_from-first 0 text in
    record {
      first = has.first;
      others = has.others;
      are = csv_pieces-from text ∙ has.are;
      parted =
          parted-found [] text has.first has.others has.are;
    }

-- and no others are

pieces_from-whole : (front piece rest : List ℕ) → IsWhole front piece
    → pieces_from (depth_from 0 front) (piece ++ rest)
    ≡ into_front piece (pieces_from (depth_from 0 (front ++ piece)) rest)
pieces_from-whole front [] rest whole =
    sym (into_front-nil (pieces_from (depth_from 0 front) rest) (pieces_from-first (depth_from 0 front) rest))
    ∙ ap (λ f. into_front [] (pieces_from (depth_from 0 f) rest)) (sym (append-nil front))
pieces_from-whole front (c ∷ cs) rest whole =
    let d = depth_from 0 front in
    let later : IsWhole (front ++ c ∷ []) cs =
    λ k low comma. subst IsOpenBehind (sym (append_assoc front (c ∷ []) (take k cs)))
    (whole (suc k) (omega arith) comma) in
    let inside : is_outer_comma d c ≡ false = elim (cases_Bool (is_outer_comma d c)) [
      | inl outer ↦ let comma = outer-is front c outer in
          absurd (comma.1 (subst IsOpenBehind (append-nil front) (whole 0 (omega arith) comma.0)))
      | inr not_outer ↦ not_outer
    ] in
    cond-false _ _ _ inside
    ∙ ap (into_first c) (ap (λ n. pieces_from n (cs ++ rest)) (sym (depth_from-last 0 front c))
    ∙ pieces_from-whole (front ++ c ∷ []) cs rest later)
    ∙ into_first-front c cs (pieces_from (depth_from 0 ((front ++ c ∷ []) ++ cs)) rest)
    ∙ ap (λ f. into_front (c ∷ cs) (pieces_from (depth_from 0 f) rest)) (append_assoc front (c ∷ []) cs)

pieces_from-parted : (front text first : List ℕ) (others : List (List ℕ))
    → IsPartedBehind front text first others → pieces_from (depth_from 0 front) text ≡ first ∷ others
pieces_from-parted front text first [] parted =
    ap (pieces_from (depth_from 0 front)) (parted.0 ∙ sym (append-nil first))
    ∙ pieces_from-whole front first [] parted.1 ∙ ap (λ t. t ∷ []) (append-nil first)
pieces_from-parted front text first (next ∷ more) (rest, is, whole, closed, behind) =
    let outer = closed-outer (front ++ first) closed in
    let d = depth_from 0 (front ++ first) in
    let deep : d ≡ depth_from 0 ((front ++ first) ++ 44 ∷ []) =
    sym (depth_from-last 0 (front ++ first) 44 ∙ comma-keeps d 44 outer) in
    ap (pieces_from (depth_from 0 front)) is ∙ pieces_from-whole front first (44 ∷ rest) whole
    ∙ ap (into_front first) (cond-true _ _ _ outer)
    ∙ ap (λ t. t ∷ pieces_from d rest) (append-nil first)
    ∙ ap (λ ps. first ∷ ps) (ap (λ n. pieces_from n rest) deep
    ∙ pieces_from-parted ((front ++ first) ++ 44 ∷ []) rest next more behind)

pub csv_pieces-one : (text : List ℕ) (pieces : List (List ℕ)) → IsCsvCut text pieces → pieces ≡ csv_pieces text
csv_pieces-one text pieces cut = cut.are ∙ sym (pieces_from-parted [] text cut.first cut.others cut.parted)
    ∙ sym (csv_pieces-from text)
