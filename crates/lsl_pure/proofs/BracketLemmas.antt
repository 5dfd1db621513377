-- Brackets are open where they are counted so, and so the pieces that are found by counting are those between
-- the parting commas.
use Rattle.std.proofs.Common.{◌≡◌, ◌∙◌, ℕ, suc, ◌+◌, ◌<◌, Bool, true, false, not, cond, ◌&&◌, ◌||◌, ◌==◌, nat_lt, List, [], ◌∷◌, ◌++◌, length, take, sym, ap, refl, inl, inr, arith}
use Rattle.std.specs.Prelude.{count_by, slice_index}
use Rattle.std.proofs.lemmas.Bool.{cases_Bool, cond-true, cond-false}
use Rattle.std.proofs.lemmas.Bool.Decides.{nat_tests}
use Rattle.std.proofs.lemmas.List.{append-nil, append_assoc}
use Rattle.std.proofs.lemmas.List.Sums.{sum_by-cons}
use Rattle.lsl_pure.specs.Csv.{csv_pieces, into_first, is_closing, is_open_behind, is_opening, opens_more, parts_at, pieces_between}
use Rattle.lsl_pure.specs.CsvSteps.{depth_behind, is_outer_comma, pieces_from}

-- how many brackets are open behind these characters, where so many are open before them
abbrev pub depth_from : ℕ → List ℕ → ℕ
depth_from depth [] = depth
depth_from depth (c ∷ cs) = depth_from (depth_behind depth c) cs

pub opens_more-open : (cs : List ℕ) → opens_more cs ≡ true → is_open_behind cs ≡ true
opens_more-open [] more = more
opens_more-open (c ∷ cs) more = ap (λ b. b || is_open_behind cs) more

closing-opened : (cs : List ℕ) → (nat_lt (count_by is_closing cs) (count_by is_opening cs) || is_open_behind cs)
    ≡ is_open_behind cs
closing-opened cs = elim (cases_Bool (opens_more cs)) [
  | inl more ↦ ap (λ b. b || is_open_behind cs) more ∙ sym (opens_more-open cs more)
  | inr other ↦ ap (λ b. b || is_open_behind cs) other
]

depth-step : (d c closed opened : ℕ) (rest : Bool) → (nat_lt closed opened || rest) ≡ rest
    → (nat_lt closed (depth_behind d c + opened) || rest)
    ≡ (nat_lt (cond (c == 62) 1 0 + closed) (d + (cond (c == 60) 1 0 + opened)) ||
    (nat_lt (cond (c == 62) 1 0 + closed) (cond (c == 60) 1 0 + opened) || rest))
depth-step d c closed opened true same = grind (arith, nat_tests)
depth-step d c closed opened false same = grind (arith, nat_tests)

pub open-counted : (d : ℕ) (cs : List ℕ) → nat_lt 0 (depth_from d cs)
    ≡ (nat_lt (count_by is_closing cs) (d + count_by is_opening cs) || is_open_behind cs)
open-counted d [] = grind (arith, nat_tests)
open-counted d (c ∷ cs) =
    let both : ℕ → ℕ → Bool = λ closed opened.
    nat_lt closed (d + opened) || (nat_lt closed opened || is_open_behind cs) in
    open-counted (depth_behind d c) cs ∙ depth-step d c (count_by is_closing cs) (count_by is_opening cs)
    (is_open_behind cs) (closing-opened cs)
    ∙ ap (λ n. both n (cond (c == 60) 1 0 + count_by is_opening cs))
    (sym (sum_by-cons (λ b. cond (is_closing b) 1 0) c cs))
    ∙ ap (both (count_by is_closing (c ∷ cs))) (sym (sum_by-cons (λ b. cond (is_opening b) 1 0) c cs))

-- no bracket is open where none is counted
pub closed-counted : (front : List ℕ) → (depth_from 0 front == 0) ≡ not (is_open_behind front)
closed-counted front =
    let zero_or : (depth_from 0 front == 0) ≡ not (nat_lt 0 (depth_from 0 front)) = grind (arith, nat_tests) in
    let none : 0 + count_by is_opening front ≡ count_by is_opening front = omega arith in
    zero_or ∙ ap not (open-counted 0 front
    ∙ ap (λ n. nat_lt (count_by is_closing front) n || is_open_behind front) none ∙ closing-opened front)

pub depth_from-last : (d : ℕ) (front : List ℕ) (c : ℕ)
    → depth_from d (front ++ c ∷ []) ≡ depth_behind (depth_from d front) c
depth_from-last d [] c = refl
depth_from-last d (b ∷ bs) c = depth_from-last (depth_behind d b) bs c

-- whether the comma at a place of the rest parts the text
abbrev pub parts_behind : List ℕ → List ℕ → ℕ → Bool
parts_behind front rest k = (slice_index rest k == 44) && not (is_open_behind (front ++ take k rest))

pub comma-keeps : (d c : ℕ) → is_outer_comma d c ≡ true → depth_behind d c ≡ d
comma-keeps d c outer = grind (arith, nat_tests)

pub outer-parts : (front : List ℕ) (c : ℕ)
    → is_outer_comma (depth_from 0 front) c ≡ ((c == 44) && not (is_open_behind front))
outer-parts front c = ap (λ b. (c == 44) && b) (closed-counted front)

pub pieces_between-from : (front rest : List ℕ) (parts : ℕ → Bool)
    → ((k : ℕ) → k < length rest → parts k ≡ parts_behind front rest k)
    → pieces_between parts rest ≡ pieces_from (depth_from 0 front) rest
pieces_between-from front [] parts are = refl
pieces_between-from front (c ∷ cs) parts are =
    let d = depth_from 0 front in
    let here : parts 0 ≡ is_outer_comma d c =
    are 0 (omega arith) ∙ ap (λ f. (c == 44) && not (is_open_behind f)) (append-nil front)
    ∙ sym (outer-parts front c) in
    let later : pieces_between (λ k. parts (suc k)) cs ≡ pieces_from (depth_behind d c) cs =
    pieces_between-from (front ++ c ∷ []) cs (λ k. parts (suc k))
    (λ k low. are (suc k) (omega arith)
    ∙ ap (λ f. (slice_index cs k == 44) && not (is_open_behind f))
    (sym (append_assoc front (c ∷ []) (take k cs))))
    ∙ ap (λ n. pieces_from n cs) (depth_from-last 0 front c) in
    elim (cases_Bool (is_outer_comma d c)) [
      | inl outer ↦
          cond-true _ _ _ (here ∙ outer) ∙ ap (λ ps. [] ∷ ps)
          (later ∙ ap (λ n. pieces_from n cs) (comma-keeps d c outer)) ∙ sym (cond-true _ _ _ outer)
      | inr inside ↦
          cond-false _ _ _ (here ∙ inside) ∙ ap (into_first c) later ∙ sym (cond-false _ _ _ inside)
    ]

pub csv_pieces-from : (text : List ℕ) → csv_pieces text ≡ pieces_from 0 text
csv_pieces-from text = pieces_between-from [] text (parts_at text) (λ k low. refl)
