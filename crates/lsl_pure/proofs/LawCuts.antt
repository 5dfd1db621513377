-- A text has one cut into pieces and marks.
use Rattle.std.proofs.Common.{◌≡◌, ◌∙◌, ℕ, zero, suc, ◌-◌, ◌<◌, List, [], ◌∷◌, ◌++◌, length, drop, Option, Some, None, sym, ap, refl, subst, arith, length-append}
use Rattle.std.specs.List.{All}
use Rattle.std.proofs.lemmas.List.{append-nil}
use Rattle.lsl_pure.specs.Laws.{IsFree, IsCutFrom, IsCutAt}
use Rattle.lsl_pure.specs.Parsing.{Cut, first_mark, behind_character, behind_mark, cut_behind, cut_of}
use Rattle.lsl_pure.specs.declared.marks.Mark.{Mark}
use Rattle.lsl_pure.proofs.CutLemmas.{HasCharacter, cut_behind-none, cut_behind-some, found_is}
use Rattle.lsl_pure.proofs.ParsingLemmas.{cut_behind-drop}
use Rattle.lsl_pure.proofs.SpellingLemmas.{starts_with-Decides}

-- the cut is one

free-cons : (marks : List Mark) (c : ℕ) (piece rest : List ℕ) → first_mark marks (c ∷ (piece ++ rest)) ≡ None
    → IsFree marks piece rest → IsFree marks (c ∷ piece) rest
free-cons marks c piece rest none free zero low = none
free-cons marks c piece rest none free (suc k) low = free k (omega arith)

cons-cut : (marks : List Mark) (c : ℕ) (cs piece : List ℕ) (es : List (Mark × List ℕ))
    → first_mark marks (c ∷ cs) ≡ None → IsCutFrom marks cs piece es → IsCutFrom marks (c ∷ cs) (c ∷ piece) es
cons-cut marks c cs piece [] none cut = (
  ap (λ t. c ∷ t) cut.0,
  free-cons marks c piece []
      (ap (λ t. first_mark marks (c ∷ t)) (append-nil piece ∙ sym cut.0) ∙ none) cut.1,
)
cons-cut marks c cs piece (e ∷ es) none cut = (
  cut.0,
  ap (λ t. c ∷ t) cut.1,
  free-cons marks c piece cut.0
      (ap (λ t. first_mark marks (c ∷ t)) (sym cut.1) ∙ none) cut.2,
  cut.3,
  cut.4,
)

cut-here : (marks : List Mark) (c : ℕ) (cs : List ℕ) → All HasCharacter marks → (r : Option Mark)
    → first_mark marks (c ∷ cs) ≡ r
    → ((n : ℕ) → IsCutAt marks (drop n cs) (cut_behind marks n cs))
    → IsCutAt marks (c ∷ cs) (cut_behind marks 0 (c ∷ cs))
cut-here marks c cs has None none there =
    let P : Cut → Type 0 = λ cut. IsCutAt marks (c ∷ cs) cut in
    subst P (sym (cut_behind-none marks c cs none))
    (cons-cut marks c cs (cut_behind marks 0 cs).first (cut_behind marks 0 cs).rest none (there 0))
cut-here marks c cs has (Some m) some there =
    let P : Cut → Type 0 = λ cut. IsCutAt marks (c ∷ cs) cut in
    let found = found_is marks (c ∷ cs) m has some in
    let cut = cut_behind marks (length m.text - 1) cs in
    let next : suc (length m.text - 1) ≡ length m.text = omega (arith, found.has) in
    let Q : ℕ → Type 0 = λ n. IsCutAt marks (drop n (c ∷ cs)) cut in
    subst P (sym (cut_behind-some marks c cs m some))
    (c ∷ cs, refl, λ k low. absurd (omega arith), some, subst Q next (there (length m.text - 1)))

pub cut-stands : (marks : List Mark) (text : List ℕ) (n : ℕ) → All HasCharacter marks
    → IsCutAt marks (drop n text) (cut_behind marks n text)
cut-stands marks [] zero has = (refl, λ k low. absurd (omega arith))
cut-stands marks [] (suc n) has = (refl, λ k low. absurd (omega arith))
cut-stands marks (c ∷ cs) (suc n) has = cut-stands marks cs n has
cut-stands marks (c ∷ cs) zero has = cut-here marks c cs has (first_mark marks (c ∷ cs)) refl
    (λ n. cut-stands marks cs n has)

-- and there is no other

abbrev the_cut : List ℕ → List (Mark × List ℕ) → Cut
the_cut piece es = record { first = piece; rest = es }

tail-cut : (marks : List Mark) (c : ℕ) (piece : List ℕ) (es : List (Mark × List ℕ)) (text : List ℕ)
    → IsCutFrom marks text (c ∷ piece) es
    → (t : List ℕ) × (text ≡ c ∷ t) × (first_mark marks (c ∷ t) ≡ None) × IsCutFrom marks t piece es
tail-cut marks c piece [] text cut = (
  piece,
  cut.0,
  ap (λ t. first_mark marks (c ∷ t)) (sym (append-nil piece))
      ∙ cut.1 0 (omega arith),
  (refl, λ k low. cut.1 (suc k) (omega arith)),
)
tail-cut marks c piece (e ∷ es) text cut =
    (piece ++ cut.0, cut.1, cut.2 0 (omega arith), (cut.0, refl, λ k low. cut.2 (suc k) (omega arith), cut.3, cut.4))

one-piece : (marks : List Mark) (piece : List ℕ) (es : List (Mark × List ℕ))
    → ((t : List ℕ) → IsCutFrom marks t [] es → the_cut [] es ≡ cut_of marks t)
    → (text : List ℕ) → IsCutFrom marks text piece es → the_cut piece es ≡ cut_of marks text
one-piece marks [] es end text cut = end text cut
one-piece marks (c ∷ piece) es end text cut =
    let tail = tail-cut marks c piece es text cut in
    ap (behind_character c) (one-piece marks piece es end tail.0 tail.3)
    ∙ sym (cut_behind-none marks c tail.0 tail.2) ∙ sym (ap (cut_of marks) tail.1)

-- where a mark stands there is a character
stands-some : (marks : List Mark) (text : List ℕ) (m : Mark) → All HasCharacter marks
    → first_mark marks text ≡ Some m → 0 < length text
stands-some marks text m has some =
    let found = found_is marks text m has some in
    let begins = (starts_with-Decides text m.text).0 found.stands in
    omega (arith, found.has, ap length begins.1, length-append m.text begins.0)

one-mark : (marks : List Mark) (e : Mark × List ℕ) (es : List (Mark × List ℕ)) → All HasCharacter marks
    → ((t : List ℕ) → IsCutFrom marks t e.1 es → the_cut e.1 es ≡ cut_of marks t)
    → (rest : List ℕ) → first_mark marks rest ≡ Some e.0 → IsCutFrom marks (drop (length e.0.text) rest) e.1 es
    → the_cut [] (e ∷ es) ≡ cut_of marks rest
one-mark marks e es has others [] some cut = let never = stands-some marks [] e.0 has some in absurd (omega arith)
one-mark marks e es has others (c ∷ cs) some cut =
    let found = found_is marks (c ∷ cs) e.0 has some in
    let next : length e.0.text ≡ suc (length e.0.text - 1) = omega (arith, found.has) in
    ap (behind_mark e.0) (others (drop (length e.0.text) (c ∷ cs)) cut
    ∙ ap (λ n. cut_of marks (drop n (c ∷ cs))) next ∙ sym (cut_behind-drop marks (length e.0.text - 1) cs))
    ∙ sym (cut_behind-some marks c cs e.0 some)

one-end : (marks : List Mark) (text : List ℕ) → IsCutFrom marks text [] [] → the_cut [] [] ≡ cut_of marks text
one-end marks text cut = sym (ap (cut_of marks) cut.0)

one-cut : (marks : List Mark) (piece : List ℕ) (es : List (Mark × List ℕ)) → All HasCharacter marks
    → (text : List ℕ) → IsCutFrom marks text piece es → the_cut piece es ≡ cut_of marks text
one-cut marks piece [] has text cut = one-piece marks piece [] (one-end marks) text cut
one-cut marks piece (e ∷ es) has text cut =
    one-piece marks piece (e ∷ es)
    (λ t here. one-mark marks e es has (λ u behind. one-cut marks e.1 es has u behind) here.0 here.3 here.4
    ∙ sym (ap (cut_of marks) here.1)) text cut

pub cut-unique : (marks : List Mark) (text : List ℕ) → All HasCharacter marks → (cut : Cut)
    → IsCutAt marks text cut → cut ≡ cut_of marks text
cut-unique marks text has cut is = one-cut marks cut.first cut.rest has text is
