-- The first marks at the places of a text, one more mark at a time.
use Rattle.std.proofs.Common.{◌≡◌, ◌≢◌, ◌∙◌, ℕ, ◌+◌, ◌<◌, ◌≤◌, Bool, true, false, cond, List, [], ◌∷◌, ◌++◌, length, map, take, drop, get_or, set, Option, Some, None, sym, ap, refl, subst, inl, inr, arith, length-append, get_or-set_other, get_or-set_same, nat_eq}
use Rattle.std.specs.List.{starts_with}
use Rattle.std.specs.Option.{is_some, option_map, option_or}
use Rattle.std.proofs.lemmas.Bool.{cases_Bool, cases_eq, cond-true, cond-false}
use Rattle.std.proofs.lemmas.List.{append-nil, append_assoc, drop_all, get_or_append_left, get_or_at, map_more, take_all}
use Rattle.std.proofs.lemmas.List.Folds.{find-append}
use Rattle.std.proofs.lemmas.Option.{slice_get-get_or}
use Rattle.lsl_pure.specs.Firsts.{AreFirst, IsFirst, IsNoted, mark_of, noted}
use Rattle.lsl_pure.specs.Parsing.{first_mark}
use Rattle.lsl_pure.specs.Spelling.{spelled_mark}
use Rattle.lsl_pure.specs.declared.marks.Mark.{Mark}
use Rattle.lsl_pure.proofs.SpellingLemmas.{starts_with-Decides}

-- a prefix of a text's prefix is one of the text
begins-through : (xs ys zs : List ℕ) → starts_with nat_eq xs ys ≡ true → starts_with nat_eq ys zs ≡ true
    → starts_with nat_eq xs zs ≡ true
begins-through xs ys zs first second =
    let one = (starts_with-Decides xs ys).0 first in
    let two = (starts_with-Decides ys zs).0 second in
    (starts_with-Decides xs zs).1
    (two.0 ++ one.0, one.1 ∙ ap (λ t. t ++ one.0) two.1 ∙ append_assoc zs two.0 one.0)

some-not-none : {X : Type 0} (o : Option X) (x : X) → o ≡ Some x → o ≡ None → ⊥
some-not-none o x some none = cc

is-not-none : {X : Type 0} (o : Option X) → is_some o ≡ true → o ≡ None → ⊥
is-not-none (Some x) some none = cc
is-not-none None some none = cc

-- what is made of a value is one, too
pub some-of : {X Y : Type 0} (f : X → Y) (o : Option X) (made : Option Y) → option_map f o ≡ made
    → is_some o ≡ true → is_some made ≡ true
some-of f (Some x) made is some = ap is_some (sym is)
some-of f None made is some = cc

-- where no mark is a prefix of a text, none is one of the text's prefixes
covered : (marks : List Mark) (text head : List ℕ) → starts_with nat_eq text head ≡ true
    → first_mark marks text ≡ None → first_mark marks head ≡ None
covered [] text head stands none = refl
covered (m ∷ ms) text head stands none = elim (cases_Bool (starts_with nat_eq text m.text)) [
  | inl here ↦
      let some : first_mark (m ∷ ms) text ≡ Some m = cond-true _ _ _ here in
      absurd (some-not-none (first_mark (m ∷ ms) text) m some none)
  | inr fails ↦ elim (cases_Bool (starts_with nat_eq head m.text)) [
    | inl there ↦
        let some : first_mark (m ∷ ms) text ≡ Some m =
        cond-true _ _ _ (begins-through text head m.text stands there) in
        absurd (some-not-none (first_mark (m ∷ ms) text) m some none)
    | inr there ↦
        let rest : first_mark ms text ≡ None = sym (cond-false _ _ _ fails) ∙ none in
        let same : first_mark (m ∷ ms) head ≡ first_mark ms head = cond-false _ _ _ there in
        same ∙ covered ms text head stands rest
  ]
]

first-append : (marks : List Mark) (m : Mark) (text : List ℕ)
    → first_mark (marks ++ m ∷ []) text
    ≡ option_or (first_mark marks text) (cond (starts_with nat_eq text m.text) (Some m) None)
first-append marks m text = find-append (λ (n : Mark). starts_with nat_eq text n.text) marks (m ∷ [])

-- the first of some marks is the first of one more, too
first-stays : (marks : List Mark) (m : Mark) (text : List ℕ) (number : ℕ) → IsFirst marks text (Some number)
    → IsFirst (marks ++ m ∷ []) text (Some number)
first-stays marks m text number first =
    let low : number < length marks = first.within in
    let size = length-append marks (m ∷ []) in
    let lower : number < length (marks ++ m ∷ []) = omega (arith, size) in
    let it : first_mark marks text ≡ Some (get_or marks number m) = first.is ∙ slice_get-get_or marks number m low in
    record {
      within = lower;
      is =
          first-append marks m text
          ∙ ap (λ o. option_or o (cond (starts_with nat_eq text m.text) (Some m) None)) it
          ∙ ap (λ (x : Mark). Some x) (sym (get_or_append_left marks (m ∷ []) m number low))
          ∙ sym (slice_get-get_or (marks ++ m ∷ []) number m lower);
    }

first-none : (marks : List Mark) (m : Mark) (text : List ℕ) (stands : Bool) → starts_with nat_eq text m.text ≡ stands
    → first_mark marks text ≡ None → IsFirst (marks ++ m ∷ []) text (noted None stands (length marks))
first-none marks m text true here none =
    let size = length-append marks (m ∷ []) in
    let low : length marks < length (marks ++ m ∷ []) = omega (arith, size) in
    record {
      within = low;
      is =
          first-append marks m text
          ∙ ap (λ o. option_or o (cond (starts_with nat_eq text m.text) (Some m) None)) none
          ∙ ap (λ b. cond b (Some m) None) here
          ∙ ap (λ (x : Mark). Some x) (sym (get_or_at marks m [] m (length marks) refl))
          ∙ sym (slice_get-get_or (marks ++ m ∷ []) (length marks) m low);
    }
first-none marks m text false here none = record {
  within = tt;
  is =
      first-append marks m text
      ∙ ap (λ o. option_or o (cond (starts_with nat_eq text m.text) (Some m) None)) none
      ∙ ap (λ b. cond b (Some m) None) here;
}

first-one : (marks : List Mark) (m : Mark) (text : List ℕ) (number : Option ℕ) → IsFirst marks text number
    → IsFirst (marks ++ m ∷ []) text (noted number (starts_with nat_eq text m.text) (length marks))
first-one marks m text (Some number) first = first-stays marks m text number first
first-one marks m text None first = first-none marks m text (starts_with nat_eq text m.text) refl first.is

first-covered : (marks : List Mark) (m : Mark) (text : List ℕ) (number : Option ℕ)
    → is_some (first_mark marks m.text) ≡ true → IsFirst marks text number
    → IsFirst (marks ++ m ∷ []) text number
first-covered marks m text (Some number) some first = first-stays marks m text number first
first-covered marks m text None some first = elim (cases_Bool (starts_with nat_eq text m.text)) [
  | inl stands ↦
      absurd (is-not-none (first_mark marks m.text) some (covered marks text m.text stands first.is))
  | inr fails ↦ first-none marks m text false fails first.is
]

pub firsts-more : (marks : List Mark) (m : Mark) (text : List ℕ) (number : ℕ) (old new : List (Option ℕ))
    → number ≡ length marks → length new ≡ length text → AreFirst marks text old
    → IsNoted m.text number text old new → AreFirst (marks ++ m ∷ []) text new
firsts-more marks m text number old new is size first more = record {
  size = size;
  each =
      λ k low. let P : Option ℕ → Type 0 = λ o. IsFirst (marks ++ m ∷ []) (drop k text) o in
      subst P (ap (noted (get_or old k None) (starts_with nat_eq (drop k text) m.text)) (sym is) ∙ sym (more k low))
      (first-one marks m (drop k text) (get_or old k None) (first.each k low));
}

pub firsts-covered : (marks : List Mark) (m : Mark) (text : List ℕ) (old : List (Option ℕ))
    → is_some (first_mark marks m.text) ≡ true → AreFirst marks text old → AreFirst (marks ++ m ∷ []) text old
firsts-covered marks m text old some first = record {
  size = first.size;
  each = λ k low. first-covered marks m (drop k text) (get_or old k None) some (first.each k low);
}

-- the marks so far, spelled out, and one more
pub spelled-more : (marks : List Mark) (number : ℕ) (m : Mark) → number < length marks → m ≡ get_or marks number m
    → map spelled_mark (take (number + 1) marks) ≡ map spelled_mark (take number marks) ++ spelled_mark m ∷ []
spelled-more marks number m low is =
    map_more spelled_mark marks number m low
    ∙ ap (λ x. map spelled_mark (take number marks) ++ spelled_mark x ∷ []) (sym is)

-- all items of a list are written anew
pub written-whole : {X : Type 0} (old new : List X) (len : ℕ) → length new ≡ len → length old ≡ len
    → take len (new ++ drop (length new) old) ≡ new
written-whole old new len new_size old_size =
    let none : drop (length new) old ≡ [] = drop_all (length new) old (omega arith) in
    let whole : new ++ drop (length new) old ≡ new = ap (λ rest. new ++ rest) none ∙ append-nil new in
    ap (take len) whole ∙ take_all len new (omega arith)

-- the mark that is found by the number at a place is the first one there
pub found-first : (marks : List Mark) (text : List ℕ) (firsts slice : List (Option ℕ)) (at : ℕ) (found : Option Mark)
    → AreFirst marks text firsts → slice ≡ firsts → at < length text
    → found ≡ mark_of marks (get_or slice at None) → first_mark marks (drop at text) ≡ found
found-first marks text firsts slice at found first same low is =
    (first.each at low).is ∙ ap (λ fs. mark_of marks (get_or fs at None)) (sym same) ∙ sym is

-- the places before one are noted, and the others are as they were
pub record AreNotedBefore (mark : List ℕ) (number : ℕ) (text : List ℕ) (old new : List (Option ℕ)) (at : ℕ) : Type 0 where
  pub before : (k : ℕ) → k < at
      → get_or new k None ≡ noted (get_or old k None) (starts_with nat_eq (drop k text) mark) number
  pub behind : (k : ℕ) → at ≤ k → get_or new k None ≡ get_or old k None

pub noted-more : (mark : List ℕ) (number : ℕ) (text : List ℕ) (old new : List (Option ℕ)) (at : ℕ)
    (was value : Option ℕ) → at < length new → AreNotedBefore mark number text old new at
    → was ≡ get_or new at None → value ≡ noted was (starts_with nat_eq (drop at text) mark) number
    → AreNotedBefore mark number text old (set new at value) (at + 1)
noted-more mark number text old new at was value low done was_is is = record {
  before =
      λ k less. elim (cases_eq k at) [
        | inl same ↦
            let P : ℕ → Type 0 = λ n. get_or (set new at value) n None
            ≡ noted (get_or old n None) (starts_with nat_eq (drop n text) mark) number in
            subst P (sym same)
            (get_or-set_same new at value None low ∙ is
            ∙ ap (λ o. noted o (starts_with nat_eq (drop at text) mark) number)
            (was_is ∙ done.behind at (omega arith)))
        | inr other ↦ get_or-set_other new at k value None other ∙ done.before k (omega arith)
      ];
  behind =
      λ k high. let other : k ≢ at = omega arith in
      get_or-set_other new at k value None other ∙ done.behind k (omega arith);
}
