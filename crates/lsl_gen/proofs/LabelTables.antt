-- Tables of labels, as labels are entered.
use Rattle.std.proofs.Common.{◌≡◌, ℕ, ◌+◌, ◌-◌, ◌<◌, ◌≤◌, List, [], ◌∷◌, ◌++◌, length, Bool, true, false, cond, nat_eq, nat_lt, Option, Some, None, sym, ap, ◌∙◌, refl, subst, arith, take, get_or}
use Rattle.std.specs.Prelude.{All}
use Rattle.std.proofs.lemmas.Bool.Decides.{nat_tests}
use Rattle.std.proofs.lemmas.List.Elements.{All-more}
use Rattle.std.proofs.lemmas.List.{take_more, take_all}
use Rattle.lsl_gen.specs.declared.label_places.LabelPlace.{LabelPlace}
use Rattle.lsl_gen.specs.LabelTables.{unless_told, IsIndexed}
use Rattle.lsl_gen.specs.OpenJumps.{found_place}

found_place-push : (label : ℕ) (xs : List LabelPlace) (x : LabelPlace)
    → found_place label (xs ++ x ∷ []) ≡ unless_told (found_place label xs) label x.label x.place
found_place-push label [] x = refl
found_place-push label (y ∷ xs) x =
    either (nat_eq label y.label) (found_place label xs) (found_place label (xs ++ x ∷ []))
    (found_place-push label xs x)
  where
    either : (b : Bool) (o p : Option ℕ) → p ≡ unless_told o label x.label x.place
        → cond b (Some y.place) p ≡ unless_told (cond b (Some y.place) o) label x.label x.place
    either true o p e = refl
    either false o p e = e

found_place-more : (label : ℕ) (xs : List LabelPlace) (i : ℕ) (d : LabelPlace) → i < length xs
    → unless_told (found_place label (take i xs)) label (get_or xs i d).label (get_or xs i d).place
    ≡ found_place label (take (i + 1) xs)
found_place-more label xs i d lt =
    sym (ap (found_place label) (take_more xs i d lt) ∙ found_place-push label (take i xs) (get_or xs i d))

same_told : (o : Option ℕ) (k entry j label place : ℕ) → nat_eq k entry ≡ nat_eq j label
    → unless_told o k entry place ≡ unless_told o j label place
same_told None k entry j label place e = ap (λ b. cond b (Some place) None) e
same_told (Some before) k entry j label place e = refl

same_test : (first label other entry : ℕ) → first ≤ label → first ≤ other → entry ≡ other - first
    → nat_eq (label - first) entry ≡ nat_eq label other
same_test first label other entry le le' e = by (nat_eq (label - first) entry) (nat_eq label other) refl refl
  where
    by : (b c : Bool) → nat_eq (label - first) entry ≡ b → nat_eq label other ≡ c → b ≡ c
    by true true p q = refl
    by false false p q = refl
    by true false p q = absurd (grind (arith, nat_tests))
    by false true p q = absurd (grind (arith, nat_tests))

-- with one more label
pub one_more : (first entry : ℕ) (old new : List (Option ℕ)) (xs : List LabelPlace) (i : ℕ) (d : LabelPlace)
    → i < length xs → All (λ x. first ≤ x.label) xs → entry ≡ (get_or xs i d).label - first
    → ((k : ℕ) → get_or new k None ≡ unless_told (get_or old k None) k entry (get_or xs i d).place)
    → IsIndexed first old (take i xs) → IsIndexed first new (take (i + 1) xs)
one_more first entry old new xs i d lt all at entered h = record {
  found = λ label. told label (get_or xs i d) (all i d lt) at entered (nat_lt label first) refl (h.found label)
      ∙ found_place-more label xs i d lt;
}
  where
    told : (label : ℕ) (x : LabelPlace) → first ≤ x.label → entry ≡ x.label - first
        → ((k : ℕ) → get_or new k None ≡ unless_told (get_or old k None) k entry x.place)
        → (b : Bool) → nat_lt label first ≡ b
        → cond (nat_lt label first) None (get_or old (label - first) None) ≡ found_place label (take i xs)
        → cond (nat_lt label first) None (get_or new (label - first) None)
        ≡ unless_told (found_place label (take i xs)) label x.label x.place
    told label x above at entered true t was =
        let none : None ≡ found_place label (take i xs) =
        sym (ap (λ b. cond b None (get_or old (label - first) None)) t) ∙ was in
        let other : nat_eq label x.label ≡ false = grind (arith, nat_tests) in
        ap (λ b. cond b None (get_or new (label - first) None)) t
        ∙ sym (ap (λ b. cond b (Some x.place) None) other)
        ∙ ap (λ o. unless_told o label x.label x.place) none
    told label x above at entered false t was =
        let some : get_or old (label - first) None ≡ found_place label (take i xs) =
        sym (ap (λ b. cond b None (get_or old (label - first) None)) t) ∙ was in
        let le : first ≤ label = grind (arith, nat_tests) in
        ap (λ b. cond b None (get_or new (label - first) None)) t ∙ entered (label - first)
        ∙ ap (λ o. unless_told o (label - first) entry x.place) some
        ∙ same_told (found_place label (take i xs)) (label - first) entry label x.label x.place
        (same_test first label x.label entry le above at)

-- a number that no label is below
pub least_more : (first next : ℕ) (xs : List LabelPlace) (i : ℕ) (d : LabelPlace) → i < length xs
    → next ≤ first → next ≤ (get_or xs i d).label → All (λ y. first ≤ y.label) (take i xs)
    → All (λ y. next ≤ y.label) (take (i + 1) xs)
least_more first next xs i d lt le here all =
    All-more (λ y. next ≤ y.label) xs i d lt (λ k e l. lower k e l) here
  where
    lower : (k : ℕ) (e : LabelPlace) → k < length (take i xs) → next ≤ (get_or (take i xs) k e).label
    lower k e l = let h : first ≤ (get_or (take i xs) k e).label = all k e l in omega arith

pub least_all : (first : ℕ) (xs : List LabelPlace) (i : ℕ) → length xs ≤ i → All (λ y. first ≤ y.label) (take i xs)
    → All (λ y. first ≤ y.label) xs
least_all first xs i le all = let P : List LabelPlace → Type 0 = λ l. All (λ y. first ≤ y.label) l in
    subst P (take_all i xs le) all
