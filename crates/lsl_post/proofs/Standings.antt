-- Changes of listens: a first part of them, without one, with one active or not, with one more.
use Rattle.std.proofs.Common.{◌≡◌, ℕ, zero, suc, ◌<◌, ◌≤◌, Bool, true, false, List, [], ◌∷◌, ◌++◌, length, map, take, drop, refl, ap, sym, ◌∙◌, subst, arith}
use Rattle.std.specs.Prelude.{ℤ, remove}
use Rattle.std.specs.Cmp.{IsEquivalence}
use Rattle.std.specs.List.{list_any, AllByRecursion, IsDistinct}
use Rattle.std.specs.Ordering.{int_eq}
use Rattle.std.proofs.lemmas.Cmp.{int_eq_equiv}
use Rattle.std.proofs.lemmas.List.{length-append, map-append, map_push, length_push, take-append-drop}
use Rattle.std.proofs.lemmas.Map.Keys.{IsDistinct-push}
use Rattle.indexmap.proofs.SetLemmas.{map-remove}
use Rattle.lsl_post.specs.declared.filters.Filter.{Filter}
use Rattle.lsl_post.specs.declared.listen.Listen.{Listen}
use Rattle.lsl_post.specs.FilterLaws.{same_filter_equiv}
use Rattle.lsl_post.specs.Filters.{same_filter}
use Rattle.lsl_post.specs.Listens.{filter_of, has_number, is_number, listen_of, most_listens, no_listens, number_of, standing, with_active_at, IsStanding}

module _ {X : Type 0} (P : X → Type 0) where
  each-prefix : (xs ys : List X) → AllByRecursion P (xs ++ ys) → AllByRecursion P xs
  each-prefix [] ys h = tt
  each-prefix (x ∷ xs) ys h = (h.0, each-prefix xs ys h.1)

  each-push : (xs : List X) (y : X) → AllByRecursion P xs → P y → AllByRecursion P (xs ++ y ∷ [])
  each-push [] y h p = (p, tt)
  each-push (x ∷ xs) y h p = (h.0, each-push xs y h.1 p)

  each-remove : (xs : List X) (i : ℕ) → AllByRecursion P xs → AllByRecursion P (remove xs i)
  each-remove [] zero h = tt
  each-remove [] (suc i) h = tt
  each-remove (x ∷ xs) zero h = h.1
  each-remove (x ∷ xs) (suc i) h = (h.0, each-remove xs i h.1)

  -- the last of them
  pub each-last : (xs : List X) (y : X) → AllByRecursion P (xs ++ y ∷ []) → P y
  each-last [] y h = h.0
  each-last (x ∷ xs) y h = each-last xs y h.1

module _ {K : Type 0} (e : K → K → Bool) where
  distinct-prefix : (xs ys : List K) → IsDistinct e (xs ++ ys) → IsDistinct e xs
  unfolding IsDistinct
  distinct-prefix [] ys h = tt
  distinct-prefix (x ∷ xs) ys h = (each-prefix (λ y. e x y ≡ false) xs ys h.0, distinct-prefix xs ys h.1)

  distinct-remove : (xs : List K) (i : ℕ) → IsDistinct e xs → IsDistinct e (remove xs i)
  unfolding IsDistinct
  distinct-remove [] zero h = tt
  distinct-remove [] (suc i) h = tt
  distinct-remove (x ∷ xs) zero h = h.1
  distinct-remove (x ∷ xs) (suc i) h = (each-remove (λ y. e x y ≡ false) xs i h.0, distinct-remove xs i h.1)

  -- the last differs from those before it
  pub distinct-last : IsEquivalence e → (xs : List K) (y : K) → IsDistinct e (xs ++ y ∷ [])
      → AllByRecursion (λ x. e y x ≡ false) xs
  unfolding IsDistinct
  distinct-last laws [] y h = tt
  distinct-last laws (x ∷ xs) y h = (
    laws.symm y x
        ∙ each-last (λ z. e x z ≡ false) xs y h.0,
    distinct-last laws xs y h.1,
  )

length-remove : {X : Type 0} (xs : List X) (i : ℕ) → length (remove xs i) ≤ length xs
length-remove [] zero = omega arith
length-remove [] (suc i) = omega arith
length-remove (x ∷ xs) zero = omega arith
length-remove (x ∷ xs) (suc i) = omega (arith, length-remove xs i)

pub standing-none : IsStanding no_listens
unfolding IsDistinct
standing-none = record {
  next = refl;
  few = omega arith;
  numbers = tt;
  numbers_differ = tt;
  filters_differ =
      tt;
}

pub standing-next : (next n : ℤ) (list : List Listen) → IsStanding (standing next list) → is_number n ≡ true
    → IsStanding (standing n list)
standing-next next n list s h =
    record {
      next = h;
      few = s.few;
      numbers = s.numbers;
      numbers_differ = s.numbers_differ;
      filters_differ =
          s.filters_differ;
    }

pub standing-prefix : (next : ℤ) (xs ys : List Listen) → IsStanding (standing next (xs ++ ys))
    → IsStanding (standing next xs)
standing-prefix next xs ys s =
    record {
      next = s.next;
      few = omega (arith, s.few, length-append xs ys);
      numbers = each-prefix _ (map number_of xs) (map number_of ys)
          (subst (AllByRecursion (λ n. is_number n ≡ true)) (map-append number_of xs ys) s.numbers);
      numbers_differ = distinct-prefix int_eq (map number_of xs) (map number_of ys)
          (subst (IsDistinct int_eq) (map-append number_of xs ys) s.numbers_differ);
      filters_differ = distinct-prefix same_filter (map filter_of xs) (map filter_of ys)
          (subst (IsDistinct same_filter) (map-append filter_of xs ys) s.filters_differ);
    }

pub standing-take : (next : ℤ) (list : List Listen) (i : ℕ) → IsStanding (standing next list)
    → IsStanding (standing next (take i list))
standing-take next list i s =
    standing-prefix next (take i list) (drop i list)
    (subst (λ l. IsStanding (standing next l)) (sym (take-append-drop i list)) s)

pub standing-remove : (next : ℤ) (list : List Listen) (i : ℕ) → IsStanding (standing next list)
    → IsStanding (standing next (remove list i))
standing-remove next list i s =
    record {
      next = s.next;
      few = omega (arith, s.few, length-remove list i);
      numbers = subst (AllByRecursion (λ n. is_number n ≡ true)) (sym (map-remove number_of list i))
          (each-remove _ (map number_of list) i s.numbers);
      numbers_differ = subst (IsDistinct int_eq) (sym (map-remove number_of list i))
          (distinct-remove int_eq (map number_of list) i s.numbers_differ);
      filters_differ = subst (IsDistinct same_filter) (sym (map-remove filter_of list i))
          (distinct-remove same_filter (map filter_of list) i s.filters_differ);
    }

-- whether a listen is active matters to neither its number nor what it asks
pub active-keeps : {K : Type 0} (f : Listen → K)
    → ((l : Listen) (a : Bool) → f (record l { active = a }) ≡ f l)
    → (a : Bool) (i : ℕ) (list : List Listen) → map f (with_active_at a i list) ≡ map f list
unfolding with_active_at
active-keeps f same a i [] = refl
active-keeps f same a zero (l ∷ ls) = ap (λ k. k ∷ map f ls) (same l a)
active-keeps f same a (suc i) (l ∷ ls) = ap (λ ks. f l ∷ ks) (active-keeps f same a i ls)

length-active : (a : Bool) (i : ℕ) (list : List Listen) → length (with_active_at a i list) ≡ length list
unfolding with_active_at
length-active a i [] = refl
length-active a zero (l ∷ ls) = refl
length-active a (suc i) (l ∷ ls) = ap suc (length-active a i ls)

pub standing-active : (next : ℤ) (a : Bool) (i : ℕ) (list : List Listen) → IsStanding (standing next list)
    → IsStanding (standing next (with_active_at a i list))
standing-active next a i list s =
    let numbers = sym (active-keeps number_of (λ l b. refl) a i list) in
    record {
      next = s.next;
      few = omega (arith, s.few, length-active a i list);
      numbers = subst (AllByRecursion (λ n. is_number n ≡ true)) numbers s.numbers;
      numbers_differ = subst (IsDistinct int_eq) numbers s.numbers_differ;
      filters_differ = subst (IsDistinct same_filter) (sym (active-keeps filter_of (λ l b. refl) a i list))
          s.filters_differ;
    }

pub standing-push : (next n : ℤ) (list : List Listen) (f : Filter) → IsStanding (standing next list)
    → length list < most_listens → is_number n ≡ true → has_number list n ≡ false
    → list_any (same_filter f) (map filter_of list) ≡ false
    → IsStanding (standing next (list ++ listen_of n f ∷ []))
standing-push next n list f s few number free new =
    record {
      next = s.next;
      few = omega (arith, few, length_push list (listen_of n f));
      numbers = subst (AllByRecursion (λ m. is_number m ≡ true))
          (sym (map_push number_of list (listen_of n f)))
          (each-push _ (map number_of list) n s.numbers number);
      numbers_differ = subst (IsDistinct int_eq) (sym (map_push number_of list (listen_of n f)))
          (IsDistinct-push int_eq_equiv (map number_of list) n s.numbers_differ free);
      filters_differ = subst (IsDistinct same_filter) (sym (map_push filter_of list (listen_of n f)))
          (IsDistinct-push same_filter_equiv (map filter_of list) f s.filters_differ new);
    }
