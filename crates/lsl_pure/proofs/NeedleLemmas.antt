-- The first place of a needle, as a search finds it.
use Rattle.std.proofs.Common.{◌≡◌, ◌∙◌, ℕ, suc, zero, ◌+◌, ◌<◌, ◌≤◌, true, nat_eq, List, [], ◌∷◌, ◌++◌, length, take, drop, get_or, Option, Some, None, sym, ap, subst, inl, inr, arith, length-append}
use Rattle.std.specs.Option.{option_map}
use Rattle.std.specs.List.{starts_with}
use Rattle.std.proofs.lemmas.Bool.{cases_Bool, cond-true, cond-false}
use Rattle.std.proofs.lemmas.List.{ext_get_or, get_or-take, get_or_append_left, length-take, take-append-drop}
use Rattle.memchr.specs.Find.{FindsNeedle, OccursAt}
use Rattle.lsl_pure.specs.Searches.{first_place}
use Rattle.lsl_pure.proofs.SpellingLemmas.{starts_with-Decides}

starts-from : (text needle : List ℕ) → OccursAt text needle 0 → starts_with nat_eq text needle ≡ true
starts-from text needle occurs =
    let n = length needle in
    let short : n ≤ length text = omega (arith, occurs.fits) in
    let size : length (take n text) ≡ n = omega (arith, length-take n text) in
    let same : take n text ≡ needle = ext_get_or 0 (take n text) needle size (λ i low.
    let within : i < n = omega (arith, size) in
    let place : 0 + i ≡ i = omega arith in
    get_or-take n text i 0 within ∙ sym (ap (λ k. get_or text k 0) place) ∙ occurs.reads i within) in
    (starts_with-Decides text needle).1 (drop n text, sym (take-append-drop n text) ∙ ap (λ t. t ++ drop n text) same)

starts-at : (text needle : List ℕ) → starts_with nat_eq text needle ≡ true → OccursAt text needle 0
starts-at text needle starts =
    let begins = (starts_with-Decides text needle).0 starts in
    record {
      fits = omega (arith, ap length begins.1, length-append needle begins.0);
      reads = λ j low. let place : 0 + j ≡ j = omega arith in
          ap (λ k. get_or text k 0) place ∙ ap (λ t. get_or t j 0) begins.1
          ∙ get_or_append_left needle begins.0 0 j low;
    }

occurs-later : (c : ℕ) (cs needle : List ℕ) (k : ℕ) → OccursAt (c ∷ cs) needle (suc k) → OccursAt cs needle k
occurs-later c cs needle k occurs = record {
  fits = omega (arith, occurs.fits);
  reads = λ j low. let place : suc k + j ≡ suc (k + j) = omega arith in
      sym (ap (λ n. get_or (c ∷ cs) n 0) place) ∙ occurs.reads j low;
}

occurs-behind : (c : ℕ) (cs needle : List ℕ) (k : ℕ) → OccursAt cs needle k → OccursAt (c ∷ cs) needle (suc k)
occurs-behind c cs needle k occurs = record {
  fits = omega (arith, occurs.fits);
  reads = λ j low. let place : suc k + j ≡ suc (k + j) = omega arith in
      ap (λ n. get_or (c ∷ cs) n 0) place ∙ occurs.reads j low;
}

-- a search in what stands behind the first byte
finds-later : (c : ℕ) (cs needle : List ℕ) (k : ℕ) → FindsNeedle (c ∷ cs) needle 0 (Some (suc k))
    → FindsNeedle cs needle 0 (Some k)
finds-later c cs needle k found = (
  record {
    low = omega arith;
    high = omega (arith, found.0.high);
    before = λ j low high occurs. found.0.before (suc j) (omega arith) (omega arith)
        (occurs-behind c cs needle j occurs);
  },
  occurs-later c cs needle k found.1,
)

pub FindsNeedle-first : (text needle : List ℕ) (found : Option ℕ) → FindsNeedle text needle 0 found
    → found ≡ first_place nat_eq text needle
FindsNeedle-first [] needle None none = elim (cases_Bool (starts_with nat_eq [] needle)) [
  | inl starts ↦ absurd (none 0 (omega arith) (omega arith) (starts-at [] needle starts))
  | inr other ↦ sym (cond-false _ _ _ other)
]
FindsNeedle-first [] needle (Some k) found =
    let first : k ≡ 0 = omega (arith, found.0.high) in
    let P : ℕ → Type 0 = λ n. OccursAt [] needle n in
    ap Some first ∙ sym (cond-true _ _ _ (starts-from [] needle (subst P first found.1)))
FindsNeedle-first (c ∷ cs) needle None none = elim (cases_Bool (starts_with nat_eq (c ∷ cs) needle)) [
  | inl starts ↦ absurd (none 0 (omega arith) (omega arith) (starts-at (c ∷ cs) needle starts))
  | inr other ↦
      ap (option_map suc) (FindsNeedle-first cs needle None
      (λ j low high occurs. none (suc j) (omega arith) (omega arith) (occurs-behind c cs needle j occurs)))
      ∙ sym (cond-false _ _ _ other)
]
FindsNeedle-first (c ∷ cs) needle (Some zero) found = sym (cond-true _ _ _ (starts-from (c ∷ cs) needle found.1))
FindsNeedle-first (c ∷ cs) needle (Some (suc k)) found = elim (cases_Bool (starts_with nat_eq (c ∷ cs) needle)) [
  | inl starts ↦ absurd (found.0.before 0 (omega arith) (omega arith) (starts-at (c ∷ cs) needle starts))
  | inr other ↦ ap (option_map suc) (FindsNeedle-first cs needle (Some k) (finds-later c cs needle k found))
      ∙ sym (cond-false _ _ _ other)
]
