-- Entries that come and go, one script at a time.
use Rattle.std.proofs.Common.{◌≡◌, ◌≢◌, ℕ, Bool, true, false, Option, Some, None, refl, sym, ap, subst, ◌∙◌, ⊎_elim}
use Rattle.std.specs.BTreeMap.{BTreeMap, get}
use Rattle.std.specs.BTreeSet.{BTreeSet, contains, UpdatesBy as UpdatesKeys}
use Rattle.std.specs.Ordering.{nat_cmp}
use Rattle.std.proofs.lemmas.Bool.Decides.{eqb_tells}
use Rattle.lsl_post.specs.Due.{entry_cmp, is_due}
use Rattle.lsl_post.proofs.DueOrder.{is_at-apart}
use Rattle.lsl_post.proofs.DueTimes.{AreSame, IsPut}

apart_by_script : (a b script other : ℕ) → other ≢ script
    → ◌≢◌ {A = ℕ × ℕ} (a, script) (b, other)
apart_by_script a b script other apart e = apart (sym (ap (λ (p : ℕ × ℕ). p.1) e))

apart_by_time : (a b script : ℕ) → a ≢ b → ◌≢◌ {A = ℕ × ℕ} (a, script) (b, script)
apart_by_time a b script apart e = apart (ap (λ (p : ℕ × ℕ). p.0) e)

never : {A : Type 0} (b : Bool) → b ≡ true → b ≡ false → A
never b holds fails = cc

-- an entry comes, and the script's other one goes
pub put-again : (script due was : ℕ) (order mid new_order : BTreeSet (ℕ × ℕ)) (times : BTreeMap ℕ ℕ)
    → AreSame order times → get nat_cmp times script ≡ Some was → was ≢ due
    → UpdatesKeys entry_cmp (entry_cmp (due, script)) order mid true
    → UpdatesKeys entry_cmp (entry_cmp (was, script)) mid new_order false
    → IsPut script (Some due) order new_order
put-again script due was order mid new_order times same is_was apart come gone = record {
  own = λ at. (λ h. forth at h, λ e. back at e);
  others = λ at other distant.
      gone.2 (at, other) (is_at-apart (was, script) (at, other) (apart_by_script was at script other distant))
      ∙ come.2 (at, other) (is_at-apart (due, script) (at, other) (apart_by_script due at script other distant));
}
  where
    forth : (at : ℕ) → contains entry_cmp new_order (at, script) ≡ true → Some due ≡ Some at
    forth at h = ⊎_elim (λ e. ap (λ n. Some n) e.1) (λ e. ⊎_elim (λ w. lost w.1) (λ w. kept e.1 w.1) (eqb_tells was at))
        (eqb_tells due at)
      where
        lost : was ≡ at → Some due ≡ Some at
        lost e = never (contains entry_cmp new_order (at, script)) h
            (subst (λ (n : ℕ). contains entry_cmp new_order (n, script) ≡ false) e gone.1)

        kept : due ≢ at → was ≢ at → Some due ≡ Some at
        kept e w =
            let stood : contains entry_cmp order (at, script) ≡ true =
            sym (come.2 (at, script) (is_at-apart (due, script) (at, script) (apart_by_time due at script e)))
            ∙ (sym (gone.2 (at, script) (is_at-apart (was, script) (at, script) (apart_by_time was at script w)))
            ∙ h) in
            let time = (same script at).1 stood in
            let equal : was ≡ at = cc in
            absurd (w equal)

    back : (at : ℕ) → Some due ≡ Some at → contains entry_cmp new_order (at, script) ≡ true
    back at e =
        let equal : due ≡ at = cc in
        subst (λ (n : ℕ). contains entry_cmp new_order (n, script) ≡ true) equal
        (gone.2 (due, script) (is_at-apart (was, script) (due, script) (apart_by_time was due script apart)) ∙ come.1)

-- the first entry of a script comes
pub put-first : (script due : ℕ) (order new_order : BTreeSet (ℕ × ℕ)) (times : BTreeMap ℕ ℕ)
    → AreSame order times → get nat_cmp times script ≡ None
    → UpdatesKeys entry_cmp (entry_cmp (due, script)) order new_order true → IsPut script (Some due) order new_order
put-first script due order new_order times same is_was come = record {
  own = λ at. (λ h. forth at h, λ e. back at e);
  others = λ at other distant.
      come.2 (at, other) (is_at-apart (due, script) (at, other) (apart_by_script due at script other distant));
}
  where
    forth : (at : ℕ) → contains entry_cmp new_order (at, script) ≡ true → Some due ≡ Some at
    forth at h = ⊎_elim (λ e. ap (λ n. Some n) e.1) (λ e. kept e.1) (eqb_tells due at)
      where
        kept : due ≢ at → Some due ≡ Some at
        kept e =
            let stood : contains entry_cmp order (at, script) ≡ true =
            sym (come.2 (at, script) (is_at-apart (due, script) (at, script) (apart_by_time due at script e))) ∙ h in
            let time = (same script at).1 stood in
            cc

    back : (at : ℕ) → Some due ≡ Some at → contains entry_cmp new_order (at, script) ≡ true
    back at e =
        let equal : due ≡ at = cc in
        subst (λ (n : ℕ). contains entry_cmp new_order (n, script) ≡ true) equal come.1

-- the script's entry goes
pub put-gone : (script was : ℕ) (order new_order : BTreeSet (ℕ × ℕ)) (times : BTreeMap ℕ ℕ)
    → AreSame order times → get nat_cmp times script ≡ Some was
    → UpdatesKeys entry_cmp (entry_cmp (was, script)) order new_order false → IsPut script None order new_order
put-gone script was order new_order times same is_was gone = record {
  own = λ at. (λ h. forth at h, λ e. cc);
  others = λ at other distant.
      gone.2 (at, other) (is_at-apart (was, script) (at, other) (apart_by_script was at script other distant));
}
  where
    forth : (at : ℕ) → contains entry_cmp new_order (at, script) ≡ true → None ≡ Some at
    forth at h = ⊎_elim (λ w. lost w.1) (λ w. kept w.1) (eqb_tells was at)
      where
        lost : was ≡ at → None ≡ Some at
        lost e = never (contains entry_cmp new_order (at, script)) h
            (subst (λ (n : ℕ). contains entry_cmp new_order (n, script) ≡ false) e gone.1)

        kept : was ≢ at → None ≡ Some at
        kept w =
            let stood : contains entry_cmp order (at, script) ≡ true =
            sym (gone.2 (at, script) (is_at-apart (was, script) (at, script) (apart_by_time was at script w))) ∙ h in
            let time = (same script at).1 stood in
            let equal : was ≡ at = cc in
            absurd (w equal)

-- what holds already
pub put-same : (script : ℕ) (due : Option ℕ) (order : BTreeSet (ℕ × ℕ)) (times : BTreeMap ℕ ℕ)
    → AreSame order times → get nat_cmp times script ≡ due → IsPut script due order order
put-same script due order times same is_due = record {
  own = λ at. (λ h. sym is_due ∙ (same script at).1 h, λ e. (same script at).0 (is_due ∙ e));
  others = λ at other distant. refl;
}
