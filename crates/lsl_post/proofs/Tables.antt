-- What a change of the table does to the listens that it holds.
use Rattle.std.proofs.Common.{◌≡◌, ℕ, zero, suc, Bool, true, false, cond, List, [], ◌∷◌, ◌++◌, map, slice_get, Some, refl, ap, sym, ◌∙◌, subst}
use Rattle.std.specs.Prelude.{ℤ, pos, remove}
use Rattle.std.specs.List.{AllByRecursion, IsDistinct}
use Rattle.std.proofs.lemmas.List.{map_push}
use Rattle.indexmap.specs.IndexMap.{insert_entry, set_value_at}
use Rattle.indexmap.proofs.SetLemmas.{map-remove}
use Rattle.lsl_post.specs.declared.filters.Filter.{Filter}
use Rattle.lsl_post.specs.declared.listen.Listen.{Listen}
use Rattle.lsl_post.specs.FilterLaws.{same_filter_equiv}
use Rattle.lsl_post.specs.Filters.{same_filter}
use Rattle.lsl_post.specs.Listens.{filter_of, is_number, standing, with_active_at, IsStanding}
use Rattle.lsl_post.specs.Tables.{asked_of, listens_of, IsTable}
use Rattle.lsl_post.proofs.Standings.{active-keeps, distinct-last, standing-active, standing-next, standing-none, standing-remove}

pub table-none : (next : ℤ) (es : List (Filter × Listen)) → is_number next ≡ true → es ≡ [] → IsTable next es
table-none next es h e =
    subst (IsTable next) (sym e) (record {
      keys = refl;
      standing =
          standing-next (pos 1) next [] standing-none h;
    })

active-value : (es : List (Filter × Listen)) (i : ℕ) (v : Listen) (a : Bool)
    → slice_get (listens_of es) i ≡ Some v →
    listens_of (set_value_at es i (record v { active = a })) ≡ with_active_at a i (listens_of es)
unfolding with_active_at
active-value [] i v a e = refl
active-value (x ∷ xs) zero v a e =
    let same : x.1 ≡ v = cc in
    ap (λ (l : Listen). record l { active = a } ∷ listens_of xs) (sym same)
active-value (x ∷ xs) (suc i) v a e = ap (λ ls. x.1 ∷ ls) (active-value xs i v a e)

asked-set : (es : List (Filter × Listen)) (i : ℕ) (w : Listen) → asked_of (set_value_at es i w) ≡ asked_of es
asked-set [] i w = refl
asked-set (x ∷ xs) zero w = refl
asked-set (x ∷ xs) (suc i) w = ap (λ ks. x.0 ∷ ks) (asked-set xs i w)

-- the listen at a place is made active or not
pub table-active : (next : ℤ) (es : List (Filter × Listen)) (i : ℕ) (v : Listen) (a : Bool)
    → IsTable next es → slice_get (listens_of es) i ≡ Some v →
    IsTable next (set_value_at es i (record v { active = a }))
    × (listens_of (set_value_at es i (record v { active = a })) ≡ with_active_at a i (listens_of es))
table-active next es i v a t e =
    let changed = active-value es i v a e in (
      record {
        keys = asked-set es i _ ∙ t.keys ∙ sym (active-keeps filter_of (λ l b. refl) a i (listens_of es))
            ∙ ap (map filter_of) (sym changed);
        standing = subst (λ l. IsStanding (standing next l)) (sym changed)
            (standing-active next a i (listens_of es) t.standing);
      },
      changed,
    )

-- the entry at a place goes
pub table-remove : (next : ℤ) (es : List (Filter × Listen)) (i : ℕ) → IsTable next es →
    IsTable next (remove es i) × (listens_of (remove es i) ≡ remove (listens_of es) i)
table-remove next es i t =
    let changed = map-remove (λ (e : Filter × Listen). e.1) es i in (
      record {
        keys = map-remove (λ (e : Filter × Listen). e.0) es i ∙ ap (λ ks. remove ks i) t.keys
            ∙ sym (map-remove filter_of (listens_of es) i) ∙ ap (map filter_of) (sym changed);
        standing = subst (λ l. IsStanding (standing next l)) (sym changed)
            (standing-remove next (listens_of es) i t.standing);
      },
      changed,
    )

insert-last : (es : List (Filter × Listen)) (f : Filter) (l : Listen)
    → AllByRecursion (λ x. same_filter f x ≡ false) (asked_of es)
    → insert_entry same_filter es f l ≡ es ++ (f, l) ∷ []
insert-last [] f l h = refl
insert-last (x ∷ xs) f l h =
    ap (λ (b : Bool). cond b ((x.0, l) ∷ xs) (x ∷ insert_entry same_filter xs f l)) h.0
    ∙ ap (λ es. x ∷ es) (insert-last xs f l h.1)

-- one listen more
pub table-push : (next : ℤ) (es new : List (Filter × Listen)) (f : Filter) (l : Listen) → IsTable next es
    → f ≡ filter_of l →
    IsStanding (standing next (listens_of es ++ l ∷ [])) → new ≡ insert_entry same_filter es f l →
    IsTable next new × (listens_of new ≡ listens_of es ++ l ∷ [])
table-push next es new f l t fl s e =
    let asked = distinct-last same_filter same_filter_equiv (map filter_of (listens_of es)) (filter_of l)
    (subst (IsDistinct same_filter) (map_push filter_of (listens_of es) l) s.filters_differ) in
    let others = subst (AllByRecursion (λ x. same_filter (filter_of l) x ≡ false)) (sym t.keys) asked in
    let all : new ≡ es ++ (f, l) ∷ [] = e
    ∙ insert-last es f l (subst (λ g. AllByRecursion (λ x. same_filter g x ≡ false) (asked_of es))
    (sym fl) others) in
    let changed : listens_of new ≡ listens_of es ++ l ∷ [] =
    ap listens_of all ∙ map_push (λ (x : Filter × Listen). x.1) es (f, l) in (
      record {
        keys = ap asked_of all ∙ map_push (λ (x : Filter × Listen). x.0) es (f, l)
            ∙ ap (λ ks. ks ++ f ∷ []) t.keys
            ∙ ap (λ g. map filter_of (listens_of es) ++ g ∷ []) fl
            ∙ sym (map_push filter_of (listens_of es) l) ∙ ap (map filter_of) (sym changed);
        standing = subst (λ k. IsStanding (standing next k)) (sym changed) s;
      },
      changed,
    )
