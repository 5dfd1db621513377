-- The times of scripts beside their entries.
use Rattle.std.proofs.Common.{◌≡◌, ◌≢◌, ℕ, ◌<◌, ◌^◌, true, Option, Some, sym, subst, ◌∙◌, ⊎_elim}
use Rattle.std.specs.Prelude.{◌↔◌, Contains}
use Rattle.std.specs.BTreeMap.{BTreeMap, get, UpdatesBy}
use Rattle.std.specs.BTreeSet.{BTreeSet, contains}
use Rattle.std.specs.List.{All}
use Rattle.std.specs.List.Sorted.{IsStrictlySortedBy}
use Rattle.std.specs.Ordering.{nat_cmp}
use Rattle.std.proofs.lemmas.Bool.Decides.{eqb_tells}
use Rattle.std.proofs.lemmas.Map.Views.{btree_set_contains_iff}
use Rattle.lsl_post.specs.Due.{entry_cmp, IsIndex, Puts}
use Rattle.lsl_post.specs.DueTables.{AreTimes}
use Rattle.lsl_post.proofs.DueOrder.{entry_cmp-total, entry_cmp-exact, is_at-other}

-- the script's entry is this one, or none, and those of others stay
pub record IsPut (script : ℕ) (due : Option ℕ) (old new : BTreeSet (ℕ × ℕ)) : Type 0 where
  pub own : (at : ℕ) → (contains entry_cmp new (at, script) ≡ true) ↔ (due ≡ Some at)
  pub others : (at other : ℕ) → other ≢ script
      → contains entry_cmp new (at, other) ≡ contains entry_cmp old (at, other)

-- so is its time
pub record IsTimed (script : ℕ) (due : Option ℕ) (old new : BTreeMap ℕ ℕ) : Type 0 where
  pub own : get nat_cmp new script ≡ due
  pub others : (other : ℕ) → other ≢ script → get nat_cmp new other ≡ get nat_cmp old other

-- the times are those of the entries
abbrev pub AreSame : BTreeSet (ℕ × ℕ) → BTreeMap ℕ ℕ → Type 0
AreSame order times =
    (script at : ℕ) → (get nat_cmp times script ≡ Some at) ↔ (contains entry_cmp order (at, script) ≡ true)

same-put : (script : ℕ) (due : Option ℕ) (order new_order : BTreeSet (ℕ × ℕ)) (times new_times : BTreeMap ℕ ℕ)
    → AreSame order times → IsPut script due order new_order → IsTimed script due times new_times
    → AreSame new_order new_times
same-put script due order new_order times new_times same put timed some at =
    ⊎_elim (λ h. at_script h.1) (λ h. elsewhere h.1) (eqb_tells some script)
  where
    at_script : some ≡ script
        → (get nat_cmp new_times some ≡ Some at) ↔ (contains entry_cmp new_order (at, some) ≡ true)
    at_script e =
        subst (λ (s : ℕ). (get nat_cmp new_times s ≡ Some at) ↔ (contains entry_cmp new_order (at, s) ≡ true)) (sym e)
        (λ t. (put.own at).1 (sym timed.own ∙ t), λ m. timed.own ∙ (put.own at).0 m)

    elsewhere : some ≢ script
        → (get nat_cmp new_times some ≡ Some at) ↔ (contains entry_cmp new_order (at, some) ≡ true)
    elsewhere e =
        let t = timed.others some e in
        let m = put.others at some e in
        (λ h. m ∙ (same some at).0 (sym t ∙ h), λ h. t ∙ (same some at).1 (sym m ∙ h))

pub are_times-put : (script : ℕ) (due : Option ℕ) (order new_order : BTreeSet (ℕ × ℕ)) (times new_times : BTreeMap ℕ ℕ)
    → AreTimes order times → IsPut script due order new_order → IsTimed script due times new_times
    → IsStrictlySortedBy entry_cmp new_order.keys → All (λ entry. entry.1 < 2 ^ 32) new_order.keys
    → AreTimes new_order new_times
are_times-put script due order new_order times new_times are put timed rising scripts = record {
  same = same-put script due order new_order times new_times are.same put timed;
  rising = rising;
  scripts = scripts;
}

contains-iff : (order : BTreeSet (ℕ × ℕ)) (e : ℕ × ℕ) → (contains entry_cmp order e ≡ true) ↔ Contains order.keys e
contains-iff order e = btree_set_contains_iff entry_cmp-total entry_cmp-exact order e

pub puts-from : (script : ℕ) (due : Option ℕ) (order new_order : BTreeSet (ℕ × ℕ)) → IsPut script due order new_order
    → Puts script due order.keys new_order.keys
puts-from script due order new_order put = record {
  own = λ at. (
    λ h. (put.own at).0 ((contains-iff new_order (at, script)).1 h),
    λ h. (contains-iff new_order (at, script)).0 ((put.own at).1 h),
  );
  others = λ at other apart. (
    λ h. (contains-iff order (at, other)).0
        (sym (put.others at other apart) ∙ (contains-iff new_order (at, other)).1 h),
    λ h. (contains-iff new_order (at, other)).0 (put.others at other apart ∙ (contains-iff order (at, other)).1 h),
  );
}

pub index-from : (order : BTreeSet (ℕ × ℕ)) (times : BTreeMap ℕ ℕ) → AreTimes order times → IsIndex order.keys
index-from order times are = record {
  rising = are.rising;
  once = λ script a b first second. one script a b first second;
}
  where
    one : (script a b : ℕ) → Contains order.keys (a, script) → Contains order.keys (b, script) → a ≡ b
    one script a b first second =
        let at_a = (are.same script a).1 ((contains-iff order (a, script)).1 first) in
        let at_b = (are.same script b).1 ((contains-iff order (b, script)).1 second) in
        cc

-- the time of a script that is put
pub timed-from : (script : ℕ) (due : Option ℕ) (times new_times : BTreeMap ℕ ℕ)
    → UpdatesBy nat_cmp (nat_cmp script) times new_times due → IsTimed script due times new_times
timed-from script due times new_times updates = record {
  own = updates.1;
  others = λ other apart. updates.2 other (is_at-other script other (λ e. apart (sym e)));
}
