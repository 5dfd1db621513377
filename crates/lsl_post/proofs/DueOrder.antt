-- Entries in the order of their times and scripts.
use Rattle.std.proofs.Common.{◌≡◌, ◌≢◌, ℕ, suc, ◌<◌, ◌^◌, Bool, true, false, cond, List, [], ◌∷◌, refl, sym, ap, subst, ◌∙◌, arith}
use Rattle.std.specs.Prelude.{filter, nat_le}
use Rattle.std.specs.declared.ops.Bound.TheVariants.{Included, Unbounded}
use Rattle.std.specs.BTreeMap.{is_at}
use Rattle.std.specs.BTreeMap.Range.{range_contains}
use Rattle.std.specs.Set.{remove_key}
use Rattle.std.specs.BTreeSet.{BTreeSet, contains, insert_key, keys_between, IsOrdered, UpdatesBy as UpdatesKeys}
use Rattle.std.specs.Cmp.{IsTotalOrder, nat_cmp_total, on_total, then_total}
use Rattle.std.specs.List.{All}
use Rattle.std.specs.Ordering.{nat_cmp}
use Rattle.std.proofs.lemmas.Bool.Decides.{nat_tests}
use Rattle.std.proofs.lemmas.Map.Lookups.{CmpEqualImpliesEq, btree_set_from_contains, exact_pairs, exact_unsigned}
use Rattle.std.proofs.lemmas.Map.Views.{tells_apart, All-insert_key, All-remove_key}
use Rattle.lsl_post.specs.Due.{entry_cmp, is_due}

pub entry_cmp-total : IsTotalOrder entry_cmp
entry_cmp-total = then_total (on_total (λ (e : ℕ × ℕ). e.0) nat_cmp_total) (on_total (λ (e : ℕ × ℕ). e.1) nat_cmp_total)

pub entry_cmp-exact : CmpEqualImpliesEq entry_cmp
entry_cmp-exact = exact_pairs nat_cmp nat_cmp exact_unsigned exact_unsigned

-- an entry is at no other one
pub is_at-apart : (k q : ℕ × ℕ) → k ≢ q → is_at (entry_cmp k) q ≡ false
is_at-apart k q apart = decided (is_at (entry_cmp k) q) refl
  where
    decided : (b : Bool) → is_at (entry_cmp k) q ≡ b → is_at (entry_cmp k) q ≡ false
    decided true e = absurd (apart (tells_apart entry_cmp-exact k q e))
    decided false e = e

pub is_at-other : (script other : ℕ) → script ≢ other → is_at (nat_cmp script) other ≡ false
is_at-other script other apart = decided (is_at (nat_cmp script) other) refl
  where
    decided : (b : Bool) → is_at (nat_cmp script) other ≡ b → is_at (nat_cmp script) other ≡ false
    decided true e = absurd (apart (tells_apart exact_unsigned script other e))
    decided false e = e

-- an entry that came and went leaves the entries as they were
pub gone-again : (k : ℕ × ℕ) (order mid new_order : BTreeSet (ℕ × ℕ)) → IsOrdered entry_cmp order
    → IsOrdered entry_cmp new_order → contains entry_cmp order k ≡ false
    → UpdatesKeys entry_cmp (entry_cmp k) order mid true → UpdatesKeys entry_cmp (entry_cmp k) mid new_order false
    → new_order.keys ≡ order.keys
gone-again k order mid new_order rising new_rising not_there come gone =
    btree_set_from_contains entry_cmp-total new_order order new_rising rising same entry_cmp-exact
  where
    same : (q : ℕ × ℕ) → contains entry_cmp new_order q ≡ contains entry_cmp order q
    same q = decided (is_at (entry_cmp k) q) refl
      where
        decided : (b : Bool) → is_at (entry_cmp k) q ≡ b
            → contains entry_cmp new_order q ≡ contains entry_cmp order q
        decided true e =
            let equal = tells_apart entry_cmp-exact k q e in
            subst (λ (p : ℕ × ℕ). contains entry_cmp new_order p ≡ contains entry_cmp order p) equal
            (gone.1 ∙ sym not_there)
        decided false e = gone.2 q e ∙ come.2 q e

-- tests that agree on a list keep the same of it
filter-same : (p q : ℕ × ℕ → Bool) (entries : List (ℕ × ℕ)) → All (λ e. p e ≡ q e) entries
    → filter p entries ≡ filter q entries
filter-same p q [] each = refl
filter-same p q (e ∷ entries) each =
    let here : p e ≡ q e = each 0 e (omega arith) in
    let rest = filter-same p q entries (λ k d h. each (suc k) d (omega arith)) in
    ap (λ (t : List (ℕ × ℕ)). cond (p e) (e ∷ t) t) rest
    ∙ ap (λ (b : Bool). cond b (e ∷ filter q entries) (filter q entries)) here

due-within : (clock at script : ℕ) → script < 2 ^ 32
    → range_contains entry_cmp Unbounded (Included (clock, 4294967295)) (at, script) ≡ nat_le at clock
due-within clock at script small = grind (arith, nat_tests)

pub keys_between-due : (clock : ℕ) (order : BTreeSet (ℕ × ℕ)) → All (λ entry. entry.1 < 2 ^ 32) order.keys
    → keys_between entry_cmp Unbounded (Included (clock, 4294967295)) order ≡ filter (is_due clock) order.keys
keys_between-due clock order scripts =
    filter-same (range_contains entry_cmp Unbounded (Included (clock, 4294967295))) (is_due clock) order.keys
    (λ k d h. due-within clock _ _ (scripts k d h))

-- scripts stay in their range
pub remove-scripts : (at script : ℕ) (order new_order : BTreeSet (ℕ × ℕ)) → All (λ entry. entry.1 < 2 ^ 32) order.keys
    → new_order.keys ≡ remove_key (is_at (entry_cmp (at, script))) order.keys
    → All (λ entry. entry.1 < 2 ^ 32) new_order.keys
remove-scripts at script order new_order scripts e =
    subst (λ (entries : List (ℕ × ℕ)). All (λ entry. entry.1 < 2 ^ 32) entries) (sym e)
    (All-remove_key (is_at (entry_cmp (at, script))) (λ entry. entry.1 < 2 ^ 32) order.keys scripts)

pub insert-scripts : (at script : ℕ) (order new_order : BTreeSet (ℕ × ℕ)) → All (λ entry. entry.1 < 2 ^ 32) order.keys
    → script < 2 ^ 32 → new_order.keys ≡ insert_key entry_cmp order.keys (at, script)
    → All (λ entry. entry.1 < 2 ^ 32) new_order.keys
insert-scripts at script order new_order scripts small e =
    subst (λ (entries : List (ℕ × ℕ)). All (λ entry. entry.1 < 2 ^ 32) entries) (sym e)
    (All-insert_key entry_cmp (at, script) (λ entry. entry.1 < 2 ^ 32) order.keys scripts small)
