-- How due times are kept: as a set of entries, and as a map from scripts to times.
use Rattle.std.specs.Prelude.{◌≡◌, ℕ, ◌<◌, ◌^◌, ◌↔◌, true, List, Some}
use Rattle.std.specs.declared.ops.Bound.TheVariants.{Included, Unbounded}
use Rattle.std.specs.BTreeMap.{BTreeMap, get}
use Rattle.std.specs.BTreeSet.{BTreeSet, contains, keys_between}
use Rattle.std.specs.List.{All}
use Rattle.std.specs.List.Sorted.{IsStrictlySortedBy}
use Rattle.std.specs.Ordering.{nat_cmp}
use Rattle.lsl_post.specs.Due.{entry_cmp}

-- the entries up to this time, those of the greatest script too
abbrev pub entries_by : ℕ → BTreeSet (ℕ × ℕ) → List (ℕ × ℕ)
entries_by clock order = keys_between entry_cmp Unbounded (Included (clock, 4294967295)) order

-- the times of scripts are those of the entries
pub record AreTimes (order : BTreeSet (ℕ × ℕ)) (times : BTreeMap ℕ ℕ) : Type 0 where
  pub same : (script at : ℕ) → (get nat_cmp times script ≡ Some at) ↔ (contains entry_cmp order (at, script) ≡ true)
  pub rising : IsStrictlySortedBy entry_cmp order.keys
  pub scripts : All (λ entry. entry.1 < 2 ^ 32) order.keys
