-- The table of what is heard has the channels of the rows: how many they are, and when a row is another.
use Rattle.std.proofs.Common.{◌≡◌, ◌≢◌, ℕ, zero, suc, ◌+◌, ◌*◌, ◌<◌, ◌≤◌, ◌⊎◌, inl, inr, Bool, true, false, eqb, List, [], ◌∷◌, ◌++◌, get_or, length, map, ℤ, refl, ap, sym, ◌∙◌, subst, arith, add-zero, zero-add, length-append}
use Rattle.std.specs.Prelude.{◌&&◌, ◌||◌, not, slice_set}
use Rattle.std.specs.List.Sorted.{IsStrictlySortedBy}
use Rattle.std.specs.Ordering.{int_eq}
use Rattle.std.proofs.Math.ListN.{length-set}
use Rattle.std.proofs.lemmas.Bool.Decides.{eqb_tells}
use Rattle.std.proofs.lemmas.Cmp.{eq_by_cmp_equiv}
use Rattle.std.proofs.lemmas.List.{get_or-set_other, get_or-set_same, length-map}
use Rattle.std.proofs.lemmas.List.Folds.{list_any-append}
use Rattle.std.proofs.lemmas.Map.Keys.{IsDistinct-from_sorted}
use Rattle.std.proofs.lemmas.Map.Made.{length-le_from_is_member}
use Rattle.lsl_region.specs.declared.chat_index.ChannelEntry.{ChannelEntry}
use Rattle.lsl_region.specs.Hearing.{IsTable, has_channel, is_in_row, most_channels}
use Rattle.lsl_region.specs.Table.{IsOrdered, has_entry, heard, heard_order, is_heard, same_heard}
use Rattle.lsl_region.proofs.Table.{order-total, same-place}

-- all that the rows have, from this place on
entries : ℕ → List (List ℤ) → List ChannelEntry
entries n [] = []
entries n (r ∷ rs) = map (λ c. heard c n) r ++ entries (n + 1) rs

entries-few : (n : ℕ) (rows : List (List ℤ)) → ((k : ℕ) → length (get_or rows k []) ≤ most_channels)
    → length (entries n rows) ≤ most_channels * length rows
unfolding entries
entries-few n [] few = omega arith
entries-few n (r ∷ rs) few =
    let one : length r ≤ most_channels = few 0 in
    let more : length (entries (n + 1) rs) ≤ most_channels * length rs = entries-few (n + 1) rs (λ k. few (suc k)) in
    omega (arith, one, more, length-append (map (λ c. heard c n) r) (entries (n + 1) rs), length-map r (λ c. heard c n))

row-has : (r : List ℤ) (n : ℕ) (c : ℤ) → has_entry (map (λ d. heard d n) r) (heard c n) ≡ has_channel r c
row-has [] n c = refl
row-has (d ∷ r) n c = ap (λ (b : Bool). b || has_entry (map (λ d. heard d n) r) (heard c n)) (same-place c d n)
    ∙ ap (λ (b : Bool). int_eq c d || b) (row-has r n c)

or-true : (a b : Bool) → b ≡ true → (a || b) ≡ true
or-true true b e = refl
or-true false b e = e

entries-have : (n : ℕ) (rows : List (List ℤ)) (c : ℤ) (k : ℕ) → is_in_row rows c k ≡ true
    → has_entry (entries n rows) (heard c (n + k)) ≡ true
unfolding entries
entries-have n [] c k e = absurd cc
entries-have n (r ∷ rs) c zero e =
    ap (λ (p : ℕ). has_entry (map (λ d. heard d n) r ++ entries (n + 1) rs) (heard c p)) (add-zero n)
    ∙ list_any-append (same_heard (heard c n)) (map (λ d. heard d n) r) (entries (n + 1) rs)
    ∙ ap (λ (b : Bool). b || has_entry (entries (n + 1) rs) (heard c n)) (row-has r n c ∙ e)
entries-have n (r ∷ rs) c (suc k) e =
    let at : n + suc k ≡ (n + 1) + k = omega arith in
    ap (λ (p : ℕ). has_entry (map (λ d. heard d n) r ++ entries (n + 1) rs) (heard c p)) at
    ∙ list_any-append (same_heard (heard c ((n + 1) + k))) (map (λ d. heard d n) r) (entries (n + 1) rs)
    ∙ or-true (has_entry (map (λ d. heard d n) r) (heard c ((n + 1) + k)))
    (has_entry (entries (n + 1) rs) (heard c ((n + 1) + k))) (entries-have (n + 1) rs c k e)

-- there are at most this many for each row
pub table-few : (rows : List (List ℤ)) (table : List ChannelEntry) (capacity : ℕ) → IsTable rows table capacity
    → length table ≤ most_channels * length rows
table-few rows table capacity t =
    let fewer : length table ≤ length (entries 0 rows)
    = length-le_from_is_member (eq_by_cmp_equiv order-total) table (entries 0 rows)
    (IsDistinct-from_sorted heard_order table t.ordered)
    (λ q e. sym (ap (λ (p : ℕ). has_entry (entries 0 rows) (heard q.channel p)) (zero-add q.place))
    ∙ entries-have 0 rows q.channel q.place (sym (t.exact q.channel q.place) ∙ e)) in
    let few : length (entries 0 rows) ≤ most_channels * length rows = entries-few 0 rows t.few in
    omega (arith, fewer, few)

-- what stayed and what came are what is there
now-there : (o n : Bool) → ((o && (n || not o)) || (n && not o)) ≡ n
now-there true true = refl
now-there true false = refl
now-there false true = refl
now-there false false = refl

-- a row is another
module _ (rows : List (List ℤ)) (old between new : List ChannelEntry) (before after : ℕ) (place : ℕ)
    (row channels : List ℤ)
    (table : IsTable rows old before) (there : place < length rows) (at : row ≡ get_or rows place [])
    (few : length channels ≤ most_channels) (room : before ≤ after) (ordered : IsOrdered new)
    (out-here : (c : ℤ) → is_heard between c place
    ≡ (is_heard old c place && (has_channel channels c || not (has_channel row c))))
    (out-there : (c : ℤ) (p : ℕ) → p ≢ place → is_heard between c p ≡ is_heard old c p)
    (in-here : (c : ℤ) → is_heard new c place
    ≡ (is_heard between c place || (has_channel channels c && not (has_channel row c))))
    (in-there : (c : ℤ) (p : ℕ) → p ≢ place → is_heard new c p ≡ is_heard between c p) where
  abbrev told : List (List ℤ)
  told = slice_set rows place channels

  told-here : get_or told place [] ≡ channels
  told-here = get_or-set_same rows place channels [] there

  told-there : (p : ℕ) → p ≢ place → get_or told p [] ≡ get_or rows p []
  told-there p n = get_or-set_other rows place p channels [] n

  before-here : (c : ℤ) → is_heard old c place ≡ has_channel row c
  before-here c = table.exact c place ∙ ap (λ (r : List ℤ). has_channel r c) (sym at)

  exact-here : (c : ℤ) → is_heard new c place ≡ is_in_row told c place
  exact-here c = in-here c
      ∙ ap (λ (b : Bool). b || (has_channel channels c && not (has_channel row c)))
      (out-here c ∙ ap (λ (b : Bool). b && (has_channel channels c || not (has_channel row c))) (before-here c))
      ∙ now-there (has_channel row c) (has_channel channels c)
      ∙ ap (λ (r : List ℤ). has_channel r c) (sym told-here)

  exact-there : (c : ℤ) (p : ℕ) → p ≢ place → is_heard new c p ≡ is_in_row told c p
  exact-there c p n = in-there c p n ∙ out-there c p n ∙ table.exact c p
      ∙ ap (λ (r : List ℤ). has_channel r c) (sym (told-there p n))

  exact-at : (c : ℤ) (p : ℕ) → ((eqb p place ≡ true) × (p ≡ place)) ⊎ ((eqb p place ≡ false) × (p ≢ place))
      → is_heard new c p ≡ is_in_row told c p
  exact-at c p (inl e) = subst (λ (z : ℕ). is_heard new c z ≡ is_in_row told c z) (sym e.1) (exact-here c)
  exact-at c p (inr e) = exact-there c p e.1

  few-at : (p : ℕ) → ((eqb p place ≡ true) × (p ≡ place)) ⊎ ((eqb p place ≡ false) × (p ≢ place))
      → length (get_or told p []) ≤ most_channels
  few-at p (inl e) = subst (λ (r : List ℤ). length r ≤ most_channels)
      (sym (ap (λ (z : ℕ). get_or told z []) e.1 ∙ told-here)) few
  few-at p (inr e) = subst (λ (r : List ℤ). length r ≤ most_channels) (sym (told-there p e.1)) (table.few p)

  pub table-told : IsTable told new after
  table-told = record {
    ordered = ordered;
    exact = λ c p. exact-at c p (eqb_tells p place);
    few = λ p. few-at p (eqb_tells p place);
    room = λ h. let k = table.room (omega arith) in omega (arith, k, room, length-set rows place channels);
  }

-- no row at all
pub table-none : (rows : List (List ℤ)) (table : List ChannelEntry) (capacity : ℕ) → rows ≡ [] → table ≡ []
    → IsTable rows table capacity
unfolding IsStrictlySortedBy
table-none rows table capacity e f =
    subst (λ (r : List (List ℤ)). IsTable r table capacity) (sym e)
    (subst (λ (t : List ChannelEntry). IsTable [] t capacity) (sym f)
    (record { ordered = tt; exact = λ c p. refl; few = λ p. omega arith; room = λ h. absurd (omega arith) }))
