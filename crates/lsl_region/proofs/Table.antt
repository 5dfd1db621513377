-- The order of what is heard, and what is next in a table.
use Rattle.std.proofs.Common.{◌≡◌, ◌≢◌, ℕ, ◌<◌, ◌≤◌, ◌⊎◌, inl, inr, Bool, true, false, List, length, get_or, ℤ, refl, ap, sym, ◌∙◌, subst, arith}
use Rattle.std.specs.Prelude.{◌&&◌, ◌||◌, ◌<ℤ◌, if◌then◌else◌, not, MatchResult, Some, Result, Ok, Err, slice_get}
use Rattle.std.specs.Cmp.{IsTotalOrder, int_ranks, tied_then}
use Rattle.std.specs.Cmp.Derive.{one_truth}
use Rattle.std.specs.List.Sorted.{IsBinarySearchResult, IsSearchInRange}
use Rattle.std.specs.Ordering.{int_cmp, int_eq, is_eq, MatchOrdering, nat_cmp, ordering_reverse, ordering_then}
use Rattle.std.specs.declared.cmp.Ordering.{Ordering}
use Rattle.std.specs.declared.cmp.Ordering.TheVariants.{Less, Equal, Greater}
use Rattle.std.proofs.lemmas.Bool.Decides.{Decides-int_eq, eqb_tells, leb_tells, nat_tests}
use Rattle.std.proofs.lemmas.Cmp.{int_cmp_total, nat_cmp_total, on_total, then_total, tied_itself}
use Rattle.std.proofs.lemmas.List.Folds.{Any-from_list_any, list_any_at}
use Rattle.std.specs.Int.Signed.{<ℤ_irrefl}
use Rattle.std.proofs.lemmas.Int.{ints}
use Rattle.std.proofs.lemmas.Map.Lookups.{exact_signed, exact_unsigned}
use Rattle.std.proofs.lemmas.Option.{get_or_from_slice_get, slice_get-get_or, slice_get_cases}
use Rattle.lsl_region.specs.declared.chat_index.ChannelEntry.{ChannelEntry}
use Rattle.lsl_region.specs.Table.{BelongsAt, IsOrdered, StandsAt, has_entry, heard, heard_order, is_heard, no_place, place_of, same_heard}
use Rattle.lsl_region.proofs.Ordered.{and-false, and-true, searchable, sorted-at}

pub order-total : IsTotalOrder heard_order
order-total =
    then_total (on_total (λ (h : ChannelEntry). h.channel) int_cmp_total)
    (on_total (λ (h : ChannelEntry). h.place) nat_cmp_total)

equal-is : (r : Ordering) → is_eq r ≡ true → r ≡ Equal
equal-is Less e = absurd cc
equal-is Equal e = refl
equal-is Greater e = absurd cc

-- two channels are tied where they are equal
channels-tied : (c d : ℤ) → is_eq (int_cmp c d) ≡ int_eq c d
channels-tied c d = one_truth (is_eq (int_cmp c d)) (int_eq c d)
    (λ e. (Decides-int_eq c d).1 (exact_signed c d (equal-is (int_cmp c d) e)))
    (λ e. ap (λ (z : ℤ). is_eq (int_cmp c z)) (sym ((Decides-int_eq c d).0 e))
    ∙ ap is_eq (tied_itself int_cmp_total c))

same-parts : (c d : ℤ) (p q : ℕ) → same_heard (heard c p) (heard d q) ≡ (int_eq c d && is_eq (nat_cmp p q))
same-parts c d p q = sym (tied_then (int_cmp c d) (nat_cmp p q))
    ∙ ap (λ (b : Bool). b && is_eq (nat_cmp p q)) (channels-tied c d)

pub same-place : (c d : ℤ) (p : ℕ) → same_heard (heard c p) (heard d p) ≡ int_eq c d
same-place c d p = same-parts c d p p
    ∙ and-true (int_eq c d) (is_eq (nat_cmp p p)) (ap is_eq (tied_itself nat_cmp_total p))

pub other-place : (c d : ℤ) (p q : ℕ) → p ≢ q → same_heard (heard c p) (heard d q) ≡ false
other-place c d p q n = same-parts c d p q
    ∙ and-false (int_eq c d) (is_eq (nat_cmp p q)) (go (is_eq (nat_cmp p q)) refl) where
      go : (b : Bool) → is_eq (nat_cmp p q) ≡ b → is_eq (nat_cmp p q) ≡ false
      go true e = absurd (n (exact_unsigned p q (equal-is (nat_cmp p q) e)))
      go false e = e

abbrev by-place : ChannelEntry → ChannelEntry → Ordering → Ordering
by-place a b r = ordering_then r (nat_cmp a.place b.place)

-- what is the same is equal
pub same-is : (a b : ChannelEntry) → same_heard a b ≡ true → a ≡ b
same-is a b e = go (int_cmp a.channel b.channel) refl (equal-is (heard_order a b) e) where
  go : (r : Ordering) → int_cmp a.channel b.channel ≡ r → heard_order a b ≡ Equal → a ≡ b
  go Less k h = let bad : Less ≡ Equal = sym (ap (by-place a b) k) ∙ h in absurd cc
  go Greater k h = let bad : Greater ≡ Equal = sym (ap (by-place a b) k) ∙ h in absurd cc
  go Equal k h =
      let channel : a.channel ≡ b.channel = exact_signed a.channel b.channel k in
      let place : a.place ≡ b.place = exact_unsigned a.place b.place (sym (ap (by-place a b) k) ∙ h) in
      ap (λ (c : ℤ). heard c a.place) channel ∙ ap (λ (p : ℕ). heard b.channel p) place

-- the lesser of two is on a lesser channel, or on the same at a lesser place
less-parts : (a b : ChannelEntry) → heard_order a b ≡ Less
    → (a.channel <ℤ b.channel) ⊎ ((a.channel ≡ b.channel) × (a.place < b.place))
less-parts a b = go (int_cmp a.channel b.channel) (int_ranks a.channel b.channel) where
  go : (r : Ordering) → MatchOrdering r (a.channel <ℤ b.channel) (a.channel ≡ b.channel) (b.channel <ℤ a.channel)
      → ordering_then r (nat_cmp a.place b.place) ≡ Less
      → (a.channel <ℤ b.channel) ⊎ ((a.channel ≡ b.channel) × (a.place < b.place))
  go Less m h = inl m
  go Equal m h = inr (m, grind (arith, nat_tests, h))
  go Greater m h = absurd cc

-- what a binary search finds
pub searched : (table : List ChannelEntry) (h : ChannelEntry) (r : Result ℕ ℕ) → IsOrdered table
    → IsSearchInRange r (length table) → IsBinarySearchResult (λ other. heard_order other h) table r
    → MatchResult r (StandsAt table h) (BelongsAt table h)
searched table h (Ok at) o b p = record { within = b; is = same-is (get_or table at h) h (ap is_eq (p h)) }
searched table h (Err at) o b p =
    let q = p (searchable heard_order order-total table h o) in
    record { within = b; before = q.0; behind = q.1 }

-- an entry that is in the table has a place in it
pub record Stands (table : List ChannelEntry) (h : ChannelEntry) : Type 0 where
  pub at : ℕ
  pub within : at < length table
  pub is : get_or table at h ≡ h

pub entry-at : (table : List ChannelEntry) (h : ChannelEntry) → has_entry table h ≡ true → Stands table h
entry-at table h e =
    let a = Any-from_list_any (same_heard h) table e in
    let is : h ≡ a.1 = same-is h a.1 a.4 in
    record { at = a.0; within = a.2; is = subst (λ (z : ChannelEntry). get_or table a.0 z ≡ z) (sym is) a.3 }

own-order : (h : ChannelEntry) → heard_order h h ≡ Less → ⊥
own-order h e = let bad : Less ≡ Equal = sym e ∙ tied_itself order-total h in cc

module _ (table : List ChannelEntry) (h : ChannelEntry) (at : ℕ) (belongs : BelongsAt table h at) where
  below : (k : ℕ) → get_or table k h ≡ h → k < at → ⊥
  below k is l =
      own-order h (sym (ap (λ (z : ChannelEntry). heard_order z h) is) ∙ belongs.before k h (omega arith) l)

  above : (k : ℕ) → get_or table k h ≡ h → at ≤ k → k < length table → ⊥
  above k is l m =
      let bad : Greater ≡ Equal
      = sym (belongs.behind k h l m) ∙ ap (λ (z : ChannelEntry). heard_order z h) is ∙ tied_itself order-total h in
      cc

  absent : (b : Bool) → has_entry table h ≡ b → has_entry table h ≡ false
  absent true e =
      let s = entry-at table h e in
      elim (leb_tells at s.at) [ inl l ↦ absurd (above s.at s.is l.1 s.within) | inr l ↦ absurd (below s.at s.is l.1) ]
  absent false e = e

  absent-of : (q : ChannelEntry) (b : Bool) → same_heard q h ≡ b
      → has_entry table q ≡ (has_entry table q && not (same_heard q h))
  absent-of q true e =
      let is : q ≡ h = same-is q h e in
      let no : has_entry table q ≡ false
      = ap (λ (z : ChannelEntry). has_entry table z) is ∙ absent (has_entry table h) refl in
      no ∙ sym (ap (λ (b : Bool). b && not (same_heard q h)) no)
  absent-of q false e = sym (and-true (has_entry table q) (not (same_heard q h)) (ap not e))

  -- an entry that isn't in the table is gone
  pub none-forgotten : (q : ChannelEntry) → has_entry table q ≡ (has_entry table q && not (same_heard q h))
  none-forgotten q = absent-of q (same_heard q h) refl

pub or-false : (a b : Bool) → b ≡ false → (a || b) ≡ a
or-false true b e = refl
or-false false b e = e

module _ (table : List ChannelEntry) (h : ChannelEntry) (at : ℕ) (stands : StandsAt table h at) where
  stands-of : (q : ChannelEntry) (b : Bool) → same_heard q h ≡ b → has_entry table q
      ≡ (has_entry table q || same_heard q h)
  stands-of q true e =
      let here : get_or table at h ≡ h = stands.is in
      let yes : has_entry table q ≡ true
      = list_any_at (same_heard q) table at h stands.within (ap (same_heard q) here ∙ e) in
      yes ∙ sym (ap (λ (b : Bool). b || same_heard q h) yes)
  stands-of q false e = sym (or-false (has_entry table q) (same_heard q h) e)

  -- one that is in the table is noted
  pub noted-before : (q : ChannelEntry) → has_entry table q ≡ (has_entry table q || same_heard q h)
  noted-before q = stands-of q (same_heard q h) refl

-- what comes next in the table, after where an entry belongs
module _ (table : List ChannelEntry) (ordered : IsOrdered table) (channel : ℤ) (from at : ℕ)
    (belongs : BelongsAt table (heard channel from) at) where
  abbrev next : ℕ
  next = place_of channel (slice_get table at)

  module _ (x : ChannelEntry) (there : at < length table) (is : slice_get table at ≡ Some x)
      (read : get_or table at x ≡ x) where
    next-is : next ≡ (if int_eq x.channel channel then x.place else no_place)
    next-is = ap (place_of channel) is

    behind : heard_order (heard channel from) x ≡ Less
    behind = order-total.antisymm (heard channel from) x
        ∙ ap ordering_reverse (sym (ap (λ (z : ChannelEntry). heard_order z (heard channel from)) read)
        ∙ belongs.behind at x (omega arith) there)

    next-found : (b : Bool) → int_eq x.channel channel ≡ b
        → (next ≡ no_place) ⊎ (is_heard table channel next ≡ true)
    next-found true e =
        let place : next ≡ x.place = next-is ∙ ap (λ (b : Bool). if b then x.place else no_place) e in
        let same : x ≡ heard channel next
        = ap (λ (c : ℤ). heard c x.place) ((Decides-int_eq x.channel channel).0 e)
        ∙ ap (heard channel) (sym place) in
        inr (list_any_at (same_heard (heard channel next)) table at x there
        (ap (same_heard (heard channel next)) (read ∙ same)
        ∙ ap is_eq (tied_itself order-total (heard channel next))))
    next-found false e = inl (next-is ∙ ap (λ (b : Bool). if b then x.place else no_place) e)

    next-there : int_eq x.channel channel ≡ true → next ≡ x.place
    next-there e = next-is ∙ ap (λ (b : Bool). if b then x.place else no_place) e

    -- no entry on the channel is between
    between : (place k : ℕ) → at < k → k < length table → get_or table k (heard channel place) ≡ heard channel place
        → place < next → ⊥
    between place k l m e n =
        let here : get_or table at (heard channel place) ≡ x
        = get_or_from_slice_get table at x (heard channel place) is in
        let less : heard_order x (heard channel place) ≡ Less
        = sym (ap (λ (z : ChannelEntry). heard_order z (heard channel place)) here)
        ∙ sym (ap (heard_order (get_or table at (heard channel place))) e)
        ∙ sorted-at heard_order order-total table ordered at k (heard channel place) l m in
        elim (less-parts x (heard channel place) less) [
          | inl a ↦ elim (less-parts (heard channel from) x behind) [
            | inl b ↦ absurd (omega (arith, ints, a, b))
            | inr b ↦ <ℤ_irrefl (subst (λ (z : ℤ). x.channel <ℤ z) b.0 a)
          ]
          | inr a ↦
              let to : next ≡ x.place = next-there ((Decides-int_eq x.channel channel).1 a.0) in
              absurd (omega (arith, a.1, to, n))
        ]

    -- nor is it here at a place before the next
    here-passed : (place : ℕ) → get_or table at (heard channel place) ≡ heard channel place → place < next → ⊥
    here-passed place e n =
        let same : x ≡ heard channel place = sym (get_or_from_slice_get table at x (heard channel place) is) ∙ e in
        let to : next ≡ x.place
        = next-there ((Decides-int_eq x.channel channel).1 (ap (λ (z : ChannelEntry). z.channel) same)) in
        let at-place : x.place ≡ place = ap (λ (z : ChannelEntry). z.place) same in
        omega (arith, to, at-place, n)

  before-passed : (place k : ℕ) → get_or table k (heard channel place) ≡ heard channel place → k < at → from ≤ place → ⊥
  before-passed place k e l f =
      elim (less-parts (heard channel place) (heard channel from)
      (sym (ap (λ (z : ChannelEntry). heard_order z (heard channel from)) e)
      ∙ belongs.before k (heard channel place) (omega arith) l)) [
        | inl a ↦ <ℤ_irrefl a
        | inr a ↦ absurd (omega (arith, a.1, f))
      ]

  from-here : (place k : ℕ) → get_or table k (heard channel place) ≡ heard channel place → at ≤ k → k < length table
      → place < next → ⊥
  from-here place k e l m n =
      let x = get_or table at (heard channel place) in
      let there : at < length table = omega (arith, l, m) in
      let is : slice_get table at ≡ Some x = slice_get-get_or table at (heard channel place) there in
      let read : get_or table at x ≡ x = get_or_from_slice_get table at x x is in
      elim (eqb_tells at k) [
        | inl s ↦ here-passed x there is read place
            (subst (λ (z : ℕ). get_or table z (heard channel place) ≡ heard channel place) (sym s.1) e) n
        | inr s ↦ between x there is read place k (omega (arith, l, s.1)) m e n
      ]

  passed-by : (place : ℕ) → from ≤ place → place < next → (b : Bool) → is_heard table channel place ≡ b
      → is_heard table channel place ≡ false
  passed-by place f n false e = e
  passed-by place f n true e =
      let s = entry-at table (heard channel place) e in
      elim (leb_tells at s.at) [
        | inl l ↦ absurd (from-here place s.at s.is l.1 s.within n)
        | inr l ↦ absurd (before-passed place s.at s.is l.1 f)
      ]

  pub next-passed : (place : ℕ) → from ≤ place → place < next → is_heard table channel place ≡ false
  next-passed place f n = passed-by place f n (is_heard table channel place) refl

  pub next-heard : (next ≡ no_place) ⊎ (is_heard table channel next ≡ true)
  next-heard = elim (slice_get_cases table at).1 [
    | inl s ↦ next-found s.0 s.1 s.2 s.3 (int_eq s.0.channel channel) refl
    | inr s ↦ inl (ap (place_of channel) s.1)
  ]
