-- Sums of gaps, and the cursor that goes along them.
use Rattle.std.proofs.Common.{◌≡◌, ℕ, zero, suc, ◌+◌, ◌-◌, ◌%◌, ◌<◌, ◌≤◌, ◌⊎◌, inl, inr, Bool, true, false, List, [], ◌∷◌, length, get_or, nat_eq, refl, ap, sym, ◌∙◌, subst, arith, eq-eqb, leb}
use Rattle.std.specs.Prelude.{min}
use Rattle.std.specs.List.{range_with_len}
use Rattle.std.proofs.Math.Nat.{mod-lt, suc-mod}
use Rattle.std.proofs.lemmas.Bool.Decides.{leb_tells, nat_tests}
use Rattle.std.proofs.lemmas.List.Folds.{Any-from_list_any, list_any_at}
use Rattle.std.proofs.lemmas.List.FromFn.{get_or-range_with_len, length-range_with_len, sum_by-map-range_with_len_more}
use Rattle.lsl_region.specs.Pausing.{AreGaps, Counts, Cursor, HasPassed, IsCursor, IsWithin, Tally, gap_at, is_pausing, most_saves, sum_of_gaps, with_gaps, with_save, with_segment}

-- each gap counts
gap-some : (gaps : List ℕ) (place : ℕ) → AreGaps gaps → 0 < length gaps → 0 < gap_at gaps place
gap-some gaps place some there = some (place % length gaps) 0 (mod-lt place there)

-- one gap more
sum-none : (gaps : List ℕ) → sum_of_gaps gaps 0 ≡ 0
unfolding sum_of_gaps
sum-none gaps = refl

sum-more : (gaps : List ℕ) (count : ℕ) → sum_of_gaps gaps (count + 1) ≡ sum_of_gaps gaps count + gap_at gaps count
unfolding sum_of_gaps
sum-more gaps count = sum_by-map-range_with_len_more (λ x. x) (gap_at gaps) 0 count count (omega arith)

-- more gaps sum up to more
sum-grows : (gaps : List ℕ) (count more : ℕ) → AreGaps gaps → 0 < length gaps
    → sum_of_gaps gaps count + more ≤ sum_of_gaps gaps (count + more)
sum-grows gaps count zero some there =
    let e : count + 0 ≡ count = omega arith in
    let k : sum_of_gaps gaps (count + 0) ≡ sum_of_gaps gaps count = ap (sum_of_gaps gaps) e in omega (arith, k)
sum-grows gaps count (suc more) some there =
    let e : count + suc more ≡ (count + more) + 1 = omega arith in
    let k : sum_of_gaps gaps (count + suc more) ≡ sum_of_gaps gaps (count + more) + gap_at gaps (count + more)
    = ap (sum_of_gaps gaps) e ∙ sum-more gaps (count + more) in
    omega (arith, k, sum-grows gaps count more some there, gap-some gaps (count + more) some there)

-- without gaps nothing sums up
sum-empty : (count : ℕ) → sum_of_gaps [] count ≡ 0
sum-empty zero = sum-none []
sum-empty (suc count) =
    let e : suc count ≡ count + 1 = omega arith in
    let k : sum_of_gaps [] (suc count) ≡ sum_of_gaps [] count + 0 = ap (sum_of_gaps []) e ∙ sum-more [] count in
    omega (arith, k, sum-empty count)

-- there are gaps where something sums up
sum-there : (gaps : List ℕ) (count : ℕ) → 0 < sum_of_gaps gaps count → 0 < length gaps
sum-there [] count h = let k = sum-empty count in absurd (omega (arith, h, k))
sum-there (gap ∷ gaps) count h = omega arith

sum-some : (gaps : List ℕ) (count : ℕ) → 0 < sum_of_gaps gaps count → 0 < count
sum-some gaps zero h = let k = sum-none gaps in absurd (omega (arith, h, k))
sum-some gaps (suc count) h = omega arith

-- up to a greater count the sum is at least as great
sum-le : (gaps : List ℕ) (first last : ℕ) → AreGaps gaps → 0 < length gaps → first ≤ last
    → sum_of_gaps gaps first ≤ sum_of_gaps gaps last
sum-le gaps first last some there h =
    let e : first + (last - first) ≡ last = omega arith in
    let k : sum_of_gaps gaps (first + (last - first)) ≡ sum_of_gaps gaps last = ap (sum_of_gaps gaps) e in
    omega (arith, sum-grows gaps first (last - first) some there, k)

-- what is a sum is pausing
pub pausing-sum : (gaps : List ℕ) (number count : ℕ) → AreGaps gaps → 0 < number → number ≡ sum_of_gaps gaps count
    → is_pausing gaps number ≡ true
unfolding is_pausing
pausing-sum gaps number count some h e =
    let there = sum-there gaps count (omega (arith, h, e)) in
    let any = sum-some gaps count (omega (arith, h, e)) in
    let grows : sum_of_gaps gaps 0 + count ≤ sum_of_gaps gaps (0 + count) = sum-grows gaps 0 count some there in
    let same : sum_of_gaps gaps (0 + count) ≡ sum_of_gaps gaps count = ap (sum_of_gaps gaps) (omega arith) in
    let few : count ≤ number = omega (arith, grows, same, sum-none gaps, e) in
    let at : get_or (range_with_len 1 number) (count - 1) 0 ≡ count
    = get_or-range_with_len 1 number (count - 1) 0 (omega (arith, few, any)) ∙ omega (arith, any) in
    list_any_at (λ k. nat_eq number (sum_of_gaps gaps k)) (range_with_len 1 number) (count - 1) 0
    (omega (arith, few, any, length-range_with_len 1 number))
    (ap (λ (k : ℕ). nat_eq number (sum_of_gaps gaps k)) at ∙ eq-eqb number (sum_of_gaps gaps count) e)

-- what is pausing is a sum
pub sum-pausing : (gaps : List ℕ) (number : ℕ) → is_pausing gaps number ≡ true
    → (count : ℕ) × (number ≡ sum_of_gaps gaps count)
unfolding is_pausing
sum-pausing gaps number e =
    let k = Any-from_list_any (λ count. nat_eq number (sum_of_gaps gaps count)) (range_with_len 1 number) e in
    let h : nat_eq number (sum_of_gaps gaps k.1) ≡ true = k.4 in
    (k.1, grind (arith, nat_tests, h))

-- between two sums none is pausing
pausing-none : (gaps : List ℕ) (number whole : ℕ) → AreGaps gaps → 0 < length gaps
    → sum_of_gaps gaps whole < number → number < sum_of_gaps gaps (whole + 1) → is_pausing gaps number ≡ false
pausing-none gaps number whole some there low high = go (is_pausing gaps number) refl where
  none : (count : ℕ) → number ≡ sum_of_gaps gaps count
      → ((leb count whole ≡ true) × (count ≤ whole)) ⊎ ((leb count whole ≡ false) × (whole < count)) → ⊥
  none count e (inl h) = omega (arith, e, low, sum-le gaps count whole some there h.1)
  none count e (inr h) = omega (arith, e, high, sum-le gaps (whole + 1) count some there (omega (arith, h.1)))

  go : (b : Bool) → is_pausing gaps number ≡ b → b ≡ false
  go false e = refl
  go true e = let k = sum-pausing gaps number e in absurd (none k.0 k.1 (leb_tells k.0 whole))

-- without gaps none is
none-empty : (number : ℕ) → is_pausing [] number ≡ true → ⊥
unfolding is_pausing
none-empty zero e = cc
none-empty (suc n) e =
    let k = sum-pausing [] (suc n) e in
    let z = sum-empty k.0 in
    omega (arith, k.1, z)

pub pausing-empty : (number : ℕ) → is_pausing [] number ≡ false
pausing-empty number = go (is_pausing [] number) refl where
  go : (b : Bool) → is_pausing [] number ≡ b → b ≡ false
  go false e = refl
  go true e = absurd (none-empty number e)

-- a segment more
pub record Passes (gaps : List ℕ) (next count number : ℕ) (pausing : Bool) : Type 0 where
  pub is : is_pausing gaps (number + 1) ≡ pausing
  pub within : IsWithin gaps next count
  pub passed : HasPassed gaps next count (number + 1)

-- within a gap
pub passes-on : (gaps : List ℕ) (next count number : ℕ) → AreGaps gaps → next < length gaps
    → count + 1 < get_or gaps next 0 → HasPassed gaps next count number
    → Passes gaps next (count + 1) number false
passes-on [] next count number some there room k = absurd (omega arith)
passes-on (gap ∷ gaps) next count number some there room k =
    let all = gap ∷ gaps in
    let any : 0 < length all = omega arith in
    let g : gap_at all k.0 ≡ get_or all next 0 = ap (λ (n : ℕ). get_or all n 0) (sym k.1) in
    record {
      is = pausing-none all (number + 1) k.0 some any (omega (arith, k.2))
          (omega (arith, k.2, g, room, sum-more all k.0));
      within = (there, room);
      passed = (k.0, k.1, omega (arith, k.2));
    }

-- to a gap's end
next-place : (len next whole : ℕ) → next < len → next ≡ whole % len → (next + 1) % len ≡ (whole + 1) % len
next-place len next whole h e =
    ap (λ (n : ℕ). n % len) (omega arith ∙ ap suc e) ∙ sym (suc-mod whole len) ∙ ap (λ (n : ℕ). n % len) (omega arith)

pub passes-gap : (gaps : List ℕ) (next count number : ℕ) → AreGaps gaps → next < length gaps
    → count + 1 ≡ get_or gaps next 0 → HasPassed gaps next count number
    → Passes gaps ((next + 1) % length gaps) 0 number true
passes-gap [] next count number some there ends k = absurd (omega arith)
passes-gap (gap ∷ gaps) next count number some there ends k =
    let all = gap ∷ gaps in
    let any : 0 < length all = omega arith in
    let g : gap_at all k.0 ≡ get_or all next 0 = ap (λ (n : ℕ). get_or all n 0) (sym k.1) in
    let e : number + 1 ≡ sum_of_gaps all (k.0 + 1) = omega (arith, k.2, g, ends, sum-more all k.0) in
    let in_all = mod-lt (next + 1) any in
    record {
      is = pausing-sum all (number + 1) (k.0 + 1) some (omega arith) e;
      within = (in_all, some ((next + 1) % length all) 0 in_all);
      passed = (k.0 + 1, next-place (length all) next k.0 there k.1, omega (arith, e));
    }

-- where there are gaps the next one is there
pub within-some : (gaps : List ℕ) (next count : ℕ) → 0 < length gaps → IsWithin gaps next count
    → (next < length gaps) × (count < get_or gaps next 0)
within-some [] next count some k = absurd (omega arith)
within-some (gap ∷ gaps) next count some k = k

-- A segment was passed.
abbrev PassedSo : Cursor → Cursor → Bool → Type 0
PassedSo old new pausing =
    (t : Tally) → Counts old t → (pausing ≡ is_pausing t.gaps (t.passed + 1)) × Counts new (with_segment t)

passed-so : (old : Cursor) (next count : ℕ) (pausing : Bool)
    → ((number : ℕ) → HasPassed old.gaps old.next old.count number → Passes old.gaps next count number pausing)
    → PassedSo old (record old { next = next; count = count }) pausing
passed-so old next count pausing all t k =
    let p = all t.passed k.passed in (
      sym p.is ∙ ap (λ (gaps : List ℕ). is_pausing gaps (t.passed + 1)) k.gaps,
      record { gaps = k.gaps; passed = p.passed; saves = k.saves },
    )

-- without gaps
pub passed-none : (c : Cursor) → length c.gaps ≡ 0 → PassedSo c c false
passed-none c none t k = go c.gaps refl none where
  go : (gaps : List ℕ) → c.gaps ≡ gaps → length gaps ≡ 0
      → (false ≡ is_pausing t.gaps (t.passed + 1)) × Counts c (with_segment t)
  go [] e h = (
    sym (pausing-empty (t.passed + 1)) ∙ ap (λ (gaps : List ℕ). is_pausing gaps (t.passed + 1)) (sym e ∙ k.gaps),
    record {
      gaps = k.gaps;
      passed = subst (λ (gaps : List ℕ). HasPassed gaps c.next c.count (t.passed + 1)) (sym e) tt;
      saves = k.saves;
    },
  )
  go (gap ∷ gaps) e h = absurd (omega arith)

-- within a gap
pub passed-on : (c : Cursor) → IsCursor c → 0 < length c.gaps → c.count + 1 < get_or c.gaps c.next 0
    → PassedSo c (record c { count = c.count + 1 }) false
passed-on c is some room = passed-so c c.next (c.count + 1) false
    (λ number k. passes-on c.gaps c.next c.count number is.some (within-some c.gaps c.next c.count some is.within).0
    room k)

-- to a gap's end
pub passed-gap : (c : Cursor) → IsCursor c → 0 < length c.gaps → get_or c.gaps c.next 0 ≤ c.count + 1
    → PassedSo c (record c { next = (c.next + 1) % length c.gaps; count = 0 }) true
passed-gap c is some end =
    let w = within-some c.gaps c.next c.count some is.within in
    passed-so c ((c.next + 1) % length c.gaps) 0 true
    (λ number k. passes-gap c.gaps c.next c.count number is.some w.0 (omega (arith, w.1, end)) k)

pub gap-behind : (c : Cursor) → IsCursor c → 0 < length c.gaps
    → IsCursor (record c { next = (c.next + 1) % length c.gaps; count = 0 })
gap-behind c is some = record { some = is.some; within = go c.gaps is.some some } where
  go : (gaps : List ℕ) → AreGaps gaps → 0 < length gaps → IsWithin gaps ((c.next + 1) % length gaps) 0
  go [] all h = absurd (omega arith)
  go (gap ∷ gaps) all h =
      let there = mod-lt (c.next + 1) h in (there, all ((c.next + 1) % length (gap ∷ gaps)) 0 there)

-- other gaps
pub counts-anew : (c : Cursor) (gaps : List ℕ) (t : Tally) → Counts c t
    → Counts (record c { gaps = gaps; next = 0; count = 0 }) (with_gaps gaps t)
counts-anew c gaps t k = record { gaps = refl; passed = go gaps; saves = k.saves } where
  go : (gaps : List ℕ) → HasPassed gaps 0 0 0
  go [] = tt
  go (gap ∷ gaps) = let k = sum-none (gap ∷ gaps) in (0, omega arith, omega (arith, k))

-- nothing more was saved
pub counts-quiet : (c : Cursor) (t : Tally) → Counts c t → Counts c (with_save false t)
counts-quiet c t k = record {
  gaps = k.gaps;
  passed = k.passed;
  saves = k.saves ∙ ap (λ (n : ℕ). min n most_saves) (omega arith);
}
