-- How rounds of turns end.
use Rattle.std.proofs.Common.{◌≡◌, ℕ, zero, suc, ◌+◌, ◌-◌, ◌<◌, ◌≤◌, ◌⊎◌, inl, inr, Bool, true, false, length, refl, ap, sym, ◌∙◌, subst, arith}
use Rattle.std.specs.Prelude.{◌==◌, not, min, if◌then◌else◌}
use Rattle.std.proofs.lemmas.Bool.{cases_lt}
use Rattle.std.proofs.lemmas.Option.{slice_get_past}
use Rattle.lsl_post.specs.Told.{Told, as_value, each, next_to, quiet, until}
use Rattle.lsl_region.specs.Segments.{is_ready_at, is_ready_in, segment}
use Rattle.lsl_region.specs.Worlds.{World}
use Rattle.lsl_world.specs.Laws.{RunsEndWhereNoneIsReady}
use Rattle.lsl_world.specs.Steps.{round_or_last}
use Rattle.lsl_world.proofs.Spans.{until-stopped}

is-zero : (n : ℕ) → (n ≡ 0) ⊎ (0 < n)
is-zero zero = inl refl
is-zero (suc n) = inr (omega arith)

is-same : (a b : ℕ) → (a == b) ≡ true → a ≡ b
is-same a b e = grind arith

is-less : (a b : ℕ) → a ≤ b → (a == b) ≡ false → a < b
is-less a b le e = let n : a ≡ b → ⊥ = λ k. grind (arith, k) in omega (arith, n, le)

-- worlds with this many scripts each, that can run or not, and one segment of each
module _ {X : Type 0} (scripts : X → ℕ) (ready : X → ℕ → Bool) (segment : ℕ → X → Told X) where
  abbrev pub turn_of : ℕ → ℕ → X → Told (X × ℕ)
  turn_of most place w =
      until (λ x. not (ready x.0 place)) (λ x. as_value (λ v. (v, x.1 + 1)) (segment place x.0)) most (w, 0)

  abbrev pub turn_among : ℕ → X × ℕ → Told (X × ℕ)
  turn_among place x = as_value (λ y. (y.0, x.1 - y.1)) (turn_of (min 8 x.1) place x.0)

  abbrev pub round_of : X × ℕ → Told (X × ℕ)
  round_of x = each turn_among (scripts x.0) 0 x

  abbrev pub round_or_last_of : X × (ℕ × Bool) → Told (X × (ℕ × Bool))
  round_or_last_of x = as_value (λ y. (y.0, (y.1, y.1 == x.1.0))) (round_of (x.0, x.1.0))

  abbrev pub rounds_of : ℕ → X × (ℕ × Bool) → Told (X × (ℕ × Bool))
  rounds_of fuel x = until {X = X × (ℕ × Bool)} (λ y. y.1.1) round_or_last_of fuel x

  -- segments are counted up
  spent-more : (place most : ℕ) (x : X × ℕ)
      → x.1 ≤ (until {X = X × ℕ} (λ x. not (ready x.0 place))
      (λ x. as_value (λ v. (v, x.1 + 1)) (segment place x.0)) most x).value.1
  unfolding until
  spent-more place zero x = omega arith
  spent-more place (suc most) x =
      let v = (segment place x.0).value in
      go (not (ready x.0 place)) (spent-more place most (v, x.1 + 1))
    where
      thing : X × ℕ → Told (X × ℕ)
      thing x = as_value (λ v. (v, x.1 + 1)) (segment place x.0)

      rest : X × ℕ → Told (X × ℕ)
      rest y = until {X = X × ℕ} (λ x. not (ready x.0 place)) thing most y

      go : (b : Bool) → x.1 + 1 ≤ (rest (thing x).value).value.1
          → x.1 ≤ (if b then quiet x else next_to (thing x) rest).value.1
      go true more = omega arith
      go false more = omega (arith, more)

  -- a turn without a segment finds the script not ready, and does nothing
  record Idle (place most : ℕ) (w : X) : Type 0 where
    waits : ready w place ≡ false
    same : turn_of most place w ≡ quiet (w, 0)

  turn-idle : (place most : ℕ) (w : X) → (turn_of (suc most) place w).value.1 ≡ 0 → Idle place (suc most) w
  unfolding until
  turn-idle place most w none = go (ready w place) refl none where
    thing : X × ℕ → Told (X × ℕ)
    thing x = as_value (λ v. (v, x.1 + 1)) (segment place x.0)

    rest : X × ℕ → Told (X × ℕ)
    rest y = until {X = X × ℕ} (λ x. not (ready x.0 place)) thing most y

    go : (b : Bool) → ready w place ≡ b
        → (if not b then quiet (w, 0) else next_to (thing (w, 0)) rest).value.1 ≡ 0 → Idle place (suc most) w
    go false e h = record {
      waits = e;
      same = ap (λ (b : Bool). if not b then quiet (w, 0) else next_to (thing (w, 0)) rest) e;
    }
    go true e h =
        let more = spent-more place most (thing (w, 0)).value in
        absurd (omega (arith, h, more))

  idle-turn : (place left : ℕ) (w : X) → 0 < left → (turn_of (min 8 left) place w).value.1 ≡ 0
      → Idle place (min 8 left) w
  idle-turn place zero w some h = absurd (omega (arith, some))
  idle-turn place (suc left) w some h =
      let e : min 8 (suc left) ≡ suc (min 7 left) = omega arith in
      subst (λ (n : ℕ). Idle place n w) (sym e)
      (turn-idle place (min 7 left) w (ap (λ (n : ℕ). (turn_of n place w).value.1) (sym e) ∙ h))

  -- segments are only spent
  pub left-less : (count first : ℕ) (x : X × ℕ) → (each turn_among count first x).value.1 ≤ x.1
  unfolding each
  left-less zero first x = omega arith
  left-less (suc count) first x =
      let y = (turn_among first x).value in
      omega (arith, left-less count (first + 1) y)

  -- a round without a segment finds no script ready, and does nothing
  record AllIdle (count first left : ℕ) (w : X) : Type 0 where
    wait : (place : ℕ) → first ≤ place → place < first + count → ready w place ≡ false
    same : (each turn_among count first (w, left)).value.0 ≡ w

  each-idle : (count first left : ℕ) (w : X) → 0 < left → (each turn_among count first (w, left)).value.1 ≡ left
      → AllIdle count first left w
  unfolding each
  each-idle zero first left w some none = record {
    wait = λ place from to. absurd (omega (arith, from, to));
    same = refl;
  }
  each-idle (suc count) first left w some none =
      let t = turn_of (min 8 left) first w in
      let less = left-less count (first + 1) (turn_among first (w, left)).value in
      let idle = idle-turn first left w some (omega (arith, some, less, none)) in
      let all : left - 0 ≡ left = omega arith in
      let same : (turn_among first (w, left)).value ≡ (w, left)
      = ap (λ (a : Told (X × ℕ)). (a.value.0, left - a.value.1)) idle.same ∙ ap (λ (n : ℕ). (w, n)) all in
      let rest = each-idle count (first + 1) left w some
      (ap (λ (x : X × ℕ). (each turn_among count (first + 1) x).value.1) (sym same) ∙ none) in
      record {
        wait = λ place from to. by_place place from to idle.waits rest.wait (is-zero (place - first));
        same = ap (λ (x : X × ℕ). (each turn_among count (first + 1) x).value.0) same ∙ rest.same;
      }
    where
      by_place : (place : ℕ) → first ≤ place → place < first + suc count → ready w first ≡ false
          → ((k : ℕ) → first + 1 ≤ k → k < (first + 1) + count → ready w k ≡ false)
          → ((place - first ≡ 0) ⊎ (0 < place - first)) → ready w place ≡ false
      by_place place from to here rest (inl e) =
          let k : place ≡ first = omega (arith, e, from) in ap (ready w) k ∙ here
      by_place place from to here rest (inr e) = rest place (omega (arith, e)) (omega (arith, to))

  -- rounds end where no segment is left, or no script is ready
  abbrev pub Ends : X × (ℕ × Bool) → Type 0
  Ends x = (x.1.0 ≡ 0) ⊎ ((place : ℕ) → place < scripts x.0 → ready x.0 place ≡ false)

  ends-here : (w v : X) (left after : ℕ) → after ≡ left → (each turn_among (scripts w) 0 (w, left)).value ≡ (v, after)
      → (left ≡ 0) ⊎ (0 < left) → Ends (v, (after, true))
  ends-here w v left after e is (inl none) = inl (e ∙ none)
  ends-here w v left after e is (inr some) =
      let idle = each-idle (scripts w) 0 left w some (ap (λ (x : X × ℕ). x.1) is ∙ e) in
      let same : v ≡ w = sym (ap (λ (x : X × ℕ). x.0) is) ∙ idle.same in
      inr (subst (λ (u : X). (place : ℕ) → place < scripts u → ready u place ≡ false) (sym same)
      (λ place within. idle.wait place (omega arith) (omega (arith, within))))

  pub rounds-end : (fuel left : ℕ) (w : X) → left ≤ fuel → Ends (rounds_of fuel (w, (left, false))).value
  unfolding until
  rounds-end zero left w few = inl (omega (arith, few))
  rounds-end (suc fuel) left w few =
      let y = (round_of (w, left)).value in
      go (y.1 == left) refl (is-zero left) (λ h. rounds-end fuel y.1 y.0 h)
    where
      y : X × ℕ
      y = (round_of (w, left)).value

      go : (b : Bool) → (y.1 == left) ≡ b → (left ≡ 0) ⊎ (0 < left)
          → (y.1 ≤ fuel → Ends (rounds_of fuel (y.0, (y.1, false))).value)
          → Ends (rounds_of fuel (y.0, (y.1, b))).value
      go true e some more =
          subst (λ (a : Told (X × (ℕ × Bool))). Ends a.value)
          (sym (until-stopped (λ (x : X × (ℕ × Bool)). x.1.1) round_or_last_of fuel (y.0, (y.1, true)) refl))
          (ends-here w y.0 left y.1 (is-same y.1 left e) refl some)
      go false e some more =
          let less = is-less y.1 left (left-less (scripts w) 0 (w, left)) e in
          more (omega (arith, less, few))

pub runs-end : RunsEndWhereNoneIsReady
runs-end r most w =
    go (rounds-end {X = World} (λ v. length v.members) is_ready_at (segment r) most most w (omega arith))
  where
    end : World × (ℕ × Bool)
    end = (until {X = World × (ℕ × Bool)} (λ x. x.1.1) (round_or_last r) most (w, (most, false))).value

    ready : ((place : ℕ) → place < length end.0.members → is_ready_at end.0 place ≡ false) → (place : ℕ)
        → (place < length end.0.members) ⊎ (length end.0.members ≤ place) → is_ready_at end.0 place ≡ false
    ready within place (inl h) = within place h
    ready within place (inr h) = ap (is_ready_in end.0) (slice_get_past end.0.members place h)

    go : (end.1.0 ≡ 0) ⊎ ((place : ℕ) → place < length end.0.members → is_ready_at end.0 place ≡ false)
        → (end.1.0 ≡ 0) ⊎ ((place : ℕ) → is_ready_at end.0 place ≡ false)
    go (inl e) = inl e
    go (inr h) = inr (λ place. ready h place (cases_lt place (length end.0.members)))
