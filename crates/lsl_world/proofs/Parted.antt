-- Runs and turns in parts: what is left after a part is a run or a turn of fewer segments.
use Rattle.std.proofs.Common.{◌≡◌, ℕ, zero, suc, ◌+◌, ◌-◌, ◌<◌, ◌≤◌, Bool, true, false, ◌⊎◌, inl, inr, List, length, append-nil, refl, ap, sym, ◌∙◌, arith}
use Rattle.std.specs.Prelude.{◌==◌, min, not}
use Rattle.lsl_post.specs.declared.entries.Entry.{Entry}
use Rattle.lsl_post.specs.Told.{Told, as_value, each, lead, next_to, quiet, until}
use Rattle.lsl_script.specs.Rules.{Rules}
use Rattle.lsl_region.specs.Segments.{is_ready_at, segment, turn}
use Rattle.lsl_region.specs.Worlds.{World}
use Rattle.lsl_world.specs.Steps.{round, round_or_last, turn_in}
use Rattle.lsl_world.proofs.Ending.{left-less}
use Rattle.lsl_world.proofs.Spans.{counted-ends, counted-value, until-parts, until-stopped}
use Rattle.lsl_world.proofs.Still.{turn-none}

-- ---- segments in a row

module _ (r : Rules) (place : ℕ) where
  abbrev waits : World → Bool
  waits w = not (is_ready_at w place)

  -- a turn, no matter how many segments it had
  abbrev pub row : ℕ → World → Told World
  row most w = as_value (λ x. x.0) (turn r most place w)

  row-is : (most : ℕ) (w : World) → row most w ≡ until waits (segment r place) most w
  row-is most w = counted-value waits (segment r place) most (w, 0)

  -- this many, and then the others
  pub row-parts : (first second most : ℕ) → most ≡ first + second → (w : World)
      → row most w ≡ next_to (row first w) (λ v. row second v)
  row-parts first second most e w =
      let a = until waits (segment r place) first w in
      row-is most w ∙ until-parts waits (segment r place) first second most e w
      ∙ ap (λ (t : Told World). lead a.entries t) (sym (row-is second a.value))
      ∙ ap (λ (t : Told World). next_to t (λ v. row second v)) (sym (row-is first w))

  pub row-none : (most : ℕ) (w : World) → most ≡ 0 → row most w ≡ quiet w
  row-none most w e = ap (λ (a : Told (World × ℕ)). as_value (λ x. x.0) a) (turn-none r most place w e)

  -- fewer than this many were all
  pub row-whole : (first second most spent : ℕ) → most ≡ first + second → (w : World)
      → spent ≡ (turn r first place w).value.1 → spent < first → row most w ≡ row first w
  row-whole first second most spent e w is less =
      go (counted-ends waits (segment r place) first first (w, 0) (omega arith))
    where
      v : World
      v = (turn r first place w).value.0

      go : ((turn r first place w).value.1 ≡ first) ⊎ (waits v ≡ true) → row most w ≡ row first w
      go (inl all) = absurd (omega (arith, all, is, less))
      go (inr stops) =
          row-parts first second most e w
          ∙ ap (λ (t : Told World). next_to (row first w) (λ u. t))
          (row-is second v ∙ until-stopped waits (segment r place) second v stops)
          ∙ lead-quiet (row first w)
        where
          lead-quiet : (a : Told World) → lead a.entries (quiet a.value) ≡ a
          lead-quiet a = ap (λ (es : List Entry). record { value = a.value; entries = es }) (append-nil a.entries)

-- ---- rounds

is-less : (a b : ℕ) → a ≤ b → (a == b) ≡ false → a < b
is-less a b le e = let n : a ≡ b → ⊥ = λ k. grind (arith, k) in omega (arith, n, le)

module _ (r : Rules) where
  abbrev stops : World × (ℕ × Bool) → Bool
  stops x = x.1.1

  -- rounds, no matter how many segments are left
  abbrev pub rounds_from : ℕ → World × (ℕ × Bool) → Told World
  rounds_from fuel x = as_value (λ y. y.0) (until stops (round_or_last r) fuel x)

  stopped : (fuel : ℕ) (w : World) (left : ℕ) → rounds_from fuel (w, (left, true)) ≡ quiet w
  stopped fuel w left =
      ap (λ (a : Told (World × (ℕ × Bool))). as_value (λ y. y.0) a)
      (until-stopped stops (round_or_last r) fuel (w, (left, true)) refl)

  -- a round without a segment
  none-in-turns : (count first : ℕ) (w : World) → each (turn_in r) count first (w, 0) ≡ quiet (w, 0)
  unfolding each
  none-in-turns zero first w = refl
  none-in-turns (suc count) first w =
      ap (λ (a : Told (World × ℕ)). next_to (as_value (λ y. (y.0, 0 - y.1)) a) (each (turn_in r) count (first + 1)))
      (turn-none r (min 8 0) first w (omega arith))
      ∙ none-in-turns count (first + 1) w

  none-in-rounds : (fuel : ℕ) (w : World) → rounds_from fuel (w, (0, false)) ≡ quiet w
  unfolding until
  none-in-rounds zero w = refl
  none-in-rounds (suc fuel) w =
      ap (λ (a : Told (World × ℕ)). next_to a (λ y. rounds_from fuel (y.0, (y.1, y.1 == 0))))
      (none-in-turns (length w.members) 0 w)
      ∙ stopped fuel w 0

  -- more rounds than segments change nothing
  pub rounds-enough : (fuel other left : ℕ) (w : World) → left ≤ fuel → left ≤ other
      → rounds_from fuel (w, (left, false)) ≡ rounds_from other (w, (left, false))
  unfolding until
  rounds-enough zero other left w few more =
      let e : left ≡ 0 = omega (arith, few) in
      ap (λ (n : ℕ). rounds_from 0 (w, (n, false))) e ∙ sym (none-in-rounds other w)
      ∙ ap (λ (n : ℕ). rounds_from other (w, (n, false))) (sym e)
  rounds-enough (suc fuel) zero left w few more =
      let e : left ≡ 0 = omega (arith, more) in
      ap (λ (n : ℕ). rounds_from (suc fuel) (w, (n, false))) e ∙ none-in-rounds (suc fuel) w
      ∙ ap (λ (n : ℕ). rounds_from 0 (w, (n, false))) (sym e)
  rounds-enough (suc fuel) (suc other) left w few more =
      let a = round r (w, left) in
      ap (λ (t : Told World). lead a.entries t)
      (go (a.value.1 == left) refl (λ h k. rounds-enough fuel other a.value.1 a.value.0 h k))
    where
      y : World × ℕ
      y = (round r (w, left)).value

      go : (b : Bool) → (y.1 == left) ≡ b
          → (y.1 ≤ fuel → y.1 ≤ other
          → rounds_from fuel (y.0, (y.1, false)) ≡ rounds_from other (y.0, (y.1, false)))
          → rounds_from fuel (y.0, (y.1, b)) ≡ rounds_from other (y.0, (y.1, b))
      go true e on = stopped fuel y.0 y.1 ∙ sym (stopped other y.0 y.1)
      go false e on =
          let less = is-less y.1 left
          (left-less {X = World} (λ v. length v.members) is_ready_at (segment r) (length w.members) 0 (w, left)) e in
          on (omega (arith, less, few)) (omega (arith, less, more))
