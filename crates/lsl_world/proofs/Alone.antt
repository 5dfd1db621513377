-- A world with one script: its rounds are one turn.
use Rattle.std.proofs.Common.{◌≡◌, ℕ, zero, suc, ◌-◌, ◌≤◌, Bool, true, false, List, ◌⊎◌, inl, inr, length, refl, ap, sym, ◌∙◌, append-nil, arith}
use Rattle.std.specs.Prelude.{◌==◌, min, not}
use Rattle.lsl_post.specs.declared.entries.Entry.{Entry}
use Rattle.lsl_post.specs.Told.{Told, as_value, each, lead, next_to, quiet, until}
use Rattle.lsl_script.specs.Rules.{Rules}
use Rattle.lsl_region.specs.Segments.{is_ready_at, segment, turn}
use Rattle.lsl_region.specs.Worlds.{World}
use Rattle.lsl_world.specs.Steps.{round_or_last, rounds, turn_in}
use Rattle.lsl_world.proofs.Counts.{turn-keeps}
use Rattle.lsl_world.proofs.Spans.{counted-ends, counted-value, until-parts, until-stopped}

each-one : {X : Type 0} (thing : ℕ → X → Told X) (count : ℕ) (x : X) → count ≡ 1
    → each thing count 0 x ≡ thing 0 x
unfolding each
each-one {X = X} thing count x e =
    ap (λ (n : ℕ). each thing n 0 x) e
    ∙ ap (λ (es : List Entry). record { value = (thing 0 x).value; entries = es }) (append-nil (thing 0 x).entries)

is-same : (a b : ℕ) → (a == b) ≡ true → a ≡ b
is-same a b e = grind arith

is-less : (a b : ℕ) → ((a - b) == a) ≡ false → a - b ≤ a - 1
is-less a b e = let n : a - b ≡ a → ⊥ = λ k. grind (arith, k) in omega (arith, n)

module _ (r : Rules) where
  abbrev waits : World → Bool
  waits w = not (is_ready_at w 0)

  -- segments, no matter how many they were
  abbrev segments : ℕ → World → Told World
  segments most w = until waits (segment r 0) most w

  segments-none : (most : ℕ) (w : World) → most ≡ 0 → segments most w ≡ quiet w
  unfolding until
  segments-none most w e = ap (λ (n : ℕ). segments n w) e

  turn-is : (most : ℕ) (w : World) → as_value (λ x. x.0) (turn r most 0 w) ≡ segments most w
  turn-is most w = counted-value waits (segment r 0) most (w, 0)

  -- rounds, no matter how many segments are left
  abbrev rounds_from : ℕ → World × (ℕ × Bool) → Told World
  rounds_from most x = as_value (λ y. y.0) (until (λ y. y.1.1) (round_or_last r) most x)

  -- A turn of a round has ended in w: it had so many segments of the most that it may have, or waits.
  module _ (fuel left most spent : ℕ) (w : World) (few : most ≡ min 8 left) (enough : left - 1 ≤ fuel)
      (more : left - spent ≤ fuel → rounds_from fuel (w, (left - spent, false)) ≡ segments (left - spent) w) where
    none-left : (spent ≡ most) ⊎ (waits w ≡ true) → left - spent ≡ left → segments (left - most) w ≡ quiet w
    none-left (inl e) k = segments-none (left - most) w (omega (arith, e, k, few))
    none-left (inr e) k = until-stopped waits (segment r 0) (left - most) w e

    some-left : (spent ≡ most) ⊎ (waits w ≡ true) → segments (left - spent) w ≡ segments (left - most) w
    some-left (inl e) = ap (λ (n : ℕ). segments (left - n) w) e
    some-left (inr e) =
        until-stopped waits (segment r 0) (left - spent) w e
        ∙ sym (until-stopped waits (segment r 0) (left - most) w e)

    rounds-on : (spent ≡ most) ⊎ (waits w ≡ true) → (last : Bool) → ((left - spent) == left) ≡ last
        → rounds_from fuel (w, (left - spent, last)) ≡ segments (left - most) w
    rounds-on ends true e =
        ap (λ (a : Told (World × (ℕ × Bool))). as_value (λ x. x.0) a)
        (until-stopped (λ (y : World × (ℕ × Bool)). y.1.1) (round_or_last r) fuel (w, (left - spent, true)) refl)
        ∙ sym (none-left ends (is-same (left - spent) left e))
    rounds-on ends false e =
        let k = is-less left spent e in more (omega (arith, k, enough)) ∙ some-left ends

  -- each round but the last has a segment
  rounds-left : (fuel left : ℕ) (w : World) → left ≤ fuel → length w.members ≡ 1
      → rounds_from fuel (w, (left, false)) ≡ segments left w
  unfolding until
  rounds-left zero left w few one =
      let k : 0 ≡ left = omega (arith, few) in ap (λ (n : ℕ). segments n w) k
  rounds-left (suc fuel) left w few one =
      let most = min 8 left in
      let t = turn r most 0 w in
      let v = t.value.0 in
      let spent = t.value.1 in
      let same : length v.members ≡ 1 = ap (λ x. x.1) (turn-keeps r most 0 w) ∙ one in
      ap (λ (a : Told (World × ℕ)). next_to a (λ y. rounds_from fuel (y.0, (y.1, y.1 == left))))
      (each-one (turn_in r) (length w.members) (w, left) one)
      ∙ ap (λ (a : Told World). lead t.entries a)
      (rounds-on fuel left most spent v refl (omega (arith, few))
      (λ h. rounds-left fuel (left - spent) v h same)
      (counted-ends waits (segment r 0) most most (w, 0) (omega arith)) ((left - spent) == left) refl)
      ∙ ap (λ (a : Told World). next_to a (segments (left - most))) (turn-is most w)
      ∙ sym (until-parts waits (segment r 0) most (left - most) left (omega arith) w)

pub rounds-alone : (r : Rules) (most : ℕ) (w : World) → length w.members ≡ 1
    → rounds r most w ≡ as_value (λ x. x.0) (turn r most 0 w)
rounds-alone r most w one = rounds-left r most most w (omega arith) one ∙ sym (turn-is r most w)
