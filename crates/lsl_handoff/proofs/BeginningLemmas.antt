-- Objects are at rest at the start.
use Rattle.std.proofs.Common.{◌≡◌, ◌≢◌, ◌∙◌, refl, sym, ap, ℕ, ◌-◌, ◌<◌, ◌≤◌, nat_eq, Bool, true, false, if◌then◌else◌, ◌⊎◌, List, [], length, replicate, get_or, inl, inr, arith}
use Rattle.std.specs.Prelude.{All}
use Rattle.std.proofs.lemmas.Bool.{cases_eq, cases_lt, eqb-false}
use Rattle.std.proofs.lemmas.List.{get_or_past, length-map, length-replicate, length-set}
use Rattle.lsl_handoff.specs.declared.card.Card.{Card}
use Rattle.lsl_handoff.specs.Cards.{blank, home_card}
use Rattle.lsl_handoff.specs.DriveLaws.{IsAtRest}
use Rattle.lsl_handoff.specs.Fields.{IsOneOf, card_at, card_of, cards_at_start, field_at_start}
use Rattle.lsl_handoff.specs.Handovers.{HasCounts}
use Rattle.lsl_handoff.proofs.StartLemmas.{cards-start, home-is, other-is}

card-none : (region : ℕ) → (card_of [] region).trip ≡ 0
card-none region = go (nat_eq region 0) where
  go : (b : Bool) → (if b then blank else get_or [] (region - 1) blank).trip ≡ 0
  go true = refl
  go false = refl

-- no trip was made
card-unmoved : (regions home : ℕ) → IsOneOf regions home → (region : ℕ)
    → (card_of (cards_at_start regions home) region).trip ≡ 0
card-unmoved regions home there region = go (cases_eq region home) where
  go : (region ≡ home) ⊎ (region ≢ home) → (card_of (cards_at_start regions home) region).trip ≡ 0
  go (inl is) =
      ap (λ (q : ℕ). (card_of (cards_at_start regions home) q).trip) is
      ∙ ap (λ (c : Card). c.trip) (home-is regions home there)
  go (inr apart) = ap (λ (c : Card). c.trip) (other-is regions home there region apart)

module _ (homes : List ℕ) (regions : ℕ) (are : All (IsOneOf regions) homes) where
  abbrev field : List (List Card)
  field = field_at_start homes regions

  at-home : (object : ℕ) → IsOneOf (length homes) object → IsOneOf regions (get_or homes (object - 1) 0)
  at-home object there = are (object - 1) 0 (omega (arith, there.0, there.1))

  pub counts-start : HasCounts (length homes) regions field
  counts-start = record {
    rows = length-map homes (cards_at_start regions);
    cards = λ object there. ap length (cards-start homes regions are object there)
        ∙ length-set (replicate regions blank) (get_or homes (object - 1) 0 - 1) home_card
        ∙ length-replicate regions blank;
  }

  pub trips-start : (object region : ℕ) → (card_at field object region).trip ≡ 0
  trips-start object region = go (nat_eq object 0) refl (cases_lt (object - 1) (length homes)) where
    go : (b : Bool) → nat_eq object 0 ≡ b → (object - 1 < length homes) ⊎ (length homes ≤ object - 1)
        → (card_of (if b then [] else get_or field (object - 1) []) region).trip ≡ 0
    go true zero place = card-none region
    go false some (inl within) =
        let there : IsOneOf (length homes) object = (one-at-least some, omega (arith, within, one-at-least some)) in
        ap (λ (b : Bool). (card_of (if b then [] else get_or field (object - 1) []) region).trip) (sym some)
        ∙ ap (λ (cs : List Card). (card_of cs region).trip) (cards-start homes regions are object there)
        ∙ card-unmoved regions (get_or homes (object - 1) 0) (at-home object there) region
      where
        one-at-least : nat_eq object 0 ≡ false → 1 ≤ object
        one-at-least e = omega (arith, eqb-false object 0 e)
    go false some (inr past) =
        ap (λ (cs : List Card). (card_of cs region).trip)
        (get_or_past field (object - 1) [] (omega (arith, past, length-map homes (cards_at_start regions))))
        ∙ card-none region

  pub rests-start : (object : ℕ) → IsOneOf (length homes) object
      → IsAtRest field object (get_or homes (object - 1) 0)
  rests-start object there =
      let home = get_or homes (object - 1) 0 in
      let cards = cards-start homes regions are object there in
      record {
        live = (
          [],
          ap (λ (cs : List Card). (card_of cs home).phase) cards
              ∙ ap (λ (c : Card). c.phase) (home-is regions home (at-home object there)),
        );
        away = λ other far. ap (λ (cs : List Card). (card_of cs other).phase) cards
            ∙ ap (λ (c : Card). c.phase) (other-is regions home (at-home object there) other far);
        greatest = λ other. omega (arith, trips-start object other);
      }
