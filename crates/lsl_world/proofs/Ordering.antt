-- Cards stay in order.
use Rattle.std.proofs.Common.{◌≡◌, ◌≢◌, ◌∙◌, sym, ap, subst, arith, ℕ, suc, ◌-◌, ◌<◌, ◌≤◌, ◌^◌, ◌⊎◌, inl, inr, List, [], length, get_or}
use Rattle.std.specs.Prelude.{slice_set}
use Rattle.std.proofs.lemmas.Bool.{cases_eq}
use Rattle.std.proofs.lemmas.List.{get_or-set_same, get_or-set_other, length-set}
use Rattle.lsl_handoff.specs.declared.card.Card.{Card}
use Rattle.lsl_handoff.specs.declared.drive.Way.{Way}
use Rattle.lsl_handoff.specs.DriveLaws.{IsAtRest, next_trip}
use Rattle.lsl_handoff.specs.Fields.{IsOneOf, card_at, card_of, cards_of}
use Rattle.lsl_handoff.specs.Handovers.{HasCounts}
use Rattle.lsl_world.specs.Orders.{AreAtMost, AreInOrder, place_in}
use Rattle.lsl_world.specs.Regions.{IsNamed, number_in}

-- an object whose cards are the same rests where it did
pub rests-same : (old new : List (List Card)) (object region : ℕ) → cards_of new object ≡ cards_of old object
    → IsAtRest old object region → IsAtRest new object region
rests-same old new object region same rest = record {
  live = (rest.live.0, ap (λ (cs : List Card). (card_of cs region).phase) same ∙ rest.live.1);
  away = λ other far. ap (λ (cs : List Card). (card_of cs other).phase) same ∙ rest.away other far;
  greatest = λ other. (let a = ap (λ (cs : List Card). (card_of cs other).trip) same in
      let b = ap (λ (cs : List Card). (card_of cs region).trip) same in omega (arith, a, b, rest.greatest other));
}

-- an object rests after its trip, where it stayed or in the region to which it came
module _ (regions homes : List (List ℕ)) (old new : List (List Card)) (way : Way) (region : List ℕ)
    (order : AreInOrder regions old homes) (counts : HasCounts (length homes) (length regions) new)
    (object : IsOneOf (length homes) way.object) (home : place_in regions homes way.object ≡ way.from)
    (to : number_in regions region ≡ way.to) (named : IsNamed regions region)
    (others : (q : ℕ) → q ≢ way.object → cards_of new q ≡ cards_of old q) where
  abbrev place : ℕ
  place = way.object - 1

  place-there : place < length homes
  place-there = omega (arith, object.0, object.1)

  apart-place : (q : ℕ) → IsOneOf (length homes) q → q ≢ way.object → q - 1 ≢ place
  apart-place q one other e = other (omega (arith, e, one.0, object.0))

  -- the trips of the object's cards, by where it rests
  own-trips : (region_now : ℕ) → IsAtRest new way.object region_now
      → (card_at new way.object region_now).trip ≡ next_trip old way → (r : ℕ)
      → (card_at new way.object r).trip ≤ next_trip old way
  own-trips now rest after r = omega (arith, rest.greatest r, after)

  module _ (now : ℕ) (rest : IsAtRest new way.object now)
      (after : (card_at new way.object now).trip ≡ next_trip old way) where
    fit-next : next_trip old way < 2 ^ 64 → (q r : ℕ) → (card_at new q r).trip < 2 ^ 64
    fit-next few q r = go (cases_eq q way.object) where
      go : (q ≡ way.object) ⊎ (q ≢ way.object) → (card_at new q r).trip < 2 ^ 64
      go (inl own) =
          subst (λ (o : ℕ). (card_at new o r).trip < 2 ^ 64) (sym own)
          (omega (arith, own-trips now rest after r, few))
      go (inr other) =
          let same = ap (λ (cs : List Card). (card_of cs r).trip) (others q other) in
          omega (arith, same, order.fit q r)

    pub most-next : (most : ℕ) → AreAtMost most old → AreAtMost (suc most) new
    most-next most are q r = go (cases_eq q way.object) where
      go : (q ≡ way.object) ⊎ (q ≢ way.object) → (card_at new q r).trip ≤ suc most
      go (inl own) =
          subst (λ (o : ℕ). (card_at new o r).trip ≤ suc most) (sym own)
          (omega (arith, own-trips now rest after r, are way.object way.from))
      go (inr other) =
          let same = ap (λ (cs : List Card). (card_of cs r).trip) (others q other) in omega (arith, same, are q r)

  pub order-stays : IsAtRest new way.object way.from → (card_at new way.object way.from).trip ≡ next_trip old way
      → next_trip old way < 2 ^ 64 → AreInOrder regions new homes
  order-stays rest after few = record {
    counts = counts;
    named = order.named;
    rest = λ q one. go q one (cases_eq q way.object);
    fit = fit-next way.from rest after few;
  }
    where
      go : (q : ℕ) → IsOneOf (length homes) q → (q ≡ way.object) ⊎ (q ≢ way.object)
          → IsAtRest new q (place_in regions homes q)
      go q one (inl own) =
          subst (λ (o : ℕ). IsAtRest new o (place_in regions homes o)) (sym own)
          (subst (λ (r : ℕ). IsAtRest new way.object r) (sym home) rest)
      go q one (inr other) =
          rests-same old new q (place_in regions homes q) (others q other) (order.rest q one)

  abbrev moved : List (List ℕ)
  moved = slice_set homes place region

  at-place : get_or moved place [] ≡ region
  at-place = get_or-set_same homes place region [] place-there

  at-other : (q : ℕ) → IsOneOf (length homes) q → q ≢ way.object → get_or moved (q - 1) [] ≡ get_or homes (q - 1) []
  at-other q one other = get_or-set_other homes place (q - 1) region [] (apart-place q one other)

  as-long : length moved ≡ length homes
  as-long = length-set homes place region

  pub order-moved : IsAtRest new way.object way.to → (card_at new way.object way.to).trip ≡ next_trip old way
      → next_trip old way < 2 ^ 64 → AreInOrder regions new moved
  order-moved rest after few = record {
    counts = subst (λ (n : ℕ). HasCounts n (length regions) new) (sym as-long) counts;
    named = λ q one. (let one-old = subst (λ (n : ℕ). IsOneOf n q) as-long one in
        name q one-old (cases_eq q way.object));
    rest = λ q one. (let one-old = subst (λ (n : ℕ). IsOneOf n q) as-long one in
        go q one-old (cases_eq q way.object));
    fit = fit-next way.to rest after few;
  }
    where
      name : (q : ℕ) → IsOneOf (length homes) q → (q ≡ way.object) ⊎ (q ≢ way.object)
          → IsNamed regions (get_or moved (q - 1) [])
      name q one (inl own) =
          subst (λ (o : ℕ). IsNamed regions (get_or moved (o - 1) [])) (sym own)
          (subst (λ (r : List ℕ). IsNamed regions r) (sym at-place) named)
      name q one (inr other) =
          subst (λ (r : List ℕ). IsNamed regions r) (sym (at-other q one other)) (order.named q one)

      go : (q : ℕ) → IsOneOf (length homes) q → (q ≡ way.object) ⊎ (q ≢ way.object)
          → IsAtRest new q (place_in regions moved q)
      go q one (inl own) =
          subst (λ (o : ℕ). IsAtRest new o (place_in regions moved o)) (sym own)
          (subst (λ (r : ℕ). IsAtRest new way.object r) (sym (ap (number_in regions) at-place ∙ to)) rest)
      go q one (inr other) =
          subst (λ (r : ℕ). IsAtRest new q r) (sym (ap (number_in regions) (at-other q one other)))
          (rests-same old new q (place_in regions homes q) (others q other) (order.rest q one))
