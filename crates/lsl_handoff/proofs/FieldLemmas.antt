-- Cards of one object, and objects of a field, by their numbers.
use Rattle.std.proofs.Common.{◌≡◌, ◌≢◌, ◌∙◌, refl, sym, ap, ℕ, ◌+◌, ◌-◌, ◌<◌, ◌≤◌, nat_eq, Bool, true, false, if◌then◌else◌, List, [], length, get_or, set, arith, Some, None}
use Rattle.std.proofs.lemmas.Bool.{eqb-false}
use Rattle.std.proofs.lemmas.List.{get_or-set_same, get_or-set_other, get_or_past, get_or_read}
use Rattle.lsl_handoff.specs.declared.card.Card.{Card}
use Rattle.lsl_handoff.specs.declared.card.Phase.{Phase}
use Rattle.lsl_handoff.specs.declared.card.Phase.TheVariants.{Away, Live, Leaving, Cancelling}
use Rattle.lsl_handoff.specs.Cards.{blank, is_live}
use Rattle.lsl_handoff.specs.Fields.{IsFirstLive, IsOneOf, card_of, cards_of, with_card, with_cards}

live-is : (phase : Phase) → is_live phase ≡ true → (held : List ℕ) × (phase ≡ Live held)
live-is Away e = cc
live-is (Live held) e = (held, refl)
live-is (Leaving to held) e = cc
live-is (Cancelling to held) e = cc

card-at : (cards : List Card) (i : ℕ) (card : Card) → i < length cards → card ≡ get_or cards i card
    → card_of cards (i + 1) ≡ card
card-at cards i card within is =
    let e : get_or cards i blank ≡ card = sym (get_or_read cards i card within is blank) in
    grind (arith, e)

-- a region beyond the cards has none
card-past : (cards : List Card) (region : ℕ) → length cards < region → card_of cards region ≡ blank
card-past cards region past =
    let e : get_or cards (region - 1) blank ≡ blank = get_or_past cards (region - 1) blank (omega arith) in
    grind (arith, e)

module _ (cards : List Card) (i : ℕ)
    (none : (region : ℕ) (held : List ℕ) → region ≤ i → (card_of cards region).phase ≡ Live held → ⊥) where
  above : (region : ℕ) (held : List ℕ) → (card_of cards region).phase ≡ Live held → i + 1 ≤ region
  above region held live = grind (arith, none region held)

  pub first-live : (card : Card) → i < length cards → card ≡ get_or cards i card → is_live card.phase ≡ true
      → IsFirstLive cards (Some (i + 1))
  first-live card within is live =
      let e = card-at cards i card within is in
      let it = live-is card.phase live in
      ((it.0, ap (λ (c : Card). c.phase) e ∙ it.1), above)

  pub none-live : length cards ≤ i → IsFirstLive cards None
  none-live all region held live =
      let far = above region held live in
      let e : (card_of cards region).phase ≡ Away = ap (λ (c : Card). c.phase) (card-past cards region (omega arith)) in
      cc

same-else : {X : Type 0} (b : Bool) (d x y : X) → (b ≡ false → x ≡ y) → (if b then d else x) ≡ (if b then d else y)
same-else true d x y e = refl
same-else false d x y e = e refl

-- the card of one region is replaced
module _ (cards : List Card) (region : ℕ) (card : Card) where
  pub card-replaced : IsOneOf (length cards) region → card_of (with_card cards region card) region ≡ card
  card-replaced there =
      let e : get_or (set cards (region - 1) card) (region - 1) blank ≡ card =
      get_or-set_same cards (region - 1) card blank (omega (arith, there.0, there.1)) in
      grind (arith, e, there.0)

  pub card-others : 1 ≤ region → (other : ℕ) → other ≢ region
      → card_of (with_card cards region card) other ≡ card_of cards other
  card-others least other apart = same-else (nat_eq other 0) blank
      (get_or (set cards (region - 1) card) (other - 1) blank)
      (get_or cards (other - 1) blank) (λ is. get_or-set_other cards (region - 1) (other - 1) card blank
      (let some : other ≢ 0 = eqb-false other 0 is in omega (arith, least, apart, some)))

-- the cards of one object are replaced
module _ (field : List (List Card)) (object : ℕ) (cards : List Card) where
  pub cards-replaced : IsOneOf (length field) object → cards_of (with_cards field object cards) object ≡ cards
  cards-replaced there =
      let e : get_or (set field (object - 1) cards) (object - 1) [] ≡ cards =
      get_or-set_same field (object - 1) cards [] (omega (arith, there.0, there.1)) in
      grind (arith, e, there.0)

  pub cards-others : 1 ≤ object → (other : ℕ) → other ≢ object
      → cards_of (with_cards field object cards) other ≡ cards_of field other
  cards-others least other apart = same-else (nat_eq other 0) [] (get_or (set field (object - 1) cards) (other - 1) [])
      (get_or field (other - 1) []) (λ is. get_or-set_other field (object - 1) (other - 1) cards []
      (let some : other ≢ 0 = eqb-false other 0 is in omega (arith, least, apart, some)))
