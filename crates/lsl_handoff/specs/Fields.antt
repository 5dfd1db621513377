-- Fields: for each object, the cards of all regions. Objects and regions are numbered from 1.
use Rattle.std.specs.Prelude.{◌≡◌, ℕ, ◌-◌, ◌≤◌, nat_eq, if◌then◌else◌, List, [], length, map, replicate, slice_index_or, slice_set, Option, Some, None}
use Rattle.lsl_handoff.specs.declared.card.Card.{Card}
use Rattle.lsl_handoff.specs.declared.card.Phase.TheVariants.{Live}
use Rattle.lsl_handoff.specs.declared.note.Note.{Note}
use Rattle.lsl_handoff.specs.Cards.{blank, home_card}
use Rattle.lsl_handoff.specs.Rules.{Event, acts, object_of, region_of}

-- a number from 1 to n
abbrev pub IsOneOf : ℕ → ℕ → Type 0
IsOneOf most n = (1 ≤ n) × (n ≤ most)

abbrev pub card_of : List Card → ℕ → Card
card_of cards region = if nat_eq region 0 then blank else slice_index_or cards (region - 1) blank

abbrev pub with_card : List Card → ℕ → Card → List Card
with_card cards region card = slice_set cards (region - 1) card

abbrev pub cards_of : List (List Card) → ℕ → List Card
cards_of field object = if nat_eq object 0 then [] else slice_index_or field (object - 1) []

abbrev pub with_cards : List (List Card) → ℕ → List Card → List (List Card)
with_cards field object cards = slice_set field (object - 1) cards

-- the card that a region has of an object
abbrev pub card_at : List (List Card) → ℕ → ℕ → Card
card_at field object region = card_of (cards_of field object) region

-- a region has a card of this object
abbrev pub HasCard : List (List Card) → ℕ → ℕ → Type 0
HasCard field object region = IsOneOf (length field) object × IsOneOf (length (cards_of field object)) region

-- the field after an event, and the note that is sent
abbrev pub does : List (List Card) → Event → List (List Card) × Option Note
does field event =
    let cards = cards_of field (object_of event) in
    let effect = acts (card_of cards (region_of event)) event in
    (with_cards field (object_of event) (with_card cards (region_of event) effect.0), effect.1)

-- at the start the home's card is live with an empty parcel, and the others are away
abbrev pub cards_at_start : ℕ → ℕ → List Card
cards_at_start regions home = with_card (replicate regions blank) home home_card

abbrev pub field_at_start : List ℕ → ℕ → List (List Card)
field_at_start homes regions = map (cards_at_start regions) homes

-- the first region where the object with these cards is live, if there is one
abbrev pub IsFirstLive : List Card → Option ℕ → Type 0
IsFirstLive cards None = (region : ℕ) (held : List ℕ) → (card_of cards region).phase ≡ Live held → ⊥
IsFirstLive cards (Some first) =
    ((held : List ℕ) × ((card_of cards first).phase ≡ Live held))
    × ((region : ℕ) (held : List ℕ) → (card_of cards region).phase ≡ Live held → first ≤ region)

-- the object is live in this region, and came there as this parcel
abbrev pub IsLive : List (List Card) → ℕ → ℕ → List ℕ → Type 0
IsLive field object region held = (card_at field object region).phase ≡ Live held
