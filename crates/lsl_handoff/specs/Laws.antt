-- Whatever is lost, repeated or late, an object is live in at most one region, and is never lost.
use Rattle.std.specs.Prelude.{◌≡◌, ℕ, ◌≤◌, ◌⊎◌, List, [], length, All}
use Rattle.lsl_handoff.specs.declared.card.Card.{Card}
use Rattle.lsl_handoff.specs.declared.card.Phase.TheVariants.{Leaving, Cancelling}
use Rattle.lsl_handoff.specs.Fields.{IsLive, IsOneOf, card_at}
use Rattle.lsl_handoff.specs.Rules.{Event}
use Rattle.lsl_handoff.specs.Runs.{MayAllHappen, after, last_parcel, start}

-- from this region the object is on its way as this parcel, on the greatest trip of all its cards
abbrev pub IsUnderWay : List (List Card) → ℕ → ℕ → List ℕ → Type 0
IsUnderWay field object region parcel =
    (((to : ℕ) × ((card_at field object region).phase ≡ Leaving to parcel))
    ⊎ ((to : ℕ) × ((card_at field object region).phase ≡ Cancelling to parcel)))
    × ((other : ℕ) → (card_at field object other).trip ≤ (card_at field object region).trip)

-- the object is live in one region at most, as this parcel, and if it is live in none, it is under way as this parcel
pub record IsInOnePlace (field : List (List Card)) (object : ℕ) (parcel : List ℕ) : Type 0 where
  pub one : (a b : ℕ) (x y : List ℕ) → IsLive field object a x → IsLive field object b y → a ≡ b
  pub live : (region : ℕ) (held : List ℕ) → IsLive field object region held → held ≡ parcel
  pub under_way : ((region : ℕ) (held : List ℕ) → IsLive field object region held → ⊥)
      → (region : ℕ) × IsUnderWay field object region parcel

-- this holds after each run, with the parcel of the object's last departure that did something
abbrev pub RunsKeepOnePlace : Type 0
RunsKeepOnePlace =
    (homes : List ℕ) (regions : ℕ) (events : List Event) (object : ℕ) → All (IsOneOf regions) homes →
    MayAllHappen (length homes) regions (start homes regions) events → IsOneOf (length homes) object →
    IsInOnePlace (after (start homes regions) events).field object (last_parcel object (start homes regions) events [])
