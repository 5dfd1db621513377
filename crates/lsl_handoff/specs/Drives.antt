-- How an object is driven from a region to another over a link: which note is carried next, and the effect on the cards
-- of what comes back.
use Rattle.std.specs.Prelude.{◌≡◌, ℕ, ◌+◌, Bool, true, false, ◌&&◌, nat_eq, nat_lt, if◌then◌else◌, List, [], ◌∷◌, Option, Some, None}
use Rattle.lsl_handoff.specs.declared.card.Card.{Card}
use Rattle.lsl_handoff.specs.declared.note.Note.{Note}
use Rattle.lsl_handoff.specs.declared.note.NoteKind.{NoteKind}
use Rattle.lsl_handoff.specs.declared.note.NoteKind.TheVariants.{Offer, Taken, Cancel, Refused}
use Rattle.lsl_handoff.specs.declared.drive.Drive.{Drive}
use Rattle.lsl_handoff.specs.declared.drive.Way.{Way}
use Rattle.lsl_handoff.specs.Fields.{HasCard, card_at, does}
use Rattle.lsl_handoff.specs.Rules.{Deliver, GiveUp, awaited}

-- a note that was carried, and the note that came back, if one did
pub record Carried : Type 0 where
  pub note : Note
  pub back : Option Note

-- where a drive is: the cards, how often the note that asks was carried, the answer that is to be carried, and the
-- offer that made the object live in the other region
pub record Moment : Type 0 where
  pub field : List (List Card)
  pub rounds : ℕ
  pub reply : Option Note
  pub landed : Option Note

-- both regions have a card of the object
abbrev pub HasWay : List (List Card) → Way → Type 0
HasWay field way = HasCard field way.object way.from × HasCard field way.object way.to

abbrev pub moment : Drive → List (List Card) → Moment
moment drive field =
    record { field = field; rounds = drive.rounds; reply = drive.reply; landed = drive.landed }

-- the most times that a note asks
abbrev pub most_rounds : ℕ
most_rounds = 8

-- the pending note of the object's region
abbrev pub awaited_in : List (List Card) → Way → Option Note
awaited_in field way =
    let card = card_at field way.object way.from in awaited card.phase card.trip way.from way.object

-- the note that is carried next: an answer, or the note that asks
abbrev pub asks_unless : Option Note → Way → Moment → Option Note
asks_unless (Some reply) way m = Some reply
asks_unless None way m = if nat_lt m.rounds most_rounds then awaited_in m.field way else None

abbrev pub asks : Way → Moment → Option Note
asks way m = asks_unless m.reply way m

-- an offer that was carried often enough is called back, and then the cancel asks
abbrev pub rounds_behind : Option Note → ℕ → ℕ
rounds_behind None rounds = rounds
rounds_behind (Some cancel) rounds = 0

abbrev pub settled_unless : Option Note → Way → Moment → Moment
settled_unless (Some note) way m = m
settled_unless None way m =
    let done = does m.field (GiveUp way.from way.object) in
    record m { field = done.0; rounds = rounds_behind done.1 m.rounds }

abbrev pub settled : Way → Moment → Moment
settled way m = settled_unless (asks way m) way m

-- what comes back is delivered; what is lost does nothing
abbrev pub received : List (List Card) → Option Note → List (List Card) × Option Note
received field None = (field, None)
received field (Some note) = does field (Deliver note)

-- the offer that makes the object live in the other region, or what was before
abbrev pub is_offer : NoteKind → Bool
is_offer Offer = true
is_offer Taken = false
is_offer Cancel = false
is_offer Refused = false

abbrev pub lands : Way → List (List Card) → Note → Bool
lands way field note =
    nat_eq note.object way.object && nat_eq note.to way.to && is_offer note.kind
    && nat_lt (card_at field way.object way.to).trip note.trip

abbrev pub landing : Way → List (List Card) → Note → Option Note → Option Note
landing way field note before = if lands way field note then Some note else before

abbrev pub landed_by : Way → Moment → Option Note → Option Note
landed_by way m None = m.landed
landed_by way m (Some note) = landing way m.field note m.landed

-- the answer to an answer is dropped
abbrev pub next_reply : Option Note → Option Note → Option Note
next_reply (Some reply) answer = None
next_reply None answer = answer

abbrev pub next_rounds : Option Note → ℕ → ℕ
next_rounds (Some reply) rounds = rounds
next_rounds None rounds = rounds + 1

-- what came back for the note that was carried
abbrev pub hears : Way → Moment → Option Note → Moment
hears way m back =
    let done = received m.field back in
    settled way (record {
      field = done.0;
      rounds = next_rounds m.reply m.rounds;
      reply = next_reply m.reply done.1;
      landed = landed_by way m back;
    })

-- these were carried, in order
abbrev pub Obeys : Way → Moment → List Carried → Type 0
Obeys way m [] = Unit {0}
Obeys way m (c ∷ more) = (asks way m ≡ Some c.note) × Obeys way (hears way m c.back) more

abbrev pub after_carried : Way → Moment → List Carried → Moment
after_carried way m [] = m
after_carried way m (c ∷ more) = after_carried way (hears way m c.back) more

-- a cancel without an answer is delivered, and so is its answer, since both regions are in one process
abbrev pub answered : List (List Card) × Option Note → List (List Card)
answered done = (received done.0 done.1).0

abbrev pub rested : List (List Card) → Way → List (List Card)
rested field way = answered (received field (awaited_in field way))

-- a drive after the departure, with this field
abbrev pub departed : List (List Card) → Moment
departed field = record { field = field; rounds = 0; reply = None; landed = None }
