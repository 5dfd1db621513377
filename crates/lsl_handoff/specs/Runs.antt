-- Runs: any events, one after another, with the notes that were sent so far.
use Rattle.std.specs.Prelude.{ℕ, nat_eq, ◌&&◌, if◌then◌else◌, is_none, List, [], ◌∷◌, ◌++◌, Contains, option_to_list}
use Rattle.lsl_handoff.specs.declared.card.Card.{Card}
use Rattle.lsl_handoff.specs.declared.note.Note.{Note}
use Rattle.lsl_handoff.specs.Cards.{depart_fault}
use Rattle.lsl_handoff.specs.Fields.{IsOneOf, card_at, does, field_at_start}
use Rattle.lsl_handoff.specs.Rules.{Event, Depart, Again, GiveUp, Deliver}

pub record Run : Type 0 where
  pub field : List (List Card)
  pub sent : List Note

abbrev pub start : List ℕ → ℕ → Run
start homes regions = record { field = field_at_start homes regions; sent = [] }

abbrev pub happens : Run → Event → Run
happens run event =
    let done = does run.field event in
    record { field = done.0; sent = run.sent ++ option_to_list done.1 }

abbrev pub after : Run → List Event → Run
after run [] = run
after run (event ∷ events) = after (happens run event) events

-- the numbers of an event are there; what is delivered was sent: not lost yet, or once more, or late
abbrev pub MayHappen : ℕ → ℕ → Run → Event → Type 0
MayHappen objects regions run (Depart region object to parcel) =
    IsOneOf regions region × IsOneOf objects object × IsOneOf regions to
MayHappen objects regions run (Again region object) = IsOneOf regions region × IsOneOf objects object
MayHappen objects regions run (GiveUp region object) = IsOneOf regions region × IsOneOf objects object
MayHappen objects regions run (Deliver note) = Contains run.sent note

abbrev pub MayAllHappen : ℕ → ℕ → Run → List Event → Type 0
MayAllHappen objects regions run [] = Unit {0}
MayAllHappen objects regions run (event ∷ events) =
    MayHappen objects regions run event × MayAllHappen objects regions (happens run event) events

-- the parcel of the object's last departure up to this event, or what was before one; a departure that does nothing
-- is none
abbrev pub newer_parcel : ℕ → Run → Event → List ℕ → List ℕ
newer_parcel object run (Depart region other to parcel) before =
    if nat_eq other object && is_none (depart_fault (card_at run.field other region) region to)
    then parcel
    else before
newer_parcel object run (Again region other) before = before
newer_parcel object run (GiveUp region other) before = before
newer_parcel object run (Deliver note) before = before

abbrev pub last_parcel : ℕ → Run → List Event → List ℕ → List ℕ
last_parcel object run [] before = before
last_parcel object run (event ∷ events) before =
    last_parcel object (happens run event) events (newer_parcel object run event before)
