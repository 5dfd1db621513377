-- The result of handing an object over, from the trips of its drive.
use Rattle.std.proofs.Common.{◌≡◌, ◌∙◌, refl, ap, subst, sym, inr, ℕ, ◌<◌, ◌^◌, Bool, true, false, List, [], ◌++◌, length, Option, Some, None, arith}
use Rattle.std.specs.Prelude.{Err, IfSome, MatchResult, Ok, Result}
use Rattle.std.proofs.lemmas.List.Elements.{All-append}
use Rattle.lsl_ports.proofs.Growth.{grew-none, grew-then}
use Rattle.lsl_ports.specs.Trips.{Trip, Went}
use Rattle.lsl_handoff.specs.declared.card.Card.{Card}
use Rattle.lsl_handoff.specs.declared.drive.Way.{Way}
use Rattle.lsl_handoff.specs.declared.faults.DepartFault.{DepartFault}
use Rattle.lsl_handoff.specs.declared.faults.DepartFault.TheVariants.{NoMemory}
use Rattle.lsl_handoff.specs.declared.handover.Back.{Back}
use Rattle.lsl_handoff.specs.declared.note.Note.{Note}
use Rattle.lsl_handoff.specs.declared.note.NoteKind.TheVariants.{Offer}
use Rattle.lsl_handoff.specs.Cards.{cause, depart_fault, is_live}
use Rattle.lsl_handoff.specs.DriveLaws.{departure}
use Rattle.lsl_handoff.specs.Drives.{HasWay, Moment, asks, hears, rested}
use Rattle.lsl_handoff.specs.Entries.{MayRest, Rests}
use Rattle.lsl_handoff.specs.Fields.{HasCard, card_at}
use Rattle.lsl_handoff.specs.Handovers.{Drives, HasCounts, IsCut, IsGivenOf, IsHandedOver, IsHeard, IsOneTrip, IsOneTripOrNone, IsTaken, IsToldWith, IsntHandedOver, given_by, landed_unless, note_of}
use Rattle.lsl_handoff.specs.NoteBytes.{IsNote, note_bytes}
use Rattle.lsl_handoff.specs.NoteLaws.{AreCounts}
use Rattle.lsl_handoff.specs.Notes.{offer_of}
use Rattle.lsl_handoff.proofs.AskedLemmas.{Asks, asked-is, asks-first, asks-on, heard-note}
use Rattle.lsl_handoff.proofs.EntryLemmas.{handed-rests}
use Rattle.lsl_handoff.proofs.GivenLemmas.{given-on}
use Rattle.lsl_handoff.proofs.HandoverLemmas.{Onward, counts-long, drives-cut, drives-cut-off, drives-on, heard-there, left, less-hears, onward-departed, onward-hears, rested-long}
use Rattle.lsl_handoff.proofs.Moving.{IsAsLong}

pub went-none : (gives : List ℕ → Option (List ℕ) → Type 0) (link : Option (List Trip)) → Went gives link link []
went-none gives link = record { grew = grew-none link; given = λ k d lt. absurd (omega (arith, lt)) }

pub went-on : (gives : List ℕ → Option (List ℕ) → Type 0) (a b c : Option (List Trip)) (first more : List Trip)
    → Went gives a b first → Went gives b c more → Went gives a c (first ++ more)
went-on gives a b c first more x y = record {
  grew = grew-then a b c first more x.grew y.grew;
  given = All-append (λ (t : Trip). gives t.sent t.back) first more x.given y.given;
}

-- an object that is live again where it was came as nothing
given-unless : {T : Type 0} (stands : Note → T → Type 0) (home : Bool) (landed : Option Note) (given : Option T)
    → IsGivenOf stands landed given → IsGivenOf stands (landed_unless home landed) (landed_unless home given)
given-unless stands true landed given is = tt
given-unless stands false landed given is = is

-- the trips so far lead from the departure to this moment, and what is returned so far is the meaning of the offer that
-- landed
pub record IsUnderWay {T : Type 0} (gives : List ℕ → Option (List ℕ) → Type 0) (objects regions : ℕ)
    (stands : Note → T → Type 0) (way : Way) (parcel : List ℕ) (old : List (List Card))
    (before link : Option (List Trip)) (m : Moment) (given : Option T) : Type 0 where
  pub trips : List Trip
  pub went : Went gives before link trips
  pub drives : Drives objects regions (IsTaken stands) way (departure old way parcel) trips m
  pub given_is : IsGivenOf stands m.landed given
  pub onward : Onward way old m.field
  pub asks_own : Asks objects regions way parcel m

-- a drive has its way
module _ (way drive : Way) (same : drive ≡ way) (m : Moment) where
  pub asked-of : (asked found : Option Note) → asked ≡ asks drive m → asked ≡ found → asks way m ≡ found
  asked-of asked found is was = ap (λ (w : Way). asks w m) (sym same) ∙ sym is ∙ was

  pub heard-of : (back : Option Note) (next : Moment) → next ≡ hears drive m back → next ≡ hears way m back
  heard-of back next is = is ∙ ap (λ (w : Way). hears w m back) same

  pub given-of : {T : Type 0} (back : Option (Back T)) (before parts : Option T)
      → parts ≡ given_by drive m.field back before → parts ≡ given_by way m.field back before
  given-of back before parts is = is ∙ ap (λ (w : Way). given_by w m.field back before) same

  pub rested-of : (new : List (List Card)) → new ≡ rested m.field drive → new ≡ rested m.field way
  rested-of new is = is ∙ ap (rested m.field) same

module _ {T : Type 0} (gives : List ℕ → Option (List ℕ) → Type 0) (objects regions : ℕ) (stands : Note → T → Type 0)
    (way : Way) (parcel : List ℕ) (old : List (List Card)) where
  abbrev pub Goes : List (List Card) → Option (List Trip) → Option (List Trip) → Result (Option T) DepartFault → Type 0
  Goes new before after result =
      (trips : List Trip) × Went gives before after trips
      × MatchResult result
      (λ given. (landed : Option Note) × IsHandedOver objects regions (IsTaken stands) way parcel trips old new landed
      × IsGivenOf stands landed given
      × ((place : ℕ → ℕ) (entries : List (List ℕ))
      → MayRest objects regions (IsTaken stands) place old way parcel entries trips
      → Rests objects regions old new way parcel entries trips landed))
      (IsntHandedOver objects regions (IsTaken stands) way parcel trips old new)

  pub goes-fault : (new : List (List Card)) (link : Option (List Trip)) (fault : DepartFault)
      → depart_fault (card_at old way.object way.from) way.from way.to ≡ cause fault → new ≡ old
      → Goes new link link (Err fault)
  goes-fault new link fault first same = (
    [],
    went-none gives link,
    record { first = first; silent = λ other e. (refl, same); cut = tt },
  )

  -- a note was carried, and this came back
  abbrev pub IsCarried : Option (List Trip) → Option (List Trip) → Note → Option (Back T) → Type 0
  IsCarried link then note back =
      (more : List Trip) × Went gives link then more
      × ((bytes : Option (List ℕ)) × IsOneTrip more (note_bytes note) bytes
      × IsHeard objects regions (IsTaken stands) bytes (note_of back) × IsToldWith stands back)

  -- or memory ran out on its way
  abbrev pub IsCarriedOrNot : Option (List Trip) → Option (List Trip) → Note → Type 0
  IsCarriedOrNot link then note =
      (more : List Trip) × Went gives link then more × IsOneTripOrNone more (note_bytes note)

  pub under-way-first : depart_fault (card_at old way.object way.from) way.from way.to ≡ None → HasWay old way
      → (link : Option (List Trip)) (m : Moment) → m ≡ departure old way parcel
      → IsUnderWay gives objects regions stands way parcel old link link m None
  under-way-first fine has link m is = record {
    trips = [];
    went = went-none gives link;
    drives = sym is;
    given_is = subst (λ (n : Moment). IsGivenOf stands n.landed None) (sym is) tt;
    onward = subst (λ (n : Moment). Onward way old n.field) (sym is) (onward-departed way old has parcel fine);
    asks_own = subst (Asks objects regions way parcel) (sym is) (asks-first objects regions way parcel old has fine);
  }

  module _ (fine : depart_fault (card_at old way.object way.from) way.from way.to ≡ None)
      (before link : Option (List Trip)) (m : Moment) (given : Option T)
      (now : IsUnderWay gives objects regions stands way parcel old before link m given) where
    cut-as : (after : Option (List Trip)) (trips : List Trip) (new : List (List Card)) → Went gives before after trips
        → IsCut objects regions (IsTaken stands) way (departure old way parcel) trips
        → Goes new before after (Err NoMemory)
    cut-as after trips new went cut =
        (trips, went, record { first = fine; silent = λ other e. absurd (cc); cut = cut })

    -- memory ran out where nothing is carried
    pub goes-cut : (new : List (List Card)) → Goes new before link (Err NoMemory)
    goes-cut new = cut-as link now.trips new now.went
        (drives-cut objects regions (IsTaken stands) way now.trips (departure old way parcel) m now.drives)

    -- the note that is asked is one of the field, and an offer is of the parcel
    pub asked-note : (note : Note) → asks way m ≡ Some note → note.trip < 2 ^ 64 → HasCounts objects regions old
        → HasWay old way
        → IsNote objects regions note
        × (note.kind ≡ Offer → note ≡ offer_of way.object note.trip way.from way.to parcel)
    asked-note note asked small counts has =
        asked-is objects regions way parcel old has m now.onward now.asks_own counts note small asked

    module _ (then : Option (List Trip)) (note : Note) (asked : asks way m ≡ Some note) where
      -- on the way of a note
      pub goes-off : (new : List (List Card)) → IsCarriedOrNot link then note → Goes new before then (Err NoMemory)
      goes-off new (more, went, one) =
          cut-as then (now.trips ++ more) new (went-on gives before link then now.trips more now.went went)
          (drives-cut-off objects regions (IsTaken stands) way now.trips more (departure old way parcel) m note
          now.drives asked one)

      module _ (back : Option (Back T)) (carried : IsCarried link then note back) where
        -- or after it
        pub goes-unheard : (new : List (List Card)) → Goes new before then (Err NoMemory)
        goes-unheard new =
            let (more, went, one) = carried in
            goes-off new (more, went, inr (one.0, one.1))

        module _ (counts : HasCounts objects regions old) (has : HasWay old way) (next : Moment)
            (heard : next ≡ hears way m (note_of back)) where
          there : IfSome (note_of back) (λ n. HasCard m.field n.object n.to)
          there = heard-there objects regions (IsTaken stands) old m.field counts now.onward.long carried.2.0
              (note_of back) carried.2.2

          -- less is left
          pub less-on : left way next < left way m
          less-on = subst (λ (n : Moment). left way n < left way m) (sym heard)
              (less-hears way old has m now.onward (note_of back) note there asked)

          pub under-way-on : (parts : Option T) → parts ≡ given_by way m.field back given
              → IsUnderWay gives objects regions stands way parcel old before then next parts
          under-way-on parts is =
              let (more, went, (bytes, one, as_note, told)) = carried in
              record {
                trips = now.trips ++ more;
                went = went-on gives before link then now.trips more now.went went;
                drives = subst (λ (n : Moment). Drives objects regions (IsTaken stands) way (departure old way parcel)
                    (now.trips ++ more) n) (sym heard)
                    (subst (λ (ts : List Trip). Drives objects regions (IsTaken stands) way (departure old way parcel)
                    (now.trips ++ ts) (hears way m (note_of back))) (sym one)
                    (drives-on objects regions (IsTaken stands) way now.trips (departure old way parcel) m note
                    (note_of back) (record { sent = note_bytes note; back = bytes }) now.drives asked refl as_note));
                given_is = given-on stands way m given now.given_is next parts back told heard is;
                onward = subst (λ (n : Moment). Onward way old n.field) (sym heard)
                    (onward-hears way old has m now.onward (note_of back) there);
                asks_own = subst (Asks objects regions way parcel) (sym heard)
                    (asks-on objects regions way parcel old has m now.onward now.asks_own (note_of back)
                    (heard-note objects regions (IsTaken stands) bytes (note_of back) as_note) there);
              }

    module _ (new : List (List Card)) (rests : new ≡ rested m.field way) where
      pub counts-rested : HasCounts objects regions old → HasWay old way → HasCounts objects regions new
      counts-rested counts has = counts-long objects regions old new counts
          (subst (λ (f : List (List Card)). IsAsLong old f) (sym rests) (rested-long way old has m.field now.onward))

      pub goes-rested : (came : Option T) → AreCounts objects regions → length parcel < 2 ^ 63
          → HasCounts objects regions old → HasWay old way → asks way m ≡ None
          → came ≡ landed_unless (is_live (card_at new way.object way.from).phase) given
          → Goes new before link (Ok came)
      goes-rested came ranges short counts has none is =
          let home = is_live (card_at new way.object way.from).phase in
          let landed = landed_unless home m.landed in
          let it : IsHandedOver objects regions (IsTaken stands) way parcel now.trips old new landed = record {
            departs = fine;
            last = m;
            drives = now.drives;
            ends = none;
            rests = rests;
            landed_is = refl;
          } in (
            now.trips,
            now.went,
            (
              landed,
              it,
              subst (λ (g : Option T). IsGivenOf stands landed g) (sym is)
                  (given-unless stands home m.landed given now.given_is),
              λ place entries may.
                  handed-rests objects regions (IsTaken stands) old new way parcel now.trips landed ranges short
                  counts has it place entries may,
            ),
          )
