-- An object comes only as an offer of its own.
use Rattle.std.proofs.Common.{◌≡◌, refl, sym, subst, ℕ, ◌-◌, ◌&&◌, nat_eq, nat_lt, Bool, true, false, List, [], ◌∷◌, if◌then◌else◌, Option, Some, None}
use Rattle.std.specs.Prelude.{IfSome}
use Rattle.std.proofs.lemmas.Bool.{eqb-true}
use Rattle.lsl_ports.specs.Trips.{Trip}
use Rattle.lsl_handoff.specs.declared.card.Card.{Card}
use Rattle.lsl_handoff.specs.declared.drive.Way.{Way}
use Rattle.lsl_handoff.specs.declared.note.Note.{Note}
use Rattle.lsl_handoff.specs.Drives.{Moment, asks, hears, is_offer, landed_by, landing, lands, next_reply, next_rounds, received, settled_unless}
use Rattle.lsl_handoff.specs.Fields.{card_at}
use Rattle.lsl_handoff.specs.Handovers.{Drives, IsGivenOf, IsHandedOver, landed_unless}
use Rattle.lsl_image.specs.declared.parts.ObjectParts.{ObjectParts}
use Rattle.lsl_region.specs.Crossings.{CanArrive}
use Rattle.lsl_region.specs.Grids.{Contents}
use Rattle.lsl_code.specs.declared.woven_units.Woven.{Woven as Code}
use Rattle.lsl_world.specs.Handing.{IsImageFrom}

-- the offer, if one landed, is one of the way's object
abbrev pub IsOwn : Way → Option Note → Type 0
IsOwn way None = Unit {0}
IsOwn way (Some note) = note.object ≡ way.object

settled-landed : (o : Option Note) (way : Way) (m : Moment) → (settled_unless o way m).landed ≡ m.landed
settled-landed None way m = refl
settled-landed (Some note) way m = refl

first-true : (a b c d : Bool) → (a && b && c && d) ≡ true → a ≡ true
first-true true b c d e = refl
first-true false b c d e = absurd cc

landing-own : (way : Way) (field : List (List Card)) (note : Note) (before : Option Note) → IsOwn way before
    → IsOwn way (landing way field note before)
landing-own way field note before own = go (lands way field note) refl where
  go : (b : Bool) → lands way field note ≡ b → IsOwn way (if b then Some note else before)
  go true e = eqb-true note.object way.object (first-true (nat_eq note.object way.object)
      (nat_eq note.to way.to) (is_offer note.kind) (nat_lt (card_at field way.object way.to).trip note.trip) e)
  go false e = own

landed-by-own : (way : Way) (m : Moment) (back : Option Note) → IsOwn way m.landed → IsOwn way (landed_by way m back)
landed-by-own way m None own = own
landed-by-own way m (Some note) own = landing-own way m.field note m.landed own

hears-own : (way : Way) (m : Moment) (back : Option Note) → IsOwn way m.landed → IsOwn way (hears way m back).landed
hears-own way m back own =
    let heard : Moment = record {
      field = (received m.field back).0;
      rounds = next_rounds m.reply m.rounds;
      reply = next_reply m.reply (received m.field back).1;
      landed = landed_by way m back;
    } in
    subst (IsOwn way) (sym (settled-landed (asks way heard) way heard)) (landed-by-own way m back own)

drives-own : (n k : ℕ) (Takes : Note → Type 0) (way : Way) (trips : List Trip) (m last : Moment)
    → IsOwn way m.landed → Drives n k Takes way m trips last → IsOwn way last.landed
drives-own n k Takes way [] m last own same = subst (λ (x : Moment). IsOwn way x.landed) same own
drives-own n k Takes way (t ∷ trips) m last own drives =
    let (note, back, asked, sent, heard, rest) = drives in
    drives-own n k Takes way trips (hears way m back) last (hears-own way m back own) rest

unless-own : (way : Way) (home : Bool) (landed : Option Note) → IsOwn way landed
    → IsOwn way (landed_unless home landed)
unless-own way true landed own = tt
unless-own way false landed own = own

-- and where it came, its parts can arrive
pub given-fits : (codes : List Code) (regions : List (List ℕ)) (grid : Contents) (way : Way) (n k : ℕ)
    (Takes : Note → Type 0) (parcel : List ℕ) (trips : List Trip) (old new : List (List Card)) (landed : Option Note)
    (given : Option ObjectParts) → IsHandedOver n k Takes way parcel trips old new landed
    → IsGivenOf (IsImageFrom codes grid regions) landed given → IfSome given (CanArrive codes grid (way.object - 1))
given-fits codes regions grid way n k Takes parcel trips old new landed given over is =
    go landed given is (subst (IsOwn way) (sym over.landed_is)
    (unless-own way _ over.last.landed (drives-own n k Takes way trips _ over.last tt over.drives))) where
      go : (landed : Option Note) (given : Option ObjectParts) → IsGivenOf (IsImageFrom codes grid regions) landed given
          → IsOwn way landed → IfSome given (CanArrive codes grid (way.object - 1))
      go None None is own = tt
      go None (Some parts) is own = absurd is
      go (Some offer) None is own = absurd is
      go (Some offer) (Some parts) is own = subst (λ (o : ℕ). CanArrive codes grid (o - 1) parts) own is.fits
