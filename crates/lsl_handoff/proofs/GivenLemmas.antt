-- What is returned of an object that is handed over is the meaning of the offer with which it came.
use Rattle.std.proofs.Common.{◌≡◌, ◌∙◌, refl, sym, ap, subst, ◌&&◌, Bool, true, false, if◌then◌else◌, Option, Some, None}
use Rattle.lsl_handoff.specs.declared.drive.Way.{Way}
use Rattle.lsl_handoff.specs.declared.handover.Back.{Back}
use Rattle.lsl_handoff.specs.declared.note.Note.{Note}
use Rattle.lsl_handoff.specs.declared.note.NoteKind.{NoteKind}
use Rattle.lsl_handoff.specs.declared.note.NoteKind.TheVariants.{Offer, Taken, Cancel, Refused}
use Rattle.std.specs.Prelude.{nat_eq, nat_lt}
use Rattle.lsl_handoff.specs.Drives.{Moment, asks, hears, is_offer, landed_by, lands, next_reply, next_rounds, received, settled_unless}
use Rattle.lsl_handoff.specs.Fields.{card_at}
use Rattle.lsl_handoff.specs.Handovers.{IsGivenOf, IsToldOf, IsToldWith, given_by, note_of}

-- calling an object back keeps what landed
settled-landed : (asked : Option Note) (way : Way) (m : Moment) → (settled_unless asked way m).landed ≡ m.landed
settled-landed None way m = refl
settled-landed (Some note) way m = refl

pub hears-landed : (way : Way) (m : Moment) (back : Option Note) → (hears way m back).landed ≡ landed_by way m back
hears-landed way m back =
    let after : Moment = record {
      field = (received m.field back).0;
      rounds = next_rounds m.reply m.rounds;
      reply = next_reply m.reply (received m.field back).1;
      landed = landed_by way m back;
    } in settled-landed (asks way after) way after

third : (a b c d : Bool) → (a && b && c && d) ≡ true → c ≡ true
third true true true d e = refl
third true true false d e = absurd (cc)
third true false c d e = absurd (cc)
third false b c d e = absurd (cc)

told-offer : {T : Type 0} (stands : Note → T → Type 0) (kind : NoteKind) → is_offer kind ≡ true → (note : Note)
    (parts : Option T) → IsToldOf stands kind note parts → IsGivenOf stands (Some note) parts
told-offer stands Offer e note None told = told
told-offer stands Offer e note (Some parts) told = told
told-offer stands Taken e note parts told = absurd (cc)
told-offer stands Cancel e note parts told = absurd (cc)
told-offer stands Refused e note parts told = absurd (cc)

module _ {T : Type 0} (stands : Note → T → Type 0) (way : Way) (m : Moment) (before : Option T)
    (is : IsGivenOf stands m.landed before) where
  given-by : (back : Option (Back T)) → IsToldWith stands back
      → IsGivenOf stands (landed_by way m (note_of back)) (given_by way m.field back before)
  given-by None told = is
  given-by (Some back) told = go (lands way m.field back.note) refl where
    go : (b : Bool) → lands way m.field back.note ≡ b
        → IsGivenOf stands (if b then Some back.note else m.landed) (if b then back.parts else before)
    go false e = is
    go true e =
        told-offer stands back.note.kind
        (third (nat_eq back.note.object way.object) (nat_eq back.note.to way.to) (is_offer back.note.kind)
        (nat_lt (card_at m.field way.object way.to).trip back.note.trip) e)
        back.note back.parts told

  pub given-on : (new : Moment) (parts : Option T) (back : Option (Back T)) → IsToldWith stands back
      → new ≡ hears way m (note_of back) → parts ≡ given_by way m.field back before → IsGivenOf stands new.landed parts
  given-on new parts back told is given =
      let same : new.landed ≡ landed_by way m (note_of back) =
      ap (λ (n : Moment). n.landed) is ∙ hears-landed way m (note_of back) in
      subst (λ (l : Option Note). IsGivenOf stands l parts) (sym same)
      (subst (λ (p : Option T). IsGivenOf stands (landed_by way m (note_of back)) p) (sym given) (given-by back told))
