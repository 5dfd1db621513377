-- From what was read of the files of notecards to what their shelf holds.
use Rattle.std.proofs.Common.{◌≡◌, ℕ, zero, suc, ◌<◌, List, [], ◌∷◌, length, take, Option, Some, None, inl, inr, refl, ap, ap₂, ◌∙◌, subst, arith}
use Rattle.std.specs.Prelude.{slice_get}
use Rattle.std.specs.List.{AllZip}
use Rattle.std.proofs.lemmas.Bool.{cases_lt}
use Rattle.std.proofs.lemmas.List.{length-take, take_all}
use Rattle.lsl_text.specs.declared.Refusal.TheVariants.{Fault}
use Rattle.lsl_ports.specs.Shelf.{Files, IsHeadOf, head_of}
use Rattle.lsl_ports.specs.Trips.{Trip}
use Rattle.lsl_notes.specs.declared.faults.CardFault.{CardFault}
use Rattle.lsl_notes.specs.declared.faults.CardFault.TheVariants.{NotText, TooLong}
use Rattle.lsl_notes.specs.Card.{IsCard, IsRefused}
use Rattle.lsl_region.specs.Worlds.{World}
use Rattle.lsl_top.specs.Answers.{Answer, Grade, PlaysTexts}
use Rattle.lsl_top.specs.Froms.{IsFromTexts}
use Rattle.lsl_top.specs.Held.{AreHeld, Holds}
use Rattle.lsl_top.specs.Notes.{AreCards, IsBadAt}
use Rattle.lsl_top.specs.Plays.{Play}
use Rattle.lsl_top.specs.Ports.{IsRead}
use Rattle.lsl_top.proofs.OneText.{some-one}

-- what is found of the bytes that were read holds of the text
pub record IsNoteOf (bytes text : List ℕ) : Type 0 where
  pub card : (lines : List (List ℕ)) → IsCard bytes lines → bytes ≡ text
  pub bad : (fault : CardFault) → IsRefused bytes (Fault fault) → IsRefused text (Fault fault)

same-note : (bytes text : List ℕ) → bytes ≡ text → IsNoteOf bytes text
same-note bytes text e = record {
  card = λ lines h. e;
  bad = λ fault h. subst (λ (z : List ℕ). IsRefused z (Fault fault)) e h;
}

-- of a text that is too long enough bytes were read to see that
long-note : (bytes text : List ℕ) → 65536 < length bytes → 65536 < length text → IsNoteOf bytes text
long-note bytes text many long = record {
  card = λ lines h. absurd (omega (arith, many, h.within));
  bad = bad;
}
  where
    bad : (fault : CardFault) → IsRefused bytes (Fault fault) → IsRefused text (Fault fault)
    bad TooLong h = long
    bad (NotText line) h = absurd (omega (arith, many, h.within))

note-head : (text bytes : List ℕ) → bytes ≡ head_of 65536 text → IsNoteOf bytes text
note-head text bytes e = elim (cases_lt 65536 (length text)) [
  | inl long ↦ long-note bytes text (omega (arith, ap length e, length-take 65537 text, long)) long
  | inr short ↦ same-note bytes text (e ∙ take_all 65537 text (omega (arith, short)))
]

-- the file of that name has a text of which this was read
abbrev HasNote : Option Files → List ℕ → List ℕ → Type 0
HasNote held name bytes = (text : List ℕ) × Holds held name text × IsNoteOf bytes text

note-read : (held : Option Files) (name bytes : List ℕ) → IsRead held name bytes → HasNote held name bytes
note-read None name bytes h = (bytes, tt, same-note bytes bytes refl)
note-read (Some files) name bytes h = go (files name) refl h
  where
    go : (file : Option (List ℕ)) → files name ≡ file → IsHeadOf 65536 file bytes → HasNote (Some files) name bytes
    go None e h = absurd h
    go (Some file) e h = (file, e, note-head file bytes h)

abbrev pub HaveNotes : Option Files → List (List ℕ) → List (List ℕ) → Type 0
HaveNotes held names read = (notes : List (List ℕ)) × AreHeld held names notes × AllZip IsNoteOf read notes

pub notes-read : (held : Option Files) (names read : List (List ℕ)) → AllZip (IsRead held) names read
    → HaveNotes held names read
notes-read held [] [] h = ([], tt, tt)
notes-read held (name ∷ names) (bytes ∷ read) h =
    let (note, is, of) = note-read held name bytes h.0 in
    let (notes, are, all) = notes-read held names read h.1 in
    (note ∷ notes, (is, are), (of, all))
notes-read held [] (bytes ∷ read) h = absurd h
notes-read held (name ∷ names) [] h = absurd h

-- texts that are notecards are those that were read
cards-same : (read notes : List (List ℕ)) (cards : List (List (List ℕ))) → AllZip IsNoteOf read notes
    → AreCards read cards → read ≡ notes
cards-same [] [] [] h a = refl
cards-same (bytes ∷ read) (note ∷ notes) (c ∷ cards) h a =
    ap₂ (λ (x : List ℕ) (xs : List (List ℕ)). x ∷ xs) (h.0.card c a.0) (cards-same read notes cards h.1 a.1)
cards-same [] [] (c ∷ cards) h a = absurd a
cards-same (bytes ∷ read) (note ∷ notes) [] h a = absurd a
cards-same [] (note ∷ notes) cards h a = absurd h
cards-same (bytes ∷ read) [] cards h a = absurd h

cards-read : (read notes : List (List ℕ)) (cards : List (List (List ℕ))) → AllZip IsNoteOf read notes
    → AreCards read cards → AreCards notes cards
cards-read read notes cards h a =
    subst (λ (z : List (List ℕ)). AreCards z cards) (cards-same read notes cards h a) a

-- the text at a place, and those before it
read-at : (read notes : List (List ℕ)) (place : ℕ) (bytes : List ℕ) → AllZip IsNoteOf read notes
    → slice_get read place ≡ Some bytes → (note : List ℕ) × (slice_get notes place ≡ Some note) × IsNoteOf bytes note
read-at [] [] place bytes h e = absurd (cc)
read-at (b ∷ read) (t ∷ notes) zero bytes h e =
    (t, refl, subst (λ (z : List ℕ). IsNoteOf z t) (some-one b bytes e) h.0)
read-at (b ∷ read) (t ∷ notes) (suc place) bytes h e = read-at read notes place bytes h.1 e
read-at [] (t ∷ notes) place bytes h e = absurd h
read-at (b ∷ read) [] place bytes h e = absurd h

read-before : (read notes : List (List ℕ)) (place : ℕ) → AllZip IsNoteOf read notes
    → AllZip IsNoteOf (take place read) (take place notes)
read-before read notes zero h = tt
read-before [] [] (suc place) h = tt
read-before (b ∷ read) (t ∷ notes) (suc place) h = (h.0, read-before read notes place h.1)
read-before [] (t ∷ notes) (suc place) h = absurd h
read-before (b ∷ read) [] (suc place) h = absurd h

bad-read : (read notes : List (List ℕ)) (place : ℕ) (fault : CardFault) → AllZip IsNoteOf read notes
    → IsBadAt read place fault → IsBadAt notes place fault
bad-read read notes place fault h r =
    let (note, at, of) = read-at read notes place r.text h r.text_is in
    record {
      text = note;
      text_is = at;
      refused = of.bad fault r.refused;
      before = (
        r.before.0,
        cards-read (take place read) (take place notes) r.before.0 (read-before read notes place h) r.before.1,
      );
    }

-- so what is answered to what was read is answered to the texts, and a world that fits these fits that
pub plays-noted : (grade : Grade) (from : World) (trips : List Trip) (play : Play) (texts read notes : List (List ℕ))
    (text : List ℕ) (answer : Answer) → AllZip IsNoteOf read notes
    → PlaysTexts grade from trips play texts read text answer → PlaysTexts grade from trips play texts notes text answer
plays-noted grade from trips play texts read notes text answer h
    (inl (programs, codes, accepted, has, inl (cards, all, e))) =
    inl (programs, codes, accepted, has, inl (cards, cards-read read notes cards h all, e))
plays-noted grade from trips play texts read notes text answer h
    (inl (programs, codes, accepted, has, inr (name, fault, first, e))) =
    inl (
      programs,
      codes,
      accepted,
      has,
      inr (
        name,
        fault,
        record { place = first.place; named = first.named; bad = bad-read read notes first.place fault h first.bad },
        e,
      ),
    )
plays-noted grade from trips play texts read notes text answer h (inr r) = inr r

pub from-noted : (play : Play) (texts read notes : List (List ℕ)) (text : List ℕ) (from : World)
    → AllZip IsNoteOf read notes → IsFromTexts play texts notes text from → IsFromTexts play texts read text from
from-noted play texts read notes text from h fits programs codes accepted has cards all =
    fits programs codes accepted has cards (cards-read read notes cards h all)
