-- The notecards of texts are one, or one text is the first that isn't one.
use Rattle.std.proofs.Common.{◌≡◌, ℕ, zero, suc, ◌<◌, List, [], ◌∷◌, take, Some, inl, inr, refl, sym, ap, ap₂, ◌∙◌, subst, arith}
use Rattle.std.specs.Prelude.{slice_get}
use Rattle.std.proofs.lemmas.Bool.{cases_lt}
use Rattle.lsl_text.specs.declared.Refusal.TheVariants.{Fault}
use Rattle.lsl_notes.specs.declared.faults.CardFault.{CardFault}
use Rattle.lsl_notes.specs.declared.faults.CardFault.TheVariants.{NotText, TooLong}
use Rattle.lsl_notes.specs.Card.{IsCard, IsRefused}
use Rattle.lsl_top.specs.Answers.{note_refused}
use Rattle.lsl_top.specs.Notes.{AreCards, FirstBad, IsBadAt}
use Rattle.lsl_top.proofs.OneText.{get-take, some-one}

abbrev Card : Type 0
Card = List (List ℕ)

pub cards-one : (texts : List (List ℕ)) (cs ds : List Card) → AreCards texts cs → AreCards texts ds → cs ≡ ds
cards-one [] [] [] h k = refl
cards-one (t ∷ texts) (c ∷ cs) (d ∷ ds) h k =
    ap₂ (λ x xs. x ∷ xs) (h.0.lines ∙ sym k.0.lines) (cards-one texts cs ds h.1 k.1)
cards-one [] (c ∷ cs) ds h k = absurd h
cards-one [] [] (d ∷ ds) h k = absurd k
cards-one (t ∷ texts) [] ds h k = absurd h
cards-one (t ∷ texts) (c ∷ cs) [] h k = absurd k

-- a notecard has no fault, and what isn't one has one fault
card-no_fault : (text : List ℕ) (card : Card) (fault : CardFault) → IsCard text card → IsRefused text (Fault fault) → ⊥
card-no_fault text card TooLong h r = omega (arith, h.within, r)
card-no_fault text card (NotText line) h r = r.other h.text

card-fault-one : (text : List ℕ) (f g : CardFault) → IsRefused text (Fault f) → IsRefused text (Fault g) → f ≡ g
card-fault-one text TooLong TooLong r s = refl
card-fault-one text TooLong (NotText line) r s = absurd (omega (arith, r, s.within))
card-fault-one text (NotText line) TooLong r s = absurd (omega (arith, s, r.within))
card-fault-one text (NotText line) (NotText other) r s = ap (λ n. NotText n) (r.only ∙ sym s.only)

card-at : (texts : List (List ℕ)) (cards : List Card) (place : ℕ) (text : List ℕ) → AreCards texts cards
    → slice_get texts place ≡ Some text → (card : Card) × IsCard text card
card-at [] cards place text h e = absurd (cc)
card-at (t ∷ texts) [] place text h e = absurd h
card-at (t ∷ texts) (c ∷ cards) zero text h e = (c, subst (λ (z : List ℕ). IsCard z c) (some-one t text e) h.0)
card-at (t ∷ texts) (c ∷ cards) (suc place) text h e = card-at texts cards place text h.1 e

-- texts that are all notecards have none that isn't
pub cards-bad : (texts : List (List ℕ)) (cards : List Card) (place : ℕ) (fault : CardFault) → AreCards texts cards
    → IsBadAt texts place fault → ⊥
cards-bad texts cards place fault h r =
    let (c, k) = card-at texts cards place r.text h r.text_is in card-no_fault r.text c fault k r.refused

not_before : (texts : List (List ℕ)) (a b : ℕ) (f g : CardFault) → IsBadAt texts a f → IsBadAt texts b g → a < b → ⊥
not_before texts a b f g r s lt =
    let (c, k) = card-at (take b texts) s.before.0 a r.text s.before.1 (get-take texts a b lt ∙ r.text_is) in
    card-no_fault r.text c f k r.refused

places-one : (texts : List (List ℕ)) (a b : ℕ) (f g : CardFault) → IsBadAt texts a f → IsBadAt texts b g → a ≡ b
places-one texts a b f g r s = elim (cases_lt a b) [
  | inl lt ↦ absurd (not_before texts a b f g r s lt)
  | inr le ↦ elim (cases_lt b a) [
    | inl lt ↦ absurd (not_before texts b a g f s r lt)
    | inr ge ↦ omega arith
  ]
]

pub bad-one : (names texts : List (List ℕ)) (n m : List ℕ) (f g : CardFault) → FirstBad names texts n f
    → FirstBad names texts m g → note_refused n f ≡ note_refused m g
bad-one names texts n m f g r s =
    let at = places-one texts r.place s.place f g r.bad s.bad in
    let text = some-one r.bad.text s.bad.text
    (sym r.bad.text_is ∙ ap (λ place. slice_get texts place) at ∙ s.bad.text_is) in
    let same = card-fault-one s.bad.text f g (subst (λ (z : List ℕ). IsRefused z (Fault f)) text r.bad.refused)
    s.bad.refused in
    let named = some-one n m (sym r.named ∙ ap (λ place. slice_get names place) at ∙ s.named) in
    ap₂ (λ name fault. note_refused name fault) named same
