-- What holds at the start of a run, and what it says of an object.
use Rattle.std.proofs.Common.{◌≡◌, ◌≢◌, ◌∙◌, refl, sym, ap, subst, ℕ, ◌-◌, ◌<◌, ◌≤◌, nat_eq, Bool, true, false, if◌then◌else◌, ◌⊎◌, List, [], length, map, replicate, get_or, inl, inr, arith}
use Rattle.std.proofs.lemmas.Bool.{cases_eq, cases_lt, eqb-true}
use Rattle.std.proofs.lemmas.List.{get_or-map, get_or-replicate, get_or_past, length-map, length-replicate, length-set}
use Rattle.std.specs.Prelude.{All}
use Rattle.lsl_handoff.specs.declared.card.Card.{Card}
use Rattle.lsl_handoff.specs.declared.card.Phase.{Phase}
use Rattle.lsl_handoff.specs.declared.card.Phase.TheVariants.{Away, Live, Leaving, Cancelling}
use Rattle.lsl_handoff.specs.Cards.{blank, home_card}
use Rattle.lsl_handoff.specs.Fields.{IsLive, IsOneOf, card_at, card_of, cards_at_start, cards_of, field_at_start}
use Rattle.lsl_handoff.specs.Laws.{IsInOnePlace, IsUnderWay}
use Rattle.lsl_handoff.specs.Runs.{Run, start}
use Rattle.lsl_handoff.proofs.FieldLemmas.{card-others, card-replaced}
use Rattle.lsl_handoff.proofs.Holding.{Has, HasNot, Holds}
use Rattle.lsl_handoff.proofs.HoldLemmas.{live-holder}
use Rattle.lsl_handoff.proofs.RunLemmas.{KeepsNumbers, KeepsObject}

blank-at : (regions i : ℕ) → get_or (replicate regions blank) i blank ≡ blank
blank-at regions i = by-place (cases_lt i regions)
  where
    by-place : (i < regions) ⊎ (regions ≤ i) → get_or (replicate regions blank) i blank ≡ blank
    by-place (inl within) = get_or-replicate regions i blank blank within
    by-place (inr past) = get_or_past (replicate regions blank) i blank
        (omega (arith, length-replicate regions blank, past))

blank-card : (regions region : ℕ) → card_of (replicate regions blank) region ≡ blank
blank-card regions region = by-zero (nat_eq region 0)
  where
    by-zero : (b : Bool) → (if b then blank else get_or (replicate regions blank) (region - 1) blank) ≡ blank
    by-zero true = refl
    by-zero false = blank-at regions (region - 1)

module _ (regions home : ℕ) (there : IsOneOf regions home) where
  at : ℕ → Card
  at = card_of (cards_at_start regions home)

  pub home-is : card_of (cards_at_start regions home) home ≡ home_card
  home-is = card-replaced (replicate regions blank) home home_card
      (there.0, omega (arith, there.1, length-replicate regions blank))

  pub other-is : (q : ℕ) → q ≢ home → card_of (cards_at_start regions home) q ≡ blank
  other-is q apart = card-others (replicate regions blank) home home_card there.0 q apart ∙ blank-card regions q

  low : (q : ℕ) → (q ≡ home) ⊎ (q ≢ home)
      → (card_of (cards_at_start regions home) q).trip ≤ (card_of (cards_at_start regions home) home).trip
  low q (inl is) = omega (arith, ap (λ (r : ℕ). (card_of (cards_at_start regions home) r).trip) is)
  low q (inr apart) = omega (arith, ap (λ (c : Card). c.trip) (other-is q apart))

  holds-start : Holds regions (card_of (cards_at_start regions home)) [] home
  holds-start = record {
    there = there;
    has = subst (Has regions (card_of (cards_at_start regions home)) [] home)
        (sym (ap (λ (c : Card). c.phase) home-is)) refl;
    others = λ q apart. subst (HasNot regions (card_of (cards_at_start regions home)) q)
        (sym (ap (λ (c : Card). c.phase) (other-is q apart))) tt;
    greatest = λ q. low q (cases_eq q home);
  }

module _ (homes : List ℕ) (regions : ℕ) (are : All (IsOneOf regions) homes) where
  pub numbers-start : KeepsNumbers (length homes) (start homes regions)
  numbers-start = record {
    long = length-map homes (cards_at_start regions);
    there = λ note (k, within, is). absurd (omega (arith, within));
  }

  pub cards-start : (object : ℕ) → IsOneOf (length homes) object
      → cards_of (field_at_start homes regions) object ≡ cards_at_start regions (get_or homes (object - 1) 0)
  cards-start object there = by-zero (nat_eq object 0) refl
    where
      by-zero : (b : Bool) → nat_eq object 0 ≡ b
          → (if b then [] else get_or (map (cards_at_start regions) homes) (object - 1) [])
          ≡ cards_at_start regions (get_or homes (object - 1) 0)
      by-zero true is = absurd (omega (arith, eqb-true object 0 is, there.0))
      by-zero false is = get_or-map (cards_at_start regions) homes (object - 1) 0 [] (omega (arith, there.0, there.1))

  pub object-start : (object : ℕ) → IsOneOf (length homes) object
      → KeepsObject regions (start homes regions) object []
  object-start object there =
      let home = get_or homes (object - 1) 0 in
      let at_home = are (object - 1) 0 (omega (arith, there.0, there.1)) in
      record {
        long = ap length (cards-start object there)
            ∙ length-set (replicate regions blank) (home - 1) home_card ∙ length-replicate regions blank;
        keeps = record {
          holder = home;
          holds = subst (λ (cs : List Card). Holds regions (card_of cs) [] home) (sym (cards-start object there))
              (holds-start regions home at_home);
          known = λ note (is, about). absurd (omega (arith, is.1));
        };
      }

-- what holds decides where the object is
module _ (regions : ℕ) (run : Run) (object : ℕ) (parcel : List ℕ) (state : KeepsObject regions run object parcel) where
  at-now : ℕ → Card
  at-now = card_at run.field object

  held-live : (region : ℕ) (held : List ℕ) → IsLive run.field object region held → region ≡ state.keeps.holder
  held-live region held live = live-holder regions (card_at run.field object) (card_at run.field object) parcel
      state.keeps.holder state.keeps.holds region held live

  live-parcel : (held : List ℕ) → (card_at run.field object state.keeps.holder).phase ≡ Live held → held ≡ parcel
  live-parcel held live =
      subst (Has regions (card_at run.field object) parcel state.keeps.holder) live state.keeps.holds.has

  on-way : ((region : ℕ) (held : List ℕ) → IsLive run.field object region held → ⊥) → (phase : Phase)
      → (card_at run.field object state.keeps.holder).phase ≡ phase
      → Has regions (card_at run.field object) parcel state.keeps.holder phase
      → IsUnderWay run.field object state.keeps.holder parcel
  on-way none Away is has = absurd has
  on-way none (Live held) is has = absurd (none state.keeps.holder held is)
  on-way none (Leaving to held) is has = (
    inl (to, is ∙ ap (λ (p : List ℕ). Leaving to p) has.0),
    state.keeps.holds.greatest,
  )
  on-way none (Cancelling to held) is has = (
    inr (to, is ∙ ap (λ (p : List ℕ). Cancelling to p) has.0),
    state.keeps.holds.greatest,
  )

  pub in-one-place : IsInOnePlace run.field object parcel
  in-one-place = record {
    one = λ a b x y first second. held-live a x first ∙ sym (held-live b y second);
    live = λ region held live. live-parcel held
        (subst (λ (r : ℕ). IsLive run.field object r held) (held-live region held live) live);
    under_way = λ none. (
      state.keeps.holder,
      on-way none (card_at run.field object state.keeps.holder).phase refl state.keeps.holds.has,
    );
  }
