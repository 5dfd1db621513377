use Rattle.std.proofs.Common.{Some, ℕ, Vec, Global, map, take, List, [], ◌∷◌, ◌++◌, ◌+◌, length, ap, sym, ◌∙◌, subst, arith, length-append}
use Rattle.std.specs.List.{AllZip}
use Rattle.lsl_text.specs.declared.Refusal.{Refusal}
use Rattle.lsl_text.specs.declared.Refusal.TheVariants.{Fault}
use Rattle.lsl_notes.specs.declared.faults.CardFault.{CardFault}
use Rattle.lsl_notes.specs.Card.{IsCard, IsRefused}
use Rattle.lsl_top.specs.Notes.{AreCards, IsBadAt}
use Rattle.lsl_top.specs.declared.noting.BadCard.{BadCard as TheBad}
use Rattle.lsl_top.proofs.Faults.{bad-place}
use Rattle.lsl_top.proofs.Zips.{get-at, take-map-more, zip-push}
use Rattle.lsl_top.proofs.noting.read_cards.Goals as goal

pub loop-place-preserved : goal.loop-place-preserved
loop-place-preserved c =
    let cards = c.loop-place.cards.items in
    let card = c.in-Ok.card in
    let text = c.index-texts-place.result in
    let pushed = c.in_ok-push-in-Ok.ensures.items in
    record {
      read = subst
          (λ (z : List (List (List ℕ))). AreCards (take (c.loop-place.place + 1)
          (map (λ (t : Vec ℕ Global). t.items) c.args.texts.now)) z) (sym pushed)
          (subst (λ (z : List (List ℕ)). AllZip IsCard z (cards ++ card ∷ []))
          (sym (take-map-more (λ t. t.items) c.args.texts.now c.loop-place.place text text c.loop-place-test.true
          c.index-texts-place.is))
          (zip-push IsCard _ cards text.items card c.loop-place.invariant.read
          (subst (λ (z : List ℕ). IsCard z card) c.as_slice.ensures.value c.in-Ok.ensures.ok)));
      len = omega (arith, ap length pushed, length-append cards (card ∷ []), c.loop-place.invariant.len);
    }

pub returns-in-Err-clause-refused : goal.returns-in-Err-clause-refused
returns-in-Err-clause-refused c = λ bad is.
    let text = c.index-texts-place.result in
    let texts = map (λ (t : Vec ℕ Global). t.items) c.args.texts.now in
    let at = bad-place c.loop-place.place c.in-Err.refusal c.at_place.result bad c.at_place.ensures is in
    let here : IsBadAt texts c.loop-place.place at.fault = record {
      text = text.items;
      text_is = get-at (λ (t : Vec ℕ Global). t.items) c.args.texts.now c.loop-place.place text c.loop-place-test.true
          ∙ ap (λ (t : Vec ℕ Global). Some t.items) (sym c.index-texts-place.is);
      refused = subst (λ (z : List ℕ). IsRefused z (Fault at.fault)) c.as_slice.ensures.value
          (subst (λ (r : Refusal CardFault). IsRefused c.as_slice.result.now r) at.was c.in-Err.ensures.err);
      before = (c.loop-place.cards.items, c.loop-place.invariant.read);
    } in
    subst (λ (b : TheBad). IsBadAt texts b.place b.fault) at.is here
