use Rattle.std.proofs.Common.{◌≡◌, ◌∙◌, ◌<◌, ◌≤◌, List, get_or, sym, subst, length}
use Rattle.lsl_handoff.specs.declared.card.Card.{Card}
use Rattle.lsl_handoff.proofs.FieldLemmas.{first-live, none-live}
use Rattle.lsl_handoff.proofs.field.Cards.live.Goals as goal

pub returns-then-is_live : goal.returns-then-is_live
returns-then-is_live c =
    let cards : c.deref-card-items.result.now ≡ c.args.self.now = c.deref-card-items.ensures.value ∙ c.self.view_is in
    first-live c.args.self.now c.loop-i.i c.loop-i.invariant c.card-item.result
    (subst (λ (l : List Card). c.loop-i.i < length l) cards c.loop-i-test.true)
    (subst (λ (l : List Card). c.card-item.result ≡ get_or l c.loop-i.i c.card-item.result) cards c.card-item.is)
    (sym c.is_live.ensures ∙ c.if-is_live.true)

pub returns : goal.returns
returns c =
    let cards : c.deref-card-items.result.now ≡ c.args.self.now = c.deref-card-items.ensures.value ∙ c.self.view_is in
    none-live c.args.self.now c.loop-i.i c.loop-i.invariant
    (subst (λ (l : List Card). length l ≤ c.loop-i.i) cards c.loop-i-test.false)
