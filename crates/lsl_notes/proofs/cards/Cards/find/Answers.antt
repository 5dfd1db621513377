use Rattle.std.proofs.Common.{◌∙◌, ◌+◌, sym, ap, rules, tests}
use Rattle.std.specs.Option.{option_map}
use Rattle.std.proofs.lemmas.Iterator.{YieldsList-from_slice}
use Rattle.std.proofs.lemmas.Iterator.Search.{position_from_yields_List}
use Rattle.lsl_notes.specs.Notecards.{lies_at}
use Rattle.lsl_notes.proofs.cards.Cards.find.Goals as goal

pub returns-in-Some-clause-number : goal.returns-in-Some-clause-number
returns-in-Some-clause-number c =
    let e = position_from_yields_List (lies_at c.args.prim c.args.name.now) _ _ _ c.position.ensures.ran
    (YieldsList-from_slice c.args.self.now cc) (λ x b q k. search (rules, tests)) in
    ap (option_map (λ place. place + 1)) (sym c.in-Some.is ∙ e)

pub returns-in-None-clause-number : goal.returns-in-None-clause-number
returns-in-None-clause-number c =
    let e = position_from_yields_List (lies_at c.args.prim c.args.name.now) _ _ _ c.position.ensures.ran
    (YieldsList-from_slice c.args.self.now cc) (λ x b q k. search (rules, tests)) in
    ap (option_map (λ place. place + 1)) (sym c.in-None.is ∙ e)
