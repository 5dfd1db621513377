use Rattle.std.proofs.Common.{◌∙◌, ◌≤◌, List, ap, rules, subst, sym, w32}
use Rattle.std.specs.Prelude.{pos, length}
use Rattle.std.proofs.lemmas.Int.{to_z-of_z}
use Rattle.lsl_text.specs.Number.{decimal_of}
use Rattle.lsl_notes.specs.declared.cards.Notecard.{Notecard}
use Rattle.lsl_notes.specs.Notecards.{IsListed, card_at, data_of}
use Rattle.lsl_region.specs.Grids.{Contents}
use Rattle.lsl_region.proofs.Results.{IfOk-map}
use Rattle.lsl_region.proofs.grid.Grid.data_of.Goals as goal

pub line-requires : goal.line-requires
line-requires c =
    subst (λ (cards : List Notecard). IsListed cards c.args.card)
    (sym (ap (λ (g : Contents). g.cards) c.self.view_is)) c.requires

pub count-requires : goal.count-requires
count-requires c =
    subst (λ (cards : List Notecard). IsListed cards c.args.card)
    (sym (ap (λ (g : Contents). g.cards) c.self.view_is)) c.requires

pub returns-in-Some : goal.returns-in-Some
returns-in-Some c =
    rw c.in-Some.is (IfOk-map c.line.result _ _ (λ text is. is
    ∙ ap (λ (g : Contents). data_of (card_at g.cards c.args.card) c.in-Some.line) c.self.view_is) c.line.ensures)

pub returns-in-None : goal.returns-in-None
returns-in-None c =
    let short : c.count.result ≤ 65537 = c.count.ensures.within in
    rw c.in-None.is (IfOk-map c.decimal.result _ _ (λ text is. is
    ∙ ap decimal_of (to_z-of_z w32 (pos c.count.result) (search rules))
    ∙ ap (λ n. decimal_of (pos n)) c.count.ensures.value
    ∙ ap (λ (g : Contents). decimal_of (pos (length (card_at g.cards c.args.card)))) c.self.view_is)
    c.decimal.ensures.value)
