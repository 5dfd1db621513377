use Rattle.std.proofs.Common.{◌≡◌, ◌∙◌, ℕ, List, ap, subst, sym, true}
use Rattle.lsl_region.specs.Answers.{renamed, text_at}
use Rattle.lsl_region.specs.Grids.{Contents, Lent, seat_of}
use Rattle.lsl_region.specs.Texts.{cut_name}
use Rattle.lsl_region.proofs.Away.{away-seat}
use Rattle.lsl_region.proofs.Lending.{lent-renamed}
use Rattle.lsl_region.proofs.grid.Grid.answer_set_object_name.Goals as goal

pub returns-clause-does : goal.returns-clause-does
returns-clause-does c = λ codes unit clock live of f w lent.
    let seat = seat_of codes true lent.member in
    let e = c.set_name.ensures.grid seat
    (away-seat codes clock c.args.place c.args.self.now w lent.member lent.stands lent.at) in
    let n : c.in_ok-name.name ≡ cut_name (text_at 0 c.args.args.now)
    = c.in_ok-name.ensures ∙ ap cut_name c.in_ok-text.ensures in
    subst (λ (name : List ℕ). Lent codes unit clock c.args.place c.set_name.new.self live of f
    (renamed w lent.member name)) n
    (subst (λ (g : Contents). Lent codes unit clock c.args.place g live of f (renamed w lent.member c.in_ok-name.name))
    (sym e) (lent-renamed lent c.in_ok-name.name))
