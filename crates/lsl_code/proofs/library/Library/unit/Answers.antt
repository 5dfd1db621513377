use Rattle.std.proofs.Common.{◌<◌, length, sym, subst}
use Rattle.std.proofs.lemmas.List.Elements.{All-get_or}
use Rattle.lsl_code.specs.Weaves.{Weaves}
use Rattle.lsl_code.proofs.library.Library.unit.Goals as goal

pub returns-clause-weaves : goal.returns-clause-weaves
returns-clause-weaves c =
    let within = subst (λ units. c.args.number < length units) (sym c.self.view_is) c.requires in
    subst Weaves (sym c.index.ensures)
    (All-get_or Weaves c.self.inside.units.items c.args.number c.index.result.now within c.self.invariant)
