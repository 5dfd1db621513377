use Rattle.std.proofs.Common.{Some, refl}
use Rattle.lsl_top.specs.Words.{State}
use Rattle.lsl_top.proofs.Promises.{ends-served}
use Rattle.lsl_top.proofs.state.Goals as goal

pub returns : goal.returns
returns g c =
    ends-served g.L.Link.gives (g.S.Shelf.held c.args.shelf.now) (Some (State c.args.at c.args.file.now))
    (State c.args.at c.args.file.now) refl _ _ c.serve.result c.serve.ensures refl
