use Rattle.std.proofs.Common.{refl}
use Rattle.lsl_region.proofs.Results.{OnOk-any}
use Rattle.lsl_region.proofs.grid.Grid.image.Goals as goal

pub returns-clause-own : goal.returns-clause-own
returns-clause-own c =
    OnOk-any c.write_object.result _ (record {
      valid = c.in_ok-parts.ensures.written c.args.library.now c.requires.seated;
      shape = refl;
    })
