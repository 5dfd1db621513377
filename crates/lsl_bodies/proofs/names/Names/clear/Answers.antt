use Rattle.std.proofs.Common.{◌∙◌, arith}
use Rattle.std.proofs.lemmas.List.{drop_all}
use Rattle.lsl_bodies.proofs.names.Names.clear.Goals as goal

pub returns : goal.returns
returns c = c.truncate.ensures ∙ drop_all _ c.args.self.now (omega arith)
