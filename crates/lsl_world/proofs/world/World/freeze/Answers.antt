use Rattle.lsl_world.proofs.Thawing.{parts-are}
use Rattle.lsl_world.proofs.world.World.freeze.Goals as goal

pub returns-clause-of : goal.returns-clause-of
returns-clause-of c = λ programs w is. parts-are programs c.args.self.now w is

pub returns-in_err-parts-clause-of : goal.returns-in_err-parts-clause-of
returns-in_err-parts-clause-of c = λ programs w is. parts-are programs c.args.self.now w is
