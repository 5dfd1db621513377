use Rattle.std.proofs.Common.{refl}
use Rattle.std.specs.Prelude.{codes}
use Rattle.lsl_top.proofs.Ascii.{is-ascii}
use Rattle.lsl_top.proofs.once.once_world.Goals as goal

pub text-requires-clause-ascii : goal.text-requires-clause-ascii
text-requires-clause-ascii c = is-ascii (codes "00000000-0000-0000-0000-000000000002") refl
