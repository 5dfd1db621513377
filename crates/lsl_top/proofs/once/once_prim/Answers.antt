use Rattle.std.proofs.Common.{refl}
use Rattle.std.specs.Prelude.{codes}
use Rattle.lsl_top.proofs.Ascii.{is-ascii}
use Rattle.lsl_top.proofs.once.once_prim.Goals as goal

pub text-requires-2-clause-ascii : goal.text-requires-2-clause-ascii
text-requires-2-clause-ascii c = is-ascii (codes "00000000-0000-0000-0000-000000000001") refl
