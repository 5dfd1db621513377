use Rattle.std.proofs.Common.{sym}
use Rattle.lsl.proofs.words.start.Goals as goal

pub returns-in-Ok-clause-told : goal.returns-in-Ok-clause-told
returns-in-Ok-clause-told g c =
    rw (c.in-Ok.is, sym c.as_slice.ensures.value, sym c.behind_name.ensures) c.run.ensures.told
