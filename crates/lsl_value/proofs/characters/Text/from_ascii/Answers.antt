use Rattle.std.proofs.lemmas.Bool.{false≢true}
use Rattle.std.proofs.lemmas.Str.{IsUtf8-from_ascii}
use Rattle.lsl_value.proofs.characters.Text.from_ascii.Goals as goal

pub unreachable-requires : goal.unreachable-requires
unreachable-requires c = false≢true (rw c.in-Err.is at
    (c.from_utf8.ensures.succeeds (IsUtf8-from_ascii _ c.requires.ascii)))
