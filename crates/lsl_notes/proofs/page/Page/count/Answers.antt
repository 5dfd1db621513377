use Rattle.std.proofs.Common.{arith}
use Rattle.std.specs.String.{string_bytes}
use Rattle.lsl_notes.proofs.Feeds.{lines-few}
use Rattle.lsl_notes.proofs.page.Page.count.Goals as goal

pub returns-clause-within : goal.returns-clause-within
returns-clause-within c =
    omega (
      arith,
      lines-few (string_bytes c.self.inside.text),
      c.self.invariant.short,
      c.self.invariant.counted,
    )
