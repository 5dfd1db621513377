use Rattle.std.proofs.Common.{◌∙◌, ap, subst, sym}
use Rattle.lsl_post.specs.Listens.{IsStanding}
use Rattle.lsl_post.specs.Tables.{listens_in}
use Rattle.lsl_post.proofs.Standings.{standing-none}
use Rattle.lsl_post.proofs.listens.Listens.count.Goals as goal

pub returns-in-None-clause-standing : goal.returns-in-None-clause-standing
returns-in-None-clause-standing c =
    subst IsStanding (ap listens_in (sym c.in-None.is) ∙ c.self.view_is) standing-none
