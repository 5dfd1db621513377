use Rattle.std.proofs.Common.{◌∙◌, ℤ, ap, sym, w32, rules}
use Rattle.std.proofs.lemmas.Int.{to_z-of_z}
use Rattle.lsl_region.specs.Hearing.{listens_on}
use Rattle.lsl_region.specs.declared.notice.Audience.{Audience}
use Rattle.lsl_region.specs.Posting.{is_admitted}
use Rattle.lsl_region.proofs.Unheard.{hearers-none}
use Rattle.lsl_region.proofs.grid.Grid.next_of.Goals as goal

pub returns-in-Hearers-clause-passed : goal.returns-in-Hearers-clause-passed
returns-in-Hearers-clause-passed c = λ place seat parts first last at is object prim key.
    let channel = c.in-Hearers.said.channel in
    ap (λ (a : Audience). is_admitted a object prim key parts.listens) c.in-Hearers.is
    ∙ hearers-none c.in-Hearers.said parts.listens
    (ap (λ (n : ℤ). listens_on n parts.listens) (sym (to_z-of_z w32 channel (search rules)))
    ∙ c.next_hearer.ensures.passed place seat parts first last at is)
    object prim key
