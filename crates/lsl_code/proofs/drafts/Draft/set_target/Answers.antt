use Rattle.std.proofs.Common.{sym, ap, ◌∙◌, subst}
use Rattle.lsl_code.specs.Drafts.{drafted, IsNumbered}
use Rattle.lsl_code.specs.Targets.{retargeted}
use Rattle.lsl_code.proofs.Retargeting.{drafted-retargeted, is_numbered-retargeted}
use Rattle.lsl_code.proofs.drafts.Draft.set_target.Goals as goal

pub invariant_of-self : goal.invariant_of-self
invariant_of-self c =
    subst (IsNumbered c.self.inside.lines.items) (sym c.retarget.ensures)
    (is_numbered-retargeted c.self.inside.lines.items c.self.inside.code.items c.args.place c.args.target
    c.self.invariant)

pub returns : goal.returns
returns c =
    ap (drafted c.self.inside.lines.items) c.retarget.ensures
    ∙ drafted-retargeted c.self.inside.lines.items c.self.inside.code.items c.args.place c.args.target
    ∙ ap (λ d. retargeted d c.args.place c.args.target) c.self.view_is
