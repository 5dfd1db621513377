use Rattle.std.proofs.Common.{rules, ◌≡◌, ◌∷◌, ◌++◌, [], ◌∙◌, ap, length}
use Rattle.lsl_code.specs.declared.instructions.Instr.TheVariants.{Tick}
use Rattle.lsl_code.proofs.Reading.{tick_grown}
use Rattle.lsl_code.proofs.drafts.Draft.push_tick.Goals as goal

pub invariant_of-self-2 : goal.invariant_of-self-2
invariant_of-self-2 c =
    let pushed = c.in_ok-push_both.ensures in
    let number : c.in_ok-point.point ≡ length c.self.inside.lines.items = search rules in
    (tick_grown _ _ _ _ _ _ number c.self.invariant pushed.code pushed.lines).numbers

pub returns-clause-ok : goal.returns-clause-ok
returns-clause-ok c =
    let pushed = c.in_ok-push_both.ensures in
    let number : c.in_ok-point.point ≡ length c.self.inside.lines.items = search rules in
    let grown = tick_grown _ _ _ _ _ _ number c.self.invariant pushed.code pushed.lines in
    grown.view ∙ ap (λ d. d ++ Tick c.args.line ∷ []) c.self.view_is
