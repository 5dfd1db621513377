use Rattle.std.proofs.Common.{◌≡◌, None, ap, ◌∙◌}
use Rattle.lsl_running.specs.declared.kept.Kept.{Kept}
use Rattle.lsl_post.specs.declared.parts.Rest.TheVariants.{Dead}
use Rattle.lsl_post.specs.declared.parts.ScriptParts.{ScriptParts}
use Rattle.lsl_script.specs.Closing.{forgotten, initial_of}
use Rattle.lsl_script.specs.Resting.{keeping}
use Rattle.lsl_script.proofs.Closes.{fails_as}
use Rattle.lsl_script.proofs.live.Live.fail.Goals as goal

pub returns-clause-parts : goal.returns-clause-parts
returns-clause-parts c =
    let at : c.deref_mut-parts.result.now ≡ c.args.self.parts = c.deref_mut-parts.ensures.value ∙ c.script.view_is in
    let kept : c.in_ok-initial.field-0 ≡ initial_of c.args.unit.now = c.in_ok-initial.ensures in
    ap {A = ScriptParts} {B = ScriptParts} (λ p. record p { rest = Dead c.args.fault }) c.forget-count.ensures.parts
    ∙ ap {A = ScriptParts} {B = ScriptParts}
    (λ p. record (forgotten (record p { leaving = None })) { rest = Dead c.args.fault })
    (c.keep.ensures ∙ ap (keeping c.in_ok-initial.field-0) at)
    ∙ ap {A = Kept} {B = ScriptParts}
    (λ k. record (forgotten (record c.args.self.parts { globals = k.globals; limit = k.limit; leaving = None })) {
      rest = Dead c.args.fault;
    }) kept

pub returns-clause-source : goal.returns-clause-source
returns-clause-source c codes s number carries =
    returns-clause-parts c ∙ fails_as codes c.args.unit.now s c.args.self c.args.fault number carries
