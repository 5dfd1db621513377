use Rattle.std.proofs.Common.{◌≡◌, ◌∙◌, ap, subst, sym}
use Rattle.lsl_post.specs.declared.parts.ScriptParts.{ScriptParts}
use Rattle.lsl_script.specs.declared.live.Live.{Live}
use Rattle.lsl_script.specs.Lives.{Waits}
use Rattle.lsl_script.specs.Scripts.{napped}
use Rattle.lsl_script.proofs.Mail.{napped_waits}
use Rattle.lsl_script.proofs.live.Live.nap.Goals as goal

pub returns-clause-source : goal.returns-clause-source
returns-clause-source c codes unit s f id waits =
    let at : c.deref_mut.result.now ≡ c.args.self.now.parts = c.deref_mut.ensures.value ∙ ap (λ (l : Live). l.parts)
    c.self.view_is in
    subst (λ (l : Live). Waits codes unit (napped c.args.wake s) f id
    (record l { parts = record c.deref_mut.result.now { wake = c.args.wake } })) (sym c.self.view_is)
    (subst (λ (p : ScriptParts). Waits codes unit (napped c.args.wake s) f id
    (record c.args.self.now { parts = record p { wake = c.args.wake } })) (sym at)
    (napped_waits codes unit s f id c.args.self.now c.args.wake waits))
