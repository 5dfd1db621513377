use Rattle.std.proofs.Common.{◌≡◌, sym, ap, ◌∙◌, subst}
use Rattle.lsl_post.specs.declared.parts.Posted.{Posted}
use Rattle.lsl_post.specs.declared.parts.ScriptParts.{ScriptParts}
use Rattle.lsl_post.specs.Mailbox.{posted_to, with_posted}
use Rattle.lsl_script.specs.Awake.{IsAwake}
use Rattle.lsl_script.specs.Codes.{rules_of}
use Rattle.lsl_script.specs.declared.live.Live.{Live}
use Rattle.lsl_script.specs.Lives.{Waits}
use Rattle.lsl_script.specs.Scripts.{entries_of_posting, post_to}
use Rattle.lsl_script.proofs.Fits.{posted_awake}
use Rattle.lsl_script.proofs.Mail.{posted_entries, posted_waits}
use Rattle.lsl_script.proofs.live.Live.post.Goals as goal

pub returns-clause-awake : goal.returns-clause-awake
returns-clause-awake c =
    let at : c.deref_mut.result.now ≡ c.args.self.now.parts
    = c.deref_mut.ensures.value ∙ ap (λ (l : Live). l.parts) c.self.view_is in
    subst (λ (l : Live). IsAwake c.args.unit.now (record l { parts = c.post.new.self })) (sym c.self.view_is)
    (subst (λ (p : ScriptParts). IsAwake c.args.unit.now (record c.args.self.now { parts = p }))
    (sym (c.post.ensures.parts ∙ ap (with_posted c.args.unit.now.states c.args.event) at))
    (posted_awake c.args.unit.now c.args.self.now c.args.event c.requires.other c.requires.awake))

pub returns-clause-source : goal.returns-clause-source
returns-clause-source c codes s f id number waits =
    let at : c.deref_mut.result.now ≡ c.args.self.now.parts
    = c.deref_mut.ensures.value ∙ ap (λ (l : Live). l.parts) c.self.view_is in (
      subst (λ (l : Live). Waits codes c.args.unit.now (post_to (rules_of codes) number c.args.event s).value f id
          (record l { parts = c.post.new.self })) (sym c.self.view_is)
          (subst (λ (p : ScriptParts). Waits codes c.args.unit.now
          (post_to (rules_of codes) number c.args.event s).value f id (record c.args.self.now { parts = p }))
          (sym (c.post.ensures.parts ∙ ap (with_posted c.args.unit.now.states c.args.event) at))
          (posted_waits codes c.args.unit.now s f id c.args.self.now c.args.event number waits)),
      posted_entries codes c.args.unit.now s f id c.args.self.now c.args.event number waits
          ∙ ap (λ (p : Posted). entries_of_posting number p)
          (sym (c.post.ensures.posted ∙ ap (posted_to c.args.unit.now.states c.args.event) at)),
    )
