use Rattle.std.proofs.Common.{◌≡◌, ◌∙◌, ap}
use Rattle.std.specs.Prelude.{nat_le}
use Rattle.lsl_post.specs.declared.parts.ScriptParts.{ScriptParts}
use Rattle.lsl_script.specs.declared.live.Live.{Live}
use Rattle.lsl_script.proofs.Stops.{rests_ready}
use Rattle.lsl_script.proofs.live.Live.ready.Goals as goal

pub returns-clause-source : goal.returns-clause-source
returns-clause-source c codes unit s f r =
    let at : c.deref.result.now ≡ c.args.self.now.parts = c.deref.ensures ∙ ap (λ (l : Live). l.parts) c.self.view_is in
    ap (λ (p : ScriptParts). nat_le p.wake c.args.clock) at
    ∙ rests_ready codes unit s f c.args.self.now c.args.clock r
