use Rattle.std.proofs.Common.{List, [], ap, ◌∙◌}
use Rattle.lsl_post.specs.declared.events.Event.{Event}
use Rattle.lsl_post.specs.declared.parts.ScriptParts.{ScriptParts}
use Rattle.lsl_post.specs.declared.timer.Timer.{Timer}
use Rattle.lsl_post.specs.Listens.{Standing, no_listens}
use Rattle.lsl_post.specs.Timing.{stopped}
use Rattle.lsl_script.proofs.Timers.{timer_by}
use Rattle.lsl_script.proofs.closing.forget.Goals as goal

pub returns-clause-parts : goal.returns-clause-parts
returns-clause-parts c =
    let p = c.args.parts.now in
    ap {A = List Event} {B = ScriptParts}
    (λ q. record p { queue = q; listens = c.new.result; timer = c.new-parts.result }) c.clear.ensures.queue
    ∙ ap {A = Standing} {B = ScriptParts} (λ l. record p { queue = []; listens = l; timer = c.new-parts.result })
    c.new.ensures
    ∙ ap {A = Timer} {B = ScriptParts} (λ t. record p { queue = []; listens = no_listens; timer = t })
    (timer_by c.new-parts.result stopped c.new-parts.ensures)
