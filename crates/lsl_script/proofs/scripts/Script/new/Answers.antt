use Rattle.std.proofs.Common.{◌≡◌, ◌∙◌, []}
use Rattle.lsl_script.proofs.News.{new_is}
use Rattle.lsl_script.proofs.scripts.Script.new.Goals as goal

pub returns-clause-script : goal.returns-clause-script
returns-clause-script c codes known =
    let globals : c.in_ok-copy.field-0 ≡ c.globals.result.now = c.in_ok-copy.ensures in
    let queue : c.in_ok-new.field-0 ≡ [] = c.in_ok-new.ensures in
    c.in_ok-new-2.ensures.ok ∙ c.post.ensures.parts
    ∙ new_is codes c.args.unit.now c.args.number c.in_ok-copy.field-0 c.in_ok-new.field-0 c.new-2.result c.new-3.result
    c.entry.result known (globals ∙ c.globals.ensures) queue c.new-2.ensures c.new-3.ensures c.entry.ensures
