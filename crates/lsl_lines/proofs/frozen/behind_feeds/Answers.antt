use Rattle.std.proofs.Common.{◌+◌, drop, length-drop, take_all, sym, ◌∙◌, arith}
use Rattle.lsl_lines.proofs.FrozenLemmas.{behind_none, behind_some}
use Rattle.lsl_lines.proofs.frozen.behind_feeds.Goals as goal

pub returns-in-Some : goal.returns-in-Some
returns-in-Some c =
    let text = c.args.text.now in
    let next = c.in-Some.place + 1 in
    take_all _ (drop next text) (omega (arith, length-drop next text))
    ∙ sym (behind_some text c.in-Some.place c.in-Some.ensures)

pub returns-in-None : goal.returns-in-None
returns-in-None c = sym (behind_none c.args.text.now c.in-None.ensures)
