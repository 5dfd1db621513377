use Rattle.std.proofs.Common.{arith}
use Rattle.lsl_lines.proofs.JournalLemmas.{front_of_front}
use Rattle.lsl_lines.proofs.journal_words.push_argument_words.Goals as goal

pub returns-in_err-push_argument_word-clause-front :
    goal.returns-in_err-push_argument_word-clause-front
returns-in_err-push_argument_word-clause-front c =
    let kept = front_of_front _ _ c.push_argument_word.new.out.items _ c.values.out.items _ c.args.out.now.ok.0
    c.values.out.ok.0 c.values.invariant c.in_err-push_argument_word.ensures.front in
    grind (arith, kept)
