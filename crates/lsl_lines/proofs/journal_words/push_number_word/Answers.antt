use Rattle.lsl_lines.proofs.JournalLemmas.{one_digit, two_digits}
use Rattle.lsl_lines.proofs.journal_words.push_number_word.Goals.{then-n-ge10, else-n-ge10}
use Rattle.lsl_lines.proofs.journal_words.push_number_word.Goals as goal

pub returns-clause-ok : goal.returns-clause-ok
returns-clause-ok c =
    elim c.if-n-ge10.branch [
      | then-n-ge10 w ↦
          two_digits c.args.n _ _ _ w.push_reserved-then-n-ge10.new.self.items c.if-n-ge10.out.items _ w.if-n-ge10.true
          c.if-n-ge100.false c.make_room.ensures.items c.push_reserved.ensures.items
          w.push_reserved-then-n-ge10.ensures.items (rw w.out-is) c.push_reserved-2.ensures.items
      | else-n-ge10 w ↦
          one_digit c.args.n _ _ c.push_reserved.new.self.items c.if-n-ge10.out.items _ w.if-n-ge10.false
          c.make_room.ensures.items c.push_reserved.ensures.items (rw w.out-is) c.push_reserved-2.ensures.items
    ]
