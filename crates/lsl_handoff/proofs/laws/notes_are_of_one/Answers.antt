use Rattle.std.proofs.Common.{◌∙◌, sym}
use Rattle.lsl_handoff.proofs.WrittenLemmas.{written-is}
use Rattle.lsl_handoff.proofs.laws.notes_are_of_one.Goals as goal

pub returns : goal.returns
returns c = record {
  one = λ objects regions bytes a b ranges p q. sym (written-is objects regions ranges.0 ranges.1 bytes p.fits a p)
      ∙ written-is objects regions ranges.0 ranges.1 bytes q.fits b q;
  spelling = λ objects regions x y note p q. p.bytes_are ∙ sym q.bytes_are;
}
