use Rattle.lsl_pure.proofs.FirstLemmas.{AreNotedBefore}
use Rattle.lsl_pure.proofs.firsts.note_short.Given as goal

abbrev pub invariant-places : goal.invariant-places
invariant-places l = AreNotedBefore l.mark l.number l.text l.initial.firsts l.firsts l.at
