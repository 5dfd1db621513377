use Rattle.lsl_pure.proofs.ReachLemmas.{reach-less, reach-more, reach-within}
use Rattle.lsl_pure.proofs.reaching.Reach.go.Goals as goal

pub returns-then-own-past-clause-value : goal.returns-then-own-past-clause-value
returns-then-own-past-clause-value c =
    reach-less c.args.text.now c.args.mark.now c.args.own.now c.args.self.now.place c.args.at c.args.self.now.len
    (record {
      ordered = c.requires.ordered;
      reached = c.requires.reached;
      are_own = c.requires.own;
      past = c.if-self-past.false;
      covered = c.requires.covered c.if-self-past.false;
    }) c.if-own-past.true

pub compare-requires-2-clause-text : goal.compare-requires-2-clause-text
compare-requires-2-clause-text c =
    (reach-within c.args.text.now c.args.mark.now c.args.own.now c.args.self.now.place c.args.at c.args.self.now.len
    (record {
      ordered = c.requires.ordered;
      reached = c.requires.reached;
      are_own = c.requires.own;
      past = c.if-self-past.false;
      covered = c.requires.covered c.if-self-past.false;
    })).0

pub compare-requires-2-clause-mark : goal.compare-requires-2-clause-mark
compare-requires-2-clause-mark c =
    (reach-within c.args.text.now c.args.mark.now c.args.own.now c.args.self.now.place c.args.at c.args.self.now.len
    (record {
      ordered = c.requires.ordered;
      reached = c.requires.reached;
      are_own = c.requires.own;
      past = c.if-self-past.false;
      covered = c.requires.covered c.if-self-past.false;
    })).1

pub compare-requires-2-clause-known : goal.compare-requires-2-clause-known
compare-requires-2-clause-known c =
    reach-more c.args.text.now c.args.mark.now c.args.own.now c.args.self.now.place c.args.at c.args.self.now.len
    (record {
      ordered = c.requires.ordered;
      reached = c.requires.reached;
      are_own = c.requires.own;
      past = c.if-self-past.false;
      covered = c.requires.covered c.if-self-past.false;
    }) c.if-own-past.false
