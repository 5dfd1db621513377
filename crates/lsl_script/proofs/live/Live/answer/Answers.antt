use Rattle.lsl_script.proofs.Answering.{IsAnswered, answered_awake, answered_lives, asked_begun}
use Rattle.lsl_script.proofs.live.Live.answer.Goals as goal

answered : (c : goal.After-answer) → IsAnswered c.args.self.now.machine c.args.value c.answer.new.self
answered c = record {
  runs = c.answer.ensures.runs;
  ready = c.answer.ensures.ready;
  passed = c.answer.ensures.behind;
  silent = c.answer.ensures.silent;
  of = c.answer.ensures.of;
}

pub returns-clause-awake : goal.returns-clause-awake
returns-clause-awake c unit awake =
    answered_awake unit c.args.self.now c.args.value c.answer.new.self c.requires (answered c) awake

pub returns-clause-source : goal.returns-clause-source
returns-clause-source c codes unit s f id waits =
    answered_lives codes unit s f id c.args.self.now c.args.value c.answer.new.self c.requires (answered c) waits

pub returns-clause-begun : goal.returns-clause-begun
returns-clause-begun c unit awake =
    asked_begun c.args.self.now.machine.standing c.args.value c.args.self.now.fresh c.requires awake.begun
