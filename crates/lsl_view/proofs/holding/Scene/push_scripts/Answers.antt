use Rattle.std.proofs.Common.{◌≡◌, ◌+◌, arith}
use Rattle.lsl_image.specs.Valid.{HasUnit}
use Rattle.lsl_image.proofs.WroteLemmas.{each-at}
use Rattle.lsl_view.proofs.Stepping.{state-more}
use Rattle.lsl_view.proofs.holding.Scene.push_scripts.Goals as goal

pub push_script-requires-clause-unit : goal.push_script-requires-clause-unit
push_script-requires-clause-unit c =
    each-at (HasUnit c.args.self.now.library.now) c.args.scripts.now c.loop-script.script-index
    c.script-item.result c.requires.units c.loop-script-test.true c.script-item.is

pub loop-script-preserved : goal.loop-script-preserved
loop-script-preserved c = record {
  left = state-more c.args.self.now.library.now c.args.self.now.names.now c.args.self.now.clock c.loop-script.place
      c.loop-script.script-index c.args.scripts.now c.script-item.result c.loop-script.out.items
      c.push_script.new.out.items _ c.loop-script-test.true c.script-item.is c.loop-script.invariant.left
      c.in_ok-push_script.ensures;
  place = omega (arith, c.loop-script.invariant.place);
}
