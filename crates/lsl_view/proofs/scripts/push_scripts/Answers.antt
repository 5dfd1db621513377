use Rattle.std.proofs.Common.{◌≡◌, ◌∙◌, sym, subst, arith}
use Rattle.std.specs.Prelude.{Some}
use Rattle.lsl_code.specs.declared.woven_units.Woven.{Woven as Code}
use Rattle.lsl_post.specs.Fitting.{FitsUnit}
use Rattle.lsl_image.specs.Valid.{HasUnit}
use Rattle.lsl_image.proofs.WroteLemmas.{each-at}
use Rattle.lsl_view.proofs.Written.{script-more}
use Rattle.lsl_view.proofs.scripts.push_scripts.Goals as goal

pub push_script-requires : goal.push_script-requires
push_script-requires c =
    let has = each-at (HasUnit c.args.library.now) c.args.scripts.now c.loop-script.script-index c.script-item.result
    c.requires.units c.loop-script-test.true c.script-item.is in
    let one : Some has.unit ≡ Some c.unit.result.now = sym has.named ∙ sym c.unit.ensures.unit in
    let same : has.unit ≡ c.unit.result.now = cc in
    subst (λ (u : Code). FitsUnit u c.script-item.result) same has.script

pub loop-script-preserved : goal.loop-script-preserved
loop-script-preserved c = record {
  written = script-more c.args.library.now c.args.names.now c.args.before c.loop-script.place
      c.loop-script.script-index c.args.scripts.now c.script-item.result c.unit.result.now c.index-names-place.result
      c.args.out.now.items c.loop-script.out.items c.push_script.new.out.items c.loop-script-test.true
      c.script-item.is c.loop-script.invariant.place
      (omega (arith, c.loop-script.invariant.place, c.requires.names, c.loop-script-test.true))
      c.index-names-place.is c.unit.ensures.unit c.loop-script.invariant.written c.in_ok-push_script.ensures;
  place = omega (arith, c.loop-script.invariant.place);
}
