use Rattle.std.proofs.Common.{◌≡◌, ◌∙◌, ◌+◌, ◌++◌, sym, ap, subst, arith, ℕ, List, length, drop}
use Rattle.std.specs.List.{AllByRecursion}
use Rattle.lsl_post.specs.declared.parts.ScriptParts.{ScriptParts}
use Rattle.lsl_image.specs.Valid.{HasUnit, IsPlaced}
use Rattle.lsl_image.proofs.WroteLemmas.{each-at}
use Rattle.lsl_view.specs.State.{objects_behind, states_behind}
use Rattle.lsl_view.specs.StateParts.{objects_shown, states_shown}
use Rattle.lsl_view.proofs.Stepping.{object-more, scripts-left}
use Rattle.lsl_view.proofs.standing.push_objects.Goals as goal

pub push_scripts-requires-clause-units : goal.push_scripts-requires-clause-units
push_scripts-requires-clause-units c =
    let library = c.args.scene.now.library.now in
    subst (AllByRecursion (HasUnit library)) (sym c.as_slice-scripts.ensures)
    (each-at (IsPlaced library) c.args.objects.now c.loop-placed.placed-index c.placed-item.result c.requires.units
    c.loop-placed-test.true c.placed-item.is).scripts

pub push_scripts-requires-clause-few : goal.push_scripts-requires-clause-few
push_scripts-requires-clause-few c =
    let count = ap (λ (z : List ScriptParts). length z) c.as_slice-scripts.ensures in
    let few = scripts-left c.loop-placed.placed-index c.loop-placed.before _ c.args.objects.now c.placed-item.result
    c.loop-placed-test.true c.placed-item.is c.loop-placed.invariant.few in
    omega (arith, count, few)

pub loop-placed-preserved : goal.loop-placed-preserved
loop-placed-preserved c =
    let library = c.args.scene.now.library.now in
    let names = c.args.scene.now.names.now in
    let clock = c.args.scene.now.clock in
    let objects = c.args.objects.now in
    let i = c.loop-placed.placed-index in
    let x = c.placed-item.result in
    let before = c.loop-placed.before in
    let scripts = x.object.scripts in
    let next = c.in_ok-before.ensures.next
    ∙ ap (λ (z : List ScriptParts). before + length z) c.as_slice-scripts.ensures in
    let then = c.in_ok-before.ensures.lines
    ∙ ap (λ (z : List ScriptParts). c.push_object.new.out.items ++ states_behind before
    (states_shown library names clock before z)) c.as_slice-scripts.ensures in
    let number = c.loop-placed.number in
    let new = c.push_scripts.new.out.items in
    let total = c.args.out.now.items ++ objects_behind 0 0 (objects_shown library names clock 0 objects) in
    let left = object-more library names clock number before i objects x c.loop-placed.out.items
    c.push_object.new.out.items new total c.loop-placed-test.true c.placed-item.is c.loop-placed.invariant.left
    c.in_ok-push_object.ensures then in
    record {
      left = subst (λ (k : ℕ). new ++ objects_behind (number + 1) k (objects_shown library names clock k
          (drop (i + 1) objects)) ≡ total) (sym next) left;
      few = omega (
        arith,
        next,
        scripts-left i before _ objects x c.loop-placed-test.true c.placed-item.is
            c.loop-placed.invariant.few,
      );
      number = omega (arith, c.loop-placed.invariant.number);
    }
