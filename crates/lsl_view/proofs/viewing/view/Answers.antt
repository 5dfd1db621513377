use Rattle.std.proofs.Common.{◌≡◌, ◌∙◌, ap, subst, arith, ◌<◌, List, ◌++◌, length, get_or}
use Rattle.lsl_post.specs.declared.parts.ScriptParts.{ScriptParts}
use Rattle.lsl_image.specs.declared.parts.Placed.{Placed}
use Rattle.lsl_view.specs.Lines.{lines_behind}
use Rattle.lsl_view.specs.Parts.{shown_behind}
use Rattle.lsl_view.proofs.Written.{names-left, object-more, scripts-counted}
use Rattle.lsl_view.proofs.viewing.view.Goals as goal

pub push_scripts-requires-clause-names : goal.push_scripts-requires-clause-names
push_scripts-requires-clause-names c =
    let objects = c.args.parts.now.objects in
    let i = c.loop-placed.placed-index in
    let x = c.placed-item.result in
    let within = subst (λ (z : List Placed). i < length z) c.as_slice-placed-items.ensures c.loop-placed-test.true in
    let is = subst (λ (z : List Placed). x ≡ get_or z i x) c.as_slice-placed-items.ensures c.placed-item.is in
    let count = ap (λ (z : List ScriptParts). length z) c.as_slice-scripts.ensures in
    omega (
      arith,
      count,
      names-left i c.loop-placed.before objects x within is c.loop-placed.invariant.before,
      c.requires.names,
    )

pub overflow_add-before : goal.overflow_add-before
overflow_add-before c =
    let objects = c.args.parts.now.objects in
    let i = c.loop-placed.placed-index in
    let x = c.placed-item.result in
    let within = subst (λ (z : List Placed). i < length z) c.as_slice-placed-items.ensures c.loop-placed-test.true in
    let is = subst (λ (z : List Placed). x ≡ get_or z i x) c.as_slice-placed-items.ensures c.placed-item.is in
    let count = ap (λ (z : List ScriptParts). length z) c.as_slice-scripts.ensures in
    omega (
      arith,
      count,
      names-left i c.loop-placed.before objects x within is c.loop-placed.invariant.before,
      c.requires.names,
    )

pub loop-placed-preserved : goal.loop-placed-preserved
loop-placed-preserved c =
    let objects = c.args.parts.now.objects in
    let i = c.loop-placed.placed-index in
    let x = c.placed-item.result in
    let before = c.loop-placed.before in
    let within = subst (λ (z : List Placed). i < length z) c.as_slice-placed-items.ensures c.loop-placed-test.true in
    let is = subst (λ (z : List Placed). x ≡ get_or z i x) c.as_slice-placed-items.ensures c.placed-item.is in
    let then = c.in_ok-push_scripts.ensures
    ∙ ap (λ (z : List ScriptParts). c.loop-placed.out.items ++ lines_behind before
    (shown_behind c.args.library.now c.args.names.now before z)) c.as_slice-scripts.ensures in
    let count = ap (λ (z : List ScriptParts). length z) c.as_slice-scripts.ensures in
    record {
      written = object-more c.args.library.now c.args.names.now before i objects x c.loop-placed.out.items
          c.push_scripts.new.out.items within is c.loop-placed.invariant.before c.loop-placed.invariant.written then;
      before = omega (arith, count, scripts-counted i before objects x within is c.loop-placed.invariant.before);
    }
