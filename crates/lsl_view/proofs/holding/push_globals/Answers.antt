use Rattle.std.proofs.Common.{◌∙◌, ap, arith, ◌++◌, List}
use Rattle.std.specs.List.{flat_map}
use Rattle.std.proofs.lemmas.List.{take_all}
use Rattle.lsl_image.proofs.WroteLemmas.{item-at, wrote-at}
use Rattle.lsl_view.specs.State.{ShownGlobal, global_line}
use Rattle.lsl_view.specs.StateParts.{globals_shown}
use Rattle.lsl_view.proofs.Stepping.{global-at, globals-counted}
use Rattle.lsl_view.proofs.holding.push_globals.Goals as goal

pub loop-i-preserved : goal.loop-i-preserved
loop-i-preserved c =
    let names = c.args.names.now in
    let values = c.args.values.now in
    let i = c.loop-i.i in
    let name = c.index-names-i.result in
    let value = c.index-values-i.result in
    let shown : ShownGlobal = record { name = name; value = value } in
    let named = item-at names i name
    (omega (arith, c.loop-i-test.true, c.loop-i.invariant.end, c.min-count.ensures)) c.index-names-i.is in
    let valued = item-at values i value
    (omega (arith, c.loop-i-test.true, c.loop-i.invariant.end, c.min-count.ensures)) c.index-values-i.is in
    record {
      written = wrote-at global_line (globals_shown names values) i shown c.args.out.now.items c.loop-i.out.items
          c.push_global.new.out.items (global-at names values i name value named valued)
          c.loop-i.invariant.written c.in_ok-push_global.ensures;
      end = c.loop-i.invariant.end;
    }

pub returns : goal.returns
returns c =
    let shown = globals_shown c.args.names.now c.args.values.now in
    let count = globals-counted c.args.names.now c.args.values.now in
    c.loop-i.invariant.written
    ∙ ap (λ (l : List ShownGlobal). c.args.out.now.items ++ flat_map global_line l)
    (take_all c.loop-i.i shown (omega (arith, count, c.loop-i.invariant.end, c.loop-i-test.false)))
