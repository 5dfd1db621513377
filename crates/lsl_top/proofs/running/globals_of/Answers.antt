use Rattle.std.proofs.Common.{ℕ, Vec, Global, map, take, List, [], ◌∷◌, ◌++◌, ◌+◌, sym, subst}
use Rattle.std.specs.List.{AllZip}
use Rattle.lsl_view.specs.Globals.{HasGlobals, HaveGlobals, IsScript}
use Rattle.lsl_top.proofs.Zips.{each-map, take-map-more, zip-push}
use Rattle.lsl_top.proofs.running.globals_of.Goals as goal

pub global_names-requires : goal.global_names-requires
global_names-requires c =
    subst IsScript (sym c.as_slice.ensures.value)
    (each-map IsScript (λ (t : Vec ℕ Global). t.items) c.args.texts.now c.loop-text.text-index c.text-item.result
    c.loop-text-test.true c.text-item.is c.requires)

pub loop-text-preserved : goal.loop-text-preserved
loop-text-preserved c =
    let globals = c.loop-text.globals in
    let text = c.text-item.result in
    let own = c.in_ok-global_names.field-0 in
    subst (λ (z : List (List (List ℕ))). HaveGlobals (take (c.loop-text.text-index + 1)
    (map (λ (t : Vec ℕ Global). t.items) c.args.texts.now)) z) (sym c.in_ok-push.ensures.ok)
    (subst (λ (z : List (List ℕ)). AllZip HasGlobals z (globals ++ own ∷ []))
    (sym (take-map-more (λ t. t.items) c.args.texts.now c.loop-text.text-index text text c.loop-text-test.true
    c.text-item.is))
    (zip-push HasGlobals _ globals text.items own c.loop-text.invariant
    (subst (λ (z : List ℕ). HasGlobals z own) c.as_slice.ensures.value c.in_ok-global_names.ensures)))
