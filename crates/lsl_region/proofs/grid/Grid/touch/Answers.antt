use Rattle.std.proofs.Common.{ℕ, ◌-◌, List, length, get_or, ap, sym, ◌∙◌, subst}
use Rattle.std.specs.Prelude.{Option, None, pos}
use Rattle.lsl_post.specs.declared.events.Toucher.{Toucher}
use Rattle.lsl_post.specs.Journal.{Tells}
use Rattle.lsl_region.specs.declared.objects.Linkset.{Linkset}
use Rattle.lsl_region.specs.Arrivals.{touch_prim, touched, touched_prim, toucher_of}
use Rattle.lsl_region.specs.Grids.{Stands}
use Rattle.lsl_region.specs.Links.{prim_named}
use Rattle.lsl_region.specs.Worlds.{no_object}
use Rattle.lsl_region.proofs.grid.Grid.touch.Goals as goal

pub returns-in_ok-toucher-in-Some-clause-does : goal.returns-in_ok-toucher-in-Some-clause-does
returns-in_ok-toucher-in-Some-clause-does c = λ m clock w st.
    let codes = c.args.library.now in
    let object = c.args.object - 1 in
    let prim = c.in-Some.prim in
    let key = c.args.key.now in
    let name = c.args.name.now in
    let count = c.prims_of-count.ensures.value
    ∙ ap (λ (os : List Linkset). length (get_or os object no_object).prims) st.objects in
    let is = sym (ap (λ (n : ℕ). prim_named n (pos c.args.link)) count) ∙ sym c.prim_numbered.ensures.value
    ∙ c.in-Some.is in
    let who = c.in_ok-toucher-in-Some.ensures ∙ ap (λ (n : ℕ). toucher_of n prim key name) count in
    subst (λ (o : Option ℕ). Tells c.touch_prim.result (λ v _. Stands codes None clock c.touch_prim.new.self v)
    c.args.out.now c.touch_prim.new.out (touch_prim m.rules object o key name w)) (sym is)
    (subst (λ (t : Toucher). Tells c.touch_prim.result (λ v _. Stands codes None clock c.touch_prim.new.self v)
    c.args.out.now c.touch_prim.new.out (touched m.rules object (touched_prim m.rules w object prim) t w)) who
    (c.touch_prim.ensures.does m clock w st))
