use Rattle.std.proofs.Common.{ℕ, refl, subst}
use Rattle.std.specs.Prelude.{None}
use Rattle.lsl_post.specs.Journal.{Tells}
use Rattle.lsl_region.specs.Arrivals.{touched}
use Rattle.lsl_region.specs.Grids.{Stands}
use Rattle.lsl_region.proofs.grid.Grid.touch_prim.Goals as goal

pub returns-clause-does : goal.returns-clause-does
returns-clause-does c = λ m clock w st.
    let object = c.args.object in
    let prim = c.touched_prim-prim.result in
    subst (λ (p : ℕ). Tells c.touch_all.result
    (λ v _. Stands c.args.library.now None clock c.touch_all.new.self v) c.args.out.now c.touch_all.new.out
    (touched m.rules object p c.args.toucher.now w)) (c.touched_prim-prim.ensures m clock w st)
    (c.touch_all.ensures.does m clock object prim w refl st)
