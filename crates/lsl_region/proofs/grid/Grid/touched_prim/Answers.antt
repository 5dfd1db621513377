use Rattle.std.proofs.Common.{Bool, ap, sym, ◌∙◌}
use Rattle.std.specs.Prelude.{if◌then◌else◌}
use Rattle.lsl_region.proofs.grid.Grid.touched_prim.Goals as goal

pub returns-then-handles_touch : goal.returns-then-handles_touch
returns-then-handles_touch c = λ m clock w st.
    ap (λ (b : Bool). if b then c.args.prim else 0)
    (sym c.if-handles_touch.true ∙ c.handles_touch.ensures m clock w st)

pub returns-else-handles_touch : goal.returns-else-handles_touch
returns-else-handles_touch c = λ m clock w st.
    ap (λ (b : Bool). if b then c.args.prim else 0)
    (sym c.if-handles_touch.false ∙ c.handles_touch.ensures m clock w st)
