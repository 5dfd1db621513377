use Rattle.std.proofs.Common.{◌≡◌, sym, subst}
use Rattle.std.specs.Prelude.{IfOk, List}
use Rattle.lsl_code.specs.declared.woven_units.Woven.{Woven as Code}
use Rattle.lsl_image.specs.declared.parts.WorldParts.{WorldParts}
use Rattle.lsl_image.specs.Valid.{IsWorld}
use Rattle.lsl_view.specs.StateParts.{state_of_parts}
use Rattle.lsl_top.proofs.report.state_lines.Goals as goal

pub state-requires : goal.state-requires
state-requires c =
    subst (λ (z : List Code). IsWorld z c.in_ok-parts.parts) (sym c.units.ensures) c.in_ok-parts.ensures.written

pub returns : goal.returns
returns c =
    let names = c.args.names.now in
    subst (λ (p : WorldParts). IfOk c.state.result (λ lines. lines.items ≡ state_of_parts c.args.world.now.units names p))
    c.in_ok-parts.ensures.parts
    (subst (λ (z : List Code). IfOk c.state.result (λ lines. lines.items ≡ state_of_parts z names c.in_ok-parts.parts))
    c.units.ensures c.state.ensures)
