use Rattle.std.proofs.Common.{◌≡◌, ℕ, List, length, sym, ap, ◌∙◌, subst}
use Rattle.std.specs.Prelude.{IfOk}
use Rattle.lsl_code.specs.declared.woven_units.Woven.{Woven as Code}
use Rattle.lsl_image.specs.declared.parts.WorldParts.{WorldParts}
use Rattle.lsl_image.specs.Valid.{IsWorld}
use Rattle.lsl_view.specs.Names.{script_names}
use Rattle.lsl_view.specs.Parts.{scripts_in, view_of_parts}
use Rattle.lsl_top.proofs.running.view_of.Goals as goal

pub view-requires-clause-parts : goal.view-requires-clause-parts
view-requires-clause-parts c =
    subst (λ (z : List Code). IsWorld z c.in_ok-parts.parts) (sym c.units.ensures) c.in_ok-parts.ensures.written

pub view-requires-clause-names : goal.view-requires-clause-names
view-requires-clause-names c =
    ap (λ (z : List (List ℕ)). length z) (c.as_slice.ensures.value ∙ c.in_ok-names.ensures) ∙ c.requires.names
    ∙ ap (λ (p : WorldParts). length (scripts_in p)) (sym c.in_ok-parts.ensures.parts)

pub returns : goal.returns
returns c =
    let units = c.args.world.now.units in
    let names = script_names c.args.file.now in
    subst (λ (p : WorldParts). IfOk c.view.result (λ lines. lines.items ≡ view_of_parts units names p))
    c.in_ok-parts.ensures.parts
    (subst (λ (z : List (List ℕ)).
    IfOk c.view.result (λ lines. lines.items ≡ view_of_parts units z c.in_ok-parts.parts))
    (c.as_slice.ensures.value ∙ c.in_ok-names.ensures)
    (subst (λ (z : List Code).
    IfOk c.view.result (λ lines. lines.items ≡ view_of_parts z c.as_slice.result.now c.in_ok-parts.parts))
    c.units.ensures c.view.ensures))
