use Rattle.std.proofs.Common.{◌≡◌, ◌∙◌, ◌+◌, ℕ, suc, List, Some, ap, arith, sym}
use Rattle.std.specs.Option.{option_map}
use Rattle.lsl_world.specs.Regions.{number_of}
use Rattle.lsl_world.proofs.RegionTable.{number-found}
use Rattle.lsl_world.proofs.naming.Regions.number.Goals as goal

pub returns-in_err-place : goal.returns-in_err-place
returns-in_err-place c =
    c.from_residual.ensures
    ∙ ap (option_map suc) (sym c.in_err-place.was ∙ c.get_index_of.ensures.index)
    ∙ number-found c.self.inside.table.entries c.as_str.result.now c.args.region.now c.self.invariant
    c.as_str.ensures.value
    ∙ ap (λ (names : List (List ℕ)). number_of names c.args.region.now) c.self.view_is

pub returns : goal.returns
returns c =
    let next : c.in_ok-place.place + 1 ≡ suc c.in_ok-place.place = omega arith in
    ap Some next
    ∙ ap (option_map suc) (sym c.in_ok-place.was ∙ c.get_index_of.ensures.index)
    ∙ number-found c.self.inside.table.entries c.as_str.result.now c.args.region.now c.self.invariant
    c.as_str.ensures.value
    ∙ ap (λ (names : List (List ℕ)). number_of names c.args.region.now) c.self.view_is
