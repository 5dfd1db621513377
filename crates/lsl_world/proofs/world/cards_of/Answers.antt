use Rattle.std.proofs.Common.{◌≤◌, ◌∙◌, sym, subst, ℕ, List, length, arith}
use Rattle.std.specs.Prelude.{All}
use Rattle.lsl_handoff.specs.Fields.{IsOneOf}
use Rattle.lsl_world.proofs.Lossy.{homes-numbered, numbers-there}
use Rattle.lsl_world.proofs.world.cards_of.Goals as goal

pub new-requires : goal.new-requires
new-requires c =
    let regions = c.args.regions.now in
    let objects = c.args.grid.now.objects in
    let over : length objects ≤ c.loop-place.place = omega (arith, c.objects-place-end.ensures.value) in
    let homes = c.as_slice.ensures.value ∙ homes-numbered regions objects c.loop-place.homes.items
    c.loop-place.place over
    c.loop-place.invariant in
    subst (λ (n : ℕ). All (IsOneOf n) c.as_slice.result.now) (sym c.len.ensures.value)
    (subst (λ (hs : List ℕ). All (IsOneOf (length regions)) hs) (sym homes)
    (numbers-there regions objects c.requires.named))
