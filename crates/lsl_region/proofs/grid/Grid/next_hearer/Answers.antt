use Rattle.std.proofs.Common.{◌≡◌, ◌∙◌, ◌<◌, ◌≤◌, inl, inr, ℤ, ap, arith, length, subst, sym, w32}
use Rattle.std.specs.Prelude.{Some, slice_get}
use Rattle.std.proofs.lemmas.Int.{to_z-of_z}
use Rattle.std.proofs.lemmas.Option.{slice_get_within}
use Rattle.lsl_region.specs.Grids.{Contents}
use Rattle.lsl_region.specs.Hearing.{IsFound, is_in_row}
use Rattle.lsl_region.proofs.Passing.{listening}
use Rattle.lsl_region.proofs.grid.Grid.next_hearer.Goals as goal

pub returns-clause-passed : goal.returns-clause-passed
returns-clause-passed c = λ place seat parts first last at is.
    let channel = c.args.channel in
    let rows = c.self.inside.hearers in
    let before : place < c.next.result = omega (arith, last, c.min.ensures) in
    let there : slice_get c.self.inside.seats.items place ≡ Some seat
    = ap (λ (g : Contents). slice_get g.seats place) c.self.view_is ∙ at in
    listening rows c.self.inside.seats.items channel place seat parts c.self.invariant.1 there is
    ∙ ap (λ (z : ℤ). is_in_row rows z place) (sym (to_z-of_z w32 channel c.ranges.channel))
    ∙ c.next.ensures.passed place first before

pub returns-clause-found : goal.returns-clause-found
returns-clause-found c = λ seat parts before at is.
    let channel = c.args.channel in
    let rows = c.self.inside.hearers in
    let seats = c.self.inside.seats.items in
    let there : slice_get seats c.min.result ≡ Some seat
    = ap (λ (g : Contents). slice_get g.seats c.min.result) c.self.view_is ∙ at in
    let within : c.min.result < length seats = slice_get_within seats c.min.result seat there in
    let few : length seats ≤ 256 = c.self.invariant.0.few_seats in
    let next : c.next.result ≡ c.min.result = omega (arith, before, c.min.ensures) in
    let found : IsFound rows channel c.next.result
    = subst (λ (z : ℤ). IsFound rows z c.next.result) (to_z-of_z w32 channel c.ranges.channel) c.next.ensures.found in
    listening rows seats channel c.min.result seat parts c.self.invariant.1 there is
    ∙ ap (is_in_row rows channel) (sym next)
    ∙ elim found [ inl no-row ↦ absurd (omega (arith, no-row, next, within, few)) | inr in-its-row ↦ in-its-row ]
