use Rattle.std.proofs.Common.{◌∙◌, ap, List, [], ◌∷◌, ◌++◌, Option, Some, ℕ, reverse}
use Rattle.lsl_value.specs.declared.tagged.Kind.{Kind}
use Rattle.lsl_compact.specs.Stacks.{Placed, listed, placed_in, placing_of}
use Rattle.lsl_compact.proofs.Growing.{placed_more, stack_empty}
use Rattle.lsl_compact.proofs.stacks.Placing.place_empty.Goals as goal

pub returns-clause-placed : goal.returns-clause-placed
returns-clause-placed c =
    let links = c.self.inside.links.items in
    let given = c.self.inside.given.items in
    let placed = c.self.inside.placed.items in
    ap (λ (l : List (Option ℕ)). placing_of (listed links given) (placed_in links l)) c.in_ok-push.ensures.items
    ∙ ap (λ (l : List (Option (List Kind))). placing_of (listed links given) l) (placed_more links placed (Some 0))
    ∙ ap (λ (k : List Kind). placing_of (listed links given) (placed_in links placed ++ Some (reverse k) ∷ []))
    (stack_empty links)
    ∙ ap (λ (p : Placed). placing_of p.given (p.placed ++ Some [] ∷ [])) c.self.view_is
