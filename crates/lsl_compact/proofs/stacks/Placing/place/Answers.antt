use Rattle.std.proofs.Common.{◌∙◌, ap, List, [], ◌∷◌, ◌++◌, Option, ℕ}
use Rattle.std.specs.Prelude.{slice_get}
use Rattle.lsl_value.specs.declared.tagged.Kind.{Kind}
use Rattle.lsl_compact.specs.Stacks.{Placed, listed, placed_at, placed_in, placing_of}
use Rattle.lsl_compact.proofs.Growing.{placed_given, placed_more}
use Rattle.lsl_compact.proofs.stacks.Placing.place.Goals as goal

pub returns-clause-placed : goal.returns-clause-placed
returns-clause-placed c =
    let links = c.self.inside.links.items in
    let given = c.self.inside.given.items in
    let placed = c.self.inside.placed.items in
    let top = c.top_at-top.ensures ∙ ap (λ (l : List ℕ). slice_get l c.args.number) c.as_slice.ensures.value in
    ap (λ (l : List (Option ℕ)). placing_of (listed links given) (placed_in links l)) c.in_ok-push.ensures.items
    ∙ ap (λ (l : List (Option (List Kind))). placing_of (listed links given) l)
    (placed_more links placed c.top_at-top.result)
    ∙ ap (λ (o : Option ℕ). placing_of (listed links given) (placed_in links placed ++ placed_at links o ∷ [])) top
    ∙ ap (λ (o : Option (List Kind)). placing_of (listed links given) (placed_in links placed ++ o ∷ []))
    (placed_given links given c.args.number)
    ∙ ap (λ (p : Placed). placing_of p.given (p.placed ++ slice_get p.given c.args.number ∷ [])) c.self.view_is
