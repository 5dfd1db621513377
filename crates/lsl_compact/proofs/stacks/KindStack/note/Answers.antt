use Rattle.std.proofs.Common.{sym, subst, List, ℕ}
use Rattle.lsl_compact.specs.Stacks.{AreTops}
use Rattle.lsl_compact.proofs.Growing.{tops_more}
use Rattle.lsl_compact.proofs.stacks.KindStack.note.Goals as goal

pub invariant_of-self-2 : goal.invariant_of-self-2
invariant_of-self-2 c =
    let inside = c.self.inside in
    let i = c.self.invariant in (
      i.0,
      i.1,
      subst (λ (l : List ℕ). AreTops inside.links.items l) (sym c.in_ok-push.ensures.items)
          (tops_more inside.links.items inside.tops.items inside.top i.2 i.1),
      i.3,
      i.4,
    )
