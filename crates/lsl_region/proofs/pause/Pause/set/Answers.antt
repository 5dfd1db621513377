use Rattle.std.proofs.Common.{ℕ, List, sym, subst}
use Rattle.lsl_region.specs.Pausing.{Counts, Cursor, with_gaps}
use Rattle.lsl_region.proofs.Gaps.{counts-anew}
use Rattle.lsl_region.proofs.pause.Pause.set.Goals as goal

pub returns : goal.returns
returns c t k =
    let old : Cursor = record {
      gaps = c.self.inside.gaps.items;
      next = c.self.inside.next;
      count = c.self.inside.count;
      saves = c.self.inside.saves;
    } in
    let items = c.into_vec-gaps.result.items in
    subst (λ (gaps : List ℕ). Counts (record old { gaps = items; next = 0; count = 0 }) (with_gaps gaps t))
    c.into_vec-gaps.ensures
    (counts-anew old items t (subst (λ (x : Cursor). Counts x t) (sym c.self.view_is) k))
