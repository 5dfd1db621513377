use Rattle.std.proofs.Common.{ℕ, List, map, ap, subst, ◌∙◌}
use Rattle.std.specs.Prelude.{filter}
use Rattle.std.specs.List.Sorted.{IsPermutation}
use Rattle.lsl_post.specs.Due.{is_due, IsIndex}
use Rattle.lsl_post.proofs.DueOrder.{keys_between-due}
use Rattle.lsl_post.proofs.DueTimes.{index-from}
use Rattle.lsl_post.proofs.due.Due.ripe.Goals as goal

pub returns-clause-ok : goal.returns-clause-ok
returns-clause-ok c =
    let entries = keys_between-due c.args.clock c.self.inside.order c.self.invariant.scripts
    ∙ ap (filter (is_due c.args.clock)) c.self.view_is in
    let listed = c.in_ok-scripts.ensures ∙ ap (map (λ (e : ℕ × ℕ). e.1)) entries in record {
      rising = c.sort_unstable.ensures.sorted;
      exact =
          subst (λ (scripts : List ℕ). IsPermutation scripts c.sort_unstable.new.self.items) listed
          c.sort_unstable.ensures.permutation;
    }

pub returns-clause-index : goal.returns-clause-index
returns-clause-index c =
    subst IsIndex c.self.view_is (index-from c.self.inside.order c.self.inside.times c.self.invariant)

pub returns-in_err-scripts-clause-index : goal.returns-in_err-scripts-clause-index
returns-in_err-scripts-clause-index c =
    subst IsIndex c.self.view_is (index-from c.self.inside.order c.self.inside.times c.self.invariant)
