use Rattle.std.proofs.Common.{rules, ◌≡◌, ◌-◌, ℕ, arith, length, refl, subst}
use Rattle.std.specs.Prelude.{None}
use Rattle.lsl_post.specs.Journal.{Tells}
use Rattle.lsl_post.specs.Told.{each}
use Rattle.lsl_region.specs.Grids.{Stands}
use Rattle.lsl_region.specs.Posting.{admits, post_where}
use Rattle.lsl_region.proofs.Placed.{stands-length}
use Rattle.lsl_region.proofs.grid.Grid.post_all.Goals as goal

pub returns-clause-does : goal.returns-clause-does
returns-clause-does c = λ m clock w st.
    let count : length c.args.self.now.seats ≡ c.len-end.result = search rules in
    let same = stands-length c.args.library.now None clock c.args.self.now w st in
    let all : c.len-end.result - 0 ≡ length w.members = omega (arith, count, same) in
    subst (λ (n : ℕ). Tells c.post_between.result
    (λ v _. Stands c.args.library.now None clock c.post_between.new.self v) c.args.out.now c.post_between.new.out
    (each (post_where m.rules (admits c.args.notice.now.audience.now) c.args.notice.now.event.now) n 0 w))
    all (c.post_between.ensures.does m None clock w st (λ place first last. refl))
