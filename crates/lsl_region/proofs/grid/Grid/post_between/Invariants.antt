use Rattle.std.proofs.Common.{◌≡◌, ◌≤◌, ◌-◌, ℕ, length}
use Rattle.std.specs.Prelude.{Option}
use Rattle.lsl_post.proofs.Amid.{Walk}
use Rattle.lsl_script.specs.Codes.{Meant}
use Rattle.lsl_region.specs.Grids.{AreHome, AreSeated, Stands, outline_of}
use Rattle.lsl_region.specs.Posting.{admits, post_between, post_where}
use Rattle.lsl_region.specs.Worlds.{World}
use Rattle.lsl_region.proofs.grid.Grid.post_between.Given as goal

abbrev pub invariant-loop-place : goal.invariant-loop-place
invariant-loop-place l =
    record {
      from : l.first ≤ l.place;
      within : l.place ≤ l.end;
      same : length l.self.seats ≡ length l.fn.self.seats;
      outline : outline_of l.self ≡ outline_of l.fn.self;
      objects : l.self.objects ≡ l.fn.self.objects;
      seated : AreSeated l.library l.self.seats;
      walk : (m : Meant l.library) (away : Option ℕ) (clock : ℕ) (w : World) → Stands l.library away clock l.fn.self w
          → AreHome away l.first l.end →
          Walk (λ v. Stands l.library away clock l.self v)
          (post_between m.rules (admits l.notice.audience.now) l.notice.event.now l.first l.end w)
          l.fn.out l.out (post_where m.rules (admits l.notice.audience.now) l.notice.event.now) l.place l.end;
    }

abbrev pub decreases-loop-place : goal.decreases-loop-place
decreases-loop-place l = l.end - l.place
