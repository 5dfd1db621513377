use Rattle.std.proofs.Common.{◌≡◌, ◌≤◌, ◌+◌, ◌++◌, length, take}
use Rattle.std.specs.Prelude.{All}
use Rattle.lsl_post.specs.declared.events.Event.{Event}
use Rattle.lsl_region.specs.Crossings.{region_changed}
use Rattle.lsl_region.specs.Grids.{AreSeated}
use Rattle.lsl_region.proofs.Notices.{count_from, posts_from}
use Rattle.lsl_region.proofs.grid.Grid.tell_all.Given as goal

abbrev pub invariant-loop-seat : goal.invariant-loop-seat
invariant-loop-seat l =
    record {
      len : length l.self.seats ≡ length l.fn.self.seats;
      objects : l.self.objects ≡ l.fn.self.objects;
      cards : l.self.cards ≡ l.fn.self.cards;
      seated : AreSeated l.site.library.now l.self.seats;
      events : All (λ (e : Event). e ≡ region_changed) l.events.items;
      enough : count_from l.site.place l.seat l.self.seats ≤ length l.events.items;
      room : l.at + count_from l.site.place l.seat l.self.seats ≤ length l.out;
      value : (posts_from l.site.library.now l.site.place region_changed l.seat l.self.seats).value
          ≡ (posts_from l.site.library.now l.site.place region_changed 0 l.fn.self.seats).value;
      entries : take l.at l.out ++ (posts_from l.site.library.now l.site.place region_changed l.seat l.self.seats).entries
          ≡ take l.before l.fn.out ++ (posts_from l.site.library.now l.site.place region_changed 0 l.fn.self.seats).entries;
    }
