-- Timers of one script.
use Rattle.std.proofs.Common.{◌≡◌, ℕ, ◌+◌, ◌<◌, Bool, true, false, List, length, refl, ap}
use Rattle.std.proofs.lemmas.Bool.{and_parts}
use Rattle.std.specs.Prelude.{◌&&◌, ◌||◌, ◌==◌, ◌*◌, nat_le, nat_lt, if◌then◌else◌, Option, Some, None, get_or, slice_get}
use Rattle.lsl_code.specs.declared.woven_units.Woven.{Woven as Code}
use Rattle.lsl_post.specs.Mailbox.{timer_due, timer_read}
use Rattle.lsl_post.specs.Timing.{Timing, due_after, is_due, timing_after}
use Rattle.lsl_post.specs.Told.{Told, as_value, quiet}
use Rattle.lsl_script.specs.Codes.{Meant, rules_of}
use Rattle.lsl_script.specs.Lawful.{IsTiming}
use Rattle.lsl_script.specs.Rules.{Rules}
use Rattle.lsl_script.specs.Scripts.{Doing, Resting, Flying, Stopped, Script, can_go_on, is_ready, post_to, ring_to, timer_event}
use Rattle.lsl_region.specs.Grids.{Contents, IsScript, Stands}
use Rattle.lsl_region.specs.Posting.{ring_at}
use Rattle.lsl_region.specs.Worlds.{Member, World, changed_at, with_member}
use Rattle.lsl_region.specs.declared.grid.Seat.{Seat}
use Rattle.std.proofs.lemmas.Option.{slice_get-get_or}
use Rattle.lsl_script.specs.Fitting.{are_ready, can_run}
use Rattle.lsl_script.specs.Parts.{parts_of, rest_of}
use Rattle.lsl_region.proofs.Placed.{KeepsScript, sits}
use Rattle.lsl_region.proofs.Posts.{if-script, same-script, to-same}
use Rattle.lsl_region.proofs.Seats.{no_seat}

-- a timer that runs still runs after it is read
read-fits : (clock : ℕ) (t : Timing) → IsTiming t → IsTiming (timing_after clock t)
read-fits clock t fits = go (is_due clock t) refl where
  go : (b : Bool) → is_due clock t ≡ b → IsTiming (if b then due_after t.period clock else t)
  go true e =
      let a = and_parts (nat_le t.period 2147483647) _ fits in
      let d = and_parts (nat_lt 0 t.period) _ e in
      λ i. a.0 i && (d.0 i || (clock + 1000 * t.period == 0))
  go false e = fits

pub ring-script : (codes : List Code) (r : Rules) (number clock : ℕ) (s : Script) → IsScript codes false s
    → KeepsScript codes false s (ring_to r number clock s).value
ring-script codes r number clock s l =
    if-script codes false s (timer_due clock s.mailbox)
    (post_to r number timer_event (record s { mailbox = timer_read clock s.mailbox })) (quiet s)
    (record {
      script = record {
        known = l.known;
        lawful = record { timing = read-fits clock s.mailbox.timing l.lawful.timing; doing = l.lawful.doing };
      };
      code = refl;
    })
    (same-script codes false s l)

pub rings-same : (codes : List Code) (m : Meant codes) (away : Option ℕ) (clock : ℕ) (grid : Contents) (w : World)
    → Stands codes away clock grid w → (n : ℕ) → ring_at (rules_of codes) n w ≡ ring_at m.rules n w
rings-same codes m away clock grid w st n = go (slice_get w.members n) refl where
  go : (o : Option Member) → slice_get w.members n ≡ o
      → changed_at n (λ (k : Member). ring_to (rules_of codes) (n + 1) w.clock k.script) w o
      ≡ changed_at n (λ (k : Member). ring_to m.rules (n + 1) w.clock k.script) w o
  go None k = refl
  go (Some u) k =
      ap (λ (t : Told Script). as_value (λ (s : Script). with_member w n (record u { script = s }))
      (if timer_due w.clock u.script.mailbox then t else quiet u.script))
      (to-same codes m (n + 1) timer_event (record u.script { mailbox = timer_read w.clock u.script.mailbox })
      (st.scripts n u k).known)

-- the script at a place, and its parts
pub record Home (codes : List Code) (w : World) (n : ℕ) (seats : List Seat) : Type 0 where
  pub member : Member
  pub at : slice_get w.members n ≡ Some member
  pub seat : Seat
  pub sits : slice_get seats n ≡ Some seat
  pub script : seat.script ≡ Some (parts_of codes member.script)

pub home : (codes : List Code) (clock : ℕ) (grid : Contents) (w : World) (n : ℕ) → Stands codes None clock grid w
    → n < length grid.seats → Home codes w n grid.seats
home codes clock grid w n st h =
    let at : slice_get grid.seats n ≡ Some (get_or grid.seats n no_seat) = slice_get-get_or grid.seats n no_seat h in
    let s = sits codes None clock grid w st n (get_or grid.seats n no_seat) at in
    record {
      member = s.member;
      at = s.at;
      seat = get_or grid.seats n no_seat;
      sits = at;
      script = ap (λ (z : Seat). z.script) s.is;
    }

pub ready-is : (codes : List Code) (clock : ℕ) (s : Script) → are_ready clock (parts_of codes s) ≡ is_ready clock s
ready-is codes clock s = go s.doing where
  go : (d : Doing) → can_run clock (parts_of codes s) (rest_of codes s.code s.state d) ≡ can_go_on clock s d
  go Resting = refl
  go (Flying f) = refl
  go (Stopped fault) = refl
