use Rattle.std.proofs.Common.{◌≡◌, ◌≤◌, arith, subst, max}
use Rattle.std.specs.Prelude.{ℕ}
use Rattle.lsl_region.specs.Posting.{ring_all}
use Rattle.lsl_post.specs.Journal.{Tells}
use Rattle.lsl_post.specs.Timing.{latest_clock}
use Rattle.lsl_world.specs.Programs.{rules_of}
use Rattle.lsl_world.specs.Stands.{IsOf}
use Rattle.lsl_world.proofs.Kept.{later, sound-later}
use Rattle.lsl_world.proofs.world.World.read_clock.Goals as goal

pub read_timers-requires : goal.read_timers-requires
read_timers-requires c =
    let timely : c.max-self.result ≤ latest_clock = omega (arith, c.requires.sound.timely, c.requires.time) in
    record { sound = sound-later c.args.self.now c.max-self.result c.requires.sound timely }

pub returns-clause-tells : goal.returns-clause-tells
returns-clause-tells c = λ programs w is.
    let world = c.args.self.now in
    let time = is.stands.time in
    let timely : c.max-self.result ≤ latest_clock = omega (arith, is.timely, c.requires.time) in
    let greater : c.max-self.result ≡ max w.clock c.args.time = omega (arith, time) in
    subst (λ (n : ℕ). Tells c.read_timers.result (λ v _. IsOf programs c.read_timers.new.self v) c.args.out.now
    c.read_timers.new.out (ring_all (rules_of programs) (record w { clock = n }))) greater
    (c.read_timers.ensures.tells programs (record w { clock = c.max-self.result })
    (later programs world w c.max-self.result is timely))
