use Rattle.std.specs.Prelude.{ℤ, None}
use Rattle.std.proofs.Common.{rules, ◌-◌, refl, subst, SFits, w32}
use Rattle.std.proofs.Math.Facts.{to_z-of_z}
use Rattle.lsl_lines.specs.declared.file.Step.TheVariants.{Clock, Say, Touch, Changed, Rez, Go, Run, Pause, Cross}
use Rattle.lsl_post.specs.Journal.{Tells}
use Rattle.lsl_region.specs.Arrivals.{changed_event, post_object, rez_event, say}
use Rattle.lsl_region.specs.Grids.{Stands}
use Rattle.lsl_world.specs.Programs.{rules_of}
use Rattle.lsl_world.specs.Stands.{IsOf}
use Rattle.lsl_world.specs.Steps.{next}
use Rattle.lsl_world.proofs.Going.{goes-cross, goes-here, goes-in-grid}
use Rattle.lsl_world.proofs.Kept.{on-ok, size-kept, sound-kept}
use Rattle.lsl_world.proofs.Meanings.{meant}
use Rattle.lsl_world.proofs.Returning.{crossing-not, goes-back, goes-not}
use Rattle.lsl_world.proofs.Saving.{counts-as, counts-same, tells-quiet}
use Rattle.lsl_world.proofs.Timings.{post-timings, touch-timings}
use Rattle.lsl_world.proofs.world.World.do_step.Goals as goal

pub returns-in-Clock-clause-goes : goal.returns-in-Clock-clause-goes
returns-in-Clock-clause-goes g c =
    goes-here g.L.Link.gives (g.L.Link.trips c.args.link.now) c.args.step.now (Clock c.in-Clock.time) c.in-Clock.is tt
    c.args.self.now c.read_clock.new.self c.args.out.now c.read_clock.new.out c.read_clock.result
    c.read_clock.ensures.tells

pub returns-in-Say-clause-goes : goal.returns-in-Say-clause-goes
returns-in-Say-clause-goes g c =
    let fits : SFits w32 c.in-Say.channel = search rules in
    let world = c.args.self.now in
    goes-in-grid g.L.Link.gives (g.L.Link.trips c.args.link.now) c.args.step.now
    (Say c.in-Say.channel c.in-Say.name c.in-Say.key c.in-Say.text) c.in-Say.is tt world c.say.new.self c.args.out.now
    c.say.new.out c.say.result c.say.ensures.seated (λ programs w. post-timings (rules_of programs) _ _ w)
    (λ programs w is. subst (λ (n : ℤ). Tells c.say.result (λ v _. Stands world.units None world.clock c.say.new.self v)
    c.args.out.now c.say.new.out (say (rules_of programs) n c.in-Say.name c.in-Say.key c.in-Say.text w))
    (to_z-of_z fits) (c.say.ensures.does (meant programs world.units is.runs) world.clock w is.stands))

pub returns-in-Touch-clause-goes : goal.returns-in-Touch-clause-goes
returns-in-Touch-clause-goes g c =
    let world = c.args.self.now in
    goes-in-grid g.L.Link.gives (g.L.Link.trips c.args.link.now) c.args.step.now
    (Touch c.in-Touch.object c.in-Touch.number c.in-Touch.key c.in-Touch.name) c.in-Touch.is tt world
    c.touch.new.self c.args.out.now c.touch.new.out c.touch.result c.touch.ensures.seated
    (λ programs w. touch-timings (rules_of programs) (c.in-Touch.object - 1) _ c.in-Touch.key c.in-Touch.name w)
    (λ programs w is. c.touch.ensures.does (meant programs world.units is.runs) world.clock w is.stands)

pub returns-in-Changed-clause-goes : goal.returns-in-Changed-clause-goes
returns-in-Changed-clause-goes g c =
    let fits : SFits w32 c.in-Changed.flags = search rules in
    let world = c.args.self.now in
    goes-in-grid g.L.Link.gives (g.L.Link.trips c.args.link.now) c.args.step.now
    (Changed c.in-Changed.object c.in-Changed.flags) c.in-Changed.is tt world c.post.new.self c.args.out.now
    c.post.new.out c.post.result c.post.ensures.seated (λ programs w. post-timings (rules_of programs) _ _ w)
    (λ programs w is. subst (λ (n : ℤ). Tells c.post.result
    (λ v _. Stands world.units None world.clock c.post.new.self v) c.args.out.now c.post.new.out
    (post_object (rules_of programs) (c.in-Changed.object - 1) (changed_event n) w)) (to_z-of_z fits)
    (c.post.ensures.changed refl (meant programs world.units is.runs) world.clock w is.stands))

pub returns-in-Rez-clause-goes : goal.returns-in-Rez-clause-goes
returns-in-Rez-clause-goes g c =
    let fits : SFits w32 c.in-Rez.n = search rules in
    let world = c.args.self.now in
    let post = c.post-in-Rez in
    goes-in-grid g.L.Link.gives (g.L.Link.trips c.args.link.now) c.args.step.now (Rez c.in-Rez.object c.in-Rez.n)
    c.in-Rez.is tt world post.new.self c.args.out.now post.new.out post.result post.ensures.seated
    (λ programs w. post-timings (rules_of programs) _ _ w)
    (λ programs w is. subst (λ (n : ℤ). Tells post.result
    (λ v _. Stands world.units None world.clock post.new.self v) c.args.out.now post.new.out
    (post_object (rules_of programs) (c.in-Rez.object - 1) (rez_event n) w)) (to_z-of_z fits)
    (post.ensures.rezzed refl (meant programs world.units is.runs) world.clock w is.stands))

pub returns-in-Go-clause-goes : goal.returns-in-Go-clause-goes
returns-in-Go-clause-goes g c =
    goes-here g.L.Link.gives (g.L.Link.trips c.args.link.now) c.args.step.now (Go c.in-Go.script c.in-Go.most)
    c.in-Go.is tt c.args.self.now c.go.new.self c.args.out.now c.go.new.out c.go.result c.go.ensures.tells

pub returns-in-Run-clause-goes : goal.returns-in-Run-clause-goes
returns-in-Run-clause-goes g c =
    goes-here g.L.Link.gives (g.L.Link.trips c.args.link.now) c.args.step.now (Run c.in-Run.most) c.in-Run.is tt
    c.args.self.now c.run.new.self c.args.out.now c.run.new.out c.run.result c.run.ensures.tells

pub returns-in-Pause-clause-goes : goal.returns-in-Pause-clause-goes
returns-in-Pause-clause-goes g c =
    goes-here g.L.Link.gives (g.L.Link.trips c.args.link.now) c.args.step.now (Pause c.in-Pause.gaps) c.in-Pause.is tt
    c.args.self.now c.set_gaps.new.self c.args.out.now c.args.out.now c.set_gaps.result
    (λ programs w is. tells-quiet c.set_gaps.result programs c.set_gaps.new.self w c.args.out.now
    (c.set_gaps.ensures.same programs w is))

pub returns-in-Cross-clause-goes : goal.returns-in-Cross-clause-goes
returns-in-Cross-clause-goes g c =
    goes-cross g.L.Link.gives (g.L.Link.trips c.args.link.now) (g.L.Link.trips c.cross.new.link) c.args.step.now _
    c.in-Cross.is c.args.self.now c.cross.new.self c.args.out.now c.cross.new.out c.cross.result c.cross.ensures.goes

pub returns-in-Clock-clause-saves : goal.returns-in-Clock-clause-saves
returns-in-Clock-clause-saves g c = λ programs w t is has.
    counts-same c.args.step.now (Clock c.in-Clock.time) c.in-Clock.is tt c.args.self.now.pause
    c.read_clock.new.self.pause c.read_clock.ensures.pause c.read_clock.result programs w t has

pub returns-in-Say-clause-saves : goal.returns-in-Say-clause-saves
returns-in-Say-clause-saves g c = λ programs w t is has.
    counts-same c.args.step.now (Say c.in-Say.channel c.in-Say.name c.in-Say.key c.in-Say.text) c.in-Say.is tt
    c.args.self.now.pause c.args.self.now.pause refl c.say.result programs w t has

pub returns-in-Touch-clause-saves : goal.returns-in-Touch-clause-saves
returns-in-Touch-clause-saves g c = λ programs w t is has.
    counts-same c.args.step.now (Touch c.in-Touch.object c.in-Touch.number c.in-Touch.key c.in-Touch.name) c.in-Touch.is
    tt c.args.self.now.pause c.args.self.now.pause refl c.touch.result programs w t has

pub returns-in-Changed-clause-saves : goal.returns-in-Changed-clause-saves
returns-in-Changed-clause-saves g c = λ programs w t is has.
    counts-same c.args.step.now (Changed c.in-Changed.object c.in-Changed.flags) c.in-Changed.is tt
    c.args.self.now.pause c.args.self.now.pause refl c.post.result programs w t has

pub returns-in-Rez-clause-saves : goal.returns-in-Rez-clause-saves
returns-in-Rez-clause-saves g c = λ programs w t is has.
    counts-same c.args.step.now (Rez c.in-Rez.object c.in-Rez.n) c.in-Rez.is tt
    c.args.self.now.pause c.args.self.now.pause refl c.post-in-Rez.result programs w t has

pub returns-in-Cross-clause-saves : goal.returns-in-Cross-clause-saves
returns-in-Cross-clause-saves g c = λ programs w t is has.
    counts-same c.args.step.now (Cross c.in-Cross.object c.in-Cross.region) c.in-Cross.is tt c.args.self.now.pause
    c.cross.new.self.pause c.cross.ensures.pause c.cross.result programs w t has

pub returns-in-Go-clause-saves : goal.returns-in-Go-clause-saves
returns-in-Go-clause-saves g c = λ programs w t is has.
    counts-as c.args.step.now (Go c.in-Go.script c.in-Go.most) c.in-Go.is c.go.new.self.pause c.go.result programs w t
    (c.go.ensures.saves programs w t is has)

pub returns-in-Run-clause-saves : goal.returns-in-Run-clause-saves
returns-in-Run-clause-saves g c = λ programs w t is has.
    counts-as c.args.step.now (Run c.in-Run.most) c.in-Run.is c.run.new.self.pause c.run.result programs w t
    (c.run.ensures.saves programs w t is has)

pub returns-in-Pause-clause-saves : goal.returns-in-Pause-clause-saves
returns-in-Pause-clause-saves g c = λ programs w t is has.
    counts-as c.args.step.now (Pause c.in-Pause.gaps) c.in-Pause.is c.set_gaps.new.self.pause c.set_gaps.result programs
    w t (c.set_gaps.ensures.saves t has)

pub returns-in-Say-clause-size : goal.returns-in-Say-clause-size
returns-in-Say-clause-size g c =
    on-ok c.say.result (size-kept c.args.self.now c.say.new.self c.say.ensures.outline)

pub returns-in-Say-clause-sound : goal.returns-in-Say-clause-sound
returns-in-Say-clause-sound g c =
    sound-kept c.args.self.now c.say.new.self c.say.result c.requires.sound c.say.ensures.outline
    c.say.ensures.seated

pub returns-in-Touch-clause-size : goal.returns-in-Touch-clause-size
returns-in-Touch-clause-size g c =
    on-ok c.touch.result (size-kept c.args.self.now c.touch.new.self c.touch.ensures.outline)

pub returns-in-Touch-clause-sound : goal.returns-in-Touch-clause-sound
returns-in-Touch-clause-sound g c =
    sound-kept c.args.self.now c.touch.new.self c.touch.result c.requires.sound c.touch.ensures.outline
    c.touch.ensures.seated

pub returns-in-Changed-clause-size : goal.returns-in-Changed-clause-size
returns-in-Changed-clause-size g c =
    on-ok c.post.result (size-kept c.args.self.now c.post.new.self c.post.ensures.outline)

pub returns-in-Changed-clause-sound : goal.returns-in-Changed-clause-sound
returns-in-Changed-clause-sound g c =
    sound-kept c.args.self.now c.post.new.self c.post.result c.requires.sound c.post.ensures.outline
    c.post.ensures.seated

pub returns-in-Rez-clause-size : goal.returns-in-Rez-clause-size
returns-in-Rez-clause-size g c =
    on-ok c.post-in-Rez.result (size-kept c.args.self.now c.post-in-Rez.new.self c.post-in-Rez.ensures.outline)

pub returns-in-Rez-clause-sound : goal.returns-in-Rez-clause-sound
returns-in-Rez-clause-sound g c =
    let post = c.post-in-Rez in
    sound-kept c.args.self.now post.new.self post.result c.requires.sound post.ensures.outline post.ensures.seated

pub returns-in-Clock-clause-comes : goal.returns-in-Clock-clause-comes
returns-in-Clock-clause-comes g c =
    let world = c.args.self.now in
    goes-not g.L.Link.gives (g.L.Link.trips c.args.link.now) world.units world.clock world.grid c.args.step.now
    (Clock c.in-Clock.time) c.in-Clock.is tt _

pub returns-in-Clock-clause-indexed : goal.returns-in-Clock-clause-indexed
returns-in-Clock-clause-indexed g c = λ crossing was.
    absurd (crossing-not c.args.step.now (Clock c.in-Clock.time) c.in-Clock.is tt crossing)

pub returns-in-Say-clause-comes : goal.returns-in-Say-clause-comes
returns-in-Say-clause-comes g c =
    let world = c.args.self.now in
    goes-not g.L.Link.gives (g.L.Link.trips c.args.link.now) world.units world.clock world.grid c.args.step.now
    (Say c.in-Say.channel c.in-Say.name c.in-Say.key c.in-Say.text) c.in-Say.is tt _

pub returns-in-Say-clause-indexed : goal.returns-in-Say-clause-indexed
returns-in-Say-clause-indexed g c = λ crossing was.
    absurd (crossing-not c.args.step.now (Say c.in-Say.channel c.in-Say.name c.in-Say.key c.in-Say.text) c.in-Say.is tt crossing)

pub returns-in-Touch-clause-comes : goal.returns-in-Touch-clause-comes
returns-in-Touch-clause-comes g c =
    let world = c.args.self.now in
    goes-not g.L.Link.gives (g.L.Link.trips c.args.link.now) world.units world.clock world.grid c.args.step.now
    (Touch c.in-Touch.object c.in-Touch.number c.in-Touch.key c.in-Touch.name) c.in-Touch.is tt _

pub returns-in-Touch-clause-indexed : goal.returns-in-Touch-clause-indexed
returns-in-Touch-clause-indexed g c = λ crossing was.
    absurd (crossing-not c.args.step.now (Touch c.in-Touch.object c.in-Touch.number c.in-Touch.key c.in-Touch.name) c.in-Touch.is tt crossing)

pub returns-in-Changed-clause-comes : goal.returns-in-Changed-clause-comes
returns-in-Changed-clause-comes g c =
    let world = c.args.self.now in
    goes-not g.L.Link.gives (g.L.Link.trips c.args.link.now) world.units world.clock world.grid c.args.step.now
    (Changed c.in-Changed.object c.in-Changed.flags) c.in-Changed.is tt _

pub returns-in-Changed-clause-indexed : goal.returns-in-Changed-clause-indexed
returns-in-Changed-clause-indexed g c = λ crossing was.
    absurd (crossing-not c.args.step.now (Changed c.in-Changed.object c.in-Changed.flags) c.in-Changed.is tt crossing)

pub returns-in-Rez-clause-comes : goal.returns-in-Rez-clause-comes
returns-in-Rez-clause-comes g c =
    let world = c.args.self.now in
    goes-not g.L.Link.gives (g.L.Link.trips c.args.link.now) world.units world.clock world.grid c.args.step.now
    (Rez c.in-Rez.object c.in-Rez.n) c.in-Rez.is tt _

pub returns-in-Rez-clause-indexed : goal.returns-in-Rez-clause-indexed
returns-in-Rez-clause-indexed g c = λ crossing was.
    absurd (crossing-not c.args.step.now (Rez c.in-Rez.object c.in-Rez.n) c.in-Rez.is tt crossing)

pub returns-in-Go-clause-comes : goal.returns-in-Go-clause-comes
returns-in-Go-clause-comes g c =
    let world = c.args.self.now in
    goes-not g.L.Link.gives (g.L.Link.trips c.args.link.now) world.units world.clock world.grid c.args.step.now
    (Go c.in-Go.script c.in-Go.most) c.in-Go.is tt _

pub returns-in-Go-clause-indexed : goal.returns-in-Go-clause-indexed
returns-in-Go-clause-indexed g c = λ crossing was.
    absurd (crossing-not c.args.step.now (Go c.in-Go.script c.in-Go.most) c.in-Go.is tt crossing)

pub returns-in-Run-clause-comes : goal.returns-in-Run-clause-comes
returns-in-Run-clause-comes g c =
    let world = c.args.self.now in
    goes-not g.L.Link.gives (g.L.Link.trips c.args.link.now) world.units world.clock world.grid c.args.step.now
    (Run c.in-Run.most) c.in-Run.is tt _

pub returns-in-Run-clause-indexed : goal.returns-in-Run-clause-indexed
returns-in-Run-clause-indexed g c = λ crossing was.
    absurd (crossing-not c.args.step.now (Run c.in-Run.most) c.in-Run.is tt crossing)

pub returns-in-Pause-clause-comes : goal.returns-in-Pause-clause-comes
returns-in-Pause-clause-comes g c =
    let world = c.args.self.now in
    goes-not g.L.Link.gives (g.L.Link.trips c.args.link.now) world.units world.clock world.grid c.args.step.now
    (Pause c.in-Pause.gaps) c.in-Pause.is tt _

pub returns-in-Pause-clause-indexed : goal.returns-in-Pause-clause-indexed
returns-in-Pause-clause-indexed g c = λ crossing was.
    absurd (crossing-not c.args.step.now (Pause c.in-Pause.gaps) c.in-Pause.is tt crossing)

pub returns-in-Cross-clause-comes : goal.returns-in-Cross-clause-comes
returns-in-Cross-clause-comes g c =
    let world = c.args.self.now in
    goes-back g.L.Link.gives (g.L.Link.trips c.args.link.now) (g.L.Link.trips c.cross.new.link) world.units world.clock
    world.grid c.args.step.now (Cross c.in-Cross.object c.in-Cross.region) c.in-Cross.is
    (λ s programs w. Tells c.cross.result (λ v _. IsOf programs c.cross.new.self v) c.args.out.now c.cross.new.out
    (next (rules_of programs) s w)) c.cross.ensures.comes

pub returns-in-Cross-clause-indexed : goal.returns-in-Cross-clause-indexed
returns-in-Cross-clause-indexed g c = λ crossing was. c.cross.ensures.indexed
