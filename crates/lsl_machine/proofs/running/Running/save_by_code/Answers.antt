use Rattle.std.proofs.Common.{◌∙◌, refl, sym, ap, subst, arith, [], ◌∷◌, ◌++◌, ◌+◌, rules}
use Rattle.lsl_code.specs.Packs.{Packed}
use Rattle.lsl_code.specs.Weaves.{bodies_of}
use Rattle.lsl_machine.specs.CallsSaved.{AreSaved}
use Rattle.lsl_machine.specs.declared.saving.Saver.{Saver}
use Rattle.lsl_machine.specs.Laid.{machine_of}
use Rattle.lsl_machine.proofs.Sacking.{rests_so, tick_short, seals_first, saves_first, next_taken, seals_next, saves_next, all_saved}
use Rattle.lsl_machine.proofs.running.Running.save_by_code.Goals as goal

pub overflow_add-saver : goal.overflow_add-saver
overflow_add-saver c =
    let x = rests_so c.args.unit.now c.args.self c.requires.laid c.requires.rests in
    let short = tick_short c.args.unit.now c.args.self x in
    omega arith

pub seal-requires : goal.seal-requires
seal-requires c =
    let x = rests_so c.args.unit.now c.args.self c.requires.laid c.requires.rests in
    seals_first c.args.unit.now c.args.self x _ refl refl (ap (λ (p : Packed). p.hand) c.in_ok-pack.ensures)

pub loop-caller-init : goal.loop-caller-init
loop-caller-init c =
    let x = rests_so c.args.unit.now c.args.self c.requires.laid c.requires.rests in
    let saver : Saver =
    record {
      active = record c.args.self.active { place = c.args.self.active.place + 1 };
      stack = c.args.self.stack;
      pack = c.in_ok-pack.pack;
    } in
    let sealed = c.in_ok-seal.ensures.frame in
    saves_first c.args.unit.now c.args.self x saver c.seal.new.self sealed.0 c.seal.new.self.pack.frames refl refl
    (ap (λ (p : Packed). p.hand) c.in_ok-pack.ensures) sealed.2 c.in_ok-seal.ensures.left
    (ap (λ (p : Packed). p.hand) sealed.1)
    (ap (λ (p : Packed). p.frames) sealed.1 ∙ ap (λ (p : Packed). p.frames ++ sealed.0 ∷ []) c.in_ok-pack.ensures)

pub seal-requires-in-Some : goal.seal-requires-in-Some
seal-requires-in-Some c =
    let bodies = bodies_of c.args.unit.now in
    let first = (machine_of c.args.self).calls in
    let frames = c.loop-caller.saver.pack.frames in
    let x = next_taken bodies first c.loop-caller.saver c.in-Some.caller c.loop-caller.callers.items
    c.pop.new.self.items frames c.loop-caller.invariant c.in-Some.ensures.items in
    seals_next bodies first c.loop-caller.saver c.in-Some.caller c.pop.new.self.items frames x _ refl refl refl

pub loop-caller-preserved : goal.loop-caller-preserved
loop-caller-preserved c =
    let bodies = bodies_of c.args.unit.now in
    let first = (machine_of c.args.self).calls in
    let frames = c.loop-caller.saver.pack.frames in
    let x = next_taken bodies first c.loop-caller.saver c.in-Some.caller c.loop-caller.callers.items
    c.pop.new.self.items frames c.loop-caller.invariant c.in-Some.ensures.items in
    let sealed = c.in_ok-seal-2.ensures.frame in
    saves_next bodies first c.loop-caller.saver c.in-Some.caller c.pop.new.self.items frames x _
    c.seal-in-Some.new.self sealed.0 c.seal-in-Some.new.self.pack.frames refl refl refl sealed.2
    c.in_ok-seal-2.ensures.left (ap (λ (p : Packed). p.hand) sealed.1) (ap (λ (p : Packed). p.frames) sealed.1)

pub returns-clause-frames : goal.returns-clause-frames
returns-clause-frames c =
    subst (AreSaved (bodies_of c.args.unit.now) (machine_of c.args.self).calls) (sym c.from_pack.ensures)
    (all_saved (bodies_of c.args.unit.now) (machine_of c.args.self).calls c.loop-caller.saver
    c.loop-caller.callers.items c.loop-caller.saver.pack.frames c.loop-caller.invariant (search rules))
