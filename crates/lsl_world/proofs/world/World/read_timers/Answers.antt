use Rattle.std.proofs.Common.{ℕ, List, ◌≡◌, ◌∙◌, ◌-◌, ◌+◌, ◌++◌, refl, sym, subst, length, drop, get_or}
use Rattle.std.proofs.lemmas.Result.{MatchResult-from_err}
use Rattle.lsl_post.proofs.Amid.{amid-end, amid-err, amid-ok, amid-start, part-none}
use Rattle.lsl_post.specs.Due.{IsRipe}
use Rattle.lsl_post.specs.Journal.{Part}
use Rattle.lsl_post.specs.Told.{Told}
use Rattle.lsl_region.specs.Posting.{ring_at}
use Rattle.lsl_region.specs.Worlds.{World as SourceWorld}
use Rattle.lsl_world.specs.Programs.{rules_of}
use Rattle.lsl_world.specs.Stands.{IsOf}
use Rattle.lsl_world.proofs.Ripe.{ring-end, ring-next, rings, ripe-there}
use Rattle.lsl_world.proofs.Walking.{numbered-item, reads}
use Rattle.lsl_world.proofs.world.World.read_timers.Goals as goal

pub returns-in_err-ripe-clause-tells : goal.returns-in_err-ripe-clause-tells
returns-in_err-ripe-clause-tells c = λ programs w is.
    MatchResult-from_err c.from_residual.result _ _ c.from_residual.ensures.0 (λ y. part-none c.args.out.now _)

pub loop-script-init : goal.loop-script-init
loop-script-init c = record {
  units = refl;
  pause = refl;
  size = refl;
  sound = c.requires.sound;
  amid = λ programs w is.
      amid-start (IsOf programs c.args.self.now) w c.args.out.now
      (rings (rules_of programs) c.deref-script-items.result.now) is;
}

pub read_timer-requires-clause-script : goal.read_timer-requires-clause-script
read_timer-requires-clause-script c =
    let world = c.args.self.now in
    let scripts = c.deref-script-items.result.now in
    let ripe : IsRipe world.clock world.due scripts =
    subst (λ (ns : List ℕ). IsRipe world.clock world.due ns) (sym c.deref-script-items.ensures.value)
    c.in_ok-ripe.ensures.ok in
    numbered-item c.loop-script.self world scripts c.loop-script.script-index 0 c.loop-script.invariant.size
    (ripe-there (length world.grid.seats) world.clock world.due scripts c.requires.sound.numbered ripe)
    c.loop-script-test.true

pub returns-in_err-read_timer-clause-tells : goal.returns-in_err-read_timer-clause-tells
returns-in_err-read_timer-clause-tells c = λ programs w is.
    let world = c.args.self.now in
    let scripts = c.deref-script-items.result.now in
    let ripe : IsRipe world.clock world.due scripts =
    subst (λ (ns : List ℕ). IsRipe world.clock world.due ns) (sym c.deref-script-items.ensures.value)
    c.in_ok-ripe.ensures.ok in
    MatchResult-from_err c.from_residual-in_err-read_timer.result _ _ c.from_residual-in_err-read_timer.ensures.0
    (λ y. subst (λ (a : Told SourceWorld). Part c.args.out.now c.read_timer.new.out a.entries)
    (sym (reads programs world w is scripts ripe))
    (amid-err _ _ _ _ _ (c.loop-script.invariant.amid programs w is)
    (rings (rules_of programs) (drop (c.loop-script.script-index + 1) scripts))
    (ring_at (rules_of programs) (get_or scripts c.loop-script.script-index 0 - 1)) c.read_timer.new.out
    (λ x rel. ring-next (rules_of programs) scripts c.loop-script.script-index 0 c.loop-script-test.true x)
    (λ x rel. c.in_err-read_timer.ensures.tells programs x rel)))

pub loop-script-preserved : goal.loop-script-preserved
loop-script-preserved c = record {
  units = c.read_timer.ensures.units ∙ c.loop-script.invariant.units;
  pause = c.read_timer.ensures.pause ∙ c.loop-script.invariant.pause;
  size = c.read_timer.ensures.size ∙ c.loop-script.invariant.size;
  sound = c.in_ok-read_timer.ensures.sound;
  amid = λ programs w is.
      let scripts = c.deref-script-items.result.now in
      amid-ok _ _ _ _ _ (c.loop-script.invariant.amid programs w is) (λ x. IsOf programs c.read_timer.new.self x)
      (rings (rules_of programs) (drop (c.loop-script.script-index + 1) scripts))
      (ring_at (rules_of programs) (get_or scripts c.loop-script.script-index 0 - 1)) c.read_timer.new.out
      (λ x rel. ring-next (rules_of programs) scripts c.loop-script.script-index 0 c.loop-script-test.true x)
      (λ x rel. c.in_ok-read_timer.ensures.tells programs x rel);
}

pub returns-clause-tells : goal.returns-clause-tells
returns-clause-tells c = λ programs w is.
    let scripts = c.deref-script-items.result.now in
    let ripe : IsRipe c.args.self.now.clock c.args.self.now.due scripts =
    subst (λ (ns : List ℕ). IsRipe c.args.self.now.clock c.args.self.now.due ns)
    (sym c.deref-script-items.ensures.value) c.in_ok-ripe.ensures.ok in
    subst (λ (a : Told SourceWorld). IsOf programs c.loop-script.self a.value
    × (c.loop-script.out ≡ c.args.out.now ++ a.entries)) (sym (reads programs c.args.self.now w is scripts ripe))
    (amid-end _ _ _ _ _ (c.loop-script.invariant.amid programs w is) (λ x. IsOf programs c.loop-script.self x) (λ x. x)
    (λ x rel. ring-end (rules_of programs) scripts c.loop-script.script-index c.loop-script-test.false x)
    (λ x rel. rel))
