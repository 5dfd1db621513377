use Rattle.std.proofs.Common.{◌≡◌, ◌-◌, ◌∙◌, refl, length, arith, min}
use Rattle.std.proofs.lemmas.Result.{MatchResult-from_err}
use Rattle.lsl_post.proofs.Amid.{walk-start, walk-ok, walk-err, walk-end}
use Rattle.lsl_world.specs.Programs.{rules_of}
use Rattle.lsl_world.specs.Saves.{counted_turn_in}
use Rattle.lsl_world.specs.Steps.{turn_in}
use Rattle.lsl_world.proofs.Saving.{LeftCounted, counted-on}
use Rattle.lsl_world.proofs.Walking.{Left, members-are, numbered, turn-on, turn-part}
use Rattle.lsl_world.proofs.world.World.round.Goals as goal

pub loop-place-init : goal.loop-place-init
loop-place-init c = record {
  few = c.scripts-place-end.ensures.within;
  within = omega arith;
  units = refl;
  regions = refl;
  cards = refl;
  outline = refl;
  size = refl;
  sound = c.requires.sound;
  walk = λ programs w is.
      let e : c.scripts-place-end.result ≡ length w.members =
      c.scripts-place-end.ensures.value ∙ members-are programs c.args.self.now w is in
      walk-start (Left programs c.args.self.now c.args.left) (w, c.args.left) c.args.out.now
      (turn_in (rules_of programs)) (length w.members) c.scripts-place-end.result
      (record { is = is; left_is = refl }) e;
  saves = λ programs w t is has.
      let e : c.scripts-place-end.result ≡ length w.members =
      c.scripts-place-end.ensures.value ∙ members-are programs c.args.self.now w is in
      walk-start (LeftCounted programs c.args.self.now c.args.left) ((w, c.args.left), t) c.args.out.now
      (counted_turn_in (rules_of programs)) (length w.members) c.scripts-place-end.result
      (record { left_is = record { is = is; left_is = refl }; counts = has }) e;
}

pub turn-requires-clause-script : goal.turn-requires-clause-script
turn-requires-clause-script c =
    numbered c.loop-place.self c.args.self.now c.scripts-place-end.result c.loop-place.place
    c.loop-place.invariant.size c.scripts-place-end.ensures.value c.loop-place-test.true

pub returns-in_err-spent-clause-tells : goal.returns-in_err-spent-clause-tells
returns-in_err-spent-clause-tells c = λ programs w is.
    let few : c.min.result ≡ min 8 c.loop-place.spare = omega arith in
    MatchResult-from_err c.from_residual.result _ _ c.from_residual.ensures.0
    (λ y. walk-err _ _ _ _ _ _ _ (c.loop-place.invariant.walk programs w is) _ c.loop-place-test.true
    (λ x r. turn-part programs c.loop-place.self c.turn.new.self c.loop-place.place c.loop-place.spare c.min.result 0
    c.loop-place.out c.turn.new.out x r few (c.in_err-spent.ensures.tells programs x.0 r.is)))

pub loop-place-preserved : goal.loop-place-preserved
loop-place-preserved c = record {
  few = c.loop-place.invariant.few;
  within = let few = c.loop-place.invariant.within in omega (arith, few);
  units = c.turn.ensures.units ∙ c.loop-place.invariant.units;
  regions = c.turn.ensures.regions ∙ c.loop-place.invariant.regions;
  cards = c.turn.ensures.cards ∙ c.loop-place.invariant.cards;
  outline = c.turn.ensures.outline ∙ c.loop-place.invariant.outline;
  size = c.turn.ensures.size ∙ c.loop-place.invariant.size;
  sound = c.in_ok-spent.ensures.sound;
  walk = λ programs w is.
      let few : c.min.result ≡ min 8 c.loop-place.spare = omega arith in
      walk-ok _ _ _ _ _ _ _ (c.loop-place.invariant.walk programs w is)
      (λ x. Left programs c.turn.new.self (c.loop-place.spare - c.in_ok-spent.spent) x) _ c.loop-place-test.true
      (λ x r. turn-on programs c.loop-place.self c.turn.new.self c.loop-place.place c.loop-place.spare c.min.result
      c.in_ok-spent.spent c.loop-place.out c.turn.new.out x r few (c.in_ok-spent.ensures.tells programs x.0 r.is));
  saves = λ programs w t is has.
      let few : c.min.result ≡ min 8 c.loop-place.spare = omega arith in
      walk-ok _ _ _ _ _ _ _ (c.loop-place.invariant.saves programs w t is has)
      (λ x. LeftCounted programs c.turn.new.self (c.loop-place.spare - c.in_ok-spent.spent) x) _
      c.loop-place-test.true
      (λ x r. counted-on programs c.loop-place.self c.turn.new.self c.loop-place.place c.loop-place.spare c.min.result
      c.in_ok-spent.spent c.loop-place.out c.turn.new.out x r few
      (c.in_ok-spent.ensures.tells programs x.0.0 r.left_is.is)
      (c.in_ok-spent.ensures.saves programs x.0.0 x.1 r.left_is.is r.counts));
}

pub returns-clause-tells : goal.returns-clause-tells
returns-clause-tells c = λ programs w is.
    let d = walk-end _ _ _ _ _ _ _ (c.loop-place.invariant.walk programs w is) c.loop-place-test.false in
    ((d.0.is, d.0.left_is), d.1)

pub returns-clause-saves : goal.returns-clause-saves
returns-clause-saves c = λ programs w t is has.
    let d = walk-end _ _ _ _ _ _ _ (c.loop-place.invariant.saves programs w t is has) c.loop-place-test.false in
    d.0.counts
