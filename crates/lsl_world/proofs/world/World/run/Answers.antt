use Rattle.std.proofs.Common.{◌≡◌, ℕ, Bool, false, refl, ◌∙◌, arith}
use Rattle.std.proofs.lemmas.Result.{MatchResult-from_err}
use Rattle.lsl_post.proofs.Amid.{again-start, again-ok, again-err, again-stops, again-end}
use Rattle.lsl_region.specs.Pausing.{Tally}
use Rattle.lsl_region.specs.Worlds.{World as SourceWorld}
use Rattle.lsl_world.specs.Programs.{rules_of}
use Rattle.lsl_world.specs.Saves.{counted_round_or_last}
use Rattle.lsl_world.specs.Steps.{round_or_last}
use Rattle.lsl_world.proofs.Saving.{GoingCounted, StoppedCounted, counted-round, counted-stops}
use Rattle.lsl_world.proofs.Walking.{Going, Stopped, round-on, round-part, round-stops}
use Rattle.lsl_world.proofs.world.World.run.Goals as goal

pub loop-init : goal.loop-init
loop-init c = record {
  units = refl;
  size = refl;
  sound = c.requires.sound;
  again = λ programs w is.
      again-start (Going programs c.args.self.now c.args.most) (w, (c.args.most, false)) c.args.out.now (λ x. x.1.1)
      (round_or_last (rules_of programs)) c.args.most (record { is = is; left_is = refl; goes = refl });
  saves = λ programs w t is has.
      again-start (GoingCounted programs c.args.self.now c.args.most) ((w, (c.args.most, false)), t) c.args.out.now
      (λ x. x.0.1.1) (counted_round_or_last (rules_of programs)) c.args.most
      (record { going = record { is = is; left_is = refl; goes = refl }; counts = has });
}

pub round-requires : goal.round-requires
round-requires c = record { sound = c.loop.invariant.sound }

pub returns-in_err-spare-clause-tells : goal.returns-in_err-spare-clause-tells
returns-in_err-spare-clause-tells c = λ programs w is.
    MatchResult-from_err c.from_residual.result _ _ c.from_residual.ensures.0
    (λ y. again-err _ _ _ _ _ _ _ _ (c.loop.invariant.again programs w is) _ c.loop-test.true (λ x r. r.goes)
    (λ x r. round-part programs c.loop.self c.round.new.self c.loop.left 0 c.loop.out c.round.new.out x r
    (c.in_err-spare.ensures.tells programs x.0 r.is)))

pub returns-then-spare-left-clause-tells : goal.returns-then-spare-left-clause-tells
returns-then-spare-left-clause-tells c = λ programs w is.
    let e : c.in_ok-spare.spare ≡ c.loop.left = omega arith in
    let g = again-ok _ _ _ _ _ _ _ _ (c.loop.invariant.again programs w is)
    (λ (x : SourceWorld × (ℕ × Bool)). Stopped programs c.round.new.self x) _ c.loop-test.true (λ x r. r.goes)
    (λ x r. round-stops programs c.loop.self c.round.new.self c.loop.left c.in_ok-spare.spare c.loop.out
    c.round.new.out x r (c.in_ok-spare.ensures.tells programs x.0 r.is) e) in
    let d = again-stops _ _ _ _ _ _ _ _ g (λ x r. r.stops) in
    (d.0.is, d.1)

pub loop-preserved : goal.loop-preserved
loop-preserved c =
    let n : c.in_ok-spare.spare ≡ c.loop.left → ⊥ = λ e. omega (arith, e) in
    record {
      units = c.round.ensures.units ∙ c.loop.invariant.units;
      size = c.round.ensures.size ∙ c.loop.invariant.size;
      sound = c.in_ok-spare.ensures.sound;
      again = λ programs w is.
          again-ok _ _ _ _ _ _ _ _ (c.loop.invariant.again programs w is)
          (λ (x : SourceWorld × (ℕ × Bool)). Going programs c.round.new.self c.in_ok-spare.spare x) _ c.loop-test.true
          (λ x r. r.goes)
          (λ x r. round-on programs c.loop.self c.round.new.self c.loop.left c.in_ok-spare.spare c.loop.out
          c.round.new.out x r (c.in_ok-spare.ensures.tells programs x.0 r.is) n);
      saves = λ programs w t is has.
          again-ok _ _ _ _ _ _ _ _ (c.loop.invariant.saves programs w t is has)
          (λ (x : (SourceWorld × (ℕ × Bool)) × Tally). GoingCounted programs c.round.new.self c.in_ok-spare.spare x) _
          c.loop-test.true (λ x r. r.going.goes)
          (λ x r. counted-round programs c.loop.self c.round.new.self c.loop.left c.in_ok-spare.spare c.loop.out
          c.round.new.out x r (c.in_ok-spare.ensures.tells programs x.0.0 r.going.is)
          (c.in_ok-spare.ensures.saves programs x.0.0 x.1 r.going.is r.counts) n);
    }

pub returns-clause-tells : goal.returns-clause-tells
returns-clause-tells c = λ programs w is.
    let d = again-end _ _ _ _ _ _ _ _ (c.loop.invariant.again programs w is) c.loop-test.false in
    (d.0.is, d.1)

pub returns-then-spare-left-clause-saves : goal.returns-then-spare-left-clause-saves
returns-then-spare-left-clause-saves c = λ programs w t is has.
    let e : c.in_ok-spare.spare ≡ c.loop.left = omega arith in
    let g = again-ok _ _ _ _ _ _ _ _ (c.loop.invariant.saves programs w t is has)
    (λ (x : (SourceWorld × (ℕ × Bool)) × Tally). StoppedCounted programs c.round.new.self x) _ c.loop-test.true
    (λ x r. r.going.goes)
    (λ x r. counted-stops programs c.loop.self c.round.new.self c.loop.left c.in_ok-spare.spare c.loop.out
    c.round.new.out x r (c.in_ok-spare.ensures.tells programs x.0.0 r.going.is)
    (c.in_ok-spare.ensures.saves programs x.0.0 x.1 r.going.is r.counts) e) in
    let d = again-stops _ _ _ _ _ _ _ _ g (λ x r. r.stopped.stops) in
    d.0.counts

pub returns-clause-saves : goal.returns-clause-saves
returns-clause-saves c = λ programs w t is has.
    let d = again-end _ _ _ _ _ _ _ _ (c.loop.invariant.saves programs w t is has) c.loop-test.false in
    d.0.counts
