use Rattle.std.proofs.Common.{◌≡◌, ◌+◌, ◌∙◌, ℕ, Bool, false, refl, arith}
use Rattle.std.proofs.lemmas.Result.{MatchResult-from_err}
use Rattle.lsl_post.proofs.Amid.{again-start, again-ok, again-err, again-stops, again-end}
use Rattle.lsl_region.specs.Worlds.{World as SourceWorld}
use Rattle.lsl_world.specs.Programs.{rules_of}
use Rattle.lsl_world.specs.Steps.{round_or_last}
use Rattle.lsl_world.proofs.Rows.{rounds-leave}
use Rattle.lsl_world.proofs.Walking.{Going, Stopped, round-on, round-part, round-stops}
use Rattle.lsl_world.proofs.world.World.run_part.Goals as goal

pub rounds-init : goal.rounds-init
rounds-init c = record {
  few = omega arith;
  units = refl;
  regions = refl;
  cards = refl;
  outline = refl;
  sound = c.requires.sound;
  again = λ programs w is.
      again-start (Going programs c.args.self.now c.args.most) (w, (c.args.most, false)) c.args.out.now (λ x. x.1.1)
      (round_or_last (rules_of programs)) c.args.most (record { is = is; left_is = refl; goes = refl });
}

pub returns-in_err-spare-clause-tells : goal.returns-in_err-spare-clause-tells
returns-in_err-spare-clause-tells c = λ programs w is.
    MatchResult-from_err c.from_residual.result _ _ c.from_residual.ensures.0
    (λ y. again-err _ _ _ _ _ _ _ _ (c.rounds.invariant.again programs w is) _ c.rounds-test.true (λ x r. r.goes)
    (λ x r. round-part programs c.rounds.self c.round.new.self c.rounds.left 0 c.rounds.out c.round.new.out x r
    (c.in_err-spare.ensures.tells programs x.0 r.is)))

pub returns-then-spare-left-clause-tells : goal.returns-then-spare-left-clause-tells
returns-then-spare-left-clause-tells c = λ programs w is.
    let e : c.in_ok-spare.spare ≡ c.rounds.left = omega arith in
    let g = again-ok _ _ _ _ _ _ _ _ (c.rounds.invariant.again programs w is)
    (λ (x : SourceWorld × (ℕ × Bool)). Stopped programs c.round.new.self x) _ c.rounds-test.true (λ x r. r.goes)
    (λ x r. round-stops programs c.rounds.self c.round.new.self c.rounds.left c.in_ok-spare.spare c.rounds.out
    c.round.new.out x r (c.in_ok-spare.ensures.tells programs x.0 r.is) e) in
    let d = again-stops _ _ _ _ _ _ _ _ g (λ x r. r.stops) in
    (d.0.is, d.1)

pub returns-then-len-ge-ENOUGH-clause-tells : goal.returns-then-len-ge-ENOUGH-clause-tells
returns-then-len-ge-ENOUGH-clause-tells c = λ programs w is.
    let n : c.in_ok-spare.spare ≡ c.rounds.left → ⊥ = λ e. omega (arith, e) in
    let within = c.in_ok-spare.ensures.within in
    let few = c.rounds.invariant.few in
    let g = again-ok _ _ _ _ _ _ _ _ (c.rounds.invariant.again programs w is)
    (λ (x : SourceWorld × (ℕ × Bool)). Going programs c.round.new.self c.in_ok-spare.spare x) _ c.rounds-test.true
    (λ x r. r.goes)
    (λ x r. round-on programs c.rounds.self c.round.new.self c.rounds.left c.in_ok-spare.spare c.rounds.out
    c.round.new.out x r (c.in_ok-spare.ensures.tells programs x.0 r.is) n) in
    rounds-leave programs c.round.new.self c.in_ok-spare.spare c.args.most (c.rounds.counter + 1) _ _ _
    (omega (arith, few, within, n)) g

pub rounds-preserved : goal.rounds-preserved
rounds-preserved c =
    let n : c.in_ok-spare.spare ≡ c.rounds.left → ⊥ = λ e. omega (arith, e) in
    let within = c.in_ok-spare.ensures.within in
    let few = c.rounds.invariant.few in
    record {
      few = omega (arith, few, within, n);
      units = c.round.ensures.units ∙ c.rounds.invariant.units;
      regions = c.round.ensures.regions ∙ c.rounds.invariant.regions;
      cards = c.round.ensures.cards ∙ c.rounds.invariant.cards;
      outline = c.round.ensures.outline ∙ c.rounds.invariant.outline;
      sound = c.in_ok-spare.ensures.sound;
      again = λ programs w is.
          again-ok _ _ _ _ _ _ _ _ (c.rounds.invariant.again programs w is)
          (λ (x : SourceWorld × (ℕ × Bool)). Going programs c.round.new.self c.in_ok-spare.spare x) _
          c.rounds-test.true (λ x r. r.goes)
          (λ x r. round-on programs c.rounds.self c.round.new.self c.rounds.left c.in_ok-spare.spare c.rounds.out
          c.round.new.out x r (c.in_ok-spare.ensures.tells programs x.0 r.is) n);
    }

pub returns-clause-tells : goal.returns-clause-tells
returns-clause-tells c = λ programs w is.
    let d = again-end _ _ _ _ _ _ _ _ (c.rounds.invariant.again programs w is) c.rounds-test.false in
    (d.0.is, d.1)
