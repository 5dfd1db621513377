use Rattle.std.proofs.Common.{◌≡◌, ◌+◌, ◌-◌, ◌∙◌, ℕ, arith}
use Rattle.std.proofs.lemmas.Result.{MatchResult-from_err}
use Rattle.lsl_world.proofs.Kept.{number-kept}
use Rattle.lsl_world.proofs.Rows.{row-ends, row-leaves, row-none-left, row-on, row-part}
use Rattle.lsl_world.proofs.world.World.go_part.Goals as goal

pub turn-requires-clause-script : goal.turn-requires-clause-script
turn-requires-clause-script c =
    number-kept c.args.self.now c.rows.self.grid c.args.script c.rows.invariant.outline c.requires.script

pub returns-in_err-spent-clause-tells : goal.returns-in_err-spent-clause-tells
returns-in_err-spent-clause-tells c = λ programs w is.
    let few : ℕ = c.min-few.result in
    let all : c.rows.left ≡ few + (c.rows.left - few) = omega arith in
    MatchResult-from_err c.from_residual.result _ _ c.from_residual.ensures.0
    (λ y. row-part programs c.rows.self c.args.script c.rows.left _ _ _ (c.rows.invariant.amid programs w is)
    c.turn.new.self few (c.rows.left - few) all c.turn.new.out
    (λ x of. c.in_err-spent.ensures.tells programs x of))

pub returns-then-spent-few-clause-tells : goal.returns-then-spent-few-clause-tells
returns-then-spent-few-clause-tells c = λ programs w is.
    let few : ℕ = c.min-few.result in
    let all : c.rows.left ≡ few + (c.rows.left - few) = omega arith in
    row-ends programs c.rows.self c.args.script c.rows.left _ _ _ (c.rows.invariant.amid programs w is)
    c.turn.new.self few (c.rows.left - few) all c.turn.new.out c.in_ok-spent.spent
    (λ x of. c.in_ok-spent.ensures.tells programs x of) c.if-spent-few.true

pub returns-then-len-ge-ENOUGH-clause-tells : goal.returns-then-len-ge-ENOUGH-clause-tells
returns-then-len-ge-ENOUGH-clause-tells c = λ programs w is.
    let few : ℕ = c.min-few.result in
    let all : c.rows.left ≡ few + (c.rows.left - few) = omega arith in
    row-leaves programs c.turn.new.self c.args.script (c.rows.left - few) _ _ _
    (row-on programs c.rows.self c.args.script c.rows.left _ _ _ (c.rows.invariant.amid programs w is)
    c.turn.new.self few (c.rows.left - few) all c.turn.new.out c.in_ok-spent.spent
    (λ x of. c.in_ok-spent.ensures.tells programs x of))

pub rows-preserved : goal.rows-preserved
rows-preserved c =
    let few : ℕ = c.min-few.result in
    let all : c.rows.left ≡ few + (c.rows.left - few) = omega arith in
    let inv = c.rows.invariant in
    let at_most = inv.few in
    let some = inv.some in
    let short = inv.short in
    record {
      few = omega arith;
      some = omega arith;
      short = omega arith;
      units = c.turn.ensures.units ∙ inv.units;
      regions = c.turn.ensures.regions ∙ inv.regions;
      cards = c.turn.ensures.cards ∙ inv.cards;
      outline = c.turn.ensures.outline ∙ inv.outline;
      sound = c.in_ok-spent.ensures.sound;
      amid = λ programs w is.
          row-on programs c.rows.self c.args.script c.rows.left _ _ _ (inv.amid programs w is) c.turn.new.self few
          (c.rows.left - few) all c.turn.new.out c.in_ok-spent.spent
          (λ x of. c.in_ok-spent.ensures.tells programs x of);
    }

pub returns-clause-tells : goal.returns-clause-tells
returns-clause-tells c = λ programs w is.
    let none = c.rows-test.false in
    row-none-left programs c.rows.self c.args.script c.rows.left _ _ _ (c.rows.invariant.amid programs w is)
    (omega arith)
